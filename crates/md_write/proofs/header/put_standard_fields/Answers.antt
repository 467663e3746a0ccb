use Rattle.std.proofs.Common.{[], ◌∷◌}
use Rattle.md_write.specs.Written.{halves, words, up_to, file_alignment, section_at}
use Rattle.md_write.proofs.Parts.{joined2}
use Rattle.md_write.proofs.header.put_standard_fields.Goals as goal

pub returns : goal.returns
returns c = rw (c.in_ok-put_words.ensures, c.up_to.ensures.value, c.in_ok-put_halves.ensures) (
    joined2 c.args.bytes.now (halves (0x10B ∷ 6 ∷ []))
    (words (up_to file_alignment c.args.size ∷ 0 ∷ 0 ∷ 0 ∷ section_at ∷ 0 ∷ []))
    )
