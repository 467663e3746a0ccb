use Rattle.std.proofs.Common.{[], ◌∷◌, ◌++◌, replicate}
use Rattle.std.specs.Prelude.{codes}
use Rattle.md_write.specs.Written.{words, up_to, file_alignment, section_at}
use Rattle.md_write.proofs.Parts.{joined2}
use Rattle.md_write.proofs.header.put_section_header.Goals as goal

pub returns : goal.returns
returns c = rw (c.in_ok-put_words.ensures, c.up_to-raw.ensures.value, c.in_ok-extend_from_slice.ensures.ok) (
    joined2 c.args.bytes.now (codes ".text" ++ replicate 3 0)
    (words (c.args.size ∷ section_at ∷ up_to file_alignment c.args.size ∷ file_alignment ∷ 0 ∷ 0 ∷ 0 ∷ 0x60000020 ∷ []))
    )
