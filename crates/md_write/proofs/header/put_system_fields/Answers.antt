use Rattle.std.proofs.Common.{◌+◌, [], ◌∷◌}
use Rattle.md_write.specs.Written.{halves, words, up_to, file_alignment, section_alignment, section_at}
use Rattle.md_write.proofs.Parts.{joined5}
use Rattle.md_write.proofs.header.put_system_fields.Goals as goal

pub returns : goal.returns
returns c = rw (
  c.in_ok-put_words-3.ensures,
  c.in_ok-put_halves-2.ensures,
  c.in_ok-put_words-2.ensures,
  c.up_to-image_size.ensures.value,
  c.in_ok-put_halves.ensures,
  c.in_ok-put_words.ensures,
) (
    joined5 c.args.bytes.now (words (0x400000 ∷ section_alignment ∷ file_alignment ∷ []))
    (halves (5 ∷ 0 ∷ 0 ∷ 0 ∷ 5 ∷ 0 ∷ []))
    (words (0 ∷ (section_at + up_to section_alignment c.args.size) ∷ file_alignment ∷ 0 ∷ []))
    (halves (3 ∷ 0 ∷ [])) (words (0x100000 ∷ 0x1000 ∷ 0x100000 ∷ 0x1000 ∷ 0 ∷ 16 ∷ []))
    )
