use Rattle.std.proofs.Common.{[], ◌∷◌, replicate}
use Rattle.md_write.specs.Written.{halves, words}
use Rattle.md_write.proofs.Parts.{joined4}
use Rattle.md_write.proofs.section.put_cli_header.Goals as goal

pub returns : goal.returns
returns c = rw (
  c.in_ok-put_zeros.ensures,
  c.in_ok-put_words-2.ensures,
  c.in_ok-put_halves.ensures,
  c.in_ok-put_words.ensures,
) (
    joined4 c.args.bytes.now (words (72 ∷ [])) (halves (2 ∷ 5 ∷ []))
    (words (c.args.metadata_at ∷ c.args.size ∷ 1 ∷ c.args.entry ∷ [])) (replicate 48 0)
    )
