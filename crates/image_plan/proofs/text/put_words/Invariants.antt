use Rattle.std.proofs.Common.{◌≡◌, ◌++◌, drop}
use Rattle.image_plan.specs.Written.{bytes_of}
use Rattle.image_plan.proofs.text.put_words.Given as goal

abbrev pub invariant-loop-word : goal.invariant-loop-word
invariant-loop-word l = l.initial.bytes ++ bytes_of l.words ≡ l.bytes ++ bytes_of (drop l.word-index l.words)
