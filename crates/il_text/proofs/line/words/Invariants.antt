use Rattle.std.proofs.Common.{◌≡◌, ◌+◌, ◌++◌, length}
use Rattle.il_text.specs.Lines.{words_of, words_from}
use Rattle.il_text.proofs.line.words.Given as goal

-- the words that were read, and those of what is left, make up all
abbrev pub invariant-loop-byte : goal.invariant-loop-byte
invariant-loop-byte l =
    (words_of l.line ≡ l.words ++ words_from l.quoted l.from l.at l.rest) × (l.at + length l.rest ≡ length l.line)

abbrev pub decreases-loop-byte : goal.decreases-loop-byte
decreases-loop-byte l = length l.rest
