use Rattle.std.proofs.Common.{◌≡◌}
use Rattle.il_code.specs.Listing.{listed, listed_from}
use Rattle.il_text.specs.Listing.{instructions_text}
use Rattle.il_text.proofs.Coming.{text_in_front}
use Rattle.il_text.proofs.body.instruction_lines.Given as goal

-- the lines that were written, and those of what is left, make up the text
abbrev pub invariant-loop-left : goal.invariant-loop-left
invariant-loop-left l =
    instructions_text l.code (listed l.code)
    ≡ text_in_front l.lines (instructions_text l.code (listed_from l.left l.code l.at))

abbrev pub decreases-loop-left : goal.decreases-loop-left
decreases-loop-left l = l.left
