use Rattle.std.proofs.Common.{◌≡◌, ◌-◌, ◌≤◌, length}
use Rattle.il_code.specs.Listing.{listed, listed_from}
use Rattle.il_code.proofs.Listed.{all_in_front}
use Rattle.il_code.proofs.listing.list.Given as goal

-- those that were read, and what is left, make up the code
abbrev pub invariant-loop-alloc : goal.invariant-loop-alloc
invariant-loop-alloc l = record {
  code : listed l.code ≡ all_in_front l.instrs (listed_from (length l.code - length l.instrs) l.code l.at);
  few : length l.instrs ≤ length l.code;
}

abbrev pub decreases-loop-alloc : goal.decreases-loop-alloc
decreases-loop-alloc l = length l.code - length l.instrs
