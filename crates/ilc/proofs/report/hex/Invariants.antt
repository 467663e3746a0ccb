use Rattle.std.proofs.Common.{◌≡◌, ◌+◌, ◌^◌, ◌<◌, ◌≤◌, drop, false, get_or, length}
use Rattle.std.proofs.Common.{◌%◌}
use Rattle.std.specs.Fmt.{digits_onto, digit_glyph}
use Rattle.ilc.specs.Line.{hexadecimal}
use Rattle.ilc.proofs.report.hex.Given as goal

-- the digit at the place is the last of what is left, and with it and those behind it what is left makes the number
abbrev pub invariant-loop-rest : goal.invariant-loop-rest
invariant-loop-rest l = record {
  size : length l.digits ≡ 16;
  room : l.at ≤ 15;
  left : l.rest < 16 ^ (l.at + 1);
  digit : get_or l.digits l.at 0 ≡ digit_glyph false (l.rest % 16);
  number : digits_onto (49 + l.at) 16 false l.rest (drop (l.at + 1) l.digits) ≡ hexadecimal l.fn.number;
}

abbrev pub decreases-loop-rest : goal.decreases-loop-rest
decreases-loop-rest l = l.at
