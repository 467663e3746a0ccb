use Rattle.std.proofs.Common.{◌≡◌, ◌+◌, true, nat_le, drop, length}
use Rattle.std.specs.List.{list_all}
use Rattle.image_plan.specs.Found.{address_in}
use Rattle.image_plan.specs.Written.{with_numbers}
use Rattle.image_plan.proofs.rest.with_all.Given as goal

abbrev pub invariant-loop-fix : goal.invariant-loop-fix
invariant-loop-fix l = record {
  bytes : with_numbers (address_in l.addresses.found.entries) l.fixes l.bytes
      ≡ with_numbers (address_in l.addresses.found.entries) (drop l.fix-index l.fixes) l.all;
  size : length l.all ≡ length l.bytes;
  fits : list_all (λ fix. nat_le (fix.at + 8) (length l.bytes)) (drop l.fix-index l.fixes) ≡ true;
}
