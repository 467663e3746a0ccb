use Rattle.std.proofs.Common.{◌≡◌, ◌+◌, true, nat_lt, drop, length}
use Rattle.std.specs.List.{list_all}
use Rattle.image_plan.specs.Found.{address_in}
use Rattle.image_plan.specs.Written.{with_addresses}
use Rattle.image_plan.proofs.text.with_all.Given as goal

abbrev pub invariant-loop-fix : goal.invariant-loop-fix
invariant-loop-fix l = record {
  words : with_addresses (address_in l.addresses.found.entries) l.begin l.fixes l.words
      ≡ with_addresses (address_in l.addresses.found.entries) l.begin (drop l.fix-index l.fixes) l.all;
  size : length l.all ≡ length l.words;
  fits : list_all (λ fix. nat_lt (fix.at + 1) (length l.words)) (drop l.fix-index l.fixes) ≡ true;
}
