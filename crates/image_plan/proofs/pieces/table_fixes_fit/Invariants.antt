use Rattle.std.proofs.Common.{◌≡◌, ◌+◌, drop, length, nat_le}
use Rattle.std.specs.List.{list_all}
use Rattle.image_plan.specs.Planned.{table_fixes_fit}
use Rattle.image_plan.proofs.pieces.table_fixes_fit.Given as goal

-- what is left says the same as all
abbrev pub invariant-loop-fix : goal.invariant-loop-fix
invariant-loop-fix l =
    list_all (λ fix. nat_le (fix.at + 8) (length l.table.bytes)) (drop l.fix-index l.table.fixes)
    ≡ table_fixes_fit l.table
