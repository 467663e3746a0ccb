use Rattle.std.proofs.Common.{◌≡◌, ◌+◌, drop, length, nat_lt}
use Rattle.std.specs.List.{list_all}
use Rattle.image_plan.specs.Planned.{code_fixes_fit}
use Rattle.image_plan.proofs.pieces.code_fixes_fit.Given as goal

-- what is left says the same as all
abbrev pub invariant-loop-fix : goal.invariant-loop-fix
invariant-loop-fix l =
    list_all (λ fix. nat_lt (fix.at + 1) (length l.piece.code.words)) (drop l.fix-index l.piece.code.fixes)
    ≡ code_fixes_fit l.piece
