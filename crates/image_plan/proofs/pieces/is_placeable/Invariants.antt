use Rattle.std.proofs.Common.{◌≡◌, ◌&&◌, drop}
use Rattle.std.specs.List.{list_all}
use Rattle.image_plan.specs.Planned.{code_fixes_fit, is_placeable, table_fixes_fit}
use Rattle.image_plan.proofs.pieces.is_placeable.Given as goal

-- what is left says the same as all
abbrev pub invariant-loop-piece : goal.invariant-loop-piece
invariant-loop-piece l =
    list_all code_fixes_fit (drop l.piece-index l.pieces.code) && list_all table_fixes_fit l.pieces.tables
    ≡ is_placeable l.pieces

abbrev pub invariant-loop-table : goal.invariant-loop-table
invariant-loop-table l =
    list_all table_fixes_fit (drop l.table-index l.pieces.tables) ≡ is_placeable l.pieces
