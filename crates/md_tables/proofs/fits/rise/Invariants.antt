use Rattle.std.proofs.Common.{◌≡◌, drop, map}
use Rattle.md_rows.specs.Tables.{schema_of}
use Rattle.md_rows.specs.Fits.{rise, first_row}
use Rattle.md_tables.specs.Modules.{columns_of}
use Rattle.md_tables.proofs.fits.rise.Given as goal

-- the rows that are left, behind the one in front
abbrev pub invariant-loop-row : goal.invariant-loop-row
invariant-loop-row l =
    rise (columns_of (schema_of l.schema)) (first_row (map (λ row. row.cells) l.rows)) (map (λ row. row.cells) l.rows)
    ≡ rise (columns_of (schema_of l.schema)) l.front (map (λ row. row.cells) (drop l.row-index l.rows))
