-- The reading of all tables.
use Rattle.std.proofs.Common.{◌≡◌, ◌∙◌, ℕ, List, map, Option, Some, None, Err, ap, sym}
use Rattle.md_rows.specs.declared.fault.RowFault.TheVariants.{BadTable, RefusedTable}
use Rattle.md_rows.specs.declared.layout.Layout.{Layout}
use Rattle.md_rows.specs.declared.schema.Schema.{Schema}
use Rattle.md_rows.specs.Tables.{tables, schema_of}
use Rattle.md_rows.specs.Widths.{layout_of, first_refused, valid}
use Rattle.md_rows.specs.Cells.{StreamBytes}
use Rattle.md_rows.specs.Reading.{tables_from, unless_refused, with_layout, reading}

-- with a header and no table that is refused
pub reads : (bytes : StreamBytes) (layout : Layout) (o : Option Layout) (refused : Option ℕ) (schemas : List Schema)
    → map schema_of schemas ≡ tables → o ≡ layout_of bytes.tables → o ≡ Some layout
    → refused ≡ first_refused (valid bytes.tables) → refused ≡ None
    → reading bytes ≡ tables_from bytes layout layout.place (map schema_of schemas)
unfolding reading
reads bytes layout o refused schemas same header some least none =
    ap (with_layout bytes) (sym header ∙ some)
    ∙ ap (λ x. unless_refused x (tables_from bytes layout layout.place tables)) (sym least ∙ none)
    ∙ ap (tables_from bytes layout layout.place) (sym same)

-- with a table that is refused
pub reads_refused : (bytes : StreamBytes) (layout : Layout) (o : Option Layout) (refused : Option ℕ) (table : ℕ)
    → o ≡ layout_of bytes.tables → o ≡ Some layout → refused ≡ first_refused (valid bytes.tables)
    → refused ≡ Some table → reading bytes ≡ Err (RefusedTable table)
unfolding reading
reads_refused bytes layout o refused table header some least is =
    ap (with_layout bytes) (sym header ∙ some)
    ∙ ap (λ x. unless_refused x (tables_from bytes layout layout.place tables)) (sym least ∙ is)

-- without a header
pub reads_cut : (bytes : StreamBytes) (o : Option Layout) → o ≡ layout_of bytes.tables → o ≡ None
    → reading bytes ≡ Err (BadTable 0 0)
unfolding reading
reads_cut bytes o header none = ap (with_layout bytes) (sym header ∙ none)
