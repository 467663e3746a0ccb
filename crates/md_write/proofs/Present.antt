-- The tables of a module, each with the schema of its number.
use Rattle.std.proofs.Common.{◌≡◌, ◌∙◌, ℕ, ◌+◌, ◌<◌, ◌≤◌, ◌==◌, ◌&&◌, Bool, true, false, cond, not, nat_le}
use Rattle.std.proofs.Common.{List, [], ◌∷◌, length, find, Option, Some, None, ap, refl, sym, arith}
use Rattle.std.specs.List.{list_all, filter}
use Rattle.std.specs.Option.{option_map}
use Rattle.std.proofs.lemmas.Bool.{true≢false, false≢true, eqb-true, leb-true, ne_eqb, and_parts, not-true}
use Rattle.md_rows.specs.Tables.{TableSchema, tables as schemas}
use Rattle.md_rows.specs.Widths.{or_zero, is_refused}
use Rattle.md_rows.specs.Fits.{held_tables}
use Rattle.md_tables.specs.declared.module.Table.{Table}
use Rattle.md_tables.specs.Modules.{is_row, is_table, are_tables, rows_in, is_module}
use Rattle.md_write.specs.Heaps.{rows_or_none, table_rows}
use Rattle.md_write.specs.Stream.{row_count}

-- ---- tables that aren't there

here_by : (table : Table) (rest : List Table) (number : ℕ) → (table.number == number) ≡ true
    → table_rows (table ∷ rest) number ≡ table.rows
here_by table rest number e =
    ap (λ b. rows_or_none (cond b (Some table) (find (λ t. t.number == number) rest))) e

behind_by : (table : Table) (rest : List Table) (number : ℕ) → (table.number == number) ≡ false
    → table_rows (table ∷ rest) number ≡ table_rows rest number
behind_by table rest number e =
    ap (λ b. rows_or_none (cond b (Some table) (find (λ t. t.number == number) rest))) e

-- what a table among those of a module is
pub record IsFirst (rows : ℕ → ℕ) (schema : TableSchema) (list : List TableSchema) (table : Table) (rest : List Table)
    : Type 0 where
  pub number : table.number ≡ schema.number
  pub fits : is_table rows schema table ≡ true
  pub others : are_tables rows list rest ≡ true

first_of : (rows : ℕ → ℕ) (schema : TableSchema) (list : List TableSchema) (table : Table) (rest : List Table)
    → are_tables rows (schema ∷ list) (table ∷ rest) ≡ true → IsFirst rows schema list table rest
first_of rows schema list table rest fit =
    let both = and_parts (is_table rows schema table) (are_tables rows list rest) fit in
    let own = and_parts (table.number == schema.number) _ both.0 in
    record { number = eqb-true table.number schema.number own.0; fits = both.0; others = both.1 }

-- a number that tells itself from those of all schemas has no table
absent : (test : ℕ → Bool) (rows : ℕ → ℕ) (list : List TableSchema) (tables : List Table) (number : ℕ)
    → list_all (λ (schema : TableSchema). not (test schema.number)) list ≡ true → test number ≡ true
    → are_tables rows list tables ≡ true → table_rows tables number ≡ []
absent test rows list [] number apart here fit = refl
absent test rows [] (table ∷ rest) number apart here fit = absurd (false≢true fit)
absent test rows (schema ∷ list) (table ∷ rest) number apart here fit =
    let first = first_of rows schema list table rest fit in
    let one = and_parts (not (test schema.number)) (list_all (λ (s : TableSchema). not (test s.number)) list) apart in
    let differs : table.number ≡ number → ⊥ = λ e.
    true≢false (sym here ∙ (ap test (sym e ∙ first.number) ∙ not-true (test schema.number) one.0)) in
    behind_by table rest number (ne_eqb table.number number differs)
    ∙ absent test rows list rest number one.1 here first.others

none_is_refused : list_all (λ (schema : TableSchema). not (is_refused schema.number)) held_tables ≡ true
unfolding held_tables schemas
none_is_refused = refl

-- a module has no table that is refused
pub refused_absent : (tables : List Table) (number : ℕ) → is_module tables ≡ true → is_refused number ≡ true
    → table_rows tables number ≡ []
unfolding is_module
refused_absent tables number fit refused =
    absent is_refused (rows_in tables) held_tables tables number none_is_refused refused fit

-- the two ways to count rows are one
pub rows_counted : (tables : List Table) (number : ℕ) → rows_in tables number ≡ row_count tables number
rows_counted tables number = by (find (λ table. table.number == number) tables)
  where
    by : (found : Option Table)
        → or_zero (option_map (λ (table : Table). length table.rows) found) ≡ length (rows_or_none found)
    by None = refl
    by (Some table) = refl

-- ---- schemas in the order of their numbers

abbrev pub rises : ℕ → List TableSchema → Bool
rises least [] = true
rises least (schema ∷ list) = nat_le least schema.number && rises (schema.number + 1) list

schemas_rise : rises 0 schemas ≡ true
unfolding schemas
schemas_rise = refl

abbrev held_of : List TableSchema → List TableSchema
held_of list = filter (λ schema. schema.is_held) list

-- numbers below the least have no table
not_below : (rows : ℕ → ℕ) (least number : ℕ) (list : List TableSchema) (tables : List Table)
    → rises least list ≡ true → number < least → are_tables rows (held_of list) tables ≡ true
    → table_rows tables number ≡ []
not_below rows least number list [] up less fit = refl
not_below rows least number [] (table ∷ rest) up less fit = absurd (false≢true fit)
not_below rows least number (schema ∷ list) (table ∷ rest) up less fit =
    let one = and_parts (nat_le least schema.number) (rises (schema.number + 1) list) up in
    let low : least ≤ schema.number = leb-true least schema.number one.0 in
    let less_on : number < schema.number + 1 = omega (arith, low, less) in
    by schema.is_held low fit
    (λ tables others. not_below rows (schema.number + 1) number list tables one.1 less_on others)
  where
    by : (b : Bool) → least ≤ schema.number
        → are_tables rows (cond b (schema ∷ held_of list) (held_of list)) (table ∷ rest) ≡ true
        → ((tables : List Table) → are_tables rows (held_of list) tables ≡ true → table_rows tables number ≡ [])
        → table_rows (table ∷ rest) number ≡ []
    by true low fit next =
        let first = first_of rows schema (held_of list) table rest fit in
        let differs : table.number ≡ number → ⊥ = λ e. absurd (omega (arith, e, first.number, low, less)) in
        behind_by table rest number (ne_eqb table.number number differs) ∙ next rest first.others
    by false low fit next = next (table ∷ rest) fit

-- The tables of schemas, one behind another: of those that are held each is there, and of others no rows are.
pub data Matches (rows : ℕ → ℕ) (tables : List Table) : List TableSchema → List Table → Type 0 where
  none : Matches rows tables [] []
  held : (schema : TableSchema) (table : Table) (list : List TableSchema) (more : List Table)
      → schema.is_held ≡ true → is_table rows schema table ≡ true → table_rows tables schema.number ≡ table.rows
      → Matches rows tables list more → Matches rows tables (schema ∷ list) (table ∷ more)
  skipped : (schema : TableSchema) (list : List TableSchema) (more : List Table) → schema.is_held ≡ false
      → table_rows tables schema.number ≡ [] → Matches rows tables list more → Matches rows tables (schema ∷ list) more

matches_from : (rows : ℕ → ℕ) (tables : List Table) (least : ℕ) (list : List TableSchema) (more : List Table)
    → rises least list ≡ true → ((number : ℕ) → least ≤ number → table_rows tables number ≡ table_rows more number)
    → are_tables rows (held_of list) more ≡ true → Matches rows tables list more
matches_from rows tables least [] [] up same fit = none
matches_from rows tables least [] (table ∷ more) up same fit = absurd (false≢true fit)
matches_from rows tables least (schema ∷ list) more up same fit =
    let one = and_parts (nat_le least schema.number) (rises (schema.number + 1) list) up in
    let low : least ≤ schema.number = leb-true least schema.number one.0 in
    by schema.is_held refl more low one.1 same fit
    (λ more same others. matches_from rows tables (schema.number + 1) list more one.1 same others)
  where
    by : (b : Bool) → schema.is_held ≡ b → (more : List Table) → least ≤ schema.number
        → rises (schema.number + 1) list ≡ true
        → ((number : ℕ) → least ≤ number → table_rows tables number ≡ table_rows more number)
        → are_tables rows (cond b (schema ∷ held_of list) (held_of list)) more ≡ true
        → ((more : List Table)
        → ((number : ℕ) → schema.number + 1 ≤ number → table_rows tables number ≡ table_rows more number)
        → are_tables rows (held_of list) more ≡ true → Matches rows tables list more)
        → Matches rows tables (schema ∷ list) more
    by true e [] low up same fit next = absurd (false≢true fit)
    by true e (table ∷ more) low up same fit next =
        let first = first_of rows schema (held_of list) table more fit in
        let here : (table.number == schema.number) ≡ true =
        (and_parts (table.number == schema.number) _ first.fits).0 in
        held schema table list more e first.fits
        (same schema.number low ∙ here_by table more schema.number here)
        (next more
        (λ number above.
        same number (omega (arith, low, above))
        ∙ behind_by table more number
        (ne_eqb table.number number (λ q. absurd (omega (arith, q, first.number, above))))) first.others)
    by false e more low up same fit next =
        skipped schema list more e
        (same schema.number low
        ∙ not_below rows (schema.number + 1) schema.number list more up (omega arith) fit)
        (next more (λ number above. same number (omega (arith, low, above))) fit)

-- a module has the tables of all schemas
pub matches_of : (tables : List Table) → is_module tables ≡ true → Matches (rows_in tables) tables schemas tables
unfolding is_module held_tables
matches_of tables fit = matches_from (rows_in tables) tables 0 schemas tables schemas_rise (λ number least. refl) fit

-- ---- rows

-- the rows of each table fit its schema
abbrev pub TablesFit : (ℕ → ℕ) → List Table → List TableSchema → Type 0
TablesFit rows tables [] = Unit {0}
TablesFit rows tables (schema ∷ list) =
    (list_all (is_row rows schema) (table_rows tables schema.number) ≡ true) × TablesFit rows tables list

pub rows_of_table : (rows : ℕ → ℕ) (schema : TableSchema) (table : Table) → is_table rows schema table ≡ true
    → list_all (is_row rows schema) table.rows ≡ true
rows_of_table rows schema table fit =
    (and_parts (list_all (is_row rows schema) table.rows) _ (and_parts (table.number == schema.number) _ fit).1).0

tables_fit : (rows : ℕ → ℕ) (tables : List Table) (list : List TableSchema) (more : List Table)
    → Matches rows tables list more → TablesFit rows tables list
tables_fit rows tables _ _ none = tt
tables_fit rows tables _ _ (held schema table list more is fits found behind) = (
  ap (list_all (is_row rows schema)) found ∙ rows_of_table rows schema table fits,
  tables_fit rows tables list more behind,
)
tables_fit rows tables _ _ (skipped schema list more is found behind) =
    (ap (list_all (is_row rows schema)) found, tables_fit rows tables list more behind)

pub rows_fit : (tables : List Table) → is_module tables ≡ true → TablesFit (rows_in tables) tables schemas
rows_fit tables fit = tables_fit (rows_in tables) tables schemas tables (matches_of tables fit)
