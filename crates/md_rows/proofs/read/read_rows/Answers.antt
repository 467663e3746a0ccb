use Rattle.std.proofs.Common.{◌≡◌, ◌∙◌, List, map, Result, Ok, IfOk, IfErr, ap, sym, subst, inr}
use Rattle.md_rows.specs.declared.fault.RowFault.{RowFault}
use Rattle.md_rows.specs.declared.table.Table.{Table}
use Rattle.md_rows.specs.Tables.{schema_of}
use Rattle.md_rows.specs.Widths.{first_refused}
use Rattle.md_rows.specs.Cells.{bytes_of}
use Rattle.md_rows.specs.Reading.{reading, tables_from, Refuses}
use Rattle.md_rows.proofs.Together.{ok_together}
use Rattle.md_rows.proofs.Whole.{reads, reads_refused, reads_cut}
use Rattle.md_rows.proofs.read.read_rows.Goals as goal

pub returns-in-Ok-None-clause-refused : goal.returns-in-Ok-None-clause-refused
returns-in-Ok-None-clause-refused c =
    inr (reads_cut (bytes_of c.args.streams.now) c.in-Ok-None.field-0 c.in-Ok-None.ensures.value
    c.in-Ok-None.field-0-is)

pub returns-in-Some-clause-refused : goal.returns-in-Some-clause-refused
returns-in-Some-clause-refused c =
    inr (reads_refused (bytes_of c.args.streams.now) c.in-Ok-Some.layout c.in-Ok-Some.field-0 c.first_refused.result
    c.in-Some.table c.in-Ok-Some.ensures.value c.in-Ok-Some.field-0-is
    (c.first_refused.ensures ∙ ap first_refused c.valid.ensures) c.in-Some.is)

pub returns-clause-read : goal.returns-clause-read
returns-clause-read c =
    let same : reading (bytes_of c.args.streams.now) ≡ tables_from (bytes_of c.args.streams.now) c.in-Ok-Some.layout
    c.in-Ok-Some.layout.place (map schema_of c.schemas.result.now) =
    reads (bytes_of c.args.streams.now) c.in-Ok-Some.layout c.in-Ok-Some.field-0 c.first_refused.result
    c.schemas.result.now c.schemas.ensures c.in-Ok-Some.ensures.value c.in-Ok-Some.field-0-is
    (c.first_refused.ensures ∙ ap first_refused c.valid.ensures) c.in-None.is in
    let P : Result (List Table) RowFault → Type 0 = λ m. IfOk c.all_tables.result (λ tables. m ≡ Ok tables) in
    subst P (sym same) c.all_tables.ensures.read

pub returns-clause-fit : goal.returns-clause-fit
returns-clause-fit c =
    let same : reading (bytes_of c.args.streams.now) ≡ tables_from (bytes_of c.args.streams.now) c.in-Ok-Some.layout
    c.in-Ok-Some.layout.place (map schema_of c.schemas.result.now) =
    reads (bytes_of c.args.streams.now) c.in-Ok-Some.layout c.in-Ok-Some.field-0 c.first_refused.result
    c.schemas.result.now c.schemas.ensures c.in-Ok-Some.ensures.value c.in-Ok-Some.field-0-is
    (c.first_refused.ensures ∙ ap first_refused c.valid.ensures) c.in-None.is in
    let P : Result (List Table) RowFault → Type 0 = λ m. IfOk c.all_tables.result (λ tables. m ≡ Ok tables) in
    ok_together (bytes_of c.args.streams.now) c.all_tables.result c.are_bytes.ensures
    (subst P (sym same) c.all_tables.ensures.read)

pub returns-clause-refused : goal.returns-clause-refused
returns-clause-refused c =
    let same : reading (bytes_of c.args.streams.now) ≡ tables_from (bytes_of c.args.streams.now) c.in-Ok-Some.layout
    c.in-Ok-Some.layout.place (map schema_of c.schemas.result.now) =
    reads (bytes_of c.args.streams.now) c.in-Ok-Some.layout c.in-Ok-Some.field-0 c.first_refused.result
    c.schemas.result.now c.schemas.ensures c.in-Ok-Some.ensures.value c.in-Ok-Some.field-0-is
    (c.first_refused.ensures ∙ ap first_refused c.valid.ensures) c.in-None.is in
    let P : Result (List Table) RowFault → Type 0 = λ m. IfErr c.all_tables.result (Refuses m) in
    subst P (sym same) c.all_tables.ensures.refused
