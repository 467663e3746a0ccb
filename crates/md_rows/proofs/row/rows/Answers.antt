use Rattle.std.proofs.Common.{◌≡◌, ◌∙◌, ℕ, ◌+◌, ◌*◌, ◌-◌, ◌++◌, ap, sym, inr}
use Rattle.md_rows.specs.declared.layout.Layout.{Layout}
use Rattle.md_rows.specs.Tables.{TableSchema, schema_of}
use Rattle.md_rows.specs.Cells.{StreamBytes, bytes_of}
use Rattle.md_rows.specs.Reading.{back_of, in_front, kept, rows_from, rows_in}
use Rattle.md_rows.proofs.Joined.{rows_on, rows_bad, next_place}
use Rattle.md_rows.proofs.row.rows.Goals as goal

pub loop-index-preserved : goal.loop-index-preserved
loop-index-preserved c =
    let bytes : StreamBytes = bytes_of c.args.streams.now in
    let layout : Layout = c.args.layout.now in
    let schema : TableSchema = schema_of c.args.schema.now in
    let start : ℕ = c.args.start in
    let size : ℕ = c.row_size-size.result in
    let count : ℕ = c.rows_of-count.result in
    let index : ℕ = c.loop-index.index in
    let within = rw c.in-Ok-Some.field-0-is at c.in-Ok-Some.ensures.within in
    let read : rows_in bytes layout schema start ≡ in_front (c.loop-index.rows ++ kept schema.is_held c.in-Ok-Some.row)
    (rows_from bytes layout schema start (count - (index + 1)) (index + 1)) =
    rows_on bytes layout schema start count index c.loop-index.at c.back_of.result c.in-Ok-Some.field-0
    c.in-Ok-Some.row c.loop-index.rows (rows_in bytes layout schema start) c.loop-index-test.true
    (c.loop-index.invariant.place ∙ ap (λ s. start + index * s) c.row_size-size.ensures)
    (c.back_of.ensures ∙ ap (λ s. back_of s index) c.row_size-size.ensures) c.in-Ok-Some.ensures.value
    c.in-Ok-Some.field-0-is c.loop-index.invariant.read in
    record {
      inside = within;
      place = next_place start index size c.loop-index.at c.loop-index.invariant.place;
      read = read
          ∙ ap (λ rows. in_front rows (rows_from bytes layout schema start (count - (index + 1)) (index + 1)))
          (sym c.in-Ok.ensures);
    }

pub returns-in-Ok-None-clause-refused : goal.returns-in-Ok-None-clause-refused
returns-in-Ok-None-clause-refused c =
    let bytes : StreamBytes = bytes_of c.args.streams.now in
    let layout : Layout = c.args.layout.now in
    let schema : TableSchema = schema_of c.args.schema.now in
    let start : ℕ = c.args.start in
    let index : ℕ = c.loop-index.index in
    inr (rows_bad bytes layout schema start c.rows_of-count.result index c.loop-index.at c.back_of.result
    c.in-Ok-None.field-0 c.loop-index.rows (rows_in bytes layout schema start) c.loop-index-test.true
    (c.loop-index.invariant.place ∙ ap (λ s. start + index * s) c.row_size-size.ensures)
    (c.back_of.ensures ∙ ap (λ s. back_of s index) c.row_size-size.ensures) c.in-Ok-None.ensures.value
    c.in-Ok-None.field-0-is c.loop-index.invariant.read)
