-- The stream of tables that was written, read back.
use Rattle.std.proofs.Common.{◌≡◌, ◌∙◌, ℕ, ◌+◌, ◌^◌, ◌<◌, ◌≤◌, ◌==◌, ◌&&◌, Bool, true, false, cond, not, nat_lt}
use Rattle.std.proofs.Common.{List, [], ◌∷◌, ◌++◌, length, replicate, ap, refl, sym, arith, Some, None}
use Rattle.std.proofs.Common.{append_assoc, length-append, inl, inr, zero, suc}
use Rattle.std.proofs.lemmas.Bool.{eqb-true, eq-eqb, lt-ltb, and_left, and_right, cases_lt}
use Rattle.std.proofs.lemmas.List.FromFn.{length-map-range_with_len}
use Rattle.md_rows.specs.declared.layout.Layout.{Layout}
use Rattle.md_rows.specs.Tables.{TableSchema, tables as schemas}
use Rattle.md_rows.specs.Widths.{valid, has_table, rows_of, is_refused, refused_from, first_refused}
use Rattle.md_rows.specs.Widths.{layout_of as layout_in}
use Rattle.md_rows.specs.Reading.{tables_from, unless_refused, with_layout, reading}
use Rattle.md_tables.specs.declared.module.Table.{Table}
use Rattle.md_tables.specs.declared.module.TableRow.{TableRow}
use Rattle.md_tables.specs.Modules.{rows_in, is_module}
use Rattle.md_write.specs.declared.heaps.Heaps.{Heaps}
use Rattle.md_write.specs.Heap.{index_of}
use Rattle.md_write.specs.Heaps.{heaps_of, table_rows}
use Rattle.md_write.specs.Contents.{padding, padded, or_empty, first_bytes, part_of, parts_of, code_of, data_of}
use Rattle.md_write.specs.Rows.{start_of, tables_bytes}
use Rattle.md_write.specs.Stream.{strings_bytes, guids_bytes, blobs_bytes, is_wide, row_count, row_counts, mask_of}
use Rattle.md_write.specs.Stream.{tables_header, layout_of, code_at, data_at, stream_of}
use Rattle.md_write.specs.Written.{first_too_many}
use Rattle.md_write.proofs.Counted.{few_rows}
use Rattle.md_write.proofs.Joined.{length-padded}
use Rattle.md_write.proofs.Numbers.{table_numbers, rows_numbers, IsSmall, StreamsRead}
use Rattle.md_write.proofs.Standing.{Stands}
use Rattle.md_write.proofs.HeapBounds.{AreBounded, heaps_bounded, index_low as index_bounded}
use Rattle.md_write.proofs.Laid.{count_at, has_rows, header_size, map_same, count_in_map, count_past_map, IsHeader}
use Rattle.md_write.proofs.Laid.{valid_read, layout_read}
use Rattle.md_write.proofs.Present.{refused_absent, rows_counted, TablesFit, rows_fit}
use Rattle.md_write.proofs.Fitted.{index_low, IsRoomy}
use Rattle.md_write.proofs.Encoded.{numbered_stream, tables_are, written_fit}
use Rattle.md_write.proofs.RowsRead.{AreLaid, tables_read}

-- ---- the numbers of rows

-- the numbers of rows of the tables that there can be
counted : (tables : List Table) (number : ℕ) → number < 64
    → count_at (row_counts tables) number ≡ row_count tables number
counted tables number less =
    let same : 0 + number ≡ number = omega arith in
    count_in_map (row_count tables) 0 64 number less ∙ ap (row_count tables) same

above : (number : ℕ) → 64 ≤ number → is_refused number ≡ true
above number past =
    let more : nat_lt 0x2C number ≡ true = lt-ltb 0x2C number (omega (arith, past)) in rw more refl

-- of each number: what is no table has no rows
pub counts_are : (tables : List Table) (number : ℕ) → is_module tables ≡ true
    → rows_of (layout_of tables) number ≡ rows_in tables number
counts_are tables number fit =
    elim (cases_lt number 64) [
      | inl less ↦ counted tables number less ∙ sym (rows_counted tables number)
      | inr past ↦ count_past_map (row_count tables) 0 64 number past
          ∙ (sym (ap length (refused_absent tables number fit (above number past)))
          ∙ sym (rows_counted tables number))
    ]

few_in : (tables : List Table) (number : ℕ) → first_too_many tables ≡ None → rows_in tables number < 2 ^ 24
few_in tables number few = omega (arith, rows_counted tables number, few_rows tables number few)

is_header : (tables : List Table) → first_too_many tables ≡ None → IsHeader (layout_of tables)
is_header tables few =
    record {
      rows = map_same (count_at (row_counts tables)) (row_count tables) 0 64
          (λ number less. counted tables number (omega (arith, less)));
      size = length-map-range_with_len (row_count tables) 0 64;
      few = λ number less. omega (arith, counted tables number less, few_rows tables number few);
      place = refl;
    }

-- ---- no table is refused

none_refused : (mask left number : ℕ) → ((number : ℕ) → (has_table mask number && is_refused number) ≡ false)
    → refused_from mask left number ≡ None
unfolding refused_from
none_refused mask zero number h = refl
none_refused mask (suc left) number h =
    ap (λ b. cond b (Some number) (refused_from mask left (suc number))) (h number)
    ∙ none_refused mask left (suc number) h

not_there : (tables : List Table) (number : ℕ) → is_module tables ≡ true
    → (has_table (mask_of (row_counts tables)) number && is_refused number) ≡ false
not_there tables number fit = by (is_refused number) refl
  where
    by : (b : Bool) → is_refused number ≡ b
        → (has_table (mask_of (row_counts tables)) number && is_refused number) ≡ false
    by true e =
        let none : count_at (row_counts tables) number ≡ 0 =
        counts_are tables number fit
        ∙ (rows_counted tables number ∙ ap length (refused_absent tables number fit e)) in
        and_left (has_table (mask_of (row_counts tables)) number) (is_refused number)
        (has_rows (row_counts tables) number ∙ ap not (eq-eqb (count_at (row_counts tables) number) 0 none))
    by false e = and_right (has_table (mask_of (row_counts tables)) number) (is_refused number) e

-- ---- indexes into heaps

padded_long : (bytes : List ℕ) → length bytes ≤ length (padded 4 bytes)
padded_long bytes = omega (arith, length-padded 4 bytes)

pub is_roomy : (tables : List Table) → is_module tables ≡ true → first_too_many tables ≡ None → IsSmall tables
    → IsRoomy (heaps_of tables) (layout_of tables) (rows_in tables)
is_roomy tables fit few small =
    let heaps : Heaps = heaps_of tables in
    let bounded : AreBounded heaps = heaps_bounded tables in
    record {
      strings = λ text.
          index_low (is_wide (strings_bytes heaps)) (index_of heaps.strings text) (length (strings_bytes heaps)) refl
          (omega (arith, index_bounded heaps.strings text bounded.strings, padded_long heaps.strings.bytes))
          small.strings;
      guids = λ bytes.
          index_low (is_wide (guids_bytes heaps)) (index_of heaps.guids bytes) (length (guids_bytes heaps)) refl
          (index_bounded heaps.guids bytes bounded.guids) small.guids;
      blobs = λ bytes.
          index_low (is_wide (blobs_bytes heaps)) (index_of heaps.blobs bytes) (length (blobs_bytes heaps)) refl
          (omega (arith, index_bounded heaps.blobs bytes bounded.blobs, padded_long heaps.blobs.bytes)) small.blobs;
      counts = λ number. counts_are tables number fit;
      few = λ number. few_in tables number few;
    }

-- ---- addresses

-- rows of other tables lead to nothing
no_part : (number : ℕ) (row : TableRow) → (number == 0x06) ≡ false → (number == 0x1D) ≡ false
    → length (part_of number row) ≡ 0
no_part number row p q =
    λ j. length (padded (cond (p j) 4 8) (cond (p j) (or_empty row.body) (cond (q j) (first_bytes row.cells) [])))

no_parts : (number : ℕ) (rows : List TableRow) → (number == 0x06) ≡ false → (number == 0x1D) ≡ false
    → length (parts_of number rows) ≡ 0
no_parts number [] p q = refl
no_parts number (row ∷ rest) p q =
    omega (
      arith,
      length-append (part_of number row) (parts_of number rest),
      no_part number row p q,
      no_parts number rest p q,
    )

-- each body, and the bytes of each field, begins where all of them do, or behind
addresses : (tables : List Table) (number : ℕ)
    → start_of code_at (data_at tables) number + length (parts_of number (table_rows tables number))
    ≤ code_at + length (code_of tables) + length (data_of tables)
addresses tables number = by (number == 0x06) refl (number == 0x1D) refl
  where
    by : (a : Bool) → (number == 0x06) ≡ a → (b : Bool) → (number == 0x1D) ≡ b
        → cond a code_at (data_at tables) + length (parts_of number (table_rows tables number))
        ≤ code_at + length (code_of tables) + length (data_of tables)
    by true p b q =
        let same : length (parts_of number (table_rows tables number))
        ≡ length (parts_of 0x06 (table_rows tables 0x06)) =
        ap (λ n. length (parts_of n (table_rows tables n))) (eqb-true number 0x06 p) in
        omega (arith, same, length-padded 8 (parts_of 0x06 (table_rows tables 0x06)))
    by false p true q =
        let same : length (parts_of number (table_rows tables number)) ≡ length (data_of tables) =
        ap (λ n. length (parts_of n (table_rows tables n))) (eqb-true number 0x1D q) in
        omega (arith, same)
    by false p false q =
        let none : length (parts_of number (table_rows tables number)) ≡ 0 =
        no_parts number (table_rows tables number) p q in
        omega (arith, none)

-- ---- rows

length-numbers : (heaps : Heaps) (schema : TableSchema) (at : ℕ) (rows : List TableRow)
    → length (rows_numbers heaps schema at rows) ≡ length rows
length-numbers heaps schema at [] = refl
length-numbers heaps schema at (row ∷ rest) =
    ap suc (length-numbers heaps schema (at + length (part_of schema.number row)) rest)

are_laid : (tables : List Table) (list : List TableSchema) → is_module tables ≡ true → IsSmall tables
    → IsRoomy (heaps_of tables) (layout_of tables) (rows_in tables) → TablesFit (rows_in tables) tables list
    → AreLaid (layout_of tables) tables list
are_laid tables [] is small room fit = tt
are_laid tables (schema ∷ list) is small room fit =
    let number : ℕ = schema.number in
    let start : ℕ = start_of code_at (data_at tables) number in
    let low : start + length (parts_of number (table_rows tables number)) < 2 ^ 32 =
    omega (arith, addresses tables number, small.addresses) in
    let count : rows_of (layout_of tables) number ≡ length (table_numbers tables schema) =
    counts_are tables number is
    ∙ (rows_counted tables number
    ∙ sym (length-numbers (heaps_of tables) schema start (table_rows tables number))) in (
      written_fit (heaps_of tables) (layout_of tables) (rows_in tables) schema start (table_rows tables number) room
          fit.0 low,
      count,
      are_laid tables list is small room fit.1,
    )

-- ---- the stream

-- the rows, and the zeros behind them
abbrev rows_part : List Table → List ℕ
rows_part tables = tables_bytes (heaps_of tables) (layout_of tables) code_at (data_at tables) tables schemas

abbrev zeros_part : List Table → List ℕ
zeros_part tables = replicate (padding 4 (length (tables_header (layout_of tables) ++ rows_part tables))) 0

stream_parts : (tables : List Table)
    → stream_of tables ≡ tables_header (layout_of tables) ++ (rows_part tables ++ zeros_part tables)
unfolding stream_of
stream_parts tables = append_assoc (tables_header (layout_of tables)) (rows_part tables) (zeros_part tables)

rows_there : (tables : List Table) (stream : List ℕ) → stream ≡ stream_of tables
    → Stands stream (numbered_stream (layout_of tables) tables schemas) (layout_of tables).place
rows_there tables stream same =
    record {
      front = tables_header (layout_of tables);
      behind = zeros_part tables;
      parts = same ∙ (stream_parts tables ∙ ap (λ b. tables_header (layout_of tables) ++ (b ++ zeros_part tables))
          (tables_are (layout_of tables) tables schemas));
      starts = header_size (layout_of tables);
    }

pub streams_read : StreamsRead
unfolding reading first_refused
streams_read tables bytes fit few small same =
    let layout : Layout = layout_of tables in
    let rest : List ℕ = rows_part tables ++ zeros_part tables in
    let header : IsHeader layout = is_header tables few in
    let whole : bytes.tables ≡ tables_header layout ++ rest = same ∙ stream_parts tables in
    let read : layout_in bytes.tables ≡ Some layout = ap layout_in whole ∙ layout_read layout rest header in
    let mask : valid bytes.tables ≡ mask_of layout.rows = ap valid whole ∙ valid_read layout rest header in
    let accepted : first_refused (valid bytes.tables) ≡ None =
    ap first_refused mask
    ∙ none_refused (mask_of layout.rows) 64 0 (λ number. not_there tables number fit) in
    let room : IsRoomy (heaps_of tables) layout (rows_in tables) = is_roomy tables fit few small in
    ap (with_layout bytes) read
    ∙ (ap (λ r. unless_refused r (tables_from bytes layout layout.place schemas)) accepted
    ∙ tables_read bytes layout tables schemas layout.place
    (are_laid tables schemas fit small room (rows_fit tables fit)) (rows_there tables bytes.tables same))
