-- The heaps of a module have what its cells hold.
use Rattle.std.proofs.Common.{◌≡◌, ℕ, Bool, true, false, cond, List, [], ◌∷◌, ◌++◌, refl, ap}
use Rattle.std.proofs.Common.{Option, Some, None}
use Rattle.std.specs.Prelude.{fold}
use Rattle.std.specs.Map.{lookup}
use Rattle.std.specs.Str.{bytes_eq}
use Rattle.std.specs.Cmp.Lexicographic.{bytes_decides}
use Rattle.md_rows.specs.declared.cell.Cell.{Cell}
use Rattle.md_rows.specs.declared.cell.Cell.TheVariants.{Number, Name, Blob, Index, Coded}
use Rattle.md_rows.specs.declared.schema.Column.{Column}
use Rattle.md_rows.specs.declared.schema.Column.TheVariants.{U8, U16, U32, StringIndex, GuidIndex, BlobIndex}
use Rattle.md_rows.specs.declared.schema.Column.TheVariants.{RowIndex, RunIndex, CodedIndex}
use Rattle.md_rows.specs.Tables.{TableSchema, tables as schemas}
use Rattle.md_tables.specs.declared.module.Table.{Table}
use Rattle.md_tables.specs.declared.module.TableRow.{TableRow}
use Rattle.md_write.specs.declared.heaps.Heaps.{Heaps}
use Rattle.md_write.specs.Heap.{HeapParts, next_index, index_in, unless_there, with_item}
use Rattle.md_write.specs.Heaps.{first_heaps, with_cell, with_cells, own_cells, with_row, with_rows, table_rows}
use Rattle.md_write.specs.Heaps.{with_table, heaps_of}
use Rattle.md_write.proofs.Lookups.{lookup-more}
use Rattle.md_write.proofs.Keeping.{cells_keep, rows_keep, tables_keep}

-- ---- one heap

-- the heap has an item
abbrev pub Has : HeapParts → List ℕ → Type 0
Has heap item = (index : ℕ) × (index_in heap item ≡ Some index)

found_behind : (test : List ℕ → Bool) (entries : List (List ℕ × ℕ)) (item : List ℕ) (index : ℕ) → test item ≡ true
    → (found : ℕ) × (lookup test (entries ++ (item, index) ∷ []) ≡ Some found)
found_behind test [] item index same = (index, ap (λ b. cond b (Some index) None) same)
found_behind test (entry ∷ entries) item index same =
    by (test entry.0) (found_behind test entries item index same)
  where
    by : (b : Bool) → (found : ℕ) × (lookup test (entries ++ (item, index) ∷ []) ≡ Some found)
        → (found : ℕ) × (cond b (Some entry.1) (lookup test (entries ++ (item, index) ∷ [])) ≡ Some found)
    by true rest = (entry.1, refl)
    by false rest = rest

has_itself : (heap : HeapParts) (item : List ℕ) → Has (with_item heap item) item
unfolding with_item
has_itself heap item = by (index_in heap item) refl
  where
    by : (found : Option ℕ) → index_in heap item ≡ found → Has (unless_there heap item found) item
    by None e =
        found_behind (bytes_eq item) heap.items item (next_index heap.kind heap.items heap.bytes)
        ((bytes_decides item item).1 refl)
    by (Some index) e = (index, e)

keeps : (heap : HeapParts) (item other : List ℕ) → Has heap other → Has (with_item heap item) other
unfolding with_item
keeps heap item other had = by (index_in heap item)
  where
    by : (found : Option ℕ) → Has (unless_there heap item found) other
    by None =
        (had.0, lookup-more (bytes_eq other) heap.items (item, next_index heap.kind heap.items heap.bytes) had.0 had.1)
    by (Some index) = had

-- ---- what a column holds

abbrev pub bytes_held : Heaps → Column → List ℕ → Type 0
bytes_held heaps U8 bytes = Unit {0}
bytes_held heaps U16 bytes = Unit {0}
bytes_held heaps U32 bytes = Unit {0}
bytes_held heaps StringIndex bytes = Unit {0}
bytes_held heaps GuidIndex bytes = Has heaps.guids bytes
bytes_held heaps BlobIndex bytes = Has heaps.blobs bytes
bytes_held heaps (RowIndex table) bytes = Unit {0}
bytes_held heaps (RunIndex table) bytes = Unit {0}
bytes_held heaps (CodedIndex coding) bytes = Unit {0}

abbrev pub CellHeld : Heaps → Column → Cell → Type 0
CellHeld heaps column (Number number) = Unit {0}
CellHeld heaps column (Name text) = Has heaps.strings text
CellHeld heaps column (Blob bytes) = bytes_held heaps column bytes
CellHeld heaps column (Index row) = Unit {0}
CellHeld heaps column (Coded table row) = Unit {0}

-- heaps that have all that others have
pub record HasAll (old new : Heaps) : Type 0 where
  pub strings : (item : List ℕ) → Has old.strings item → Has new.strings item
  pub guids : (item : List ℕ) → Has old.guids item → Has new.guids item
  pub blobs : (item : List ℕ) → Has old.blobs item → Has new.blobs item

has_own : (heaps : Heaps) → HasAll heaps heaps
has_own heaps = record { strings = λ item h. h; guids = λ item h. h; blobs = λ item h. h }

bytes_all : (old heaps : Heaps) (column : Column) (bytes : List ℕ) → HasAll old heaps
    → HasAll old (with_cell heaps column (Blob bytes))
bytes_all old heaps U8 bytes h = h
bytes_all old heaps U16 bytes h = h
bytes_all old heaps U32 bytes h = h
bytes_all old heaps StringIndex bytes h = h
bytes_all old heaps GuidIndex bytes h =
    record {
      strings = h.strings;
      guids = λ item had. keeps heaps.guids bytes item (h.guids item had);
      blobs = h.blobs;
    }
bytes_all old heaps BlobIndex bytes h =
    record {
      strings = h.strings;
      guids = h.guids;
      blobs = λ item had. keeps heaps.blobs bytes item (h.blobs item had);
    }
bytes_all old heaps (RowIndex table) bytes h = h
bytes_all old heaps (RunIndex table) bytes h = h
bytes_all old heaps (CodedIndex coding) bytes h = h

cell_all : (old heaps : Heaps) (column : Column) (cell : Cell) → HasAll old heaps
    → HasAll old (with_cell heaps column cell)
cell_all old heaps column (Number number) h = h
cell_all old heaps column (Name text) h =
    record {
      strings = λ item had. keeps heaps.strings text item (h.strings item had);
      guids = h.guids;
      blobs = h.blobs;
    }
cell_all old heaps column (Blob bytes) h = bytes_all old heaps column bytes h
cell_all old heaps column (Index row) h = h
cell_all old heaps column (Coded table row) h = h

bytes_kept : (old new : Heaps) (column : Column) (bytes : List ℕ) → HasAll old new → bytes_held old column bytes
    → bytes_held new column bytes
bytes_kept old new U8 bytes all h = tt
bytes_kept old new U16 bytes all h = tt
bytes_kept old new U32 bytes all h = tt
bytes_kept old new StringIndex bytes all h = tt
bytes_kept old new GuidIndex bytes all h = all.guids bytes h
bytes_kept old new BlobIndex bytes all h = all.blobs bytes h
bytes_kept old new (RowIndex table) bytes all h = tt
bytes_kept old new (RunIndex table) bytes all h = tt
bytes_kept old new (CodedIndex coding) bytes all h = tt

cell_kept : (old new : Heaps) (column : Column) (cell : Cell) → HasAll old new → CellHeld old column cell
    → CellHeld new column cell
cell_kept old new column (Number number) all h = tt
cell_kept old new column (Name text) all h = all.strings text h
cell_kept old new column (Blob bytes) all h = bytes_kept old new column bytes all h
cell_kept old new column (Index row) all h = tt
cell_kept old new column (Coded table row) all h = tt

bytes_there : (heaps : Heaps) (column : Column) (bytes : List ℕ)
    → bytes_held (with_cell heaps column (Blob bytes)) column bytes
bytes_there heaps U8 bytes = tt
bytes_there heaps U16 bytes = tt
bytes_there heaps U32 bytes = tt
bytes_there heaps StringIndex bytes = tt
bytes_there heaps GuidIndex bytes = has_itself heaps.guids bytes
bytes_there heaps BlobIndex bytes = has_itself heaps.blobs bytes
bytes_there heaps (RowIndex table) bytes = tt
bytes_there heaps (RunIndex table) bytes = tt
bytes_there heaps (CodedIndex coding) bytes = tt

cell_there : (heaps : Heaps) (column : Column) (cell : Cell) → CellHeld (with_cell heaps column cell) column cell
cell_there heaps column (Number number) = tt
cell_there heaps column (Name text) = has_itself heaps.strings text
cell_there heaps column (Blob bytes) = bytes_there heaps column bytes
cell_there heaps column (Index row) = tt
cell_there heaps column (Coded table row) = tt

-- ---- rows and tables

abbrev pub CellsHeld : Heaps → List Column → List Cell → Type 0
CellsHeld heaps [] cells = Unit {0}
CellsHeld heaps (column ∷ columns) [] = Unit {0}
CellsHeld heaps (column ∷ columns) (cell ∷ cells) = CellHeld heaps column cell × CellsHeld heaps columns cells

abbrev pub RowsHeld : Heaps → TableSchema → List TableRow → Type 0
RowsHeld heaps schema [] = Unit {0}
RowsHeld heaps schema (row ∷ rows) =
    CellsHeld heaps schema.columns (own_cells schema.number row) × RowsHeld heaps schema rows

abbrev pub TablesHeld : Heaps → List Table → List TableSchema → Type 0
TablesHeld heaps tables [] = Unit {0}
TablesHeld heaps tables (schema ∷ list) =
    RowsHeld heaps schema (table_rows tables schema.number) × TablesHeld heaps tables list

cells_there : (new : Heaps) (columns : List Column) (cells : List Cell) (heaps : Heaps)
    → HasAll (with_cells heaps columns cells) new → CellsHeld new columns cells
cells_there new [] cells heaps all = tt
cells_there new (column ∷ columns) [] heaps all = tt
cells_there new (column ∷ columns) (cell ∷ cells) heaps all =
    let one : Heaps = with_cell heaps column cell in
    let behind : HasAll one (with_cells one columns cells) =
    cells_keep (HasAll one) (cell_all one) columns cells one (has_own one) in (
      cell_kept (with_cells one columns cells) new column cell all
          (cell_kept one (with_cells one columns cells) column cell behind (cell_there heaps column cell)),
      cells_there new columns cells one all,
    )

both_all : (one two three : Heaps) → HasAll one two → HasAll two three → HasAll one three
both_all one two three a b =
    record {
      strings = λ item h. b.strings item (a.strings item h);
      guids = λ item h. b.guids item (a.guids item h);
      blobs = λ item h. b.blobs item (a.blobs item h);
    }

rows_there : (new : Heaps) (schema : TableSchema) (rows : List TableRow) (heaps : Heaps)
    → HasAll (with_rows schema heaps rows) new → RowsHeld new schema rows
rows_there new schema [] heaps all = tt
rows_there new schema (row ∷ rows) heaps all =
    let one : Heaps = with_row schema heaps row in
    let behind : HasAll one (with_rows schema one rows) =
    rows_keep (HasAll one) (cell_all one) schema rows one (has_own one) in (
      cells_there new schema.columns (own_cells schema.number row) heaps
          (both_all one (with_rows schema one rows) new behind all),
      rows_there new schema rows one all,
    )

tables_there : (new : Heaps) (tables : List Table) (list : List TableSchema) (heaps : Heaps)
    → HasAll (fold (with_table tables) heaps list) new → TablesHeld new tables list
tables_there new tables [] heaps all = tt
tables_there new tables (schema ∷ list) heaps all =
    let one : Heaps = with_table tables heaps schema in
    let behind : HasAll one (fold (with_table tables) one list) =
    tables_keep (HasAll one) (cell_all one) tables list one (has_own one) in (
      rows_there new schema (table_rows tables schema.number) heaps
          (both_all one (fold (with_table tables) one list) new behind all),
      tables_there new tables list one all,
    )

-- the heaps of a module have what all its cells hold
pub tables_held : (tables : List Table) → TablesHeld (heaps_of tables) tables schemas
unfolding heaps_of
tables_held tables = tables_there (heaps_of tables) tables schemas first_heaps (has_own (heaps_of tables))
