-- Rows and tables with what they lead to, one behind another.
use Rattle.std.proofs.Common.{◌≡◌, ◌∙◌, ℕ, cond, ◌==◌, List, [], ◌∷◌, ◌++◌, Result, Ok, Err, ap, refl, sym}
use Rattle.std.proofs.Common.{Option, Some, None, append_assoc, subst, inl, inr}
use Rattle.std.specs.Option.{option_map}
use Rattle.std.specs.List.Sorted.{IsPermutation}
use Rattle.std.proofs.lemmas.List.{append-nil}
use Rattle.pe_image.specs.Pe.{Parts}
use Rattle.pe_image.specs.Sections.{bytes_from}
use Rattle.md_rows.specs.declared.cell.Cell.TheVariants.{Blob}
use Rattle.md_rows.specs.declared.fault.RowFault.{RowFault}
use Rattle.md_rows.specs.declared.row.Row.{Row}
use Rattle.md_rows.specs.declared.table.Table.{Table as RowTable}
use Rattle.md_rows.specs.Cells.{StreamBytes}
use Rattle.md_rows.specs.Reading.{reading, Refuses as RefusesRows}
use Rattle.md_tables.specs.declared.fault.TableFault.{TableFault}
use Rattle.md_tables.specs.declared.module.TableRow.{TableRow}
use Rattle.md_tables.specs.declared.module.Table.{Table}
use Rattle.md_tables.specs.Modules.{ModuleParts}
use Rattle.md_tables.specs.declared.data.Held.{Held}
use Rattle.md_tables.specs.Finished.{held_of, data_in}
use Rattle.md_tables.specs.Finished.{in_front, addresses_in, next_address, up_to, or_empty, plain, method_row}
use Rattle.md_tables.specs.Finished.{field_row}
use Rattle.md_tables.specs.Finished.{finished_row, finished_rows, tabled, finished_table, finished_tables, streams_of}
use Rattle.md_tables.specs.Finished.{module_with, finished, module_of, fault_of, Refuses}
use Rattle.md_tables.proofs.Least.{least_permuted}

-- those that were finished, in front of what comes behind them
abbrev pub all_in_front : {A : Type 0} → List A → Result (List A) TableFault → Result (List A) TableFault
all_in_front done (Ok items) = Ok (done ++ items)
all_in_front done (Err fault) = Err fault

pub all_in_front-nil : {A : Type 0} (r : Result (List A) TableFault) → r ≡ all_in_front [] r
all_in_front-nil (Ok items) = refl
all_in_front-nil (Err fault) = refl

all_in_front-next : {A : Type 0} (done : List A) (item : A) (r : Result (List A) TableFault)
    → all_in_front done (in_front (Ok item) r) ≡ all_in_front (done ++ item ∷ []) r
all_in_front-next done item (Ok items) = ap Ok (sym (append_assoc done (item ∷ []) items))
all_in_front-next done item (Err fault) = refl

-- one more, of a list whose items are finished one by one
pub finish_on : {A B : Type 0} (finish : A → Result B TableFault) (finish_all : List A → Result (List B) TableFault)
    (left rest : List A) (item : A) (done : List B) (finished : B) (all : Result (List B) TableFault)
    → finish_all (item ∷ rest) ≡ in_front (finish item) (finish_all rest) → left ≡ item ∷ rest
    → finish item ≡ Ok finished → all ≡ all_in_front done (finish_all left)
    → all ≡ all_in_front (done ++ finished ∷ []) (finish_all rest)
finish_on finish finish_all left rest item done finished all by first is so_far =
    so_far
    ∙ ap (λ l. all_in_front done (finish_all l)) first
    ∙ ap (all_in_front done) by
    ∙ ap (λ r. all_in_front done (in_front r (finish_all rest))) is
    ∙ all_in_front-next done finished (finish_all rest)

-- one that is refused
pub finish_bad : {A B : Type 0} (finish : A → Result B TableFault) (finish_all : List A → Result (List B) TableFault)
    (left rest : List A) (item : A) (done : List B) (fault : TableFault) (all : Result (List B) TableFault)
    → finish_all (item ∷ rest) ≡ in_front (finish item) (finish_all rest) → left ≡ item ∷ rest
    → finish item ≡ Err fault → all ≡ all_in_front done (finish_all left) → all ≡ Err fault
finish_bad finish finish_all left rest item done fault all by first is so_far =
    so_far
    ∙ ap (λ l. all_in_front done (finish_all l)) first
    ∙ ap (all_in_front done) by
    ∙ ap (λ r. all_in_front done (in_front r (finish_all rest))) is

-- all are finished
pub finish_all-end : {A B : Type 0} (finish_all : List A → Result (List B) TableFault) (left : List A) (done : List B)
    (all : Result (List B) TableFault) → finish_all [] ≡ Ok [] → left ≡ []
    → all ≡ all_in_front done (finish_all left) → all ≡ Ok done
finish_all-end finish_all left done all by none so_far =
    so_far
    ∙ ap (λ l. all_in_front done (finish_all l)) none
    ∙ ap (all_in_front done) by
    ∙ ap Ok (append-nil done)

-- ---- the order of the addresses makes no difference

-- the next address is the same in both
abbrev Alike : List Held → List Held → Type 0
Alike a b = (section n : ℕ) → next_address section n a ≡ next_address section n b

data_by : (image : Parts) (a b : List Held) → Alike a b → (address : ℕ) (o : Option Held)
    → data_in image a address o ≡ data_in image b address o
data_by image a b h address None = refl
data_by image a b h address (Some own) =
    ap (λ o. or_empty (option_map (up_to address o) (bytes_from image.file image.sections address)))
    (h own.section own.address)

same_field : (image : Parts) (a b : List Held) → Alike a b → (row : Row) → field_row image a row ≡ field_row image b row
same_field image a b h row =
    ap (λ bytes. plain (Blob bytes ∷ row.cells))
    (data_by image a b h row.address (held_of image.sections row.address))

same_row : (image : Parts) (a b : List Held) (number : ℕ) → Alike a b → (row : Row)
    → finished_row image a number row ≡ finished_row image b number row
same_row image a b number h row =
    ap (λ (f : TableRow). cond (number == 0x06) (method_row image row)
    (cond (number == 0x1D) (Ok f) (Ok (plain row.cells)))) (same_field image a b h row)

same_rows : (image : Parts) (a b : List Held) (number : ℕ) → Alike a b → (rows : List Row)
    → finished_rows image a number rows ≡ finished_rows image b number rows
same_rows image a b number h [] = refl
same_rows image a b number h (row ∷ rest) =
    ap (λ r. in_front r (finished_rows image a number rest)) (same_row image a b number h row)
    ∙ ap (in_front (finished_row image b number row)) (same_rows image a b number h rest)

same_tables : (image : Parts) (a b : List Held) → Alike a b → (tables : List RowTable)
    → finished_tables image a tables ≡ finished_tables image b tables
same_tables image a b h [] = refl
same_tables image a b h (table ∷ rest) =
    ap (λ r. in_front (tabled table.number r) (finished_tables image a rest))
    (same_rows image a b table.number h table.rows)
    ∙ ap (in_front (finished_table image b table)) (same_tables image a b h rest)

-- ---- the module

-- of rows that were read
pub module_is : (image : Parts) (bytes : StreamBytes) (rows : List RowTable) (addresses : List Held)
    → bytes ≡ streams_of image → reading bytes ≡ Ok rows → IsPermutation (addresses_in image rows) addresses
    → module_of image ≡ module_with image (finished_tables image addresses rows)
unfolding module_of
module_is image bytes rows addresses streams read order =
    ap (λ s. finished image (reading s)) (sym streams)
    ∙ ap (finished image) read
    ∙ ap (module_with image)
    (same_tables image (addresses_in image rows) addresses
    (λ section n. sym (least_permuted section n (addresses_in image rows) addresses order)) rows)

-- of rows that are refused
pub module_refused : (image : Parts) (bytes : StreamBytes) (fault : RowFault) → bytes ≡ streams_of image
    → reading bytes ≡ Err fault → module_of image ≡ Err (fault_of fault)
unfolding module_of
module_refused image bytes fault streams read =
    ap (λ s. finished image (reading s)) (sym streams) ∙ ap (finished image) read

-- ---- answers

pub ordered : (image : Parts) (slice rows : List RowTable) (items addresses : List Held) → slice ≡ rows
    → addresses ≡ items → IsPermutation (addresses_in image slice) items
    → IsPermutation (addresses_in image rows) addresses
ordered image slice rows items addresses same there order =
    subst (λ r. IsPermutation (addresses_in image r) addresses) same
    (subst (λ a. IsPermutation (addresses_in image slice) a) (sym there) order)

pub refused_rows : (image : Parts) (bytes : StreamBytes) (fault : RowFault) (own : TableFault)
    → bytes ≡ streams_of image → own ≡ fault_of fault → RefusesRows (reading bytes) fault
    → Refuses (module_of image) own
refused_rows image bytes fault own streams is (inl none) = inl (is ∙ ap fault_of none)
refused_rows image bytes fault own streams is (inr read) =
    inr (module_refused image bytes fault streams read ∙ ap Err (sym is))

pub refused_tables : (image : Parts) (bytes : StreamBytes) (rows : List RowTable) (addresses : List Held)
    (fault : TableFault) → bytes ≡ streams_of image → reading bytes ≡ Ok rows
    → IsPermutation (addresses_in image rows) addresses → Refuses (finished_tables image addresses rows) fault
    → Refuses (module_of image) fault
refused_tables image bytes rows addresses fault streams read order (inl none) = inl none
refused_tables image bytes rows addresses fault streams read order (inr bad) =
    inr (module_is image bytes rows addresses streams read order ∙ ap (module_with image) bad)

abbrev pub made : ℕ → List ℕ → List Table → ModuleParts
made entry user tables = record { entry = entry; user = user; tables = tables }

pub module_done : (image : Parts) (bytes : StreamBytes) (rows : List RowTable) (addresses : List Held)
    (tables : List Table) (entry : ℕ) (user : List ℕ) → bytes ≡ streams_of image → reading bytes ≡ Ok rows
    → IsPermutation (addresses_in image rows) addresses → finished_tables image addresses rows ≡ Ok tables
    → entry ≡ image.entry → user ≡ image.user → module_of image ≡ Ok (made entry user tables)
module_done image bytes rows addresses tables entry user streams read order done enters uses =
    module_is image bytes rows addresses streams read order
    ∙ ap (module_with image) done
    ∙ ap (λ e. Ok (made e image.user tables)) (sym enters)
    ∙ ap (λ u. Ok (made entry u tables)) (sym uses)
