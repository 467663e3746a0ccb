-- The rows that were read lead to what the rows that were written led to.
use Rattle.std.proofs.Common.{◌≡◌, ◌∙◌, ℕ, ◌+◌, ◌≤◌, ◌<◌, ◌==◌, Bool, true, false, cond, List, [], ◌∷◌}
use Rattle.std.proofs.Common.{length, drop, ap, refl, sym, subst, Option, Some, None, Result, Ok}
use Rattle.std.proofs.Common.{option_and_then, arith, ne_eqb}
use Rattle.std.proofs.lemmas.Bool.{and_parts, eqb-true, false≢true, true≢false}
use Rattle.std.proofs.lemmas.List.{append-nil}
use Rattle.il_code.specs.Headers.{body_length}
use Rattle.pe_image.specs.Pe.{Parts}
use Rattle.md_rows.specs.declared.cell.Cell.{Cell}
use Rattle.md_rows.specs.declared.cell.Cell.TheVariants.{Number, Name, Blob, Index, Coded}
use Rattle.md_rows.specs.declared.row.Row.{Row}
use Rattle.md_rows.specs.declared.table.Table.{Table as RowTable}
use Rattle.md_rows.specs.declared.schema.Column.{Column}
use Rattle.md_rows.specs.declared.schema.Column.TheVariants.{BlobIndex}
use Rattle.md_rows.specs.Fits.{are_cells}
use Rattle.md_rows.specs.Reading.{row_of}
use Rattle.md_tables.specs.declared.fault.TableFault.{TableFault}
use Rattle.md_tables.specs.declared.module.TableRow.{TableRow}
use Rattle.md_tables.specs.Modules.{is_length, is_body}
use Rattle.md_tables.specs.Finished.{addresses_of, data_at as bytes_at, whole_body, body_at, plain, with_body}
use Rattle.md_tables.specs.Finished.{finished_row}
use Rattle.md_write.specs.Heaps.{own_cells}
use Rattle.md_write.specs.Contents.{or_empty, first_bytes, address_of}
use Rattle.md_write.specs.Agreeing.{cells_and, RowAgrees}
use Rattle.md_write.proofs.Bodies.{body_read, body_some}
use Rattle.md_write.proofs.Standing.{Stands, stands-drop, stands-fits}
use Rattle.md_write.proofs.Placed.{IsImage, bytes_there}
use Rattle.md_write.proofs.Fields.{RowsApart, fields_of, GoesOn, data_goes_on, no_data}

-- ---- one row

-- a row of a table that was read, with its address
pub record Finishes (image : Parts) (among : Option RowTable) (number address : ℕ) (row : TableRow) : Type 0 where
  pub result : TableRow
  pub is : finished_row image (addresses_of image among) number (row_of address (own_cells number row)) ≡ Ok result
  pub agrees : RowAgrees number row result

-- a row of cells and a body
abbrev pub bare : List Cell → Option (List ℕ) → TableRow
bare cells body = record { cells = cells; body = body }

abbrev pub done : List Cell → Option (List ℕ) → Result TableRow TableFault
done cells body = Ok (bare cells body)

pub no_body : (number : ℕ) (body : Option (List ℕ)) → (number == 0x06) ≡ false → is_body number body ≡ true
    → body ≡ None
no_body number None other is = refl
no_body number (Some body) other is =
    absurd (true≢false (sym (and_parts (number == 0x06) (is_length (length body) (body_length body)) is).0 ∙ other))

length_is : (count : ℕ) (found : Option ℕ) → is_length count found ≡ true → found ≡ Some count
length_is count None h = absurd (false≢true h)
length_is count (Some n) h = ap Some (eqb-true n count h)

or_empty_is : (row : TableRow) (bytes : List ℕ) → row.body ≡ Some bytes → or_empty row.body ≡ bytes
or_empty_is row bytes e = ap or_empty e

-- a method: its body stands at a place of the image
pub method_finishes : (image : Parts) (among : Option RowTable) (place at : ℕ) (row : TableRow)
    → IsImage image.file image.sections → at ≡ place + 0x1E00 → 0x200 ≤ place
    → is_body 0x06 row.body ≡ true → Stands image.file (or_empty row.body) place
    → Finishes image among 0x06 (address_of at (or_empty row.body)) row
method_finishes image among place at row is here above fits stands = by row.body refl fits stands
  where
    not_none : (body : List ℕ) → length body ≡ 0 → 0 < length body → ⊥
    not_none body n some = omega (arith, n, some)

    not_zero : at ≡ 0 → ⊥
    not_zero n = omega (arith, n, here)

    by : (body : Option (List ℕ)) → row.body ≡ body → is_body 0x06 body ≡ true
        → Stands image.file (or_empty body) place → Finishes image among 0x06 (address_of at (or_empty row.body)) row
    by None e fits stands =
        let none : address_of at (or_empty row.body) ≡ 0 = ap (λ b. address_of at (or_empty b)) e in
        record {
          result = row;
          is = ap (λ a. finished_row image (addresses_of image among) 0x06 (row_of a row.cells)) none
              ∙ ap (λ b. done row.cells b) (sym e);
          agrees = ([], refl);
        }
    by (Some body) e fits stands =
        let size : body_length body ≡ Some (length body) =
        length_is (length body) (body_length body)
        (and_parts true (is_length (length body) (body_length body)) fits).1 in
        let some : 0 < length body = body_some body size in
        let whole : place + length body ≤ length image.file = stands-fits image.file body place stands in
        let told : address_of at (or_empty row.body) ≡ at =
        ap (λ b. address_of at (or_empty b)) e
        ∙ ap (λ b. cond b 0 at) (ne_eqb (length body) 0 (λ n. absurd (not_none body n some))) in
        let there : (at == 0) ≡ false = ne_eqb at 0 (λ n. absurd (not_zero n)) in
        let read : body_at image at ≡ Some body =
        ap (option_and_then whole_body)
        (bytes_there image.file image.sections place at is here above (omega (arith, whole, some))
        ∙ ap Some (stands-drop image.file body place stands))
        ∙ body_read body stands.behind size in
        record {
          result = row;
          is = ap (λ a. finished_row image (addresses_of image among) 0x06 (row_of a row.cells)) told
              ∙ (ap (λ b. cond b (Ok (plain row.cells)) (with_body (row_of at row.cells) (body_at image at))) there
              ∙ (ap (with_body (row_of at row.cells)) read ∙ ap (λ b. done row.cells b) (sym e)));
          agrees = ([], refl);
        }

-- a field: its bytes stand at a place of the image, and no other address lies among them
field_by : (image : Parts) (among : Option RowTable) (row : TableRow) (address : ℕ) (cells : List Cell) (bytes : List ℕ)
    (rest : List Cell) → row.cells ≡ cells → cells ≡ Blob bytes ∷ rest → row.body ≡ None
    → GoesOn (bytes_at image (addresses_of image among) address) bytes
    → Finishes image among 0x1D address row
field_by image among row address cells bytes rest e shape none goes =
    let whole : row.cells ≡ Blob bytes ∷ rest = e ∙ shape in
    let own : drop 1 row.cells ≡ rest = ap (drop 1) whole in
    record {
      result = bare (Blob (bytes_at image (addresses_of image among) address) ∷ rest) None;
      is = ap (λ c. done (Blob (bytes_at image (addresses_of image among) address) ∷ c) None) own;
      agrees = (
        goes.more,
        ap (λ b. bare (Blob b ∷ rest) None) goes.is
            ∙ (ap (λ c. bare (cells_and c goes.more) None) (sym whole)
            ∙ ap (λ b. bare (cells_and row.cells goes.more) b) (sym none)),
      );
    }

-- the first cell of a row of the bytes of a field
pub record HasBytes (row : TableRow) : Type 0 where
  pub bytes : List ℕ
  pub rest : List Cell
  pub cells : row.cells ≡ Blob bytes ∷ rest
  pub none : row.body ≡ None

blob_first : (rows : ℕ → ℕ) (columns : List Column) (row : TableRow) (cells : List Cell) → row.cells ≡ cells
    → row.body ≡ None → are_cells rows (BlobIndex ∷ columns) cells ≡ true → HasBytes row
blob_first rows columns row [] e none h = absurd (false≢true h)
blob_first rows columns row (Blob bytes ∷ rest) e none h =
    record { bytes = bytes; rest = rest; cells = e; none = none }
blob_first rows columns row (Number number ∷ rest) e none h = absurd (false≢true h)
blob_first rows columns row (Name text ∷ rest) e none h = absurd (false≢true h)
blob_first rows columns row (Index index ∷ rest) e none h = absurd (false≢true h)
blob_first rows columns row (Coded table index ∷ rest) e none h = absurd (false≢true h)

pub has_bytes : (rows : ℕ → ℕ) (columns : List Column) (row : TableRow)
    → are_cells rows (BlobIndex ∷ columns) row.cells ≡ true → is_body 0x1D row.body ≡ true → HasBytes row
has_bytes rows columns row cells body =
    blob_first rows columns row row.cells refl (no_body 0x1D row.body refl body) cells

nil_of : (bytes : List ℕ) → length bytes ≡ 0 → bytes ≡ []
nil_of [] n = refl
nil_of (byte ∷ bytes) n = absurd (omega (arith, n))

some_of : (bytes : List ℕ) → (length bytes == 0) ≡ false → 0 < length bytes
some_of [] n = absurd (true≢false n)
some_of (byte ∷ bytes) n = omega arith

pub field_finishes : (image : Parts) (rows : List Row) (place at : ℕ) (row : TableRow)
    → IsImage image.file image.sections → at ≡ place + 0x1E00 → 0x200 ≤ place → HasBytes row
    → Stands image.file (first_bytes row.cells) place
    → RowsApart at (at + length (first_bytes row.cells)) rows
    → Finishes image (fields_of rows) 0x1D (address_of at (first_bytes row.cells)) row
field_finishes image rows place at row is here above has stands apart = by (length has.bytes == 0) refl
  where
    same : first_bytes row.cells ≡ has.bytes
    same = ap first_bytes has.cells

    by : (b : Bool) → (length has.bytes == 0) ≡ b
        → Finishes image (fields_of rows) 0x1D (address_of at (first_bytes row.cells)) row
    by true e =
        let told : address_of at (first_bytes row.cells) ≡ 0 =
        ap (address_of at) same ∙ ap (λ b. cond b 0 at) e in
        let empty : has.bytes ≡ [] = nil_of has.bytes (eqb-true (length has.bytes) 0 e) in
        subst (λ a. Finishes image (fields_of rows) 0x1D a row) (sym told)
        (field_by image (fields_of rows) row 0 row.cells has.bytes has.rest refl has.cells has.none
        (record { more = []; is = no_data image rows is ∙ (sym empty ∙ sym (append-nil has.bytes)) }))
    by false e =
        let told : address_of at (first_bytes row.cells) ≡ at =
        ap (address_of at) same ∙ ap (λ b. cond b 0 at) e in
        let some : 0 < length has.bytes = some_of has.bytes e in
        subst (λ a. Finishes image (fields_of rows) 0x1D a row) (sym told)
        (field_by image (fields_of rows) row at row.cells has.bytes has.rest refl has.cells has.none
        (data_goes_on image rows has.bytes place at is here above
        (subst (λ b. Stands image.file b place) same stands) some
        (subst (λ b. RowsApart at (at + length b) rows) same apart)))
