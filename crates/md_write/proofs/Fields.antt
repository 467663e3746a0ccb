-- The bytes of a field are read up to the next address, and so begin with those that were written.
use Rattle.std.proofs.Common.{◌≡◌, ◌∙◌, ℕ, zero, suc, ◌+◌, ◌-◌, ◌<◌, ◌≤◌, ◌==◌, ◌&&◌, Bool, true, false, cond}
use Rattle.std.proofs.Common.{nat_lt, List, [], ◌∷◌, ◌++◌, length, take, ap, refl, ◌⊎◌, inl, inr, Option}
use Rattle.std.proofs.Common.{Some, None, option_map, arith}
use Rattle.std.specs.List.{cons_option}
use Rattle.std.proofs.lemmas.Bool.{and_parts, ltb-true}
use Rattle.pe_image.specs.Pe.{Parts}
use Rattle.pe_image.specs.Sections.{bytes_from, section_of as section_with}
use Rattle.md_rows.specs.declared.row.Row.{Row}
use Rattle.md_rows.specs.declared.table.Table.{Table as RowTable}
use Rattle.md_tables.specs.Finished.{with_section, held_of, addresses_of, least_with, next_address, up_to, or_empty}
use Rattle.md_tables.specs.Finished.{data_in, data_at}
use Rattle.md_write.proofs.Standing.{Stands, stands-drop, stands-fits}
use Rattle.md_write.proofs.Placed.{IsImage, section_there, bytes_there, nowhere}

-- ---- addresses

-- an address that isn't one of those behind `low` and below `high`
abbrev pub IsApart : ℕ → ℕ → ℕ → Type 0
IsApart low high address = (address ≤ low) ⊎ (high ≤ address)

abbrev pub RowsApart : ℕ → ℕ → List Row → Type 0
RowsApart low high [] = Unit {0}
RowsApart low high (row ∷ rows) = IsApart low high row.address × RowsApart low high rows

-- the table of the bytes of fields
abbrev pub fields_of : List Row → Option RowTable
fields_of rows = Some (record { number = 0x1D; rows = rows })

-- the next address, if there is one, isn't below
abbrev pub IsFar : ℕ → Option ℕ → Type 0
IsFar high None = Unit {0}
IsFar high (Some next) = high ≤ next

far_with : (high n : ℕ) (next : Option ℕ) → high ≤ n → IsFar high next → IsFar high (least_with n next)
far_with high n None le far = le
far_with high n (Some next) le far = omega (arith, le, far)

far_by : (b : Bool) (low high address : ℕ) (next : Option ℕ) → (b ≡ true → low < address) → IsApart low high address
    → IsFar high next → IsFar high (cond b (least_with address next) next)
far_by false low high address next above one far = far
far_by true low high address next above one far =
    let less : low < address = above refl in
    let le : high ≤ address =
    elim one [ inl below ↦ absurd (omega (arith, below, less)) | inr beyond ↦ beyond ] in
    far_with high address next le far

next_far : (image : Parts) (section low high : ℕ) (rows : List Row) → RowsApart low high rows
    → IsFar high (next_address section low (addresses_of image (fields_of rows)))
next_far image section low high [] apart = tt
next_far image section low high (row ∷ rows) apart =
    by (section_with image.sections row.address) (next_far image section low high rows apart.1)
  where
    by : (found : Option ℕ) → IsFar high (next_address section low (addresses_of image (fields_of rows)))
        → IsFar high (next_address section low (cons_option (option_map (with_section row.address) found)
        (addresses_of image (fields_of rows))))
    by None far = far
    by (Some number) far =
        far_by (number == section && nat_lt low row.address) low high row.address
        (next_address section low (addresses_of image (fields_of rows)))
        (λ e. ltb-true low row.address (and_parts (number == section) (nat_lt low row.address) e).1) apart.0 far

-- ---- bytes

take_past : {A : Type 0} (front behind : List A) (n more : ℕ) → n ≡ length front + more
    → take n (front ++ behind) ≡ front ++ take more behind
take_past [] behind n more e = let same : n ≡ more = omega (arith, e) in ap (λ k. take k behind) same
take_past (x ∷ front) behind zero more e = absurd (omega (arith, e))
take_past (x ∷ front) behind (suc n) more e =
    ap (λ l. x ∷ l) (take_past front behind n more (omega (arith, e)))

-- bytes that begin with others
pub record GoesOn (bytes front : List ℕ) : Type 0 where
  pub more : List ℕ
  pub is : bytes ≡ front ++ more

up_to_on : (at : ℕ) (next : Option ℕ) (front behind : List ℕ) → IsFar (at + length front) next
    → GoesOn (up_to at next (front ++ behind)) front
up_to_on at None front behind far = record { more = behind; is = refl }
up_to_on at (Some next) front behind far =
    let left : ℕ = next - at - length front in
    record { more = take left behind; is = take_past front behind (next - at) left (omega (arith, far)) }

-- the bytes of a field, which stand at a place of the image
pub data_goes_on : (image : Parts) (rows : List Row) (bytes : List ℕ) (place at : ℕ)
    → IsImage image.file image.sections → at ≡ place + 0x1E00 → 0x200 ≤ place → Stands image.file bytes place
    → 0 < length bytes → RowsApart at (at + length bytes) rows
    → GoesOn (data_at image (addresses_of image (fields_of rows)) at) bytes
data_goes_on image rows bytes place at is here above stands some apart =
    let fits : place + length bytes ≤ length image.file = stands-fits image.file bytes place stands in
    let inside : place < length image.file = omega (arith, fits, some) in
    let own : held_of image.sections at ≡ Some (with_section at 0) =
    ap (option_map (with_section at)) (section_there image.file image.sections place at is here above inside) in
    let there : bytes_from image.file image.sections at ≡ Some (bytes ++ stands.behind) =
    bytes_there image.file image.sections place at is here above inside
    ∙ ap Some (stands-drop image.file bytes place stands) in
    let next : Option ℕ = next_address 0 at (addresses_of image (fields_of rows)) in
    let read : data_at image (addresses_of image (fields_of rows)) at ≡ up_to at next (bytes ++ stands.behind) =
    ap (data_in image (addresses_of image (fields_of rows)) at) own
    ∙ ap (λ b. or_empty (option_map (up_to at next) b)) there in
    let goes : GoesOn (up_to at next (bytes ++ stands.behind)) bytes =
    up_to_on at next bytes stands.behind (next_far image 0 at (at + length bytes) rows apart) in
    record { more = goes.more; is = read ∙ goes.is }

-- there are none at address 0
pub no_data : (image : Parts) (rows : List Row) → IsImage image.file image.sections
    → data_at image (addresses_of image (fields_of rows)) 0 ≡ []
no_data image rows is =
    ap (λ s. data_in image (addresses_of image (fields_of rows)) 0 (option_map (with_section 0) s))
    (nowhere image.file image.sections is)
