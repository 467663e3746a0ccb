-- The map of an image leads into the parts of code.
use Rattle.std.proofs.Common.{◌≡◌, ◌∙◌, ◌+◌, ◌-◌, ◌*◌, ◌<◌, ◌≤◌, ◌++◌, ◌∷◌, [], ℕ, zero, suc, List, length, map, Bool}
use Rattle.std.proofs.Common.{true}
use Rattle.std.proofs.Common.{false, Some, slice_get, ap, sym, subst, arith, refl, nat_lt, true≢false}
use Rattle.std.specs.List.{list_all}
use Rattle.std.proofs.lemmas.Bool.{ltb-true}
use Rattle.ty_terms.specs.declared.names.MethodName.{MethodName}
use Rattle.ty_terms.specs.declared.nodes.Part.{Part}
use Rattle.ty_terms.specs.declared.nodes.PartKind.{PartKind}
use Rattle.ty_terms.specs.declared.nodes.PartKind.TheVariants.{Header, Runtime, Code, Table, Constant, Statics}
use Rattle.ty_terms.specs.declared.nodes.PartKind.TheVariants.{Record, Pad}
use Rattle.elf_file.specs.Elf.{base, headers_size, up_to_page}
use Rattle.image_plan.specs.Conditions.{NamesNodes, is_table_kind, map_fits}
use Rattle.image_plan.specs.Mapped.{HasRows, IsMapped, IsRowOf, is_code}
use Rattle.image_plan.specs.Mapped.IsMapped.{NoMore, Other, Body}
use Rattle.image_plan.specs.Places.{code_at, code_size, front_at, table_size}
use Rattle.image_plan.specs.Planned.{code_parts, map_of, map_row, map_rows, pad, part, parts_of, table_parts, text_size}
use Rattle.image_plan.specs.declared.pieces.CodePiece.{CodePiece}
use Rattle.image_plan.specs.declared.pieces.Pieces.{Pieces}
use Rattle.image_plan.specs.declared.pieces.TablePiece.{TablePiece}
use Rattle.image_plan.specs.declared.plan.MapRow.{MapRow}
use Rattle.image_plan.proofs.Lengths.{behind_both, front_both}
use Rattle.image_plan.proofs.Listed.{all_at, length_mapped, mapped_at}
use Rattle.image_plan.proofs.Tiling.{some_pad}

-- ---- the rows of one body

same_row : (row row' : MapRow) → Some row ≡ Some row' → row ≡ row'
same_row row row' e = cc

-- the row at a place is that of the item
row_is : (begin : ℕ) (method : MethodName) (items : List (ℕ × ℕ)) (i : ℕ) (item : ℕ × ℕ) (row : MapRow)
    → slice_get items i ≡ Some item → slice_get (map (map_row begin method) items) i ≡ Some row
    → map_row begin method item ≡ row
row_is begin method items i item row e e' =
    same_row (map_row begin method item) row (sym (mapped_at (map_row begin method) items i item e) ∙ e')

row_lies : (at r n : ℕ) → r < n → (base + at ≤ (base + at) + 4 * r) × ((base + at) + 4 * r < base + at + 4 * n)
row_lies at r n h = (omega arith, omega (arith, h))

-- of code whose part begins at an offset
rows_of_body : (at : ℕ) (piece : CodePiece) → map_fits piece ≡ true
    → HasRows (part Code piece.nodes at (code_size piece)) piece
    (map (map_row (base + at) piece.method) piece.code.map)
rows_of_body at piece fits =
    let begin : ℕ = base + at in
    let own : Part = part Code piece.nodes at (code_size piece) in
    let n : ℕ = length piece.code.words in
    record {
      nodes = refl;
      size = length_mapped (map_row begin piece.method) piece.code.map;
      each = λ i item row e e'.
          let is : map_row begin piece.method item ≡ row =
          row_is begin piece.method piece.code.map i item row e e' in
          let within : item.0 < n =
          ltb-true item.0 n (all_at (λ (other : ℕ × ℕ). nat_lt other.0 n) piece.code.map i item fits e) in
          subst (IsRowOf own piece item) is
          (record { offset = refl; method = refl; inside = row_lies at item.0 n within });
      apart = λ i j item item' row row' e e' f f' same.
          let is : map_row begin piece.method item ≡ row =
          row_is begin piece.method piece.code.map i item row e f in
          let is' : map_row begin piece.method item' ≡ row' =
          row_is begin piece.method piece.code.map j item' row' e' f' in
          let sums : begin + 4 * item.0 ≡ begin + 4 * item'.0 =
          ap (λ (r : MapRow). r.address) is ∙ same ∙ sym (ap (λ (r : MapRow). r.address) is') in
          omega (arith, sums);
    }

-- ---- part by part

-- a part that is no code is passed
passed_pad : (at size : ℕ) (parts : List Part) (pieces : List CodePiece) (rows : List MapRow)
    → IsMapped parts pieces rows → IsMapped (pad at size ++ parts) pieces rows
passed_pad at zero parts pieces rows mapped = mapped
passed_pad at (suc size) parts pieces rows mapped =
    subst (λ (pads : List Part). IsMapped (pads ++ parts) pieces rows) (sym (some_pad at size))
    (Other (part Pad [] at (suc size)) parts pieces rows refl mapped)

table_is_no_code : (kind : PartKind) → is_table_kind kind ≡ true → is_code kind ≡ false
table_is_no_code Header k = refl
table_is_no_code Runtime k = refl
table_is_no_code Code k = absurd (true≢false (sym k))
table_is_no_code Table k = refl
table_is_no_code Constant k = refl
table_is_no_code Statics k = refl
table_is_no_code Record k = refl
table_is_no_code Pad k = refl

tables_mapped : (at : ℕ) (tables : List TablePiece)
    → list_all (λ (table : TablePiece). is_table_kind table.kind) tables ≡ true → IsMapped (table_parts at tables) [] []
tables_mapped at [] kinds = NoMore
tables_mapped at (table ∷ tables) kinds =
    let size : ℕ = length table.bytes in
    let left : ℕ = table_size table - size in
    let typed : Bool = list_all (λ (other : TablePiece). is_table_kind other.kind) tables in
    let others : List Part = table_parts (at + table_size table) tables in
    let behind : IsMapped others [] [] =
    tables_mapped (at + table_size table) tables (behind_both (is_table_kind table.kind) typed kinds) in
    Other (part table.kind table.nodes at size) (pad (at + size) left ++ others) [] []
    (table_is_no_code table.kind (front_both (is_table_kind table.kind) typed kinds))
    (passed_pad (at + size) left others [] [] behind)

code_mapped : (at : ℕ) (pieces : List CodePiece) (parts : List Part) → list_all map_fits pieces ≡ true
    → IsMapped parts [] [] → IsMapped (code_parts at pieces ++ parts) pieces (map_rows (base + at) pieces)
code_mapped at [] parts fits others = others
code_mapped at (piece ∷ pieces) parts fits others =
    let size : ℕ = code_size piece in
    let sum : base + (at + size) ≡ base + at + size = omega arith in
    let behind : IsMapped (code_parts (at + size) pieces ++ parts) pieces (map_rows (base + at + size) pieces) =
    subst (λ n. IsMapped (code_parts (at + size) pieces ++ parts) pieces (map_rows n pieces)) sum
    (code_mapped (at + size) pieces parts (behind_both (map_fits piece) (list_all map_fits pieces) fits) others) in
    Body (part Code piece.nodes at size) (code_parts (at + size) pieces ++ parts) piece pieces
    (map (map_row (base + at) piece.method) piece.code.map) (map_rows (base + at + size) pieces)
    (map_rows (base + at) (piece ∷ pieces)) refl
    (rows_of_body at piece (front_both (map_fits piece) (list_all map_fits pieces) fits)) refl behind

pub mapped : (pieces : Pieces) → NamesNodes pieces → list_all map_fits pieces.code ≡ true
    → IsMapped (parts_of pieces) pieces.code (map_of pieces)
unfolding parts_of map_of
mapped pieces nodes fits =
    let text : ℕ = text_size pieces in
    let second : ℕ = up_to_page text in
    let begin : ℕ = code_at - base in
    let tables : List Part = table_parts second pieces.tables in
    let pads : List Part = pad text (second - text) in
    let code : List Part = code_parts begin pieces.code in
    let runtime : Part = part Runtime [] headers_size (code_at - front_at) in
    let rows : List MapRow = map_rows code_at pieces.code in
    let far : base + begin ≡ code_at = omega arith in
    let behind : IsMapped (pads ++ tables) [] [] =
    passed_pad text (second - text) tables [] [] (tables_mapped second pieces.tables nodes.kinds) in
    let all : IsMapped (code ++ (pads ++ tables)) pieces.code rows =
    subst (λ n. IsMapped (code ++ (pads ++ tables)) pieces.code (map_rows n pieces.code)) far
    (code_mapped begin pieces.code (pads ++ tables) fits behind) in
    Other (part Header [] 0 headers_size) (runtime ∷ (code ++ (pads ++ tables))) pieces.code rows refl
    (Other runtime (code ++ (pads ++ tables)) pieces.code rows refl all)

pub mapped_plan : (parts : List Part) (rows : List MapRow) (pieces : Pieces) → parts ≡ parts_of pieces
    → rows ≡ map_of pieces → NamesNodes pieces → list_all map_fits pieces.code ≡ true → IsMapped parts pieces.code rows
mapped_plan parts rows pieces same same' nodes fits =
    subst (λ (ps : List Part). IsMapped ps pieces.code rows) (sym same)
    (subst (λ (rs : List MapRow). IsMapped (parts_of pieces) pieces.code rs) (sym same') (mapped pieces nodes fits))
