-- How far the pieces of an image reach.
use Rattle.std.proofs.Common.{◌≡◌, ◌⊎◌, inl, inr, ℕ, zero, suc, ◌+◌, ◌<◌, ◌≤◌, ◌&&◌, Bool, true}
use Rattle.std.proofs.Common.{false, cond, List, [], ◌∷◌, ◌++◌, length, map, Option, Some, None, slice_get, ap}
use Rattle.std.proofs.Common.{arith, nat_le, nat_lt}
use Rattle.std.specs.List.{list_all}
use Rattle.std.proofs.lemmas.Bool.{leb-true}
use Rattle.num_core.specs.declared.bounds.Bounds.{Bounds}
use Rattle.num_core.specs.declared.fix.Fix.{Fix}
use Rattle.num_core.specs.declared.fix.FixKind.{FixKind}
use Rattle.num_core.specs.declared.fix.FixKind.TheVariants.{Code as ABody}
use Rattle.rv_step.specs.Machine.{MachineState}
use Rattle.elf_file.specs.Elf.{base, machine_of, up_to_page}
use Rattle.elf_file.specs.declared.layout.ElfLayout.{ElfLayout}
use Rattle.image_plan.specs.Conditions.{TakesAddresses, are_apart, are_found, begins_with_auipc}
use Rattle.image_plan.specs.Loaded.{HasPieces, HoldsImage}
use Rattle.image_plan.specs.Places.{address_among, address_of, begins, code_at, code_names, code_size, end_of}
use Rattle.image_plan.specs.Places.{given_names}
use Rattle.image_plan.specs.Places.{is_name, named, names, routine_begins, routine_names, routine_size, routines}
use Rattle.image_plan.specs.Places.{routines_at, table_names, table_size}
use Rattle.image_plan.specs.Places.{tables_at, tables_end, text_end}
use Rattle.image_plan.specs.Planned.{code_fixes_fit, is_placeable, layout_of, most_bytes, rest_size, table_fixes_fit}
use Rattle.image_plan.specs.Planned.{text_size, too_large}
use Rattle.image_plan.specs.declared.names.Name.{Name}
use Rattle.image_plan.specs.declared.pieces.CodePiece.{CodePiece}
use Rattle.image_plan.specs.declared.pieces.Pieces.{Pieces}
use Rattle.image_plan.specs.declared.pieces.TablePiece.{TablePiece}
use Rattle.image_plan.proofs.Ending.{begin_below}
use Rattle.image_plan.proofs.Fitting.{first_fits}
use Rattle.image_plan.proofs.Holding.{holds_plan}
use Rattle.image_plan.proofs.Leading.{near}
use Rattle.image_plan.proofs.Lengths.{behind_both, front_both}
use Rattle.image_plan.proofs.Listed.{all_at}
use Rattle.image_plan.proofs.Tables.{has_table, table_there}
use Rattle.image_plan.proofs.Words.{code_there, has_code}

-- ---- where pieces end

-- each of several pieces ends no later than all of them
pub piece_within : {A : Type 0} (size : A → ℕ) (at k begin : ℕ) (items : List A) (item : A)
    → slice_get items k ≡ Some item → slice_get (begins at (map size items)) k ≡ Some begin
    → (at ≤ begin) × (begin + size item ≤ end_of at (map size items))
piece_within size at k begin [] item e e' = cc
piece_within size at zero begin (x ∷ items) item e e' =
    let same : x ≡ item = cc in
    let here : at ≡ begin = cc in
    let behind : at + size x ≤ end_of (at + size x) (map size items) = begin_below (at + size x) (map size items) in
    let own : size x ≡ size item = ap size same in
    (omega (arith, here), omega (arith, here, behind, own))
piece_within size at (suc k) begin (x ∷ items) item e e' =
    let rest = piece_within size (at + size x) k begin items item e e' in
    (omega (arith, rest.0), rest.1)

-- how large all is
pub record IsSmall (pieces : Pieces) (bounds : Bounds) : Type 0 where
  pub code : code_at ≤ text_end pieces
  pub text : text_end pieces ≤ base + most_bytes
  pub between : text_end pieces ≤ tables_at pieces
  pub second : tables_at pieces ≤ base + most_bytes + 4095
  pub tables : tables_at pieces ≤ tables_end pieces
  pub rest : rest_size pieces bounds ≤ most_bytes

up_above : (n : ℕ) → n ≤ up_to_page n
up_above n = omega arith

up_near : (n : ℕ) → up_to_page n ≤ n + 4095
up_near n = omega arith

pub is_small : (pieces : Pieces) (bounds : Bounds) → too_large pieces bounds ≡ None → IsSmall pieces bounds
is_small pieces bounds small =
    let both : (nat_le (text_size pieces) most_bytes ≡ true) × (nat_le (rest_size pieces bounds) most_bytes ≡ true) =
    first_fits (nat_le (text_size pieces) most_bytes) (nat_le (rest_size pieces bounds) most_bytes) (text_size pieces)
    (rest_size pieces bounds) small in
    let text : text_size pieces ≤ most_bytes = leb-true (text_size pieces) most_bytes both.0 in
    let code : code_at ≤ text_end pieces = begin_below code_at (map code_size pieces.code) in
    let far : base ≤ code_at = omega arith in
    let above : text_size pieces ≤ up_to_page (text_size pieces) = up_above (text_size pieces) in
    let close : up_to_page (text_size pieces) ≤ text_size pieces + 4095 = up_near (text_size pieces) in
    record {
      code = code;
      text = omega (arith, text, code, far);
      between = omega (arith, above, code, far);
      second = omega (arith, close, text);
      tables = begin_below (tables_at pieces) (map table_size pieces.tables);
      rest = leb-true (rest_size pieces bounds) most_bytes both.1;
    }

-- ---- addresses that names have

-- none of these names has an address behind this one
abbrev pub AreBelow : ℕ → List Name → Type 0
AreBelow most [] = Unit {0}
AreBelow most (name ∷ names) = (name.address ≤ most) × AreBelow most names

below_append : (most : ℕ) (xs ys : List Name) → AreBelow most xs → AreBelow most ys → AreBelow most (xs ++ ys)
below_append most [] ys p q = q
below_append most (x ∷ xs) ys p q = (p.0, below_append most xs ys p.1 q)

one_of : (b : Bool) (x : ℕ) (o : Option ℕ) (a : ℕ) → cond b (Some x) o ≡ Some a → (x ≡ a) ⊎ (o ≡ Some a)
one_of true x o a e = let same : x ≡ a = cc in inl same
one_of false x o a e = inr e

address_below : (names : List Name) (kind : FixKind) (item address most : ℕ) → AreBelow most names
    → address_among names kind item ≡ Some address → address ≤ most
address_below [] kind item address most below e = cc
address_below (name ∷ names) kind item address most below e =
    elim (one_of (is_name kind item name) name.address (address_among names kind item) address e) [
      | inl same ↦ let here : name.address ≤ most = below.0 in omega (arith, here, same)
      | inr other ↦ address_below names kind item address most below.1 other
    ]

routines_below : (number at most : ℕ) (sizes : List ℕ) → end_of at sizes ≤ most
    → AreBelow most (routine_names number (begins at sizes))
routines_below number at most [] h = tt
routines_below number at most (size ∷ sizes) h =
    let behind : at + size ≤ end_of (at + size) sizes = begin_below (at + size) sizes in
    (omega (arith, behind, h), routines_below (number + 1) (at + size) most sizes h)

nodes_below : (kind : FixKind) (at most : ℕ) (nodes : List ℕ) → at ≤ most → AreBelow most (map (named kind at) nodes)
nodes_below kind at most [] h = tt
nodes_below kind at most (node ∷ nodes) h = (h, nodes_below kind at most nodes h)

code_below : (at most : ℕ) (pieces : List CodePiece) → end_of at (map code_size pieces) ≤ most
    → AreBelow most (code_names at pieces)
code_below at most [] h = tt
code_below at most (piece ∷ pieces) h =
    let behind : at + code_size piece ≤ end_of (at + code_size piece) (map code_size pieces) =
    begin_below (at + code_size piece) (map code_size pieces) in
    below_append most (map (named ABody at) piece.nodes) (code_names (at + code_size piece) pieces)
    (nodes_below ABody at most piece.nodes (omega (arith, behind, h))) (code_below (at + code_size piece) most pieces h)

given_below : (at most : ℕ) (gifts : List (FixKind × ℕ)) → at ≤ most → AreBelow most (given_names at gifts)
given_below at most [] h = tt
given_below at most (gift ∷ gifts) h = (h, given_below at most gifts h)

tables_below : (at most : ℕ) (tables : List TablePiece) → end_of at (map table_size tables) ≤ most
    → AreBelow most (table_names at tables)
tables_below at most [] h = tt
tables_below at most (table ∷ tables) h =
    let behind : at + table_size table ≤ end_of (at + table_size table) (map table_size tables) =
    begin_below (at + table_size table) (map table_size tables) in
    below_append most (given_names at table.gives) (table_names (at + table_size table) tables)
    (given_below at most table.gives (omega (arith, behind, h))) (tables_below (at + table_size table) most tables h)

-- no name has an address behind the tables
pub address_low : (pieces : Pieces) (bounds : Bounds) (kind : FixKind) (item address : ℕ)
    → too_large pieces bounds ≡ None → address_of pieces kind item ≡ Some address → address ≤ tables_end pieces
address_low pieces bounds kind item address small e =
    let is : IsSmall pieces bounds = is_small pieces bounds small in
    let most : ℕ = tables_end pieces in
    let first : List Name = routine_names 0 routine_begins in
    let second : List Name = code_names code_at pieces.code in
    let third : List Name = table_names (tables_at pieces) pieces.tables in
    let code : code_at ≤ text_end pieces = is.code in
    let between : text_end pieces ≤ tables_at pieces = is.between in
    let tables : tables_at pieces ≤ most = is.tables in
    let below : AreBelow most (first ++ (second ++ third)) =
    below_append most first (second ++ third)
    (routines_below 0 routines_at most (map routine_size routines) (omega (arith, code, between, tables)))
    (below_append most second third (code_below code_at most pieces.code (omega (arith, between, tables)))
    (tables_below (tables_at pieces) most pieces.tables (omega arith))) in
    address_below (names pieces) kind item address most below e

pub address_near : (pieces : Pieces) (bounds : Bounds) (kind : FixKind) (item address : ℕ)
    → too_large pieces bounds ≡ None → address_of pieces kind item ≡ Some address → address < near
address_near pieces bounds kind item address small e =
    let is : IsSmall pieces bounds = is_small pieces bounds small in
    let low : address ≤ tables_end pieces = address_low pieces bounds kind item address small e in
    let second : tables_at pieces ≤ base + most_bytes + 4095 = is.second in
    let rest : rest_size pieces bounds ≤ most_bytes = is.rest in
    omega (arith, low, second, rest)

-- ---- all pieces

pub has_pieces : (pieces : Pieces) (bounds : Bounds) (m : MachineState) → is_placeable pieces ≡ true
    → too_large pieces bounds ≡ None → TakesAddresses pieces → HoldsImage pieces bounds m → HasPieces pieces m
has_pieces pieces bounds m placeable small takes holds =
    let a : Bool = nat_lt pieces.root (length pieces.tables) in
    let b : Bool = list_all code_fixes_fit pieces.code in
    let c : Bool = list_all table_fixes_fit pieces.tables in
    let code_fit : b ≡ true = behind_both a b (front_both (a && b) c placeable) in
    let tables_fit : c ≡ true = behind_both (a && b) c placeable in
    let is : IsSmall pieces bounds = is_small pieces bounds small in
    let lows : (f : Fix) (address : ℕ) → address_of pieces f.kind f.item ≡ Some address → address < near =
    λ f address found. address_near pieces bounds f.kind f.item address small found in
    record {
      code = λ k begin piece e e'.
          let within = piece_within code_size code_at k begin pieces.code piece e e' in
          let text : text_end pieces ≤ base + most_bytes = is.text in
          has_code m pieces begin piece (all_at code_fixes_fit pieces.code k piece code_fit e)
          (all_at (λ (p : CodePiece). are_found (address_of pieces) p.code.fixes) pieces.code k piece
          takes.code_names e)
          (all_at begins_with_auipc pieces.code k piece takes.code_begins e)
          (all_at (λ (p : CodePiece). are_apart 2 p.code.fixes) pieces.code k piece takes.code_apart e)
          (omega (arith, within.1, text)) lows
          (code_there m (address_of pieces) code_at k begin pieces.code piece e e' holds.code);
      tables = λ k begin table e e'.
          has_table m pieces begin table (all_at table_fixes_fit pieces.tables k table tables_fit e)
          (all_at (λ (t : TablePiece). are_found (address_of pieces) t.fixes) pieces.tables k table takes.table_names e)
          (all_at (λ (t : TablePiece). are_apart 8 t.fixes) pieces.tables k table takes.table_apart e)
          (table_there m (address_of pieces) (tables_at pieces) k begin pieces.tables table tables_fit e e'
          holds.tables);
    }

pub has_plan : (layout : ElfLayout) (pieces : Pieces) (bounds : Bounds) → layout ≡ layout_of pieces bounds
    → is_placeable pieces ≡ true → too_large pieces bounds ≡ None → TakesAddresses pieces
    → HasPieces pieces (machine_of layout)
has_plan layout pieces bounds same placeable small takes =
    has_pieces pieces bounds (machine_of layout) placeable small takes
    (holds_plan layout pieces bounds same placeable small)
