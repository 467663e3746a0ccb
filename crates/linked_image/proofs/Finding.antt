-- Which body stands at an address, and which item's code.
use Rattle.std.proofs.Common.{◌≡◌, ◌∙◌, inl, inr, ℕ, zero, suc, ◌+◌, ◌*◌, ◌<◌, ◌≤◌, ◌==◌, ◌||◌, Bool, true, false}
use Rattle.std.proofs.Common.{cond, not, List, [], ◌∷◌, ◌++◌, length, map, Option, Some, None, slice_get, arith, refl}
use Rattle.std.proofs.Common.{ap}
use Rattle.std.proofs.Common.{sym, subst, true≢false, nat_le, nat_lt, append_assoc}
use Rattle.std.specs.List.{list_all, list_any}
use Rattle.std.proofs.lemmas.Bool.{and_from, and_left, and_right, cases_Bool, eq-eqb, le-leb, lt-leb, lt-ltb, ne_eqb}
use Rattle.std.proofs.lemmas.Bool.{eqb-true, or_left}
use Rattle.num_core.specs.declared.fix.FixKind.{FixKind}
use Rattle.num_core.specs.declared.fix.FixKind.TheVariants.{Code as ABody}
use Rattle.lir_core.specs.Program.{WordProgram}
use Rattle.lir_core.specs.declared.body.LirBody.{LirBody}
use Rattle.rv_gen.specs.Placing.{code_of}
use Rattle.image_plan.specs.Conditions.{has_nodes}
use Rattle.image_plan.specs.Places.{address_among, begins, code_names, code_size, given_names, is_name, kind_number}
use Rattle.image_plan.specs.Places.{named, routine_names, table_names, table_size}
use Rattle.image_plan.specs.declared.names.Name.{Name}
use Rattle.image_plan.specs.declared.pieces.CodePiece.{CodePiece}
use Rattle.image_plan.specs.declared.pieces.TablePiece.{TablePiece}
use Rattle.image_plan.proofs.Lengths.{behind_both, front_both}
use Rattle.image_plan.proofs.Listed.{all_at}
use Rattle.rv_words.specs.Placing.{Around, around_among, body_at, has_around}
use Rattle.linked_image.specs.Program.{are_for_others, body_among, first_node, gives_no_code, is_for, item_among}
use Rattle.linked_image.specs.Program.{nodes_apart}
use Rattle.linked_image.specs.Selected.{AreSelected, IsSelected}
use Rattle.linked_image.proofs.Suited.{words_length}

if_true : {A : Type 0} (b : Bool) (x y : A) → b ≡ true → cond b x y ≡ x
if_true b x y e = ap (λ t. cond t x y) e

if_false : {A : Type 0} (b : Bool) (x y : A) → b ≡ false → cond b x y ≡ y
if_false b x y e = ap (λ t. cond t x y) e

-- ---- a piece and its body, at one place

pub record Standing (at : ℕ) (bodies : List LirBody) (pieces : List CodePiece) (k begin : ℕ) (piece : CodePiece)
    (body : LirBody) : Type 0 where
  pub piece_there : slice_get pieces k ≡ Some piece
  pub begin_there : slice_get (begins at (map code_size pieces)) k ≡ Some begin
  pub body_there : slice_get bodies k ≡ Some body

-- the code of each body is some
pub selected_at : (bodies : List LirBody) (pieces : List CodePiece) (k : ℕ) (piece : CodePiece) (body : LirBody)
    → AreSelected bodies pieces → slice_get pieces k ≡ Some piece → slice_get bodies k ≡ Some body
    → IsSelected body piece.code
selected_at [] [] k piece body all e e' = cc
selected_at [] (p ∷ pieces) k piece body all e e' = absurd all
selected_at (b ∷ bodies) [] k piece body all e e' = absurd all
selected_at (b ∷ bodies) (p ∷ pieces) zero piece body all e e' =
    let same : p ≡ piece = cc in
    let same' : b ≡ body = cc in
    subst (λ (q : CodePiece). IsSelected body q.code) same
    (subst (λ (x : LirBody). IsSelected x p.code) same' all.0)
selected_at (b ∷ bodies) (p ∷ pieces) (suc k) piece body all e e' = selected_at bodies pieces k piece body all.1 e e'

-- ---- from a piece to its item and body

-- a node of a piece
pub some_node : (nodes : List ℕ) → has_nodes nodes ≡ true → (node : ℕ) × (first_node nodes ≡ Some node)
some_node [] h = absurd (true≢false (sym h))
some_node (node ∷ nodes) h = (node, refl)

pub first_is_for : (nodes : List ℕ) (node : ℕ) → first_node nodes ≡ Some node → is_for node nodes ≡ true
first_is_for [] node e = cc
first_is_for (x ∷ nodes) node e =
    let same : x ≡ node = cc in
    or_left (x == node) (is_for node nodes) (eq-eqb x node same)

in_front : (b c : Bool) → not (b || c) ≡ true → b ≡ false
in_front true c e = absurd (true≢false (sym e))
in_front false c e = refl

behind_or : (b c : Bool) → not (b || c) ≡ true → not c ≡ true
behind_or true c e = absurd (true≢false (sym e))
behind_or false c e = e

-- a node of another piece's isn't one of these
not_other : (nodes others : List ℕ) (node : ℕ) → not (list_any (λ n. is_for n nodes) others) ≡ true
    → is_for node others ≡ true → is_for node nodes ≡ false
not_other nodes [] node apart h = absurd (true≢false (sym h))
not_other nodes (x ∷ others) node apart h =
    let test : Bool = list_any (λ n. is_for n nodes) others in
    elim (cases_Bool (x == node)) as (λ _. is_for node nodes ≡ false) [
      | inl same ↦ let is : x ≡ node = eqb-true x node same in
          ap (λ n. is_for n nodes) (sym is) ∙ in_front (is_for x nodes) test apart
      | inr other ↦ not_other nodes others node (behind_or (is_for x nodes) test apart)
          (sym (ap (λ (t : Bool). t || is_for node others) other) ∙ h)
    ]

-- the item of a piece has the piece's body
pub body_is : (bodies : List LirBody) (pieces : List CodePiece) (k : ℕ) (piece : CodePiece) (body : LirBody) (item : ℕ)
    → nodes_apart pieces ≡ true → slice_get pieces k ≡ Some piece → slice_get bodies k ≡ Some body
    → is_for item piece.nodes ≡ true → body_among bodies pieces item ≡ Some body
body_is [] pieces k piece body item apart e e' h = cc
body_is (b ∷ bodies) [] k piece body item apart e e' h = cc
body_is (b ∷ bodies) (p ∷ pieces) zero piece body item apart e e' h =
    let same : p ≡ piece = cc in
    let mine : is_for item p.nodes ≡ true = ap (λ (q : CodePiece). is_for item q.nodes) same ∙ h in
    if_true (is_for item p.nodes) (Some b) (body_among bodies pieces item) mine ∙ e'
body_is (b ∷ bodies) (p ∷ pieces) (suc k) piece body item apart e e' h =
    let test : Bool = list_all (are_for_others p.nodes) pieces in
    let other : are_for_others p.nodes piece ≡ true =
    all_at (are_for_others p.nodes) pieces k piece (front_both test (nodes_apart pieces) apart) e in
    if_false (is_for item p.nodes) (Some b) (body_among bodies pieces item)
    (not_other p.nodes piece.nodes item other h)
    ∙ body_is bodies pieces k piece body item (behind_both test (nodes_apart pieces) apart) e e' h

-- all of these pieces have some code
abbrev pub AreSome : List CodePiece → Type 0
AreSome [] = Unit {0}
AreSome (piece ∷ pieces) = (0 < code_size piece) × AreSome pieces

pub begins_above : (at k begin : ℕ) (pieces : List CodePiece)
    → slice_get (begins at (map code_size pieces)) k ≡ Some begin → at ≤ begin
begins_above at k begin [] e = cc
begins_above at zero begin (p ∷ pieces) e = let same : at ≡ begin = cc in omega (arith, same)
begins_above at (suc k) begin (p ∷ pieces) e =
    let rest : at + code_size p ≤ begin = begins_above (at + code_size p) k begin pieces e in
    omega (arith, rest)

-- the item that is found where a piece begins is its own first one
pub item_is : (at k begin : ℕ) (pieces : List CodePiece) (piece : CodePiece) → AreSome pieces
    → slice_get pieces k ≡ Some piece → slice_get (begins at (map code_size pieces)) k ≡ Some begin
    → item_among at pieces begin ≡ first_node piece.nodes
item_is at k begin [] piece some e e' = cc
item_is at zero begin (p ∷ pieces) piece some e e' =
    let same : p ≡ piece = cc in
    let here : at ≡ begin = cc in
    if_true (at == begin) (first_node p.nodes) (item_among (at + code_size p) pieces begin) (eq-eqb at begin here)
    ∙ ap (λ (q : CodePiece). first_node q.nodes) same
item_is at (suc k) begin (p ∷ pieces) piece some e e' =
    let above : at + code_size p ≤ begin = begins_above (at + code_size p) k begin pieces e' in
    let size : 0 < code_size p = some.0 in
    if_false (at == begin) (first_node p.nodes) (item_among (at + code_size p) pieces begin)
    (ne_eqb at begin (λ same. omega (arith, same, above, size)))
    ∙ item_is (at + code_size p) k begin pieces piece some.1 e e'

-- ---- from an address to the piece that begins there

-- what was found among the others
pub record FoundItem (at : ℕ) (bodies : List LirBody) (pieces : List CodePiece) (address item : ℕ) : Type 0 where
  pub k : ℕ
  pub piece : CodePiece
  pub body : LirBody
  pub standing : Standing at bodies pieces k address piece body
  pub first : first_node piece.nodes ≡ Some item

pub found_item : (at : ℕ) (bodies : List LirBody) (pieces : List CodePiece) (address item : ℕ)
    → AreSelected bodies pieces → item_among at pieces address ≡ Some item
    → FoundItem at bodies pieces address item
found_item at [] [] address item all e = cc
found_item at [] (p ∷ pieces) address item all e = absurd all
found_item at (b ∷ bodies) [] address item all e = absurd all
found_item at (b ∷ bodies) (p ∷ pieces) address item all e =
    let behind : Option ℕ = item_among (at + code_size p) pieces address in
    elim (cases_Bool (at == address)) as (λ _. FoundItem at (b ∷ bodies) (p ∷ pieces) address item) [
      | inl same ↦ let here : at ≡ address = eqb-true at address same in
          record {
            k = 0;
            piece = p;
            body = b;
            standing = record { piece_there = refl; begin_there = ap Some here; body_there = refl };
            first = sym (if_true (at == address) (first_node p.nodes) behind same) ∙ e;
          }
      | inr other ↦
          let found : FoundItem (at + code_size p) bodies pieces address item =
          found_item (at + code_size p) bodies pieces address item all.1
          (sym (if_false (at == address) (first_node p.nodes) behind other) ∙ e) in
          record {
            k = suc found.k;
            piece = found.piece;
            body = found.body;
            standing = record {
              piece_there = found.standing.piece_there;
              begin_there = found.standing.begin_there;
              body_there = found.standing.body_there;
            };
            first = found.first;
          }
    ]

-- ---- from the address of an item's code

cond_or : (a b : Bool) (x y : Option ℕ) → cond a x (cond b x y) ≡ cond (a || b) x y
cond_or true b x y = refl
cond_or false b x y = refl

node_names : (at item : ℕ) (nodes : List ℕ) (rest : List Name)
    → address_among (map (named ABody at) nodes ++ rest) ABody item
    ≡ cond (is_for item nodes) (Some at) (address_among rest ABody item)
node_names at item [] rest = refl
node_names at item (node ∷ nodes) rest =
    ap (λ (o : Option ℕ). cond (node == item) (Some at) o) (node_names at item nodes rest)
    ∙ cond_or (node == item) (is_for item nodes) (Some at) (address_among rest ABody item)

pub record FoundCode (at : ℕ) (bodies : List LirBody) (pieces : List CodePiece) (item address : ℕ) : Type 0 where
  pub k : ℕ
  pub piece : CodePiece
  pub body : LirBody
  pub standing : Standing at bodies pieces k address piece body
  pub body_told : body_among bodies pieces item ≡ Some body

neither : (o : Option ℕ) (address : ℕ) → o ≡ None → o ≡ Some address → ⊥
neither o address f g = let both : None ≡ Some address = sym f ∙ g in cc

pub found_code : (at : ℕ) (bodies : List LirBody) (pieces : List CodePiece) (rest : List Name) (item address : ℕ)
    → AreSelected bodies pieces → address_among rest ABody item ≡ None
    → address_among (code_names at pieces ++ rest) ABody item ≡ Some address
    → FoundCode at bodies pieces item address
found_code at [] [] rest item address all none e = absurd (neither (address_among rest ABody item) address none e)
found_code at [] (p ∷ pieces) rest item address all none e = absurd all
found_code at (b ∷ bodies) [] rest item address all none e = absurd all
found_code at (b ∷ bodies) (p ∷ pieces) rest item address all none e =
    let others : List Name = code_names (at + code_size p) pieces in
    let behind : Option ℕ = address_among (others ++ rest) ABody item in
    let parted : cond (is_for item p.nodes) (Some at) behind ≡ Some address =
    sym (ap (λ (ns : List Name). address_among ns ABody item) (append_assoc (map (named ABody at) p.nodes) others rest)
    ∙ node_names at item p.nodes (others ++ rest)) ∙ e in
    elim (cases_Bool (is_for item p.nodes)) as (λ _. FoundCode at (b ∷ bodies) (p ∷ pieces) item address) [
      | inl mine ↦ record {
        k = 0;
        piece = p;
        body = b;
        standing = record {
          piece_there = refl;
          begin_there = sym (if_true (is_for item p.nodes) (Some at) behind mine) ∙ parted;
          body_there = refl;
        };
        body_told = if_true (is_for item p.nodes) (Some b) (body_among bodies pieces item) mine;
      }
      | inr other ↦
          let found : FoundCode (at + code_size p) bodies pieces item address =
          found_code (at + code_size p) bodies pieces rest item address all.1 none
          (sym (if_false (is_for item p.nodes) (Some at) behind other) ∙ parted) in
          record {
            k = suc found.k;
            piece = found.piece;
            body = found.body;
            standing = record {
              piece_there = found.standing.piece_there;
              begin_there = found.standing.begin_there;
              body_there = found.standing.body_there;
            };
            body_told = if_false (is_for item p.nodes) (Some b) (body_among bodies pieces item) other ∙ found.body_told;
          }
    ]

-- names of routines and of tables are none of code
pub past_routines : (number item : ℕ) (begins : List ℕ) (rest : List Name)
    → address_among (routine_names number begins ++ rest) ABody item ≡ address_among rest ABody item
past_routines number item [] rest = refl
past_routines number item (begin ∷ begins) rest = past_routines (number + 1) item begins rest

not_so : (b : Bool) → not b ≡ true → b ≡ false
not_so true e = absurd (true≢false (sym e))
not_so false e = refl

past_gifts : (at item : ℕ) (gifts : List (FixKind × ℕ)) (rest : List Name)
    → list_all (λ (gift : FixKind × ℕ). not (kind_number gift.0 == kind_number ABody)) gifts ≡ true
    → address_among (given_names at gifts ++ rest) ABody item ≡ address_among rest ABody item
past_gifts at item [] rest none = refl
past_gifts at item (gift ∷ gifts) rest none =
    let test : Bool = list_all (λ (g : FixKind × ℕ). not (kind_number g.0 == kind_number ABody)) gifts in
    let is : kind_number gift.0 == kind_number ABody ≡ false =
    not_so (kind_number gift.0 == kind_number ABody)
    (front_both (not (kind_number gift.0 == kind_number ABody)) test none) in
    if_false (is_name ABody item (named gift.0 at gift.1)) (Some at)
    (address_among (given_names at gifts ++ rest) ABody item)
    (and_left (kind_number gift.0 == kind_number ABody) (gift.1 == item) is)
    ∙ past_gifts at item gifts rest (behind_both (not (kind_number gift.0 == kind_number ABody)) test none)

pub none_of_tables : (at item : ℕ) (tables : List TablePiece) → list_all gives_no_code tables ≡ true
    → address_among (table_names at tables) ABody item ≡ None
none_of_tables at item [] gives = refl
none_of_tables at item (table ∷ tables) gives =
    past_gifts at item table.gives (table_names (at + table_size table) tables)
    (front_both (gives_no_code table) (list_all gives_no_code tables) gives)
    ∙ none_of_tables (at + table_size table) item tables
    (behind_both (gives_no_code table) (list_all gives_no_code tables) gives)

-- ---- the map

-- each of these bodies is the one that the program tells at its begin
abbrev pub IsTold : WordProgram → ℕ → List LirBody → List CodePiece → Type 0
IsTold program at bodies pieces =
    (k begin : ℕ) (piece : CodePiece) (body : LirBody) → Standing at bodies pieces k begin piece body
    → (item : ℕ) × (body_at program begin ≡ Some (record { begin = begin; item = item; body = body }))

told_behind : (program : WordProgram) (at : ℕ) (b : LirBody) (bodies : List LirBody) (p : CodePiece)
    (pieces : List CodePiece) → IsTold program at (b ∷ bodies) (p ∷ pieces)
    → IsTold program (at + code_size p) bodies pieces
told_behind program at b bodies p pieces told =
    λ k begin piece body s.
    told (suc k) begin piece body
    (record { piece_there = s.piece_there; begin_there = s.begin_there; body_there = s.body_there })

same_number : (x y : ℕ) → Some x ≡ Some y → x ≡ y
same_number x y e = cc

-- of an address in the code of a body the map tells this body
pub around_is : (program : WordProgram) (at : ℕ) (bodies : List LirBody) (pieces : List CodePiece)
    (k begin address : ℕ) (piece : CodePiece) (body : LirBody) → AreSelected bodies pieces
    → IsTold program at bodies pieces → Standing at bodies pieces k begin piece body → begin < address
    → address ≤ begin + 4 * length (code_of body)
    → around_among program (begins at (map code_size pieces)) address ≡ body_at program begin
around_is program at [] [] k begin address piece body all told s low high =
    let none : None ≡ Some piece = s.piece_there in cc
around_is program at [] (p ∷ pieces) k begin address piece body all told s low high = absurd all
around_is program at (b ∷ bodies) [] k begin address piece body all told s low high = absurd all
around_is program at (b ∷ bodies) (p ∷ pieces) zero begin address piece body all told s low high =
    let here : at ≡ begin = same_number at begin s.begin_there in
    let own = told 0 begin piece body s in
    let within : has_around (body_at program at) address ≡ true =
    ap (λ n. has_around (body_at program n) address) here
    ∙ ap (λ (o : Option Around). has_around o address) own.1
    ∙ and_from (nat_lt begin address) (nat_le address (begin + 4 * length (code_of body))) (lt-ltb begin address low)
    (le-leb address (begin + 4 * length (code_of body)) high) in
    if_true (has_around (body_at program at) address) (body_at program at)
    (around_among program (begins (at + code_size p) (map code_size pieces)) address) within
    ∙ ap (body_at program) here
around_is program at (b ∷ bodies) (p ∷ pieces) (suc k) begin address piece body all told s low high =
    let first = told 0 at p b (record { piece_there = refl; begin_there = refl; body_there = refl }) in
    let size : length p.code.words ≡ length (code_of b) = words_length b p all.0 in
    let above : at + code_size p ≤ begin = begins_above (at + code_size p) k begin pieces s.begin_there in
    let past : has_around (body_at program at) address ≡ false =
    ap (λ (o : Option Around). has_around o address) first.1
    ∙ and_right (nat_lt at address) (nat_le address (at + 4 * length (code_of b)))
    (lt-leb address (at + 4 * length (code_of b)) (omega (arith, above, low, size))) in
    if_false (has_around (body_at program at) address) (body_at program at)
    (around_among program (begins (at + code_size p) (map code_size pieces)) address) past
    ∙ around_is program (at + code_size p) bodies pieces k begin address piece body all.1
    (told_behind program at b bodies p pieces told)
    (record { piece_there = s.piece_there; begin_there = s.begin_there; body_there = s.body_there }) low high
