-- The pieces of selected bodies, placed, are a placing of their program.
use Rattle.std.proofs.Common.{◌≡◌, ◌∙◌, ℕ, zero, suc, ◌+◌, ◌-◌, ◌<◌, ◌≤◌, Bool, true}
use Rattle.std.proofs.Common.{cond, List, [], ◌∷◌, ◌++◌, length, map, Some, None, slice_get, arith, refl, ap, sym}
use Rattle.std.proofs.Common.{subst, take, inl, inr}
use Rattle.std.specs.List.{list_all}
use Rattle.std.specs.Option.{option_and_then, option_map}
use Rattle.std.proofs.lemmas.Bool.{cases_Bool, cases_lt, le-leb, lt-leb}
use Rattle.num_core.specs.declared.bounds.Bounds.{Bounds}
use Rattle.num_core.specs.declared.fix.FixKind.TheVariants.{Routine as ARoutine}
use Rattle.rv_isa.specs.declared.ins.Ins.{Ins}
use Rattle.lir_core.specs.Check.{is_sound}
use Rattle.lir_core.specs.Layout.{IsLaidOut}
use Rattle.lir_core.specs.Memory.{Missing}
use Rattle.lir_core.specs.Program.{WordProgram}
use Rattle.lir_core.specs.declared.body.LirBody.{LirBody}
use Rattle.rt_code.specs.Effects.{number_of}
use Rattle.rt_code.specs.declared.routines.Routine.{Routine as RoutineOf}
use Rattle.rt_code.specs.declared.routines.Routine.TheVariants.{Start, End, WriteByte, ReadByte, StackBound, HeapBound}
use Rattle.rt_code.specs.declared.routines.Routine.TheVariants.{Unhandled}
use Rattle.rv_gen.specs.Lines.{lines_of}
use Rattle.rv_gen.specs.Placing.{code_of}
use Rattle.elf_file.specs.Elf.{base}
use Rattle.image_plan.specs.Conditions.{has_nodes}
use Rattle.image_plan.specs.Places.{address_of, code_at, code_names, code_size, end_of, routine_begins}
use Rattle.image_plan.specs.Places.{routine_size, routines, routines_at, table_names, tables_at, tables_end}
use Rattle.image_plan.specs.Places.{text_end}
use Rattle.image_plan.specs.Planned.{most_bytes, rest_size, table_fixes_fit, too_large}
use Rattle.image_plan.specs.Written.{table_bytes}
use Rattle.image_plan.specs.declared.pieces.CodePiece.{CodePiece}
use Rattle.image_plan.specs.declared.pieces.Pieces.{Pieces}
use Rattle.image_plan.proofs.Ending.{begin_of}
use Rattle.image_plan.proofs.Holding.{tables_placeable}
use Rattle.image_plan.proofs.Lengths.{tables_length}
use Rattle.image_plan.proofs.Listed.{all_at, there}
use Rattle.image_plan.proofs.Near.{IsSmall, address_near, is_small, piece_within}
use Rattle.rv_words.specs.Placing.{Around, IsBodyPlaced, IsPlacing, body_at}
use Rattle.rv_words.specs.Words.{cell_of}
use Rattle.linked_image.specs.Program.{IsProgram, body_among, first_node, image_of, is_for, item_among, placing_of}
use Rattle.linked_image.specs.Program.{program_of}
use Rattle.linked_image.specs.Selected.{AreSelected, IsSelected}
use Rattle.linked_image.proofs.Finding.{AreSome, FoundCode, FoundItem, IsTold, Standing, around_is, body_is}
use Rattle.linked_image.proofs.Finding.{first_is_for}
use Rattle.linked_image.proofs.Finding.{found_code, found_item, item_is, none_of_tables, past_routines, selected_at}
use Rattle.linked_image.proofs.Finding.{some_node}
use Rattle.linked_image.proofs.Suited.{words_length}

-- ---- bodies in their pieces

-- a body has at least one instruction
first_code : (body : LirBody) → slice_get (code_of body) 0 ≡ Some (Ins.Lui 0 body.frame)
unfolding lines_of
first_code body = refl

pub some_code : (body : LirBody) → 0 < length (code_of body)
some_code body = there (code_of body) 0 (Ins.Lui 0 body.frame) (first_code body)

sizes_of : (bodies : List LirBody) (pieces : List CodePiece) → AreSelected bodies pieces → AreSome pieces
sizes_of [] [] all = tt
sizes_of [] (piece ∷ pieces) all = absurd all
sizes_of (body ∷ bodies) [] all = absurd all
sizes_of (body ∷ bodies) (piece ∷ pieces) all =
    let some : 0 < length (code_of body) = some_code body in
    (omega (arith, some, words_length body piece all.0), sizes_of bodies pieces all.1)

-- a body at each piece's place
body_there : (bodies : List LirBody) (pieces : List CodePiece) (k : ℕ) (piece : CodePiece) → AreSelected bodies pieces
    → slice_get pieces k ≡ Some piece → (body : LirBody) × (slice_get bodies k ≡ Some body)
body_there [] [] k piece all e = cc
body_there [] (p ∷ pieces) k piece all e = absurd all
body_there (b ∷ bodies) [] k piece all e = absurd all
body_there (b ∷ bodies) (p ∷ pieces) zero piece all e = (b, refl)
body_there (b ∷ bodies) (p ∷ pieces) (suc k) piece all e = body_there bodies pieces k piece all.1 e

-- ---- what the program tells where a piece begins

abbrev pub PieceStands : List LirBody → Pieces → ℕ → ℕ → CodePiece → LirBody → Type 0
PieceStands bodies pieces k begin piece body = Standing code_at bodies pieces.code k begin piece body

-- the first node of a piece is the item that is found at its begin, and has its body
pub record ItemOf (bodies : List LirBody) (pieces : Pieces) (begin : ℕ) (piece : CodePiece) (body : LirBody)
    : Type 0 where
  pub item : ℕ
  pub first : first_node piece.nodes ≡ Some item
  pub found : item_among code_at pieces.code begin ≡ Some item
  pub told : body_among bodies pieces.code item ≡ Some body

pub item_of : (bodies : List LirBody) (pieces : Pieces) (k begin : ℕ) (piece : CodePiece) (body : LirBody)
    → IsProgram bodies pieces → PieceStands bodies pieces k begin piece body → ItemOf bodies pieces begin piece body
item_of bodies pieces k begin piece body is s =
    let named = some_node piece.nodes
    (all_at (λ (p : CodePiece). has_nodes p.nodes) pieces.code k piece is.nodes s.piece_there) in
    record {
      item = named.0;
      first = named.1;
      found = item_is code_at k begin pieces.code piece (sizes_of bodies pieces.code is.selected) s.piece_there
          s.begin_there
          ∙ named.1;
      told = body_is bodies pieces.code k piece body named.0 is.apart s.piece_there s.body_there
          (first_is_for piece.nodes named.0 named.1);
    }

told_at : (program : WordProgram) (begin item : ℕ) (body : LirBody) → program.item_at begin ≡ Some item
    → program.body_of item ≡ Some body
    → body_at program begin ≡ Some (record { begin = begin; item = item; body = body })
told_at program begin item body e e' =
    let around : LirBody → Around = λ b. record { begin = begin; item = item; body = b } in
    ap (option_and_then (λ i. option_map (λ b. record { begin = begin; item = i; body = b }) (program.body_of i))) e
    ∙ ap (option_map around) e'

is_told : (bodies : List LirBody) (pieces : Pieces) (bounds : Bounds) → IsProgram bodies pieces
    → IsTold (program_of bodies pieces bounds) code_at bodies pieces.code
is_told bodies pieces bounds is =
    λ k begin piece body s.
    let i : ItemOf bodies pieces begin piece body = item_of bodies pieces k begin piece body is s in
    (i.item, told_at (program_of bodies pieces bounds) begin i.item body i.found i.told)

-- the piece whose code begins where an item is found
pub record PieceAt (bodies : List LirBody) (pieces : Pieces) (begin : ℕ) (body : LirBody) : Type 0 where
  pub k : ℕ
  pub piece : CodePiece
  pub standing : PieceStands bodies pieces k begin piece body
  pub selected : IsSelected body piece.code

pub same_body : (a b : LirBody) → Some a ≡ Some b → a ≡ b
same_body a b e = cc

pub piece_at : (bodies : List LirBody) (pieces : Pieces) (begin item : ℕ) (body : LirBody) → IsProgram bodies pieces
    → item_among code_at pieces.code begin ≡ Some item → body_among bodies pieces.code item ≡ Some body
    → PieceAt bodies pieces begin body
piece_at bodies pieces begin item body is e e' =
    let f : FoundItem code_at bodies pieces.code begin item =
    found_item code_at bodies pieces.code begin item is.selected e in
    let told : body_among bodies pieces.code item ≡ Some f.body =
    body_is bodies pieces.code f.k f.piece f.body item is.apart f.standing.piece_there f.standing.body_there
    (first_is_for f.piece.nodes item f.first) in
    let same : f.body ≡ body = same_body f.body body (sym told ∙ e') in
    let standing : PieceStands bodies pieces f.k begin f.piece body =
    subst (λ (b : LirBody). PieceStands bodies pieces f.k begin f.piece b) same f.standing in
    record {
      k = f.k;
      piece = f.piece;
      standing = standing;
      selected = selected_at bodies pieces.code f.k f.piece body is.selected standing.piece_there standing.body_there;
    }

-- a body that an item has is sound
sound_among : (bodies : List LirBody) (pieces : List CodePiece) (item : ℕ) (body : LirBody)
    → AreSelected bodies pieces → body_among bodies pieces item ≡ Some body → is_sound body ≡ true
sound_among [] pieces item body all e = cc
sound_among (b ∷ bodies) [] item body all e = absurd all
sound_among (b ∷ bodies) (p ∷ pieces) item body all e =
    elim (cases_Bool (is_for item p.nodes)) as (λ _. is_sound body ≡ true) [
      | inl mine ↦
          let same : b ≡ body =
          same_body b body
          (sym (ap (λ (t : Bool). cond t (Some b) (body_among bodies pieces item)) mine) ∙ e) in
          subst (λ (x : LirBody). is_sound x ≡ true) same all.0.sound
      | inr other ↦ sound_among bodies pieces item body all.1
          (sym (ap (λ (t : Bool). cond t (Some b) (body_among bodies pieces item)) other) ∙ e)
    ]

-- ---- routines

pub routine_address : (pieces : Pieces) (which : RoutineOf)
    → address_of pieces ARoutine (number_of which) ≡ slice_get routine_begins (number_of which)
routine_address pieces Start = refl
routine_address pieces End = refl
routine_address pieces WriteByte = refl
routine_address pieces ReadByte = refl
routine_address pieces StackBound = refl
routine_address pieces HeapBound = refl
routine_address pieces Unhandled = refl

pub routine_there : (which : RoutineOf) → slice_get routines (number_of which) ≡ Some which
routine_there Start = refl
routine_there End = refl
routine_there WriteByte = refl
routine_there ReadByte = refl
routine_there StackBound = refl
routine_there HeapBound = refl
routine_there Unhandled = refl

seven : (which : RoutineOf) → number_of which < 7
seven Start = omega arith
seven End = omega arith
seven WriteByte = omega arith
seven ReadByte = omega arith
seven StackBound = omega arith
seven HeapBound = omega arith
seven Unhandled = omega arith

-- where a routine begins
pub routine_begin : (which : RoutineOf) → (begin : ℕ) × (slice_get routine_begins (number_of which) ≡ Some begin)
routine_begin which =
    let few : number_of which < length (map routine_size routines) = seven which in (
      end_of routines_at (take (number_of which) (map routine_size routines)),
      begin_of routines_at (map routine_size routines) (number_of which) few,
    )

-- it ends in the first segment
pub routine_within : (which : RoutineOf) (begin : ℕ) → slice_get routine_begins (number_of which) ≡ Some begin
    → (routines_at ≤ begin) × (begin + routine_size which ≤ code_at)
routine_within which begin e =
    piece_within routine_size routines_at (number_of which) begin routines which (routine_there which) e

-- ---- the image

missing_behind : (xs : List ℕ) (k : ℕ) → length xs ≤ k → slice_get xs k ≡ None
missing_behind [] k h = refl
missing_behind (x ∷ xs) zero h = absurd (omega (arith, h))
missing_behind (x ∷ xs) (suc k) h = missing_behind xs k (omega (arith, h))

pub image_below : (pieces : Pieces) (place : ℕ) → place < tables_at pieces → image_of pieces place ≡ Missing
image_below pieces place h =
    ap (λ (b : Bool). cond b (cell_of (slice_get (table_bytes (address_of pieces) pieces.tables)
    (place - tables_at pieces))) Missing) (lt-leb (tables_at pieces) place h)

pub image_above : (pieces : Pieces) (place : ℕ) → tables_at pieces ≤ place
    → image_of pieces place
    ≡ cell_of (slice_get (table_bytes (address_of pieces) pieces.tables) (place - tables_at pieces))
image_above pieces place h =
    ap (λ (b : Bool). cond b (cell_of (slice_get (table_bytes (address_of pieces) pieces.tables)
    (place - tables_at pieces))) Missing) (le-leb (tables_at pieces) place h)

pub image_behind : (pieces : Pieces) (place : ℕ) → list_all table_fixes_fit pieces.tables ≡ true
    → tables_end pieces ≤ place → image_of pieces place ≡ Missing
image_behind pieces place fits h =
    let bytes : List ℕ = table_bytes (address_of pieces) pieces.tables in
    let size : tables_at pieces + length bytes ≡ tables_end pieces =
    tables_length (address_of pieces) (tables_at pieces) pieces.tables fits in
    let above : tables_at pieces ≤ place = omega (arith, size, h) in
    image_above pieces place above
    ∙ ap cell_of (missing_behind bytes (place - tables_at pieces) (omega (arith, size, h)))

-- ---- the placing

body_placed : (bodies : List LirBody) (pieces : Pieces) (bounds : Bounds) (item begin : ℕ) (body : LirBody)
    → IsProgram bodies pieces → too_large pieces bounds ≡ None
    → item_among code_at pieces.code begin ≡ Some item → body_among bodies pieces.code item ≡ Some body
    → IsBodyPlaced (placing_of bodies pieces bounds) begin item body
body_placed bodies pieces bounds item begin body is small e e' =
    let program : WordProgram = program_of bodies pieces bounds in
    let p : PieceAt bodies pieces begin body = piece_at bodies pieces begin item body is e e' in
    let fits : IsSmall pieces bounds = is_small pieces bounds small in
    let within = piece_within code_size code_at p.k begin pieces.code p.piece p.standing.piece_there
    p.standing.begin_there in
    let size : length p.piece.code.words ≡ length (code_of body) = words_length body p.piece p.selected in
    let text : text_end pieces ≤ base + most_bytes = fits.text in
    let between : text_end pieces ≤ tables_at pieces = fits.between in
    record {
      legal = p.selected.legal;
      near = omega (arith, within.1, size, text);
      below_data = omega (arith, within.1, size, between);
      mapped = λ address low high.
          around_is program code_at bodies pieces.code p.k begin address p.piece body is.selected
          (is_told bodies pieces bounds is) p.standing low high
          ∙ told_at program begin item body e e';
    }

pub is_placing : (bodies : List LirBody) (pieces : Pieces) (bounds : Bounds) → IsProgram bodies pieces
    → too_large pieces bounds ≡ None → IsPlacing (placing_of bodies pieces bounds)
is_placing bodies pieces bounds is small =
    let program : WordProgram = program_of bodies pieces bounds in
    let fits : IsSmall pieces bounds = is_small pieces bounds small in
    let tables_fit : list_all table_fixes_fit pieces.tables ≡ true = tables_placeable pieces is.placeable in
    let code : code_at ≤ text_end pieces = fits.code in
    let text : text_end pieces ≤ base + most_bytes = fits.text in
    let between : text_end pieces ≤ tables_at pieces = fits.between in
    let second : tables_at pieces ≤ base + most_bytes + 4095 = fits.second in
    let tables : tables_at pieces ≤ tables_end pieces = fits.tables in
    let rest : rest_size pieces bounds ≤ most_bytes = fits.rest in
    let laid_out : IsLaidOut program = record {
      frames_behind_heap = refl;
      below = omega (arith, second, rest);
      image_apart = λ place low high. image_behind pieces place tables_fit low;
      image_below = λ place high. image_behind pieces place tables_fit (omega (arith, high, second, rest));
      sound = λ item body e. sound_among bodies pieces.code item body is.selected e;
      sound_clauses = λ item body e. refl;
      found = λ item address e.
          let f : FoundCode code_at bodies pieces.code item address =
          found_code code_at bodies pieces.code (table_names (tables_at pieces) pieces.tables) item address is.selected
          (none_of_tables (tables_at pieces) item pieces.tables is.gives)
          (sym (past_routines 0 item routine_begins
          (code_names code_at pieces.code ++ table_names (tables_at pieces) pieces.tables)) ∙ e) in
          let i : ItemOf bodies pieces address f.piece f.body =
          item_of bodies pieces f.k address f.piece f.body is f.standing in
          (i.item, i.found, i.told ∙ sym f.body_told);
    } in
    record {
      laid_out = laid_out;
      no_clauses = λ item. refl;
      does = λ number. refl;
      routines = λ which.
          let b = routine_begin which in
          let within = routine_within which b.0 b.1 in
          (b.0, routine_address pieces which ∙ b.1, omega (arith, within.1, code, between));
      near = λ kind item address e. address_near pieces bounds kind item address small e;
      bodies = λ item begin body e e'. body_placed bodies pieces bounds item begin body is small e e';
      heap_behind_data = tables;
      image_in_data = λ place some.
          let low : tables_at pieces ≤ place =
          elim (cases_lt place (tables_at pieces)) [
            | inl less ↦ absurd (some (image_below pieces place less))
            | inr more ↦ more
          ] in
          let high : place < tables_end pieces =
          elim (cases_lt place (tables_end pieces)) [
            | inl less ↦ less
            | inr more ↦ absurd (some (image_behind pieces place tables_fit more))
          ] in
          (low, high);
      room_behind = omega (arith, second, rest);
    }
