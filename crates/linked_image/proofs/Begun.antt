-- The machine that the file of an image loads, in which its program has not begun.
use Rattle.std.proofs.Common.{◌≡◌, ◌∙◌, inl, inr, ℕ, zero, suc, ◌+◌, ◌-◌, ◌^◌, ◌<◌, ◌≤◌, ◌&&◌, Bool, true}
use Rattle.std.proofs.Common.{List, [], ◌∷◌, ◌++◌, All, length, map, take, drop, replicate, Option, Some, None}
use Rattle.std.proofs.Common.{slice_get}
use Rattle.std.proofs.Common.{slice_index, unwrap_or, arith, refl, ap, sym, subst, nat_lt, length-take, min}
use Rattle.std.proofs.Common.{take-append-drop}
use Rattle.std.specs.List.{list_all}
use Rattle.std.proofs.lemmas.Bool.{cases_lt, ltb-true}
use Rattle.std.proofs.lemmas.List.{get_or-replicate, replicate-append-replicate}
use Rattle.byteorder.specs.Endian.{little_bytes}
use Rattle.num_core.specs.declared.bounds.Bounds.{Bounds}
use Rattle.num_core.specs.declared.fix.FixKind.TheVariants.{Code as ABody}
use Rattle.rv_isa.specs.declared.ins.Ins.{Ins}
use Rattle.rv_isa.specs.Instructions.{word_of}
use Rattle.rv_step.specs.Machine.{MachineState}
use Rattle.rv_step.specs.Memory.{Bytes, Number, byte_in}
use Rattle.rv_step.proofs.Addresses.{allowed_within, at_each, split}
use Rattle.rv_code.specs.Code.{CodeAt, text_of}
use Rattle.rv_code.specs.Registers.{HasRegisters}
use Rattle.lir_core.specs.Calls.{Given}
use Rattle.lir_core.specs.Memory.{Byte, Cell}
use Rattle.lir_core.specs.Program.{WordProgram}
use Rattle.lir_core.specs.Tells.{CellTellsNoMore}
use Rattle.lir_core.specs.declared.body.LirBody.{LirBody}
use Rattle.rt_code.specs.Code.{code_of as routine_code}
use Rattle.rt_code.specs.Effects.{FrontAt, Root, RootAt}
use Rattle.rt_code.specs.declared.routines.Routine.TheVariants.{Start}
use Rattle.elf_file.specs.Elf.{base, machine_of}
use Rattle.image_plan.specs.Loaded.{HoldsImage}
use Rattle.image_plan.specs.Places.{address_of, begins, code_at, code_names, end_of, front_at, root_at, routine_begins}
use Rattle.image_plan.specs.Places.{routines_at, table_names, table_size, tables_at, tables_end, text_end, zeros}
use Rattle.image_plan.specs.Planned.{code_fixes_fit, layout_of, most_bytes, rest_size, table_fixes_fit, text_size}
use Rattle.image_plan.specs.Planned.{too_large}
use Rattle.image_plan.specs.Written.{Finds, padding, table_bytes, with_numbers}
use Rattle.image_plan.specs.declared.pieces.Pieces.{Pieces}
use Rattle.image_plan.specs.declared.pieces.TablePiece.{TablePiece}
use Rattle.image_plan.proofs.Ending.{begin_of}
use Rattle.image_plan.proofs.Holding.{holds as image_holds, tables_placeable}
use Rattle.image_plan.proofs.Lengths.{front_both, numbers_length, tables_length}
use Rattle.image_plan.proofs.Listed.{all_at, length_mapped}
use Rattle.image_plan.proofs.Near.{IsSmall, address_near, is_small, piece_within}
use Rattle.image_plan.proofs.Tables.{table_there}
use Rattle.image_plan.proofs.Tiling.{within_word}
use Rattle.rv_words.specs.Linked.{linked}
use Rattle.rv_words.specs.Loaded.{GivesArgument, IsLoaded}
use Rattle.rv_words.specs.Placing.{HasProgram}
use Rattle.rv_words.specs.Words.{cell_of}
use Rattle.linked_image.specs.Program.{HasRoot, IsProgram, body_among, front_of, image_of, placing_of, program_of}
use Rattle.linked_image.proofs.Containing.{body_code, even_code, has_program, routine_code_there}
use Rattle.linked_image.proofs.Finding.{FoundCode, found_code, none_of_tables, past_routines}
use Rattle.linked_image.proofs.Linking.{says_frame}
use Rattle.linked_image.proofs.Placed.{ItemOf, image_above, image_behind, image_below, item_of, same_body}

-- ---- registers

zero_registers : (m : MachineState) → m.registers ≡ replicate 32 0 → HasRegisters m
zero_registers m e = record {
  count = ap length e;
  x0 = ap (λ (rs : List ℕ). slice_index rs 0) e;
  words = subst (λ (rs : List ℕ). All (λ word. word < 2 ^ 64) rs) (sym e)
      (λ k d h. subst (λ w. w < 2 ^ 64) (sym (get_or-replicate 32 k 0 d (omega (arith, h)))) (omega arith));
}

-- ---- what stands in front of `start`

front_there : (pieces : Pieces) (bounds : Bounds) (m : MachineState) → too_large pieces bounds ≡ None
    → HoldsImage pieces bounds m → FrontAt routines_at (front_of pieces bounds) m
front_there pieces bounds m small holds =
    let fits : IsSmall pieces bounds = is_small pieces bounds small in
    let code : code_at ≤ text_end pieces = fits.code in
    let root : List ℕ = little_bytes 8 (root_at pieces) in
    let heap : List ℕ = little_bytes 8 bounds.heap in
    let stack : List ℕ = little_bytes 8 bounds.stack in
    let last = split m front_at (root ++ heap) stack holds.front in
    let first = split m front_at root heap last.0 in
    let at_first : front_at ≡ routines_at - 24 = omega arith in
    let at_second : front_at + length root ≡ routines_at - 16 = omega arith in
    let at_third : front_at + length (root ++ heap) ≡ routines_at - 8 = omega arith in
    let far : routines_at ≤ code_at = omega arith in
    let whole : base + text_size pieces ≡ text_end pieces = omega (arith, code, far) in
    record {
      behind = omega arith;
      read = allowed_within (λ s. s.read) base (text_size pieces) (routines_at - 24) 24 m.segments (omega arith)
          (omega (arith, whole, code, far)) holds.read_text;
      root = subst (λ a. Number m a 8 (root_at pieces)) at_first first.0;
      heap = subst (λ a. Number m a 8 bounds.heap) at_second first.1;
      stack = subst (λ a. Number m a 8 bounds.stack) at_third last.1;
    }

-- ---- the root

item_there : {A : Type 0} (xs : List A) (k : ℕ) → k < length xs → (x : A) × (slice_get xs k ≡ Some x)
item_there [] k h = absurd (omega (arith, h))
item_there (x ∷ xs) zero h = (x, refl)
item_there (x ∷ xs) (suc k) h = item_there xs k (omega (arith, h))

-- the root begins where the begins of tables tell
root_begins : (pieces : Pieces) → pieces.root < length pieces.tables
    → slice_get (begins (tables_at pieces) (map table_size pieces.tables)) pieces.root ≡ Some (root_at pieces)
root_begins pieces h =
    let sizes : List ℕ = map table_size pieces.tables in
    let begin : ℕ = end_of (tables_at pieces) (take pieces.root sizes) in
    let found : slice_get (begins (tables_at pieces) sizes) pieces.root ≡ Some begin =
    begin_of (tables_at pieces) sizes pieces.root (omega (arith, h, length_mapped table_size pieces.tables)) in
    let same : root_at pieces ≡ begin = ap (λ (o : Option ℕ). unwrap_or o 0) found in
    found ∙ ap Some (sym same)

root_there : (bodies : List LirBody) (pieces : Pieces) (bounds : Bounds) (item : ℕ) (root : Root) (m : MachineState)
    → IsProgram bodies pieces → too_large pieces bounds ≡ None → HasRoot pieces item root → HoldsImage pieces bounds m
    → RootAt (root_at pieces) root m
root_there bodies pieces bounds item root m is small has holds =
    let fits : IsSmall pieces bounds = is_small pieces bounds small in
    let find : Finds = address_of pieces in
    let a : Bool = nat_lt pieces.root (length pieces.tables) in
    let b : Bool = list_all code_fixes_fit pieces.code in
    let c : Bool = list_all table_fixes_fit pieces.tables in
    let inside : pieces.root < length pieces.tables =
    ltb-true pieces.root (length pieces.tables) (front_both a b (front_both (a && b) c is.placeable)) in
    let found = item_there pieces.tables pieces.root inside in
    let table : TablePiece = found.0 in
    let new : List ℕ = with_numbers find table.fixes table.bytes in
    let begins_there = root_begins pieces inside in
    let tables_fit : c ≡ true = tables_placeable pieces is.placeable in
    let within = piece_within table_size (tables_at pieces) pieces.root (root_at pieces) pieces.tables table found.1
    begins_there in
    let size : length new ≡ length table.bytes =
    numbers_length find table.fixes table.bytes (all_at table_fixes_fit pieces.tables pieces.root table tables_fit
    found.1) in
    let body : List ℕ = little_bytes 8 root.body in
    let argument : List ℕ = little_bytes 8 root.argument in
    let distance : List ℕ = little_bytes 8 root.distance in
    let words : take 24 new ≡ body ++ (argument ++ distance) = has.words table found.1 in
    let counted : min 24 (length new) ≡ 24 = sym (length-take 24 new) ∙ ap length words in
    let long : 24 ≤ length new = omega (arith, counted) in
    let rounded : length table.bytes ≤ table_size table = within_word (length table.bytes) in
    let all : Bytes m (root_at pieces) (new ++ padding table.bytes) =
    table_there m find (tables_at pieces) pieces.root (root_at pieces) pieces.tables table tables_fit found.1
    begins_there holds.tables in
    let own_bytes : Bytes m (root_at pieces) (take 24 new ++ drop 24 new) =
    subst (λ (xs : List ℕ). Bytes m (root_at pieces) xs) (sym (take-append-drop 24 new))
    (split m (root_at pieces) new (padding table.bytes) all).0 in
    let three : Bytes m (root_at pieces) (body ++ (argument ++ distance)) =
    subst (λ (xs : List ℕ). Bytes m (root_at pieces) xs) words
    (split m (root_at pieces) (take 24 new) (drop 24 new) own_bytes).0 in
    let first = split m (root_at pieces) body (argument ++ distance) three in
    let second = split m (root_at pieces + 8) argument distance first.1 in
    let next : root_at pieces + 8 + 8 ≡ root_at pieces + 16 = omega arith in
    let rest : rest_size pieces bounds ≤ most_bytes = fits.rest in
    let second_begin : tables_at pieces ≤ base + most_bytes + 4095 = fits.second in
    let ends : root_at pieces + 24 ≤ tables_end pieces = omega (arith, within.1, long, size, rounded) in
    record {
      fits = omega (arith, ends, rest, second_begin);
      read = allowed_within (λ s. s.read) (tables_at pieces) (rest_size pieces bounds) (root_at pieces) 24 m.segments
          within.0 (omega (arith, ends, within.0)) holds.read_data;
      body = first.0;
      argument = second.0;
      distance = subst (λ n. Number m n 8 root.distance) next second.1;
    }

-- ---- the first body

first_word : (m : MachineState) (at : ℕ) (code : List Ins) (ins : Ins) → slice_get code 0 ≡ Some ins
    → Bytes m at (text_of code) → Number m at 4 (word_of ins)
first_word m at [] ins e bytes = cc
first_word m at (x ∷ code) ins e bytes =
    let same : x ≡ ins = cc in
    subst (λ (i : Ins). Number m at 4 (word_of i)) same (split m at (little_bytes 4 (word_of x)) (text_of code) bytes).0

-- ---- the image

index_there : (xs : List ℕ) (k : ℕ) → k < length xs → slice_get xs k ≡ Some (slice_index xs k)
index_there [] k h = absurd (omega (arith, h))
index_there (x ∷ xs) zero h = refl
index_there (x ∷ xs) (suc k) h = index_there xs k (omega (arith, h))

image_told : (bodies : List LirBody) (pieces : Pieces) (bounds : Bounds) (m : MachineState) (place : ℕ)
    → IsProgram bodies pieces → HoldsImage pieces bounds m
    → CellTellsNoMore (image_of pieces place) (cell_of (byte_in m.segments place))
image_told bodies pieces bounds m place is holds =
    let bytes : List ℕ = table_bytes (address_of pieces) pieces.tables in
    let fits : list_all table_fixes_fit pieces.tables ≡ true = tables_placeable pieces is.placeable in
    let size : tables_at pieces + length bytes ≡ tables_end pieces =
    tables_length (address_of pieces) (tables_at pieces) pieces.tables fits in
    let there : Cell = cell_of (byte_in m.segments place) in
    elim (cases_lt place (tables_at pieces)) [
      | inl less ↦ subst (λ (c : Cell). CellTellsNoMore c there) (sym (image_below pieces place less)) tt
      | inr above ↦ elim (cases_lt place (tables_end pieces)) [
        | inl within ↦
            let k : ℕ = place - tables_at pieces in
            let inside : k < length bytes = omega (arith, within, above, size) in
            let told : image_of pieces place ≡ Byte (slice_index bytes k) =
            image_above pieces place above ∙ ap cell_of (index_there bytes k inside) in
            subst (λ (c : Cell). CellTellsNoMore c there) (sym told)
            (ap cell_of (at_each m (tables_at pieces) bytes holds.tables place above (omega (arith, within, size))))
        | inr behind ↦ subst (λ (c : Cell). CellTellsNoMore c there) (sym (image_behind pieces place fits behind)) tt
      ]
    ]

-- ---- all of it

loaded_by : (bodies : List LirBody) (pieces : Pieces) (bounds : Bounds) (root : Root) (item : ℕ) (body : LirBody)
    (given : List Given) (m : MachineState) → IsProgram bodies pieces → too_large pieces bounds ≡ None
    → HasRoot pieces item root → body_among bodies pieces.code item ≡ Some body → GivesArgument root.argument given
    → HoldsImage pieces bounds m → m.pc ≡ routines_at → m.registers ≡ replicate 32 0
    → IsLoaded (placing_of bodies pieces bounds) (front_of pieces bounds) root item body given m
loaded_by bodies pieces bounds root item body given m is small has e gives holds pc registers =
    let program : WordProgram = program_of bodies pieces bounds in
    let fits : IsSmall pieces bounds = is_small pieces bounds small in
    let rest : rest_size pieces bounds ≤ most_bytes = fits.rest in
    let second : tables_at pieces ≤ base + most_bytes + 4095 = fits.second in
    let tables : tables_at pieces ≤ tables_end pieces = fits.tables in
    let memory : HasProgram (placing_of bodies pieces bounds) m = has_program bodies pieces bounds m is small holds in
    let distance : root_at pieces + root.distance ≡ tables_end pieces = has.distance in
    -- the first body's piece
    let f : FoundCode code_at bodies pieces.code item root.body =
    found_code code_at bodies pieces.code (table_names (tables_at pieces) pieces.tables) item root.body is.selected
    (none_of_tables (tables_at pieces) item pieces.tables is.gives)
    (sym (past_routines 0 item routine_begins
    (code_names code_at pieces.code ++ table_names (tables_at pieces) pieces.tables)) ∙ has.body) in
    let same : f.body ≡ body = same_body f.body body (sym f.body_told ∙ e) in
    let i : ItemOf bodies pieces root.body f.piece f.body = item_of bodies pieces f.k root.body f.piece f.body is
    f.standing in
    let told : body_among bodies pieces.code i.item ≡ Some body = i.told ∙ ap Some same in
    let code : CodeAt root.body (linked program root.body body) m =
    body_code bodies pieces bounds m i.item root.body body is small holds i.found told in
    let low : root.body < 2 ^ 31 - 4096 = address_near pieces bounds ABody item root.body small has.body in
    let start : CodeAt routines_at (routine_code Start) m = routine_code_there pieces bounds m Start routines_at small
    holds refl in
    let frame : 192 ≤ body.frame = body.frame_size.least in
    let most : body.frame ≤ 65536 = body.frame_size.greatest in
    record {
      memory = memory;
      start = ap Some (sym pc);
      begins = record {
        comes = record {
          code_at = subst (λ a. CodeAt a (routine_code Start) m) (sym pc) start;
          registers = zero_registers m registers;
          pc = refl;
        };
        front_at = subst (λ a. FrontAt a (front_of pieces bounds) m) (sym pc) (front_there pieces bounds m small holds);
        root_at = root_there bodies pieces bounds item root m is small has holds;
        aligned = even_code f.k root.body pieces.code f.standing.begin_there;
        may_read_body = memory.first_words i.item root.body body i.found told;
        says_frame = first_word m root.body (linked program root.body body) (Ins.Lui 0 body.frame)
            (says_frame program root.body body) code.bytes;
        least = frame;
        frame_fits = omega (arith, most);
        frames_fit = omega (arith, distance, rest, second, tables);
        words = (omega (arith, low), has.argument);
      };
      first = has.first;
      body_there = e;
      argument = gives;
      heap = distance;
      heap_bound = refl;
      stack_bound = refl;
      image = λ place h. image_told bodies pieces bounds m place is holds;
      zeros =
          let parted : zeros bounds ≡ bounds.heap + (bounds.stack + 128) = omega arith in
          let whole : Bytes m (tables_end pieces)
          (replicate bounds.heap 0 ++ replicate (bounds.stack + 128) 0) =
          subst (λ (xs : List ℕ). Bytes m (tables_end pieces) xs)
          (ap (λ n. replicate n 0) parted ∙ sym (replicate-append-replicate bounds.heap (bounds.stack + 128) 0))
          holds.zeros in
          (split m (tables_end pieces) (replicate bounds.heap 0) (replicate (bounds.stack + 128) 0) whole).0;
    }

pub is_loaded : (bodies : List LirBody) (pieces : Pieces) (bounds : Bounds) (root : Root) (item : ℕ) (body : LirBody)
    (given : List Given) → IsProgram bodies pieces → too_large pieces bounds ≡ None → HasRoot pieces item root
    → body_among bodies pieces.code item ≡ Some body → GivesArgument root.argument given
    → IsLoaded (placing_of bodies pieces bounds) (front_of pieces bounds) root item body given
    (machine_of (layout_of pieces bounds))
unfolding layout_of
is_loaded bodies pieces bounds root item body given is small has e gives =
    loaded_by bodies pieces bounds root item body given (machine_of (layout_of pieces bounds)) is small has e gives
    (image_holds pieces bounds is.placeable small) refl refl
