-- A machine that holds the image of a program's pieces holds the program.
use Rattle.std.proofs.Common.{◌≡◌, ◌∙◌, inl, inr, ℕ, zero, suc, ◌+◌, ◌-◌, ◌*◌, ◌/◌, ◌%◌, ◌^◌, ◌<◌, ◌≤◌, List, [], ◌∷◌}
use Rattle.std.proofs.Common.{◌++◌, All, length, map, take, drop, replicate, Some, None, slice_get, slice_index}
use Rattle.std.proofs.Common.{arith, ap, sym, subst}
use Rattle.std.specs.Int.{byte_at, bytes_low_first}
use Rattle.std.proofs.lemmas.Bool.{cases_lt}
use Rattle.std.proofs.lemmas.List.{length-replicate}
use Rattle.byteorder.specs.Endian.{little_bytes}
use Rattle.num_core.specs.declared.bounds.Bounds.{Bounds}
use Rattle.num_core.specs.declared.fix.Fix.{Fix}
use Rattle.rv_isa.specs.declared.ins.Ins.{Ins}
use Rattle.rv_isa.specs.Instructions.{word_of}
use Rattle.rv_step.specs.Bytes.{AreBytes}
use Rattle.rv_step.specs.Machine.{MachineState}
use Rattle.rv_step.specs.Memory.{Bytes, MayRead, MayWrite, byte_in}
use Rattle.rv_step.proofs.Addresses.{allowed_within, at_each, split}
use Rattle.rv_code.specs.Code.{CodeAt, text_of}
use Rattle.lir_core.specs.Program.{WordProgram}
use Rattle.lir_core.specs.declared.body.LirBody.{LirBody}
use Rattle.rt_code.specs.Code.{code_of as routine_code}
use Rattle.rt_code.specs.Effects.{number_of}
use Rattle.rt_code.specs.declared.routines.Routine.{Routine as RoutineOf}
use Rattle.rv_gen.specs.Placing.{code_of}
use Rattle.elf_file.specs.Elf.{base}
use Rattle.image_plan.specs.Loaded.{HoldsImage}
use Rattle.image_plan.specs.Places.{address_of, begins, code_at, code_size, routine_begins, routine_size}
use Rattle.image_plan.specs.Places.{routines, routines_at, table_size, tables_at, tables_end, text_end, zeros}
use Rattle.image_plan.specs.Planned.{most_bytes, rest_size, text_size, too_large}
use Rattle.image_plan.specs.Written.{Finds, bytes_of, padding, routine_bytes, table_bytes, target, with_addresses}
use Rattle.image_plan.specs.Written.{with_number, with_numbers}
use Rattle.image_plan.specs.declared.pieces.CodePiece.{CodePiece}
use Rattle.image_plan.specs.declared.pieces.Pieces.{Pieces}
use Rattle.image_plan.specs.declared.pieces.TablePiece.{TablePiece}
use Rattle.image_plan.proofs.Holding.{tables_placeable}
use Rattle.image_plan.proofs.Lengths.{tables_length, words_length as bytes_of_words}
use Rattle.image_plan.proofs.Listed.{length_mapped}
use Rattle.image_plan.proofs.Near.{IsSmall, is_small, piece_within}
use Rattle.image_plan.proofs.Words.{code_there}
use Rattle.rv_words.specs.Linked.{linked}
use Rattle.rv_words.specs.Placing.{HasProgram, data_bytes}
use Rattle.rv_words.proofs.Sites.{linked_length}
use Rattle.linked_image.specs.Program.{IsProgram, body_among, item_among, placing_of, program_of}
use Rattle.linked_image.proofs.Linking.{linked_bytes, text_bytes}
use Rattle.linked_image.proofs.Placed.{PieceAt, piece_at, routine_address, routine_there, routine_within, some_code}
use Rattle.linked_image.proofs.Suited.{words_length}

-- ---- code

-- what begins at a multiple of 4, one behind the other
aligned_at : {A : Type 0} (count : A → ℕ) (at k begin : ℕ) (items : List A) → at % 4 ≡ 0
    → slice_get (begins at (map (λ x. 4 * count x) items)) k ≡ Some begin → begin % 4 ≡ 0
aligned_at count at k begin [] even e = cc
aligned_at count at zero begin (x ∷ items) even e = let same : at ≡ begin = cc in omega (arith, same, even)
aligned_at count at (suc k) begin (x ∷ items) even e =
    aligned_at count (at + 4 * count x) k begin items (omega (arith, even)) e

pub even_code : (k begin : ℕ) (pieces : List CodePiece)
    → slice_get (begins code_at (map code_size pieces)) k ≡ Some begin
    → begin % 4 ≡ 0
even_code k begin pieces e =
    aligned_at (λ (piece : CodePiece). length piece.code.words) code_at k begin pieces (omega arith) e

even_routine : (k begin : ℕ) → slice_get routine_begins k ≡ Some begin → begin % 4 ≡ 0
even_routine k begin e =
    aligned_at (λ (which : RoutineOf). length (routine_code which)) routines_at k begin routines (omega arith) e

-- code in the first segment
code_at_by : (m : MachineState) (pieces : Pieces) (bounds : Bounds) (begin : ℕ) (code : List Ins)
    → HoldsImage pieces bounds m → IsSmall pieces bounds → base ≤ begin → begin + 4 * length code ≤ text_end pieces
    → begin % 4 ≡ 0 → Bytes m begin (text_of code) → CodeAt begin code m
code_at_by m pieces bounds begin code holds fits low high even bytes =
    let text : text_end pieces ≤ base + most_bytes = fits.text in
    let far : base ≤ text_end pieces = omega (arith, low, high) in
    let size : base + text_size pieces ≡ text_end pieces = omega (arith, far) in
    record {
      segments = holds.segments;
      aligned = even;
      fits = omega (arith, high, text);
      bytes = bytes;
      executable = allowed_within (λ s. s.execute) base (text_size pieces) begin (4 * length code) m.segments low
          (omega (arith, high, size)) holds.execute;
    }

-- the code of a body at its begin
pub body_code : (bodies : List LirBody) (pieces : Pieces) (bounds : Bounds) (m : MachineState) (item begin : ℕ)
    (body : LirBody) → IsProgram bodies pieces → too_large pieces bounds ≡ None → HoldsImage pieces bounds m
    → item_among code_at pieces.code begin ≡ Some item → body_among bodies pieces.code item ≡ Some body
    → CodeAt begin (linked (program_of bodies pieces bounds) begin body) m
body_code bodies pieces bounds m item begin body is small holds e e' =
    let program : WordProgram = program_of bodies pieces bounds in
    let p : PieceAt bodies pieces begin body = piece_at bodies pieces begin item body is e e' in
    let fits : IsSmall pieces bounds = is_small pieces bounds small in
    let within = piece_within code_size code_at p.k begin pieces.code p.piece p.standing.piece_there
    p.standing.begin_there in
    let size : length p.piece.code.words ≡ length (code_of body) = words_length body p.piece p.selected in
    let long : length (linked program begin body) ≡ length (code_of body) = linked_length program begin body in
    let far : base ≤ code_at = omega arith in
    let there : Bytes m begin
    (bytes_of (with_addresses (address_of pieces) begin p.piece.code.fixes p.piece.code.words)) =
    code_there m (address_of pieces) code_at p.k begin pieces.code p.piece p.standing.piece_there
    p.standing.begin_there holds.code in
    code_at_by m pieces bounds begin (linked program begin body) holds fits (omega (arith, within.0, far))
    (omega (arith, within.1, size, long)) (even_code p.k begin pieces.code p.standing.begin_there)
    (subst (λ (bytes : List ℕ). Bytes m begin bytes) (linked_bytes program begin body p.piece p.selected) there)

-- ---- routines

routine_bytes_there : (m : MachineState) (at k begin : ℕ) (all : List RoutineOf) (which : RoutineOf)
    → slice_get all k ≡ Some which → slice_get (begins at (map routine_size all)) k ≡ Some begin
    → Bytes m at (routine_bytes all) → Bytes m begin (bytes_of (map word_of (routine_code which)))
routine_bytes_there m at k begin [] which e e' bytes = cc
routine_bytes_there m at zero begin (r ∷ all) which e e' bytes =
    let same : r ≡ which = cc in
    let here : at ≡ begin = cc in
    let both = split m at (bytes_of (map word_of (routine_code r))) (routine_bytes all) bytes in
    subst (λ a. Bytes m a (bytes_of (map word_of (routine_code which)))) here
    (subst (λ (q : RoutineOf). Bytes m at (bytes_of (map word_of (routine_code q)))) same both.0)
routine_bytes_there m at (suc k) begin (r ∷ all) which e e' bytes =
    let own : List ℕ = map word_of (routine_code r) in
    let size : at + length (bytes_of own) ≡ at + routine_size r =
    ap (λ n. at + n) (bytes_of_words own ∙ ap (λ n. 4 * n) (length_mapped word_of (routine_code r))) in
    let both = split m at (bytes_of own) (routine_bytes all) bytes in
    routine_bytes_there m (at + routine_size r) k begin all which e e'
    (subst (λ n. Bytes m n (routine_bytes all)) size both.1)

pub routine_code_there : (pieces : Pieces) (bounds : Bounds) (m : MachineState) (which : RoutineOf) (begin : ℕ)
    → too_large pieces bounds ≡ None → HoldsImage pieces bounds m
    → slice_get routine_begins (number_of which) ≡ Some begin → CodeAt begin (routine_code which) m
routine_code_there pieces bounds m which begin small holds e =
    let fits : IsSmall pieces bounds = is_small pieces bounds small in
    let within = routine_within which begin e in
    let code : code_at ≤ text_end pieces = fits.code in
    let far : base ≤ routines_at = omega arith in
    code_at_by m pieces bounds begin (routine_code which) holds fits (omega (arith, within.0, far))
    (omega (arith, within.1, code)) (even_routine (number_of which) begin e)
    (subst (λ (bytes : List ℕ). Bytes m begin bytes) (text_bytes (routine_code which))
    (routine_bytes_there m routines_at (number_of which) begin routines which (routine_there which) e holds.routines))

-- ---- data are bytes

abbrev pub Small : List ℕ → Type 0
Small [] = Unit {0}
Small (byte ∷ bytes) = (byte < 256) × Small bytes

small_from : (bytes : List ℕ) → AreBytes bytes → Small bytes
small_from [] all = tt
small_from (byte ∷ bytes) all =
    (all 0 byte (omega arith), small_from bytes (λ k d h. all (suc k) d (omega (arith, h))))

small_append : (xs ys : List ℕ) → Small xs → Small ys → Small (xs ++ ys)
small_append [] ys p q = q
small_append (x ∷ xs) ys p q = (p.0, small_append xs ys p.1 q)

small_take : (n : ℕ) (xs : List ℕ) → Small xs → Small (take n xs)
small_take zero xs p = tt
small_take (suc n) [] p = tt
small_take (suc n) (x ∷ xs) p = (p.0, small_take n xs p.1)

small_drop : (n : ℕ) (xs : List ℕ) → Small xs → Small (drop n xs)
small_drop zero xs p = p
small_drop (suc n) [] p = tt
small_drop (suc n) (x ∷ xs) p = small_drop n xs p.1

small_zeros : (n : ℕ) → Small (replicate n 0)
small_zeros zero = tt
small_zeros (suc n) = (omega arith, small_zeros n)

rest_small : (x : ℕ) → x % 256 < 256
rest_small x = omega arith

byte_small : (i n : ℕ) → byte_at i n < 256
byte_small zero n = rest_small n
byte_small (suc i) n = rest_small (n / 256 ^ suc i)

small_number : (i count n : ℕ) → Small (bytes_low_first i count n)
small_number i zero n = tt
small_number i (suc count) n = (byte_small i n, small_number (suc i) count n)

small_with : (find : Finds) (fixes : List Fix) (bytes : List ℕ) → Small bytes → Small (with_numbers find fixes bytes)
small_with find [] bytes p = p
small_with find (fix ∷ fixes) bytes p =
    let number : List ℕ = little_bytes 8 (target find fix) in
    small_with find fixes (with_number find fix bytes)
    (small_append (take fix.at bytes ++ number) (drop (fix.at + 8) bytes)
    (small_append (take fix.at bytes) number (small_take fix.at bytes p) (small_number 0 8 (target find fix)))
    (small_drop (fix.at + 8) bytes p))

small_tables : (find : Finds) (tables : List TablePiece) → All (λ (table : TablePiece). AreBytes table.bytes) tables
    → Small (table_bytes find tables)
small_tables find [] all = tt
small_tables find (table ∷ tables) all =
    let own : List ℕ = with_numbers find table.fixes table.bytes in
    small_append (own ++ padding table.bytes) (table_bytes find tables)
    (small_append own (padding table.bytes)
    (small_with find table.fixes table.bytes (small_from table.bytes (all 0 table (omega arith))))
    (small_zeros (table_size table - length table.bytes)))
    (small_tables find tables (λ k d h. all (suc k) d (omega (arith, h))))

small_at : (bytes : List ℕ) (k : ℕ) → Small bytes → k < length bytes → slice_index bytes k < 256
small_at [] k p h = absurd (omega (arith, h))
small_at (byte ∷ bytes) zero p h = p.0
small_at (byte ∷ bytes) (suc k) p h = small_at bytes k p.1 (omega (arith, h))

same_byte : (a b : ℕ) → Some a ≡ Some b → a ≡ b
same_byte a b e = cc

-- a byte of a list that stands at an address
one_small : (m : MachineState) (at address byte : ℕ) (bytes : List ℕ) → Small bytes → Bytes m at bytes → at ≤ address
    → address < at + length bytes → byte_in m.segments address ≡ Some byte → byte < 256
one_small m at address byte bytes p there low high e =
    let is : slice_index bytes (address - at) ≡ byte =
    same_byte (slice_index bytes (address - at)) byte (sym (at_each m at bytes there address low high) ∙ e) in
    subst (λ b. b < 256) is (small_at bytes (address - at) p (omega (arith, low, high)))

-- ---- all of it

pub has_program : (bodies : List LirBody) (pieces : Pieces) (bounds : Bounds) (m : MachineState)
    → IsProgram bodies pieces → too_large pieces bounds ≡ None → HoldsImage pieces bounds m
    → HasProgram (placing_of bodies pieces bounds) m
has_program bodies pieces bounds m is small holds =
    let fits : IsSmall pieces bounds = is_small pieces bounds small in
    let text : text_end pieces ≤ base + most_bytes = fits.text in
    let tables : tables_at pieces ≤ tables_end pieces = fits.tables in
    let bytes : List ℕ = table_bytes (address_of pieces) pieces.tables in
    let size : tables_at pieces + length bytes ≡ tables_end pieces =
    tables_length (address_of pieces) (tables_at pieces) pieces.tables (tables_placeable pieces is.placeable) in
    let span : rest_size pieces bounds ≡ data_bytes (placing_of bodies pieces bounds) = omega (arith, tables) in
    let far : base ≤ code_at = omega arith in
    record {
      segments = holds.segments;
      code = λ item begin body e e'. body_code bodies pieces bounds m item begin body is small holds e e';
      routines = λ which address e.
          routine_code_there pieces bounds m which address small holds (sym (routine_address pieces which) ∙ e);
      first_words = λ item begin body e e'.
          let p : PieceAt bodies pieces begin body = piece_at bodies pieces begin item body is e e' in
          let within = piece_within code_size code_at p.k begin pieces.code p.piece p.standing.piece_there
          p.standing.begin_there in
          let some : 0 < length (code_of body) = some_code body in
          let long : length p.piece.code.words ≡ length (code_of body) = words_length body p.piece p.selected in
          let whole : base + text_size pieces ≡ text_end pieces = omega (arith, within.0, within.1, far) in
          allowed_within (λ s. s.read) base (text_size pieces) begin 4 m.segments (omega (arith, within.0, far))
          (omega (arith, within.1, some, long, whole)) holds.read_text;
      read = subst (MayRead m (tables_at pieces)) span holds.read_data;
      write = subst (MayWrite m (tables_at pieces)) span holds.write_data;
      small = λ address byte low high e.
          elim (cases_lt address (tables_end pieces)) [
            | inl less ↦ one_small m (tables_at pieces) address byte bytes
                (small_tables (address_of pieces) pieces.tables is.bytes) holds.tables low (omega (arith, less, size)) e
            | inr more ↦
                let count : length {A = ℕ} (replicate (zeros bounds) 0) ≡ zeros bounds =
                length-replicate (zeros bounds) 0 in
                one_small m (tables_end pieces) address byte (replicate (zeros bounds) 0) (small_zeros (zeros bounds))
                holds.zeros more (omega (arith, high, span, count, tables)) e
          ];
    }
