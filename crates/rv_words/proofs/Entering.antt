-- How a machine enters a body: it takes the frame, saves the return address and the homes, and loads its own homes.
use Rattle.std.proofs.Common.{◌≡◌, ◌∙◌, ◌⊎◌, inl, inr, ℕ, zero, suc, ◌+◌, ◌-◌, ◌*◌, ◌^◌, ◌<◌, ◌≤◌, Bool, true, false}
use Rattle.std.proofs.Common.{cond, ◌&&◌, pos, ◌+ℤ◌, ◌-ℤ◌, List, [], ◌∷◌, ◌++◌, length, take, Some, arith, refl, ap}
use Rattle.std.proofs.Common.{sym, subst, length-append, length-take, ◌==◌, slice_get, slice_index}
use Rattle.std.specs.List.{list_all}
use Rattle.std.proofs.lemmas.Int.{ints}
use Rattle.std.proofs.lemmas.Bool.{leb-true}
use Rattle.std.proofs.lemmas.Bool.Decides.{nat_tests}
use Rattle.byteorder.specs.Endian.{little_bytes}
use Rattle.byteorder.specs.Numbers.{length-bytes_low_first}
use Rattle.num_core.specs.Bits.{low_bits}
use Rattle.num_core.specs.Run.{Running}
use Rattle.rv_isa.specs.declared.ins.Ins.{Ins}
use Rattle.rv_isa.specs.Instructions.{IsLegal}
use Rattle.rv_step.specs.Machine.{MachineState, low_word, register, stores}
use Rattle.rv_step.specs.Memory.{AllowsTheSame, AreApart, Bytes, MayRead, MayWrite, Number, Writes, is_allowed}
use Rattle.rv_step.specs.Segments.{AreSegments}
use Rattle.rv_step.proofs.Addresses.{allowed_within}
use Rattle.rv_code.specs.Code.{AllLegal, BlockAt, CodeAt, given}
use Rattle.rv_code.specs.Registers.{HasRegisters}
use Rattle.rv_code.proofs.Going.{block_at, block_parts, legal_parts, same_bytes}
use Rattle.lir_core.specs.Check.{are_distinct, is_sound, lies_in_frame, marks_are_places, ops_are_sound}
use Rattle.lir_core.specs.Check.{vars_are_slots}
use Rattle.lir_core.specs.Pieces.{word}
use Rattle.lir_core.specs.Program.{WordProgram}
use Rattle.lir_core.specs.Slots.{addresses}
use Rattle.lir_core.specs.declared.body.LirBody.{LirBody}
use Rattle.lir_core.proofs.Sound.{first_of, second_of}
use Rattle.rt_code.proofs.Machines.{sum_of}
use Rattle.rv_lines.specs.Frame.{home, home_among, home_count, homes_at, return_at, slot_place}
use Rattle.rv_lines.specs.Operands.{is_near, loads_constant}
use Rattle.rv_lines.specs.declared.line.Line.{Line}
use Rattle.rv_lines.specs.declared.line.Line.TheVariants.{Single}
use Rattle.rv_gen.specs.Calling.{enters, loads_homes, saves_homes, takes_frame}
use Rattle.rv_gen.specs.Lines.{lines_of, ops_lines}
use Rattle.rv_gen.specs.Placing.{code_of, places_in}
use Rattle.rv_words.specs.Linked.{linked}
use Rattle.rv_words.specs.Placing.{HasProgram, IsBodyPlaced, IsPlacing, Placing, data_bytes}
use Rattle.rv_words.specs.Words.{homes_of, stands_at, stops_of, word_at}
use Rattle.rv_words.proofs.ConstantCode.{constant_code, constant_short, constant_singles, got_constant, got_word}
use Rattle.rv_words.proofs.ConstantCode.{load_code, load_short, load_singles, singles, singles_append}
use Rattle.rv_words.proofs.Going.{Goes, Put, goes_given, goes_nowhere, goes_on, goes_put}
use Rattle.rv_words.proofs.Got.{Got, got_at, got_once, got_through}
use Rattle.rv_words.proofs.Kept.{word_same}
use Rattle.rv_words.proofs.Legal.{linked_legal}
use Rattle.rv_words.proofs.Lines.{code_of_singles, size_singles}
use Rattle.rv_words.proofs.LinkedCode.{linked_append, linked_by_lines, linked_from, longest_of, size_append, size_of}
use Rattle.rv_words.proofs.Moved.{program_same}
use Rattle.rv_words.proofs.Places.{Rises, code_size, far_of, first_size, next_of, operation_begins, spot_at}
use Rattle.rv_words.proofs.Places.{stop_above, stops_are, stops_rise}
use Rattle.rv_words.proofs.Plain.{of_enters, of_operation}
use Rattle.rv_words.proofs.Reading.{word_small}
use Rattle.rv_words.proofs.Registers.{register_fits}
use Rattle.rv_words.proofs.Results.{same_registers}
use Rattle.rv_words.proofs.Room.{HasRoom, below_all, in_data, may_read}
use Rattle.rv_words.proofs.Sites.{linked_length}
use Rattle.rv_words.proofs.Slotted.{bytes_small, word_back}
use Rattle.rv_words.proofs.Written.{program_written}

-- ---- memory that is kept outside of a range

-- What stands outside of the addresses from one up to another stands there still.
pub record Keeps (low high : ℕ) (m new : MachineState) : Type 0 where
  pub kept : (other : ℕ) (others : List ℕ) → (other + length others ≤ low) ⊎ (high ≤ other) → Bytes m other others
      → Bytes new other others
  pub allows : (other count : ℕ) → AllowsTheSame m new other count
  pub segments : AreSegments new.segments

pub keeps_written : (low high p : ℕ) (bytes : List ℕ) (m new : MachineState) → Writes p bytes m new → low ≤ p
    → p + length bytes ≤ high → Keeps low high m new
keeps_written low high p bytes m new writes from upto = record {
  kept = λ other others apart there. writes.kept other others (away (length others) other apart) there;
  allows = writes.allows;
  segments = writes.segments;
}
  where
    away : (n other : ℕ) → (other + n ≤ low) ⊎ (high ≤ other) → AreApart p (length bytes) other n
    away n other (inl before) = inr (omega (arith, before, from))
    away n other (inr behind) = inl (omega (arith, behind, upto))

pub keeps_all : (low high : ℕ) (m new : MachineState) → new.segments ≡ m.segments → AreSegments m.segments
    → Keeps low high m new
keeps_all low high m new e segments = record {
  kept = λ other others apart there. same_bytes m new other others e there;
  allows = λ other count. record {
    read = ap (λ ss. is_allowed (λ s. s.read) ss other count) e;
    write = ap (λ ss. is_allowed (λ s. s.write) ss other count) e;
    execute = ap (λ ss. is_allowed (λ s. s.execute) ss other count) e;
  };
  segments = subst AreSegments (sym e) segments;
}

pub keeps_then : (low high : ℕ) (m between new : MachineState) → Keeps low high m between → Keeps low high between new
    → Keeps low high m new
keeps_then low high m between new first second = record {
  kept = λ other others apart there. second.kept other others apart (first.kept other others apart there);
  allows = λ other count. record {
    read = (second.allows other count).read ∙ (first.allows other count).read;
    write = (second.allows other count).write ∙ (first.allows other count).write;
    execute = (second.allows other count).execute ∙ (first.allows other count).execute;
  };
  segments = second.segments;
}

pub keeps_more : (low high low' high' : ℕ) (m new : MachineState) → low' ≤ low → high ≤ high' → Keeps low high m new
    → Keeps low' high' m new
keeps_more low high low' high' m new h h' keeps = record {
  kept = λ other others apart there. keeps.kept other others (nearer (length others) other apart) there;
  allows = keeps.allows;
  segments = keeps.segments;
}
  where
    nearer : (n other : ℕ) → (other + n ≤ low') ⊎ (high' ≤ other) → (other + n ≤ low) ⊎ (high ≤ other)
    nearer n other (inl before) = inl (omega (arith, before, h))
    nearer n other (inr behind) = inr (omega (arith, behind, h'))

-- ---- the instructions

abbrev pub take_by : Bool → ℕ → List Ins
take_by near bytes =
    cond near (Ins.Addi 2 2 (pos 0 -ℤ pos bytes) ∷ []) (constant_code 28 bytes ++ Ins.Sub 2 2 28 ∷ [])

abbrev pub take_code : ℕ → List Ins
take_code bytes = take_by (is_near bytes) bytes

take_singles : (bytes : ℕ) → takes_frame bytes ≡ singles (take_code bytes)
take_singles bytes = by (is_near bytes)
  where
    by : (b : Bool) → cond b (Single (Ins.Addi 2 2 (pos 0 -ℤ pos bytes)) ∷ [])
        (loads_constant 28 bytes ++ Single (Ins.Sub 2 2 28) ∷ []) ≡ singles (take_by b bytes)
    by true = refl
    by false =
        ap (λ xs. xs ++ Single (Ins.Sub 2 2 28) ∷ []) (constant_singles 28 bytes)
        ∙ sym (singles_append (constant_code 28 bytes) (Ins.Sub 2 2 28 ∷ []))

abbrev pub save_code : ℕ → List ℕ → List Ins
save_code k [] = []
save_code k (var ∷ vars) = Ins.Sd 2 (18 + k) (pos (8 + 8 * k)) ∷ save_code (k + 1) vars

save_singles : (k : ℕ) (vars : List ℕ) → saves_homes k vars ≡ singles (save_code k vars)
save_singles k [] = refl
save_singles k (var ∷ vars) =
    ap (λ xs. Single (Ins.Sd 2 (18 + k) (pos (8 + 8 * k))) ∷ xs) (save_singles (k + 1) vars)

save_length : (k : ℕ) (vars : List ℕ) → length (save_code k vars) ≡ length vars
save_length k [] = refl
save_length k (var ∷ vars) = ap suc (save_length (k + 1) vars)

abbrev pub homes_code : ℕ → List ℕ → List Ins
homes_code k [] = []
homes_code k (var ∷ vars) = load_code (18 + k) 2 (slot_place var) ++ homes_code (k + 1) vars

homes_singles : (k : ℕ) (vars : List ℕ) → loads_homes k vars ≡ singles (homes_code k vars)
homes_singles k [] = refl
homes_singles k (var ∷ vars) =
    ap (λ xs. xs ++ loads_homes (k + 1) vars) (load_singles (18 + k) 2 (slot_place var))
    ∙ ap (λ xs. singles (load_code (18 + k) 2 (slot_place var)) ++ xs) (homes_singles (k + 1) vars)
    ∙ sym (singles_append (load_code (18 + k) 2 (slot_place var)) (homes_code (k + 1) vars))

abbrev pub behind_frame : List ℕ → List Ins
behind_frame vars = Ins.Sd 2 1 (pos 0) ∷ (save_code 0 vars ++ homes_code 0 vars)

abbrev pub enter_code : LirBody → List Ins
enter_code body =
    Ins.Lui 0 body.frame ∷ (take_code body.frame ++ behind_frame (take home_count body.vars))

enter_singles : (body : LirBody) → enters body ≡ singles (enter_code body)
enter_singles body =
    let vars : List ℕ = take home_count body.vars in
    ap (λ xs. Single (Ins.Lui 0 body.frame) ∷ (xs ++ Single (Ins.Sd 2 1 (pos return_at))
    ∷ (saves_homes 0 vars ++ loads_homes 0 vars))) (take_singles body.frame)
    ∙ ap (λ xs. Single (Ins.Lui 0 body.frame) ∷ (singles (take_code body.frame) ++ Single (Ins.Sd 2 1 (pos 0))
    ∷ (xs ++ loads_homes 0 vars))) (save_singles 0 vars)
    ∙ ap (λ xs. Single (Ins.Lui 0 body.frame) ∷ (singles (take_code body.frame) ++ Single (Ins.Sd 2 1 (pos 0))
    ∷ (singles (save_code 0 vars) ++ xs))) (homes_singles 0 vars)
    ∙ ap (λ xs. Single (Ins.Lui 0 body.frame) ∷ (singles (take_code body.frame) ++ Single (Ins.Sd 2 1 (pos 0)) ∷ xs))
    (sym (singles_append (save_code 0 vars) (homes_code 0 vars)))
    ∙ ap (λ xs. Single (Ins.Lui 0 body.frame) ∷ xs) (sym (singles_append (take_code body.frame) (behind_frame vars)))

-- ---- the frame

pub difference : (x bytes : ℕ) → bytes ≤ x → x < 2 ^ 64 → low_bits 64 (pos x -ℤ pos bytes) ≡ x - bytes
difference x bytes h fits =
    let e : pos x -ℤ pos bytes ≡ pos (x - bytes) = omega (arith, ints, h) in
    ap (low_bits 64) e ∙ omega (arith, fits)

difference_by_sum : (x bytes : ℕ) → bytes ≤ x → x < 2 ^ 64
    → low_bits 64 (pos x +ℤ (pos 0 -ℤ pos bytes)) ≡ x - bytes
difference_by_sum x bytes h fits =
    let e : pos x +ℤ (pos 0 -ℤ pos bytes) ≡ pos (x - bytes) = omega (arith, ints, h) in
    ap (low_bits 64) e ∙ omega (arith, fits)

took_frame : (address : ℕ) (code : List Ins) (k bytes x : ℕ) (m : MachineState) → CodeAt address code m
    → m.pc ≡ address + 4 * k → BlockAt code k (take_code bytes) → AllLegal (take_code bytes) → register m 2 ≡ x
    → x < 2 ^ 64 → bytes ≤ x → bytes ≤ 65536 → HasRegisters m
    → Got address code (k + length (take_code bytes)) 3 2 (x - bytes) m
took_frame address code k bytes x m at pc there legal is fits h few has = by (is_near bytes) there legal
  where
    by : (b : Bool) → BlockAt code k (take_by b bytes) → AllLegal (take_by b bytes)
        → Got address code (k + length (take_by b bytes)) 3 2 (x - bytes) m
    by true there legal =
        got_at address code (k + 1) (k + 1) 1 3 2 (x - bytes) m refl (omega arith)
        (got_once address code k (Ins.Addi 2 2 (pos 0 -ℤ pos bytes)) 2 (x - bytes) m at pc there.0 legal.0
        (λ streams. ap (λ v. Running (given 2 v m) streams)
        (ap (λ y. low_bits 64 (pos y +ℤ (pos 0 -ℤ pos bytes))) is ∙ difference_by_sum x bytes h fits))
        (omega arith) (omega arith) (omega (arith, fits)) has)
    by false there legal =
        let c : List Ins = constant_code 28 bytes in
        let parts = block_parts code k c (Ins.Sub 2 2 28 ∷ []) there in
        let lawful = legal_parts c (Ins.Sub 2 2 28 ∷ []) legal in
        let short : length c ≤ 2 = constant_short 28 bytes (omega (arith, few)) in
        let first : Got address code (k + length c) (length c) 28 bytes m =
        got_constant address code k 28 bytes m at pc parts.0 lawful.0 (omega arith) (omega arith) (omega (arith, few))
        has
        in
        let x2 : register first.new 2 ≡ x = first.others 2 (λ e. omega (arith, e)) (λ e. omega (arith, e)) ∙ is in
        let second : Got address code (k + length c + 1) 1 2 (x - bytes) first.new =
        got_once address code (k + length c) (Ins.Sub 2 2 28) 2 (x - bytes) first.new first.goes.code_at first.goes.pc
        parts.1.0 lawful.1.0
        (λ streams. ap (λ v. Running (given 2 v first.new) streams)
        (ap (λ y. low_bits 64 (pos y -ℤ pos (register first.new 28))) x2
        ∙ ap (λ y. low_bits 64 (pos x -ℤ pos y)) first.has ∙ difference x bytes h fits))
        (omega arith) (omega arith) (omega (arith, fits)) first.registers in
        let size : length (c ++ Ins.Sub 2 2 28 ∷ []) ≡ length c + 1 = length-append c (Ins.Sub 2 2 28 ∷ []) in
        got_at address code (k + length c + 1) (k + length (c ++ Ins.Sub 2 2 28 ∷ [])) (length c + 1) 3 2 (x - bytes) m
        (omega (arith, size)) (omega (arith, short))
        (got_through address code (k + length c) (k + length c + 1) (length c) 1 28 bytes 2 (x - bytes) m first second
        (inl refl))

-- ---- a word of the frame's fixed bytes is written

-- The machine is in the program's code, and its frame's fixed words may be written.
pub record MayPut (placing : Placing) (address : ℕ) (code : List Ins) (a : ℕ) : Type 0 where
  pub low : placing.lowest_data ≤ a
  pub high : a + 72 ≤ placing.lowest_data + data_bytes placing
  pub fits : a + 72 ≤ 2 ^ 64
  pub code_below : address + 4 * length code ≤ placing.lowest_data

pub record PutFixed (placing : Placing) (address : ℕ) (code : List Ins) (place p value : ℕ) (m : MachineState)
    : Type 0 where
  pub new : MachineState
  pub goes : Goes address code place 1 m new
  pub registers : new.registers ≡ m.registers
  pub written : Number new p 8 value
  pub keeps : Keeps p (p + 8) m new
  pub program : HasProgram placing new

put_fixed : (placing : Placing) (address : ℕ) (code : List Ins) (place a offset r : ℕ) (m : MachineState)
    → IsPlacing placing → HasProgram placing m → MayPut placing address code a → CodeAt address code m
    → m.pc ≡ address + 4 * place → slice_get code place ≡ Some (Ins.Sd 2 r (pos offset)) → IsLegal (Ins.Sd 2 r (pos
    offset))
    → register m 2 ≡ a → offset + 8 ≤ 72 → PutFixed placing address code (place + 1) (a + offset) (register m r) m
put_fixed placing address code place a offset r m is has may at pc there legal frame few =
    let low : placing.lowest_data ≤ a = may.low in
    let high : a + 72 ≤ placing.lowest_data + data_bytes placing = may.high in
    let fits : a + 72 ≤ 2 ^ 64 = may.fits in
    let below : address + 4 * length code ≤ placing.lowest_data = may.code_below in
    let value : ℕ = register m r in
    let p : ℕ = a + offset in
    let size : length (little_bytes 8 value) ≡ 8 = length-bytes_low_first 0 8 value in
    let sum : low_bits 64 (pos (register m 2) +ℤ pos offset) ≡ p =
    ap (λ x. low_bits 64 (pos x +ℤ pos offset)) frame ∙ sum_of a offset (omega (arith, fits, few)) in
    let write : MayWrite m p 8 =
    allowed_within (λ s. s.write) placing.lowest_data (data_bytes placing) p 8 m.segments (omega (arith, low))
    (omega (arith, high, few)) has.write in
    let q : Put address code place p (little_bytes 8 value) m =
    goes_put address code place (Ins.Sd 2 r (pos offset)) 8 p value m at pc there legal
    (λ streams. ap (λ x. stores m 8 x value streams) sum) write (inr (omega (arith, below, low))) size in
    record {
      new = q.new;
      goes = q.goes;
      registers = q.registers;
      written = q.writes.written;
      keeps = keeps_written p (p + 8) p (little_bytes 8 value) m q.new q.writes (omega arith) (omega (arith, size));
      program = program_written placing m q.new p (little_bytes 8 value) is has q.writes (omega (arith, low))
          (bytes_small 0 8 value);
    }

-- ---- homes are saved

pub record SavedHomes (placing : Placing) (address : ℕ) (code : List Ins) (place a k n : ℕ) (m : MachineState)
    : Type 0 where
  pub new : MachineState
  pub goes : Goes address code place n m new
  pub registers : new.registers ≡ m.registers
  pub words : (j : ℕ) → j < n → Number new (a + 8 + 8 * (k + j)) 8 (register m (18 + (k + j)))
  pub keeps : Keeps (a + 8 + 8 * k) (a + 72) m new
  pub program : HasProgram placing new

saved_homes : (placing : Placing) (address : ℕ) (code : List Ins) (place a k : ℕ) (vars : List ℕ) (m : MachineState)
    → IsPlacing placing → HasProgram placing m → MayPut placing address code a → CodeAt address code m
    → m.pc ≡ address + 4 * place → BlockAt code place (save_code k vars) → AllLegal (save_code k vars)
    → register m 2 ≡ a → k + length vars ≤ 8
    → SavedHomes placing address code (place + length (save_code k vars)) a k (length vars) m
saved_homes placing address code place a k [] m is has may at pc there legal frame few =
    let here : place ≡ place + 0 = omega arith in
    record {
      new = m;
      goes = subst (λ p. Goes address code p 0 m m) here (goes_nowhere address code place m at pc);
      registers = refl;
      words = λ j h. absurd (omega (arith, h));
      keeps = keeps_all (a + 8 + 8 * k) (a + 72) m m refl has.segments;
      program = has;
    }
saved_homes placing address code place a k (var ∷ vars) m is has may at pc there legal frame few =
    let place_is : a + (8 + 8 * k) ≡ a + 8 + 8 * (k + 0) = omega arith in
    let first = put_fixed placing address code place a (8 + 8 * k) (18 + k) m is has may at pc there.0 legal.0 frame
    (omega (arith, few)) in
    let rest : SavedHomes placing address code (place + 1 + length (save_code (k + 1) vars)) a (k + 1) (length vars)
    first.new =
    saved_homes placing address code (place + 1) a (k + 1) vars first.new is first.program may first.goes.code_at
    first.goes.pc there.1 legal.1 (ap (λ rs. slice_index rs 2) first.registers ∙ frame) (omega (arith, few)) in
    let end : place + 1 + length (save_code (k + 1) vars) ≡ place + suc (length (save_code (k + 1) vars)) = omega arith
    in
    let count : 1 + length vars ≡ suc (length vars) = omega arith in
    let number : ℕ = register m (18 + k) in
    let own : Number rest.new (a + (8 + 8 * k)) 8 number =
    rest.keeps.kept (a + (8 + 8 * k)) (little_bytes 8 number)
    (inl (omega (arith, length-bytes_low_first 0 8 number))) first.written in
    let same : k ≡ k + 0 = omega arith in
    let here : Number rest.new (a + 8 + 8 * (k + 0)) 8 (register m (18 + (k + 0))) =
    subst (λ i. Number rest.new (a + 8 + 8 * (k + 0)) 8 (register m (18 + i))) same
    (subst (λ p. Number rest.new p 8 number) place_is own) in
    record {
      new = rest.new;
      goes = subst (λ n. Goes address code (place + suc (length (save_code (k + 1) vars))) n m rest.new) count
          (subst (λ p. Goes address code p (1 + length vars) m rest.new) end
          (goes_on address code (place + 1) (place + 1 + length (save_code (k + 1) vars)) 1 (length vars) m first.new
          rest.new first.goes rest.goes));
      registers = rest.registers ∙ first.registers;
      words = each first.new rest.new first.registers rest.words here;
      keeps = keeps_then (a + 8 + 8 * k) (a + 72) m first.new rest.new
          (keeps_more (a + (8 + 8 * k)) (a + (8 + 8 * k) + 8) (a + 8 + 8 * k) (a + 72) m first.new (omega arith)
          (omega (arith, few)) first.keeps)
          (keeps_more (a + 8 + 8 * (k + 1)) (a + 72) (a + 8 + 8 * k) (a + 72) first.new rest.new (omega arith)
          (omega arith) rest.keeps);
      program = rest.program;
    }
  where
    each : (first new : MachineState) → first.registers ≡ m.registers
        → ((j : ℕ) → j < length vars → Number new (a + 8 + 8 * ((k + 1) + j)) 8 (register first (18 + ((k + 1) + j))))
        → Number new (a + 8 + 8 * (k + 0)) 8 (register m (18 + (k + 0)))
        → (j : ℕ) → j < suc (length vars) → Number new (a + 8 + 8 * (k + j)) 8 (register m (18 + (k + j)))
    each first new registers others here zero h = here
    each first new registers others here (suc j) h =
        let sum : (k + 1) + j ≡ k + suc j = omega arith in
        subst (λ i. Number new (a + 8 + 8 * i) 8 (register m (18 + i))) sum
        (subst (λ v. Number new (a + 8 + 8 * ((k + 1) + j)) 8 v)
        (ap (λ rs. slice_index rs (18 + ((k + 1) + j))) registers) (others j (omega (arith, h))))

-- ---- homes are loaded

abbrev pub AllFit : ℕ → List ℕ → Type 0
AllFit frame [] = Unit {0}
AllFit frame (var ∷ vars) = (slot_place var + 8 ≤ frame) × AllFit frame vars

pub record LoadedHomes (address : ℕ) (code : List Ins) (place a r : ℕ) (vars : List ℕ) (m : MachineState)
    : Type 0 where
  pub new : MachineState
  pub count : ℕ
  pub few : count ≤ 4 * length vars
  pub goes : Goes address code place count m new
  pub has : (slot q : ℕ) → home_among r vars slot ≡ Some q → register new q ≡ word_at m (a + slot_place slot)
  pub others : (q : ℕ) → (q < r) ⊎ (r + length vars ≤ q) → (q ≡ 28 → ⊥) → register new q ≡ register m q
  pub registers : HasRegisters new
  pub memory : new.segments ≡ m.segments

same_of : (x y : ℕ) → (x == y) ≡ true → x ≡ y
same_of x y t = grind (arith, nat_tests)

loaded_homes : (placing : Placing) (body : LirBody) (address : ℕ) (code : List Ins) (place a k r : ℕ) (vars : List ℕ)
    (m : MachineState) → IsPlacing placing → HasProgram placing m → HasRoom placing a body → AllFit body.frame vars
    → CodeAt address code m → m.pc ≡ address + 4 * place → BlockAt code place (homes_code k vars)
    → AllLegal (homes_code k vars) → register m 2 ≡ a → r ≡ 18 + k → k + length vars ≤ 8 → HasRegisters m
    → LoadedHomes address code (place + length (homes_code k vars)) a r vars m
loaded_homes placing body address code place a k r [] m is has room fit at pc there legal frame r_is few registers =
    let here : place ≡ place + 0 = omega arith in
    record {
      new = m;
      count = 0;
      few = omega arith;
      goes = subst (λ p. Goes address code p 0 m m) here (goes_nowhere address code place m at pc);
      has = λ slot q e. cc;
      others = λ q apart ne. refl;
      registers = registers;
      memory = refl;
    }
loaded_homes placing body address code place a k r (var ∷ vars) m is has room fit at pc there legal frame r_is few
    registers =
    let own : List Ins = load_code (18 + k) 2 (slot_place var) in
    let others : List Ins = homes_code (k + 1) vars in
    let parts = block_parts code place own others there in
    let lawful = legal_parts own others legal in
    let x : ℕ = a + slot_place var in
    let ends : slot_place var + 8 ≤ body.frame = fit.0 in
    let most : body.frame ≤ 65536 = body.frame_size.greatest in
    let top : a + body.frame + 128 ≤ addresses = below_all placing a body is room in
    let may : MayRead m x 8 = may_read placing m a body x 8 is has room (omega arith) (omega (arith, ends)) in
    let inside = in_data placing a body x 8 is room (omega arith) (omega (arith, ends)) in
    let small : word_at m x < 2 ^ 64 = word_small placing m x has inside.0 inside.1 in
    let g : Got address code (place + length own) (length own) (18 + k) (word_at m x) m =
    got_word address code place (18 + k) 2 (slot_place var) a (word_at m x) m at pc parts.0 lawful.0 (omega arith)
    (omega (arith, few)) (λ e. omega (arith, e)) frame (omega (arith, top, ends)) may refl small registers in
    let short : length own ≤ 4 = load_short (18 + k) 2 (slot_place var) (omega (arith, ends, most)) in
    let rest : LoadedHomes address code (place + length own + length others) a (r + 1) vars g.new =
    loaded_homes placing body address code (place + length own) a (k + 1) (r + 1) vars g.new is
    (program_same placing m g.new g.memory has) room fit.1 g.goes.code_at g.goes.pc parts.1 lawful.1
    (g.others 2 (λ e. omega (arith, e)) (λ e. omega (arith, e)) ∙ frame) (omega (arith, r_is)) (omega (arith, few))
    g.registers in
    let end : place + length own + length others ≡ place + length (own ++ others) =
    omega (arith, length-append own others) in
    let few' : g.count ≤ length own = g.few in
    let few'' : rest.count ≤ 4 * length vars = rest.few in
    record {
      new = rest.new;
      count = g.count + rest.count;
      few = omega (arith, few', few'', short);
      goes = subst (λ p. Goes address code p (g.count + rest.count) m rest.new) end
          (goes_on address code (place + length own) (place + length own + length others) g.count rest.count m g.new
          rest.new g.goes rest.goes);
      has = λ slot q e. by g.new rest.new g.memory (subst (λ i. register g.new i ≡ word_at m x) (sym r_is) g.has)
          (rest.others r (inl (omega arith)) (λ e'. omega (arith, e', r_is, few))) rest.has slot q (var == slot) refl e;
      others = λ q apart ne. rest.others q (wider q apart) ne ∙ g.others q (another q apart) ne;
      registers = rest.registers;
      memory = rest.memory ∙ g.memory;
    }
  where
    wider : (q : ℕ) → (q < r) ⊎ (r + suc (length vars) ≤ q) → (q < r + 1) ⊎ (r + 1 + length vars ≤ q)
    wider q (inl low) = inl (omega (arith, low))
    wider q (inr high) = inr (omega (arith, high))

    another : (q : ℕ) → (q < r) ⊎ (r + suc (length vars) ≤ q) → q ≡ 18 + k → ⊥
    another q (inl low) e = omega (arith, low, e, r_is)
    another q (inr high) e = omega (arith, high, e, r_is)

    by : (first new : MachineState) → first.segments ≡ m.segments → register first r ≡ word_at m (a + slot_place var)
        → register new r ≡ register first r
        → ((slot q : ℕ) → home_among (r + 1) vars slot ≡ Some q → register new q ≡ word_at first (a + slot_place slot))
        → (slot q : ℕ) (b : Bool) → (var == slot) ≡ b
        → cond b (Some r) (home_among (r + 1) vars slot) ≡ Some q → register new q ≡ word_at m (a + slot_place slot)
    by first new memory mine kept others slot q true t e =
        let which : r ≡ q = cc in
        let same : var ≡ slot = same_of var slot t in
        subst (λ i. register new i ≡ word_at m (a + slot_place slot)) which
        (kept ∙ mine ∙ ap (λ v. word_at m (a + slot_place v)) same)
    by first new memory mine kept others slot q false t e =
        others slot q e ∙ word_same m first (a + slot_place slot) memory

-- ---- all of it

-- the variables of a sound body lie in its frame
all_fit : (frame count : ℕ) (vars : List ℕ) → list_all (λ slot. lies_in_frame frame (word slot)) vars ≡ true
    → AllFit frame (take count vars)
all_fit frame zero vars e = tt
all_fit frame (suc count) [] e = tt
all_fit frame (suc count) (var ∷ vars) e = (
  leb-true (128 + 8 * var + 8) frame
      (first_of (lies_in_frame frame (word var)) (list_all (λ slot. lies_in_frame frame (word slot)) vars) e),
  all_fit frame count vars
      (second_of (lies_in_frame frame (word var)) (list_all (λ slot. lies_in_frame frame (word slot)) vars) e),
)

pub vars_fit : (body : LirBody) → is_sound body ≡ true → AllFit body.frame (take home_count body.vars)
vars_fit body sound =
    let slots : vars_are_slots body ≡ true =
    second_of (ops_are_sound body && marks_are_places body) (vars_are_slots body) sound in
    all_fit body.frame home_count body.vars
    (first_of (list_all (λ slot. lies_in_frame body.frame (word slot)) body.vars) (are_distinct body.vars) slots)

-- The machine is at the first operation of the body, in its frame.
pub record Entered (placing : Placing) (begin : ℕ) (body : LirBody) (a : ℕ) (m : MachineState) : Type 0 where
  pub new : MachineState
  pub count : ℕ
  pub some : 0 < count
  pub few : count ≤ 45
  pub goes : Goes begin (linked placing.program begin body) (first_size body) count m new
  pub frame : register new 2 ≡ a
  pub back : word_at new (a + return_at) ≡ register m 1
  pub saves : (j : ℕ) → j < homes_of body → word_at new (a + homes_at + 8 * j) ≡ register m (18 + j)
  pub homes : (slot r : ℕ) → home body.vars slot ≡ Some r → register new r ≡ word_at new (a + slot_place slot)
  pub others : (j : ℕ) → homes_of body ≤ j → j < 8 → register new (18 + j) ≡ register m (18 + j)
  pub lowest : register new 26 ≡ register m 26
  pub heap : register new 27 ≡ register m 27
  pub registers : HasRegisters new
  pub program : HasProgram placing new
  pub keeps : Keeps a (a + 72) m new

-- the code of the body begins with these instructions
pub enter_block : (placing : Placing) (item begin : ℕ) (body : LirBody) → IsBodyPlaced placing begin item body
    → BlockAt (linked placing.program begin body) 0 (enter_code body) × AllLegal (enter_code body)
unfolding lines_of
enter_block placing item begin body placed =
    let program : WordProgram = placing.program in
    let first : List Line = enters body in
    let ops : List Line = ops_lines body body.ops in
    let places : List ℕ = places_in (lines_of body) in
    let behind : List Ins =
    linked_from program begin (far_of body) places (0 + longest_of first) (0 + size_of (far_of body) 0 first) ops in
    let own : linked_from program begin (far_of body) places 0 0 first ≡ enter_code body =
    ap (linked_from program begin (far_of body) places 0 0) (enter_singles body)
    ∙ code_of_singles program begin body 0 0 (enter_code body) in
    let split : linked program begin body ≡ enter_code body ++ behind =
    linked_by_lines program begin body ∙ linked_append program begin (far_of body) places 0 0 first ops
    ∙ ap (λ xs. xs ++ behind) own in (
      block_at [] (enter_code body) behind (linked program begin body) 0 split refl,
      (legal_parts (enter_code body) behind (subst AllLegal split (linked_legal program begin body placed.legal))).0,
    )

pub entered : (placing : Placing) (item begin : ℕ) (body : LirBody) (a : ℕ) (m : MachineState) → IsPlacing placing
    → placing.program.item_at begin ≡ Some item → placing.program.body_of item ≡ Some body → HasProgram placing m
    → HasRegisters m → m.pc ≡ begin → HasRoom placing a body → register m 2 ≡ a + body.frame
    → Entered placing begin body a m
entered placing item begin body a m is item_there body_there has registers pc room top = record {
  new = e.new;
  count = 1 + (t.count + (1 + (length vars + e.count)));
  some = omega arith;
  few = omega (arith, t.few, e.few, few_vars);
  goes = subst (λ p. Goes begin code p (1 + (t.count + (1 + (length vars + e.count)))) m e.new) end
      (goes_on begin code (0 + 1) k5 1 (t.count + (1 + (length vars + e.count))) m m1 e.new lui
      (goes_on begin code k2 k5 t.count (1 + (length vars + e.count)) m1 t.new e.new t.goes
      (goes_on begin code k3 k5 1 (length vars + e.count) t.new s.new e.new s.goes
      (goes_on begin code k4 k5 (length vars) e.count s.new h.new e.new h.goes e.goes))));
  frame = e.others 2 (inl (omega arith)) (λ q. omega (arith, q)) ∙ frame_4;
  back = word_same h.new e.new (a + 0) e.memory ∙ back_there;
  saves = λ j less. word_same h.new e.new (a + 8 + 8 * j) e.memory ∙ saved_there j less;
  homes = λ slot r is_home. e.has slot r is_home ∙ sym (word_same h.new e.new (a + slot_place slot) e.memory);
  others = λ j low high. e.others (18 + j) (inr (omega (arith, low))) (λ q. omega (arith, q, high)) ∙ kept_4 (18 + j)
      (λ q. omega (arith, q)) (λ q. omega (arith, q, high));
  lowest = e.others 26 (inr (omega (arith, few_vars))) (λ q. omega (arith, q)) ∙ kept_4 26 (λ q. omega (arith, q))
      (λ q. omega (arith, q));
  heap = e.others 27 (inr (omega (arith, few_vars))) (λ q. omega (arith, q)) ∙ kept_4 27 (λ q. omega (arith, q))
      (λ q. omega (arith, q));
  registers = e.registers;
  program = program_same placing h.new e.new e.memory h.program;
  keeps = keeps_then a (a + 72) m s.new e.new keeps_s
      (keeps_then a (a + 72) s.new h.new e.new
      (keeps_more (a + 8 + 8 * 0) (a + 72) a (a + 72) s.new h.new (omega arith) (omega arith) h.keeps)
      (keeps_all a (a + 72) h.new e.new e.memory h.program.segments));
}
  where
    program : WordProgram
    program = placing.program

    code : List Ins
    code = linked program begin body

    vars : List ℕ
    vars = take home_count body.vars

    few_vars : length vars ≤ 8
    few_vars = omega (arith, length-take 8 body.vars)

    placed : IsBodyPlaced placing begin item body
    placed = is.bodies item begin body item_there body_there

    at : CodeAt begin code m
    at = has.code item begin body item_there body_there

    blocks : BlockAt code 0 (enter_code body) × AllLegal (enter_code body)
    blocks = enter_block placing item begin body placed

    most : body.frame ≤ 65536
    most = body.frame_size.greatest

    least : 192 ≤ body.frame
    least = body.frame_size.least

    below : a + body.frame + 128 ≤ addresses
    below = below_all placing a body is room

    may : MayPut placing begin code a
    may =
        let inside = in_data placing a body a 72 is room (omega arith) (omega (arith, least)) in
        let code_below : begin + 4 * length (code_of body) ≤ placing.lowest_data = placed.below_data in
        record {
          low = inside.0;
          high = inside.1;
          fits = omega (arith, below, least);
          code_below = omega (arith, code_below, linked_length program begin body);
        }

    v : ℕ
    v = low_word (pos (body.frame * 2 ^ 12))

    m1 : MachineState
    m1 = given 0 v m

    lui : Goes begin code (0 + 1) 1 m m1
    lui = goes_given begin code 0 (Ins.Lui 0 body.frame) 0 v m at (omega (arith, pc)) blocks.0.0 blocks.1.0
        (λ streams. refl)

    has_1 : HasRegisters m1
    has_1 = same_registers m m1 refl registers

    ptake : BlockAt code (0 + 1) (take_code body.frame)
        × BlockAt code ((0 + 1) + length (take_code body.frame)) (behind_frame vars)
    ptake = block_parts code (0 + 1) (take_code body.frame) (behind_frame vars) blocks.0.1

    ltake : AllLegal (take_code body.frame) × AllLegal (behind_frame vars)
    ltake = legal_parts (take_code body.frame) (behind_frame vars) blocks.1.1

    back_to : a + body.frame - body.frame ≡ a
    back_to = omega arith

    k2 : ℕ
    k2 = (0 + 1) + length (take_code body.frame)

    t : Got begin code k2 3 2 a m1
    t =
        subst (λ n. Got begin code k2 3 2 n m1) back_to
        (took_frame begin code (0 + 1) body.frame (a + body.frame) m1 lui.code_at lui.pc ptake.0 ltake.0 top
        (omega (arith, below)) (omega arith) most has_1)

    program_t : HasProgram placing t.new
    program_t = program_same placing m t.new t.memory has

    k3 : ℕ
    k3 = k2 + 1

    s : PutFixed placing begin code k3 (a + 0) (register t.new 1) t.new
    s =
        put_fixed placing begin code k2 a 0 1 t.new is program_t may t.goes.code_at t.goes.pc ptake.1.0 ltake.1.0 t.has
        (omega arith)

    psave : BlockAt code k3 (save_code 0 vars) × BlockAt code (k3 + length (save_code 0 vars)) (homes_code 0 vars)
    psave = block_parts code k3 (save_code 0 vars) (homes_code 0 vars) ptake.1.1

    lsave : AllLegal (save_code 0 vars) × AllLegal (homes_code 0 vars)
    lsave = legal_parts (save_code 0 vars) (homes_code 0 vars) ltake.1.1

    frame_s : register s.new 2 ≡ a
    frame_s = ap (λ rs. slice_index rs 2) s.registers ∙ t.has

    k4 : ℕ
    k4 = k3 + length (save_code 0 vars)

    h : SavedHomes placing begin code k4 a 0 (length vars) s.new
    h =
        saved_homes placing begin code k3 a 0 vars s.new is s.program may s.goes.code_at s.goes.pc psave.0 lsave.0
        frame_s (omega (arith, few_vars))

    frame_4 : register h.new 2 ≡ a
    frame_4 = ap (λ rs. slice_index rs 2) h.registers ∙ frame_s

    k5 : ℕ
    k5 = k4 + length (homes_code 0 vars)

    has_4 : HasRegisters h.new
    has_4 = same_registers t.new h.new (h.registers ∙ s.registers) t.registers

    e : LoadedHomes begin code k5 a 18 vars h.new
    e =
        loaded_homes placing body begin code k4 a 0 18 vars h.new is h.program room
        (vars_fit body (is.laid_out.sound item body body_there)) h.goes.code_at h.goes.pc psave.1 lsave.1 frame_4 refl
        (omega (arith, few_vars)) has_4

    kept_4 : (q : ℕ) → (q ≡ 2 → ⊥) → (q ≡ 28 → ⊥) → register h.new q ≡ register m q
    kept_4 q ne ne' =
        ap (λ rs. slice_index rs q) (h.registers ∙ s.registers) ∙ t.others q ne ne'

    keeps_s : Keeps a (a + 72) m s.new
    keeps_s =
        keeps_then a (a + 72) m t.new s.new (keeps_all a (a + 72) m t.new t.memory has.segments)
        (keeps_more (a + 0) (a + 0 + 8) a (a + 72) t.new s.new (omega arith) (omega arith) s.keeps)

    x1 : register t.new 1 ≡ register m 1
    x1 = t.others 1 (λ q. omega (arith, q)) (λ q. omega (arith, q))

    back_there : word_at h.new (a + 0) ≡ register m 1
    back_there =
        word_back h.new (a + 0) (register t.new 1) (register_fits 1 t.new (omega arith) t.registers)
        (h.keeps.kept (a + 0) (little_bytes 8 (register t.new 1))
        (inl (omega (arith, length-bytes_low_first 0 8 (register t.new 1)))) s.written)
        ∙ x1

    saved_there : (j : ℕ) → j < length vars → word_at h.new (a + 8 + 8 * j) ≡ register m (18 + j)
    saved_there j less =
        let sum : 0 + j ≡ j = omega arith in
        let there : Number h.new (a + 8 + 8 * j) 8 (register s.new (18 + j)) =
        subst (λ i. Number h.new (a + 8 + 8 * i) 8 (register s.new (18 + i))) sum (h.words j less) in
        let same : register s.new (18 + j) ≡ register m (18 + j) =
        ap (λ rs. slice_index rs (18 + j)) s.registers
        ∙ t.others (18 + j) (λ q. omega (arith, q)) (λ q. omega (arith, q, less, few_vars)) in
        word_back h.new (a + 8 + 8 * j) (register s.new (18 + j))
        (register_fits (18 + j) s.new (omega (arith, less, few_vars)) (same_registers t.new s.new s.registers
        t.registers)) there
        ∙ same

    end : k5 ≡ first_size body
    end =
        let whole : size_of (far_of body) 0 (enters body) ≡ length (enter_code body) =
        ap (size_of (far_of body) 0) (enter_singles body) ∙ size_singles (far_of body) 0 (enter_code body) in
        let one : length (take_code body.frame ++ behind_frame vars)
        ≡ length (take_code body.frame) + length (behind_frame vars) =
        length-append (take_code body.frame) (behind_frame vars) in
        let two : length (save_code 0 vars ++ homes_code 0 vars)
        ≡ length (save_code 0 vars) + length (homes_code 0 vars) =
        length-append (save_code 0 vars) (homes_code 0 vars) in
        omega (arith, whole, one, two)

-- ---- the first operation of a body

-- where it begins
pub first_stop : (body : LirBody) → slice_get (stops_of body) 0 ≡ Some (first_size body)
first_stop body =
    let far : List ℕ = far_of body in
    let far_at : ℕ = 0 + longest_of (enters body) in
    let end : ℕ = first_size body + size_of far far_at (ops_lines body body.ops) in
    ap (λ stops. slice_get stops 0) (stops_are body (of_enters body))
    ∙ next_of body far far_at (first_size body) end body.ops
    (λ none. let nothing : size_of far far_at (ops_lines body body.ops) ≡ 0 =
    ap (λ ops. size_of far far_at (ops_lines body ops)) none in omega (arith, nothing))

first_within : (body : LirBody) → first_size body ≤ length (code_of body)
unfolding lines_of
first_within body =
    let far : List ℕ = far_of body in
    let whole : length (code_of body) ≡ size_of far 0 (lines_of body) =
    code_size far (places_in (lines_of body)) 0 0 (lines_of body) in
    let sizes : size_of far 0 (enters body ++ ops_lines body body.ops)
    ≡ size_of far 0 (enters body) + size_of far (0 + longest_of (enters body)) (ops_lines body body.ops) =
    size_append far 0 (enters body) (ops_lines body body.ops) in
    omega (arith, whole, sizes)

pub first_there : (placing : Placing) (item begin pc : ℕ) (body : LirBody) → IsPlacing placing
    → placing.program.item_at begin ≡ Some item → placing.program.body_of item ≡ Some body
    → pc ≡ begin + 4 * first_size body → stands_at placing pc ≡ Some (record { item = item; body = body; place = 0 })
first_there placing item begin pc body is item_there body_there there =
    let placed : IsBodyPlaced placing begin item body = is.bodies item begin body item_there body_there in
    let rises : Rises 1 (stops_of body) = stops_rise body (of_operation body) (of_enters body) in
    let some : 0 < first_size body = stop_above body 0 (first_size body) rises (first_stop body) in
    let within : first_size body ≤ length (code_of body) = first_within body in
    spot_at placing begin item (first_size body) 0 pc body
    (placed.mapped pc (omega (arith, there, some)) (omega (arith, there, within))) there
    (operation_begins body 0 (first_size body) rises (first_stop body))
