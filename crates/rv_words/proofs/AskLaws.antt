-- Routines of the runtime: the end of the program, a byte that is written, and a byte that is read.
use Rattle.std.proofs.Common.{◌≡◌, ◌∙◌, ◌⊎◌, inl, inr, ℕ, zero, suc, ◌+◌, ◌*◌, ◌%◌, ◌^◌, ◌<◌, ◌≤◌, pos, ◌+ℤ◌, ◌-ℤ◌}
use Rattle.std.proofs.Common.{Bool, true, false, cond, ◌==◌, List, [], ◌∷◌, ◌++◌, length, map, Option, Some, None, All}
use Rattle.std.proofs.Common.{arith, refl, ap, sym, subst, slice_get, slice_index, append-nil}
use Rattle.std.specs.Prelude.{unwrap_or}
use Rattle.std.specs.Int.{cast_signed, w32}
use Rattle.std.specs.List.{AllZip}
use Rattle.std.specs.Option.{option_and_then, option_map}
use Rattle.std.proofs.lemmas.Bool.Decides.{nat_tests}
use Rattle.byteorder.specs.Endian.{little_bytes}
use Rattle.num_core.specs.Bits.{low_bits}
use Rattle.num_core.specs.Run.{Ended, Run, Running, Stopped, Streams, after}
use Rattle.num_core.specs.declared.fix.FixKind.TheVariants.{Routine as ARoutine}
use Rattle.rv_isa.specs.declared.ins.Ins.{Ins}
use Rattle.rv_step.specs.Machine.{MachineState, machine_step, next_pc, register, without_bit_0}
use Rattle.rv_step.specs.Memory.{AreApart, Writes}
use Rattle.rv_code.specs.Code.{CodeAt, given}
use Rattle.rv_code.specs.Registers.{HasRegisters}
use Rattle.rv_code.proofs.Going.{code_in_same_memory, code_kept, next_place, steps_at, within}
use Rattle.lir_core.specs.Memory.{FlatMemory, cells_of, with_cells}
use Rattle.lir_core.specs.Pieces.{word}
use Rattle.lir_core.specs.Program.{Outcome, RoutineEffect, WordProgram, with}
use Rattle.lir_core.specs.Routines.{behind_first, ends_program, first_of, reads_byte, writes_byte}
use Rattle.lir_core.specs.Slots.{Here, gives, goes_on_with, memory_with, place_here, word_in, words_in}
use Rattle.lir_core.specs.State.{Frame, NoStep, WordCause, WordState}
use Rattle.lir_core.specs.Step.{does_routine, goes_on_by, with_result}
use Rattle.lir_core.specs.declared.body.LirBody.{LirBody}
use Rattle.lir_core.specs.declared.op.LirOp.{LirOp}
use Rattle.lir_core.specs.declared.op.LirOp.TheVariants.{Routine}
use Rattle.rt_code.specs.Code.{code_of as routine_code, lower, upper}
use Rattle.rt_code.specs.Conventions.{HasScratch, KeepsMemory, KeepsRegisters, kept_registers, scratch_at}
use Rattle.rt_code.specs.Effects.{ComesTo, EndsWithin, LeadsWithin, Returns, effects, number_of}
use Rattle.rt_code.specs.declared.routines.Routine.{Routine as RoutineOf}
use Rattle.rt_code.specs.declared.routines.Routine.TheVariants.{End, ReadByte, WriteByte}
use Rattle.rt_code.proofs.Machines.{then_steps, writes_between}
use Rattle.rt_code.proofs.Whole.{has_effect}
use Rattle.rv_lines.specs.Frame.{home}
use Rattle.rv_lines.specs.Operands.{gets_slot}
use Rattle.rv_lines.specs.declared.line.Line.{Line}
use Rattle.rv_gen.specs.Calling.{calls_routine, takes_word}
use Rattle.rv_gen.specs.Lines.{op_lines}
use Rattle.rv_gen.specs.Placing.{code_of}
use Rattle.rv_words.specs.Groups.{IsAt, IsFollowed}
use Rattle.rv_words.specs.Linked.{bits_between, linked}
use Rattle.rv_words.specs.Placing.{HasProgram, IsPlacing, Placing, reach}
use Rattle.rv_words.specs.Stands.{AreBytes, Follows, Related, Stands}
use Rattle.rv_words.specs.Stands.Related.{AtEnd, AtOperation}
use Rattle.rv_words.specs.Steps.{in_routine}
use Rattle.rv_words.specs.Words.{stands_at}
use Rattle.rv_words.proofs.Branches.{even_kept, far_is}
use Rattle.rv_words.proofs.Copied.{PastGot, kept_but, past_singles}
use Rattle.rv_words.proofs.Giving.{all_itself, size_of_cells}
use Rattle.rv_words.proofs.Got.{IsFree}
use Rattle.rv_words.proofs.Lines.{AtLines, at_equal, at_later, at_site}
use Rattle.rv_words.proofs.LinkedCode.{longest_of, size_append, size_of}
use Rattle.rv_words.proofs.MoveLaws.{gets_code, gets_singles, got_slot}
use Rattle.rv_words.proofs.Moved.{KeepsOwn, keeps_through, program_same, stands_moved}
use Rattle.rv_words.proofs.Operands.{Past}
use Rattle.rv_words.proofs.Places.{far_of}
use Rattle.rv_words.proofs.Reading.{SlotStands, room_here, slot_stands}
use Rattle.rv_words.proofs.Registers.{given_has, given_other, given_same, low_small}
use Rattle.rv_words.proofs.Room.{HasRoom, below_all, may_read, may_write}
use Rattle.rv_words.proofs.Scratched.{stands_scratched}
use Rattle.rv_words.proofs.Sites.{Site, followed_stuck, linked_length, site}
use Rattle.rv_words.proofs.Slotted.{bytes_small}
use Rattle.rv_words.proofs.Standing.{goes_on_at}
use Rattle.rv_words.proofs.Taking.{Landed, at_pc, landed_word, next_spot}

-- ---- on to the code of a routine

-- The machine has come there, with the address behind the call in x1.
record Asked (begin k target : ℕ) (m : MachineState) : Type 0 where
  new : MachineState
  runs : (streams : Streams) → after machine_step 2 (Running m streams) ≡ Running new streams
  pc : new.pc ≡ target
  back : register new 1 ≡ begin + 4 * (k + 2)
  others : (q : ℕ) → (q ≡ 1 → ⊥) → register new q ≡ register m q
  registers : HasRegisters new
  memory : new.segments ≡ m.segments

asked : (placing : Placing) → IsPlacing placing → (begin : ℕ) (body : LirBody) (far k number target : ℕ)
    (rest : List Line) (m : MachineState)
    → AtLines placing.program begin body far k (calls_routine number ++ rest) m
    → placing.program.address_of ARoutine number ≡ Some target → target % 4 ≡ 0 → begin + 4 * k < reach
    → Asked begin k target m
asked placing is begin body far k number target rest m at named even near =
    let code : List Ins = linked placing.program begin body in
    let from : ℕ = begin + 4 * k in
    let bits : ℕ = bits_between from (unwrap_or (placing.program.address_of ARoutine number) 0) in
    let bits_is : bits ≡ low_bits 32 (pos target -ℤ pos from) = ap (λ o. bits_between from (unwrap_or o 0)) named in
    let v : ℕ = low_bits 64 (pos m.pc +ℤ cast_signed w32 (upper bits * 2 ^ 12)) in
    let m1 : MachineState = given 1 v m in
    let at1 : CodeAt begin code m1 = code_in_same_memory begin code m m1 at.code_at refl in
    let pc1 : m1.pc ≡ begin + 4 * (k + 1) =
    next_place begin code k (Ins.Auipc 1 (upper bits)) m at.code_at at.pc at.block.0 in
    let has1 : HasRegisters m1 =
    given_has 1 v m (low_small (pos m.pc +ℤ cast_signed w32 (upper bits * 2 ^ 12))) at.registers in
    let x1 : register m1 1 ≡ v = given_same 1 v m (omega arith) (omega arith) at.registers in
    let whole : low_bits 64 (pos v +ℤ lower bits) ≡ target =
    ap (λ p. low_bits 64 (pos (low_bits 64 (pos p +ℤ cast_signed w32 (upper bits * 2 ^ 12))) +ℤ lower bits)) at.pc
    ∙ ap (λ b. low_bits 64 (pos (low_bits 64 (pos from +ℤ cast_signed w32 (upper b * 2 ^ 12))) +ℤ lower b)) bits_is
    ∙ far_is from target near (is.near ARoutine number target named) in
    let goes_there : without_bit_0 (low_bits 64 (pos (register m1 1) +ℤ lower bits)) ≡ target =
    ap (λ x. without_bit_0 (low_bits 64 (pos x +ℤ lower bits))) x1 ∙ ap without_bit_0 whole ∙ even_kept target even in
    let behind : next_pc m1 ≡ begin + 4 * (k + 1 + 1) =
    next_place begin code (k + 1) (Ins.Jalr 1 1 (lower bits)) m1 at1 pc1 at.block.1.0 in
    let inside : k + 1 < length code = within code (k + 1) (Ins.Jalr 1 1 (lower bits)) at.block.1.0 in
    let fits : begin + 4 * length code < 2 ^ 64 = at.code_at.fits in
    let small : next_pc m1 < 2 ^ 64 = omega (arith, behind, inside, fits) in
    let new : MachineState = record (given 1 (next_pc m1) m1) { pc = target } in
    let has2 : HasRegisters (given 1 (next_pc m1) m1) = given_has 1 (next_pc m1) m1 small has1 in
    let places : begin + 4 * (k + 1 + 1) ≡ begin + 4 * (k + 2) = omega arith in
    record {
      new = new;
      runs = λ ss. then_steps 1 1 (Running m ss) m1 ss (Running new ss)
          (steps_at begin code k (Ins.Auipc 1 (upper bits)) m ss at.code_at at.pc at.block.0 at.legal.0)
          (steps_at begin code (k + 1) (Ins.Jalr 1 1 (lower bits)) m1 ss at1 pc1 at.block.1.0 at.legal.1.0
          ∙ ap (λ p. Running (record (given 1 (next_pc m1) m1) { pc = p }) ss) goes_there);
      pc = refl;
      back = given_same 1 (next_pc m1) m1 (omega arith) (omega arith) has1 ∙ behind ∙ places;
      others = λ q ne. given_other 1 q (next_pc m1) m1 ne ∙ given_other 1 q v m ne;
      registers = record { count = has2.count; x0 = has2.x0; words = has2.words };
      memory = refl;
    }

-- ---- what a routine keeps

home_kept : (m new : MachineState) → KeepsRegisters m new → (k : ℕ) → k < 8
    → register new (18 + k) ≡ register m (18 + k)
home_kept m new kept zero h = ap (λ rs. slice_index rs 6) kept
home_kept m new kept (suc zero) h = ap (λ rs. slice_index rs 7) kept
home_kept m new kept (suc (suc zero)) h = ap (λ rs. slice_index rs 8) kept
home_kept m new kept (suc (suc (suc zero))) h = ap (λ rs. slice_index rs 9) kept
home_kept m new kept (suc (suc (suc (suc zero)))) h = ap (λ rs. slice_index rs 10) kept
home_kept m new kept (suc (suc (suc (suc (suc zero))))) h = ap (λ rs. slice_index rs 11) kept
home_kept m new kept (suc (suc (suc (suc (suc (suc zero)))))) h = ap (λ rs. slice_index rs 12) kept
home_kept m new kept (suc (suc (suc (suc (suc (suc (suc zero))))))) h = ap (λ rs. slice_index rs 13) kept
home_kept m new kept (suc (suc (suc (suc (suc (suc (suc (suc k)))))))) h = absurd (omega (arith, h))

own_kept : (m new : MachineState) → KeepsRegisters m new → KeepsOwn m new
own_kept m new kept = record {
  frame = ap (λ rs. slice_index rs 1) kept;
  homes = home_kept m new kept;
  lowest = ap (λ rs. slice_index rs 14) kept;
  heap = ap (λ rs. slice_index rs 15) kept;
}

asked_keeps : (m new : MachineState) → ((q : ℕ) → (q ≡ 1 → ⊥) → register new q ≡ register m q) → KeepsOwn m new
asked_keeps m new others = record {
  frame = others 2 (λ e. omega (arith, e));
  homes = λ k h. others (18 + k) (λ e. omega (arith, e));
  lowest = others 26 (λ e. omega (arith, e));
  heap = others 27 (λ e. omega (arith, e));
}

-- ---- the machine in the code of the routine

-- its code, and the bytes of the innermost frame that are there for it
record IsThere (placing : Placing) (which : RoutineOf) (begin back : ℕ) (m new : MachineState) : Type 0 where
  comes : ComesTo new.pc (routine_code which) new
  scratch : HasScratch (register new 2) new.pc (length (routine_code which)) new
  even : register new 1 % 2 ≡ 0
  back_is : register new 1 ≡ back
  keeps : KeepsOwn m new
  memory : new.segments ≡ m.segments

there_by : (placing : Placing) (here : Here) (operation : LirOp) (begin k target : ℕ) (which : RoutineOf)
    (m between : MachineState) → IsPlacing placing → IsAt placing here operation begin m
    → Site placing here operation begin m
    → placing.program.address_of ARoutine (number_of which) ≡ Some target
    → target + 4 * length (routine_code which) ≤ placing.lowest_data
    → KeepsOwn m between → between.segments ≡ m.segments → begin % 4 ≡ 0 → (a : Asked begin k target between)
    → IsThere placing which begin (begin + 4 * (k + 2)) m a.new
there_by placing here operation begin k target which m between is at s named below keeps memory even a =
    let body : LirBody = here.body in
    let new : MachineState = a.new in
    let same : new.segments ≡ m.segments = a.memory ∙ memory in
    let own : KeepsOwn m new = keeps_through m between new keeps (asked_keeps between new a.others) in
    let room : HasRoom placing here.frame.address body = room_here placing here operation begin m is at in
    let address : here.frame.address ≡ register m 2 = s.i.first.address in
    let size : 192 ≤ body.frame = body.frame_size.least in
    let top : here.frame.address + body.frame + 128 ≤ 2 ^ 64 = below_all placing here.frame.address body is room in
    let program : HasProgram placing new = program_same placing m new same at.stands.serves.memory in
    let x2 : register new 2 ≡ register m 2 = own.frame in
    let above : placing.program.heap_begin + placing.program.heap_bound ≤ here.frame.address = room.above in
    let behind : placing.lowest_data ≤ placing.program.heap_begin = is.heap_behind_data in
    record {
      comes = record {
        code_at = program.routines which new.pc (named ∙ ap Some (sym a.pc));
        registers = a.registers;
        pc = refl;
      };
      scratch = record {
        fits = omega (arith, x2, address, size, top);
        read = may_read placing new here.frame.address body (register new 2 + 96) 32 is program room
            (omega (arith, x2, address)) (omega (arith, x2, address, size));
        write = may_write placing new here.frame.address body (register new 2 + 96) 32 is program room
            (omega (arith, x2, address)) (omega (arith, x2, address, size));
        apart = inr (omega (arith, a.pc, below, above, behind, address, x2));
      };
      even = omega (arith, a.back, even);
      back_is = a.back;
      keeps = own;
      memory = same;
    }

-- ---- what the program gives

one_word : (here : Here) (arguments : List ℕ) (n : ℕ) → words_in here arguments ≡ Some (n ∷ [])
    → (slot : ℕ) × (arguments ≡ slot ∷ []) × (word_in here slot ≡ Some n)
one_word here [] n e = cc
one_word here (slot ∷ slots) n e = by (word_in here slot) refl (words_in here slots) refl e
  where
    none_left : (slots : List ℕ) → words_in here slots ≡ Some [] → slots ≡ []
    none_left [] e' = refl
    none_left (next ∷ slots) e' = absurd (by_first (word_in here next) (words_in here slots) e')
      where
        by_first : (a : Option ℕ) (b : Option (List ℕ))
            → option_and_then (λ first. option_map (λ others. first ∷ others) b) a ≡ Some [] → ⊥
        by_first None b e'' = cc
        by_first (Some first) None e'' = cc
        by_first (Some first) (Some others) e'' = cc

    by : (a : Option ℕ) → word_in here slot ≡ a → (b : Option (List ℕ)) → words_in here slots ≡ b
        → option_and_then (λ first. option_map (λ others. first ∷ others) b) a ≡ Some (n ∷ [])
        → (slot' : ℕ) × (slot ∷ slots ≡ slot' ∷ []) × (word_in here slot' ≡ Some n)
    by None ea b eb e' = cc
    by (Some first) ea None eb e' = cc
    by (Some first) ea (Some others) eb e' =
        let rest : others ≡ [] = cc in
        let first_is : first ≡ n = cc in
        (slot, ap (λ ss. slot ∷ ss) (none_left slots (eb ∙ ap Some rest)), ea ∙ ap Some first_is)

no_word : (here : Here) (arguments : List ℕ) → words_in here arguments ≡ Some [] → arguments ≡ []
no_word here [] e = refl
no_word here (slot ∷ slots) e = absurd (by (word_in here slot) (words_in here slots) e)
  where
    by : (a : Option ℕ) (b : Option (List ℕ))
        → option_and_then (λ first. option_map (λ others. first ∷ others) b) a ≡ Some [] → ⊥
    by None b e' = cc
    by (Some first) None e' = cc
    by (Some first) (Some others) e' = cc

-- ---- the argument comes to x10

free_10 : IsFree 10
free_10 = (λ e. omega (arith, e), λ k h e. omega (arith, h, e))

-- the lines of a routine that takes one word, of which the first give it
argument_lines : (vars : List ℕ) (slot : ℕ) (rest : List Line)
    → (gets_slot (home vars slot) 10 slot ++ []) ++ rest ≡ gets_slot (home vars slot) 10 slot ++ rest
argument_lines vars slot rest = ap (λ ls. ls ++ rest) (append-nil (gets_slot (home vars slot) 10 slot))

passed_one : (placing : Placing) (here : Here) (operation : LirOp) (begin slot n : ℕ) (rest : List Line)
    (m : MachineState) → IsAt placing here operation begin m → (s : Site placing here operation begin m)
    → op_lines here.body operation ≡ (gets_slot (home here.body.vars slot) 10 slot ++ []) ++ rest
    → SlotStands m here.body.vars slot n
    → PastGot placing.program begin here.body s.far_at s.k 4 10 n
    (gets_slot (home here.body.vars slot) 10 slot ++ rest) rest m
passed_one placing here operation begin slot n rest m at s lines l =
    let vars : List ℕ = here.body.vars in
    let xs : List Line = gets_slot (home vars slot) 10 slot in
    let code : List Ins = gets_code (home vars slot) 10 slot in
    past_singles placing.program begin here.body s.far_at s.k 4 10 n xs rest code m
    (at_equal placing.program begin here.body s.far_at s.k (op_lines here.body operation) (xs ++ rest) m
    (lines ∙ argument_lines vars slot rest) (at_site placing here operation begin m s at.stands.serves.registers))
    (gets_singles (home vars slot) 10 slot)
    (λ block legal. got_slot begin (linked placing.program begin here.body) s.k 10 slot n m (home vars slot) s.code_at
    s.pc block legal l.stands l.small l.fits l.near (omega arith) (omega arith) at.stands.serves.registers)

-- ---- the end of the program

ended_by : (placing : Placing) → IsPlacing placing → (slot status : ℕ) (result : Option ℕ) (here : Here) (begin : ℕ)
    (m : MachineState) (streams : Streams) → IsAt placing here (Routine 1 (slot ∷ []) result) begin m
    → word_in here slot ≡ Some status → Follows placing 12 m streams (Ended (status % 256) streams)
ended_by placing is slot status result here begin m streams at word_is =
    let operation : LirOp = Routine 1 (slot ∷ []) result in
    let s : Site placing here operation begin m = site placing here operation begin m is at in
    let rest : List Line = calls_routine 1 ++ takes_word here.body.vars result in
    let p = passed_one placing here operation begin slot status rest m at s refl
    (slot_stands placing here operation begin m slot status is at s word_is) in
    let w : MachineState = p.past.new in
    let r = is.routines End in
    let near : begin + 4 * length (code_of here.body) < reach = s.placed.near in
    let even : begin % 4 ≡ 0 = s.code_at.aligned in
    let target_even : r.0 % 4 ≡ 0 = (at.stands.serves.memory.routines End r.0 r.1).aligned in
    let inside : p.past.place < length (linked placing.program begin here.body) =
    within (linked placing.program begin here.body) p.past.place _ p.past.at.block.0 in
    let a : Asked begin p.past.place r.0 w =
    asked placing is begin here.body p.past.far p.past.place 1 r.0 (takes_word here.body.vars result) w p.past.at r.1
    target_even (omega (arith, near, inside, linked_length placing.program begin here.body)) in
    let t : IsThere placing End begin (begin + 4 * (p.past.place + 2)) m a.new =
    there_by placing here operation begin p.past.place r.0 End m w is at s r.1 r.2 (kept_but 10 m w free_10 p.others)
    p.memory even a in
    let e : EndsWithin 2 a.new streams (register a.new 10 % 256) streams = has_effect End a.new.pc a.new streams
    t.comes in
    let x10 : register a.new 10 ≡ status = a.others 10 (λ g. omega (arith, g)) ∙ p.has in
    let few : p.past.count ≤ 4 = p.past.few in
    let few' : e.count ≤ 2 = e.few in
    let ends : after machine_step (p.past.count + (2 + e.count)) (Running m streams) ≡ Ended (status % 256) streams =
    then_steps p.past.count (2 + e.count) (Running m streams) w streams (Ended (status % 256) streams)
    (p.past.goes.runs streams)
    (then_steps 2 e.count (Running w streams) a.new streams (Ended (status % 256) streams) (a.runs streams)
    (e.ends ∙ ap (λ x. Ended (x % 256) streams) x10)) in
    record {
      count = p.past.count + (2 + e.count);
      some = omega arith;
      few = omega (arith, few, few');
      related = subst (Related placing (Ended (status % 256) streams)) (sym ends) (AtEnd (status % 256) streams);
    }

-- ---- back behind the call

same_end : (a b : ℕ) → Some a ≡ Some b → a ≡ b
same_end a b e = cc

same_state : (state : WordState) (frame : Frame) (below : List Frame) → state.frames ≡ frame ∷ below
    → goes_on_at state frame below frame.place state.memory ≡ state
same_state state frame below e = ap (λ fs. record state { frames = fs }) (sym e)

-- The machine has come back, and stands as before at its operation, if its pc is set there.
record IsBack (placing : Placing) (here : Here) (operation : LirOp) (begin far k : ℕ) (result : Option ℕ)
    (m new : MachineState) : Type 0 where
  at_operation : IsAt placing here operation begin (at_pc m.pc new)
  at_rest : AtLines placing.program begin here.body far k (takes_word here.body.vars result) new

back_by : (placing : Placing) (here : Here) (operation : LirOp) (begin far k most target : ℕ) (which : RoutineOf)
    (result : Option ℕ) (m w called new : MachineState) (streams streams' : Streams) → IsPlacing placing
    → IsAt placing here operation begin m → (s : Site placing here operation begin m)
    → AtLines placing.program begin here.body far k
    (calls_routine (number_of which) ++ takes_word here.body.vars result) w
    → w.segments ≡ m.segments → IsThere placing which begin (begin + 4 * (k + 2)) m called
    → Returns most called streams new streams'
    → IsBack placing here operation begin (far + 2) (k + 2) result m new
back_by placing here operation begin far k most target which result m w called new streams streams' is at s at_call
    w_same t r =
    record {
      at_operation = record {
        program = at.program;
        frames = at.frames;
        body = at.body;
        operation_there = at.operation_there;
        around = at.around;
        stands = subst (λ st. Stands placing st v) (same_state here.state here.frame here.below at.frames) stands;
      };
      at_rest = at_later placing.program begin here.body far k (calls_routine (number_of which))
          (takes_word here.body.vars result) w new at_call code_at (r.pc ∙ t.back_is) r.within.registers;
    }
  where
    v : MachineState
    v = at_pc m.pc new

    bytes : List ℕ
    bytes = r.memory.bytes

    p : ℕ
    p = register m 2 + scratch_at

    writes : Writes p bytes m new
    writes =
        subst (λ x. Writes (x + scratch_at) bytes m new) t.keeps.frame
        (writes_between (register called 2 + scratch_at) bytes called m new new (sym t.memory) refl r.memory.writes)

    keeps : KeepsOwn m new
    keeps = keeps_through m called new t.keeps (own_kept called new r.kept)

    spot : stands_at placing v.pc ≡ Some (record {
      item = s.i.here.item;
      body = s.i.here.body;
      place =
          here.frame.place;
    })
    spot =
        s.i.is ∙ ap (λ n. Some (record { item = s.i.here.item; body = s.i.here.body; place = n })) (sym s.i.first.place)

    stands : Stands placing (goes_on_at here.state here.frame here.below here.frame.place here.state.memory) v
    stands =
        stands_scratched placing here.state m v here.frame here.below here.frame.place bytes is at.stands at.frames
        s.i spot
        (writes_between p bytes m m new v refl refl writes) r.memory.few r.memory.small
        (record { frame = keeps.frame; homes = keeps.homes; lowest = keeps.lowest; heap = keeps.heap })
        (record {
          count = r.within.registers.count;
          x0 = r.within.registers.x0;
          words = r.within.registers.words;
        })

    room : HasRoom placing here.frame.address here.body
    room = room_here placing here operation begin m is at

    apart : AreApart p (length bytes) begin (4 * length (linked placing.program begin here.body))
    apart =
        let below : begin + 4 * length (code_of here.body) ≤ placing.lowest_data = s.placed.below_data in
        let above : placing.program.heap_begin + placing.program.heap_bound ≤ here.frame.address = room.above in
        let behind : placing.lowest_data ≤ placing.program.heap_begin = is.heap_behind_data in
        let address : here.frame.address ≡ register m 2 = s.i.first.address in
        inr (omega (arith, below, above, behind, address, linked_length placing.program begin here.body))

    code_at : CodeAt begin (linked placing.program begin here.body) new
    code_at = code_kept begin (linked placing.program begin here.body) p bytes m new s.code_at writes apart

-- ---- on behind it

-- what the program goes on with where it takes no word
went_on : (placing : Placing) → IsPlacing placing → (here : Here) (operation : LirOp) (begin far k most : ℕ)
    (m new : MachineState) (streams streams' : Streams) (count : ℕ)
    → (b : IsBack placing here operation begin far k None m new)
    → (s : Site placing here operation begin m)
    → s.k + size_of (far_of here.body) s.far_at (op_lines here.body operation) ≡ k → 0 < count → count ≤ most
    → after machine_step count (Running m streams) ≡ Running new streams' → AreBytes streams'
    → Follows placing most m streams (goes_on_with here streams' here.state.memory)
went_on placing is here operation begin far k most m new streams streams' count b s last some few runs input =
    let v : MachineState = at_pc m.pc new in
    let s' : Site placing here operation begin v = site placing here operation begin v is b.at_operation in
    let end : s'.k + size_of (far_of here.body) s'.far_at (op_lines here.body operation) ≡ k =
    same_end _ _ (sym s'.next ∙ s.next) ∙ last in
    let stands : Stands placing (goes_on_at here.state here.frame here.below (here.frame.place + 1) here.state.memory)
    new =
    stands_moved placing here.state v new here.frame here.below (here.frame.place + 1) b.at_operation.stands
    b.at_operation.frames s'.i (next_spot placing here operation begin k v new s' end b.at_rest.pc) refl
    (record { frame = refl; homes = λ j h. refl; lowest = refl; heap = refl }) b.at_rest.registers in
    record {
      count = count;
      some = some;
      few = few;
      related = subst (Related placing (goes_on_with here streams' here.state.memory)) (sym runs)
          (AtOperation (goes_on_at here.state here.frame here.below (here.frame.place + 1) here.state.memory) new
          streams'
          stands input);
    }

-- and where it takes one
took_word : (placing : Placing) → IsPlacing placing → (here : Here) (operation : LirOp) (begin far k most to value : ℕ)
    (m new : MachineState) (streams streams' : Streams) (count : ℕ)
    → (b : IsBack placing here operation begin far k (Some to) m new)
    → (s : Site placing here operation begin m)
    → s.k + size_of (far_of here.body) s.far_at (op_lines here.body operation)
    ≡ k + size_of (far_of here.body) far (takes_word here.body.vars (Some to)) → 0 < count → count + 4 ≤ most
    → after machine_step count (Running m streams) ≡ Running new streams' → AreBytes streams'
    → register new 10 ≡ value → value < 2 ^ 64 → Follows placing most m streams (gives here to value streams')
took_word placing is here operation begin far k most to value m new streams streams' count b s last some few runs input
    x10 small =
    by (memory_with here to value) refl
  where
    v : MachineState
    v = at_pc m.pc new

    s' : Site placing here operation begin v
    s' = site placing here operation begin v is b.at_operation

    by : (o : Option FlatMemory) → memory_with here to value ≡ o
        → Follows placing most m streams (with o streams' (goes_on_with here streams'))
    by None e =
        (followed_stuck placing here operation begin most m WordCause.NoStep streams streams' s
        (omega (arith, some, few))).follows
    by (Some memory) e =
        let l : Landed placing here begin 4 memory new =
        landed_word placing here operation begin far k m.pc to value (cells_of 8 value) memory new is b.at_operation s'
        b.at_rest (same_end _ _ (sym s'.next ∙ s.next) ∙ last) x10 small (size_of_cells value)
        (all_itself (little_bytes 8 value)) e in
        let few' : l.count ≤ 4 = l.few in
        let ends : after machine_step (count + l.count) (Running m streams) ≡ Running l.new streams' =
        then_steps count l.count (Running m streams) new streams' (Running l.new streams') runs (l.goes.runs streams')
        in
        record {
          count = count + l.count;
          some = omega (arith, some);
          few = omega (arith, few, few');
          related = subst (Related placing (goes_on_with here streams' memory)) (sym ends)
              (AtOperation (goes_on_at here.state here.frame here.below (here.frame.place + 1) memory) l.new streams'
              l.stands input);
        }

-- ---- a byte is written

no_step_owed : (placing : Placing) (here : Here) (operation : LirOp) (begin most : ℕ) (m : MachineState)
    (streams streams' : Streams) → Site placing here operation begin m → 0 < most
    → Follows placing most m streams (Stopped NoStep streams')
no_step_owed placing here operation begin most m streams streams' s some =
    (followed_stuck placing here operation begin most m WordCause.NoStep streams streams' s some).follows

written_by : (placing : Placing) → IsPlacing placing → (slot byte : ℕ) (here : Here) (begin : ℕ)
    (m : MachineState) (streams : Streams) → IsAt placing here (Routine 2 (slot ∷ []) None) begin m → AreBytes streams
    → word_in here slot ≡ Some byte
    → Follows placing 17 m streams
    (goes_on_with here (record streams { output = streams.output ++ (byte % 256) ∷ [] }) here.state.memory)
written_by placing is slot byte here begin m streams at input word_is =
    let operation : LirOp = Routine 2 (slot ∷ []) None in
    let body : LirBody = here.body in
    let s : Site placing here operation begin m = site placing here operation begin m is at in
    let call : List Line = calls_routine 2 in
    let rest : List Line = call ++ [] in
    let p = passed_one placing here operation begin slot byte rest m at s refl
    (slot_stands placing here operation begin m slot byte is at s word_is) in
    let w : MachineState = p.past.new in
    let r = is.routines WriteByte in
    let near : begin + 4 * length (code_of body) < reach = s.placed.near in
    let even : begin % 4 ≡ 0 = s.code_at.aligned in
    let target_even : r.0 % 4 ≡ 0 = (at.stands.serves.memory.routines WriteByte r.0 r.1).aligned in
    let inside : p.past.place < length (linked placing.program begin body) =
    within (linked placing.program begin body) p.past.place _ p.past.at.block.0 in
    let a : Asked begin p.past.place r.0 w =
    asked placing is begin body p.past.far p.past.place 2 r.0 [] w p.past.at r.1 target_even
    (omega (arith, near, inside, linked_length placing.program begin body)) in
    let t : IsThere placing WriteByte begin (begin + 4 * (p.past.place + 2)) m a.new =
    there_by placing here operation begin p.past.place r.0 WriteByte m w is at s r.1 r.2
    (kept_but 10 m w free_10 p.others) p.memory even a in
    let x10 : register a.new 10 ≡ byte = a.others 10 (λ g. omega (arith, g)) ∙ p.has in
    let e = has_effect WriteByte a.new.pc a.new streams t.comes t.scratch t.even in
    let streams' : Streams = record streams { output = streams.output ++ (register a.new 10 % 256) ∷ [] } in
    let wanted : Streams = record streams { output = streams.output ++ (byte % 256) ∷ [] } in
    let same : streams' ≡ wanted = ap (λ x. record streams { output = streams.output ++ (x % 256) ∷ [] }) x10 in
    let new : MachineState = e.0 in
    let b : IsBack placing here operation begin (p.past.far + 2) (p.past.place + 2) None m new =
    back_by placing here operation begin p.past.far p.past.place 7 r.0 WriteByte None m w a.new new streams streams'
    is at s
    p.past.at p.memory t e.1 in
    let few : p.past.count ≤ 4 = p.past.few in
    let few' : e.1.within.count ≤ 7 = e.1.within.few in
    let runs : after machine_step (p.past.count + (2 + e.1.within.count)) (Running m streams) ≡ Running new wanted =
    then_steps p.past.count (2 + e.1.within.count) (Running m streams) w streams (Running new wanted)
    (p.past.goes.runs streams)
    (then_steps 2 e.1.within.count (Running w streams) a.new streams (Running new wanted) (a.runs streams)
    (e.1.within.leads ∙ ap (Running new) same)) in
    let whole : s.k + size_of (far_of body) s.far_at (op_lines body operation) ≡ p.past.place + 2 =
    ap (λ ls. s.k + size_of (far_of body) s.far_at ls) (argument_lines body.vars slot rest) ∙ p.past.size in
    went_on placing is here operation begin (p.past.far + 2) (p.past.place + 2) 17 m new streams wanted
    (p.past.count + (2 + e.1.within.count)) b s whole (omega arith) (omega (arith, few, few')) runs input

-- ---- a byte is read

behind_bytes : (input : List ℕ) → All (λ b. b < 256) input → All (λ b. b < 256) (behind_first input)
behind_bytes [] all = all
behind_bytes (b ∷ input) all = λ k d h. all (suc k) d (omega (arith, h))

first_small : (input : List ℕ) → All (λ b. b < 256) input → first_of input < 2 ^ 64
first_small [] all = omega arith
first_small (b ∷ input) all = let small : b < 256 = all 0 0 (omega arith) in omega (arith, small)

-- The machine has come back with the byte, or the word of -1, in x10.
record HasRead (placing : Placing) (result : Option ℕ) (here : Here) (begin : ℕ) (m : MachineState)
    (streams : Streams) (s : Site placing here (Routine 3 [] result) begin m) : Type 0 where
  new : MachineState
  far : ℕ
  place : ℕ
  count : ℕ
  some : 0 < count
  few : count ≤ 10
  runs : after machine_step count (Running m streams)
      ≡ Running new (record streams { input = behind_first streams.input })
  x10 : register new 10 ≡ first_of streams.input
  back : IsBack placing here (Routine 3 [] result) begin far place result m new
  end : s.k + size_of (far_of here.body) s.far_at (op_lines here.body (Routine 3 [] result))
      ≡ place + size_of (far_of here.body) far (takes_word here.body.vars result)

has_read : (placing : Placing) → IsPlacing placing → (result : Option ℕ) (here : Here) (begin : ℕ)
    (m : MachineState) (streams : Streams) → IsAt placing here (Routine 3 [] result) begin m → AreBytes streams
    → (s : Site placing here (Routine 3 [] result) begin m) → HasRead placing result here begin m streams s
has_read placing is result here begin m streams at input s =
    let operation : LirOp = Routine 3 [] result in
    let body : LirBody = here.body in
    let rest : List Line = takes_word body.vars result in
    let lines : List Line = calls_routine 3 ++ rest in
    let there : AtLines placing.program begin body s.far_at s.k lines m =
    at_site placing here operation begin m s at.stands.serves.registers in
    let r = is.routines ReadByte in
    let near : begin + 4 * length (code_of body) < reach = s.placed.near in
    let even : begin % 4 ≡ 0 = s.code_at.aligned in
    let target_even : r.0 % 4 ≡ 0 = (at.stands.serves.memory.routines ReadByte r.0 r.1).aligned in
    let inside : s.k < length (code_of body) = s.within in
    let a : Asked begin s.k r.0 m =
    asked placing is begin body s.far_at s.k 3 r.0 rest m there r.1 target_even (omega (arith, near, inside)) in
    let t : IsThere placing ReadByte begin (begin + 4 * (s.k + 2)) m a.new =
    there_by placing here operation begin s.k r.0 ReadByte m m is at s r.1 r.2
    (record { frame = refl; homes = λ k h. refl; lowest = refl; heap = refl }) refl even a in
    let e = has_effect ReadByte a.new.pc a.new streams t.comes t.scratch t.even input in
    let new : MachineState = e.0 in
    let streams' : Streams = record streams { input = behind_first streams.input } in
    let few : e.1.within.count ≤ 8 = e.1.within.few in
    record {
      new = new;
      far = s.far_at + 2;
      place = s.k + 2;
      count = 2 + e.1.within.count;
      some = omega arith;
      few = omega (arith, few);
      runs = then_steps 2 e.1.within.count (Running m streams) a.new streams (Running new streams') (a.runs streams)
          e.1.within.leads;
      x10 = e.2;
      back = back_by placing here operation begin s.far_at s.k 8 r.0 ReadByte result m m a.new new streams streams' is
          at s
          there refl t e.1;
      end = ap (λ n. s.k + n) (size_append (far_of body) s.far_at (calls_routine 3) rest) ∙ omega arith;
    }

read_by : (placing : Placing) → IsPlacing placing → (result : Option ℕ) (here : Here) (begin : ℕ)
    (m : MachineState) (streams : Streams) → IsAt placing here (Routine 3 [] result) begin m → AreBytes streams
    → Follows placing 14 m streams
    (with_result here result (Some (first_of streams.input)) (record streams { input = behind_first streams.input }))
read_by placing is None here begin m streams at input =
    let s = site placing here (Routine 3 [] None) begin m is at in
    let h = has_read placing is None here begin m streams at input s in
    let few : h.count ≤ 10 = h.few in
    went_on placing is here (Routine 3 [] None) begin h.far h.place 14 m h.new streams
    (record streams { input = behind_first streams.input }) h.count h.back s (h.end ∙ omega arith) h.some
    (omega (arith, few)) h.runs (behind_bytes streams.input input)
read_by placing is (Some to) here begin m streams at input =
    let s = site placing here (Routine 3 [] (Some to)) begin m is at in
    let h = has_read placing is (Some to) here begin m streams at input s in
    let few : h.count ≤ 10 = h.few in
    took_word placing is here (Routine 3 [] (Some to)) begin h.far h.place 14 to (first_of streams.input) m h.new
    streams
    (record streams { input = behind_first streams.input }) h.count h.back s h.end h.some (omega (arith, few)) h.runs
    (behind_bytes streams.input input) h.x10 (first_small streams.input input)

-- ---- by its number

-- what a routine does that a number names
abbrev pub Does : Here → List ℕ → Option ℕ → Streams → Option RoutineEffect → Run WordState WordCause
Does here arguments result streams routine =
    with routine streams (λ effect.
    with (words_in here arguments) streams (λ words.
    with (effect words here.state.memory here.state.heap_used streams) streams (goes_on_by here result)))

ended : (placing : Placing) → IsPlacing placing → (arguments : List ℕ) (result : Option ℕ) (here : Here) (begin : ℕ)
    (m : MachineState) (streams : Streams) → IsAt placing here (Routine 1 arguments result) begin m → AreBytes streams
    → Follows placing (4 * length arguments + 8) m streams (Does here arguments result streams (Some ends_program))
ended placing is arguments result here begin m streams at input = by (words_in here arguments) refl
  where
    stuck : Follows placing (4 * length arguments + 8) m streams (Stopped NoStep streams)
    stuck =
        no_step_owed placing here (Routine 1 arguments result) begin (4 * length arguments + 8) m streams streams
        (site placing here (Routine 1 arguments result) begin m is at) (omega arith)

    by : (o : Option (List ℕ)) → words_in here arguments ≡ o
        → Follows placing (4 * length arguments + 8) m streams
        (with o streams (λ words. with (ends_program words here.state.memory here.state.heap_used streams) streams
        (goes_on_by here result)))
    by None e = stuck
    by (Some []) e = stuck
    by (Some (status ∷ [])) e =
        let one = one_word here arguments status e in
        subst (λ given. Follows placing (4 * length given + 8) m streams (Ended (status % 256) streams)) (sym one.1)
        (ended_by placing is one.0 status result here begin m streams
        (subst (λ given. IsAt placing here (Routine 1 given result) begin m) one.1 at) one.2)
    by (Some (a ∷ b ∷ words)) e = stuck

wrote : (placing : Placing) → IsPlacing placing → (arguments : List ℕ) (result : Option ℕ) (here : Here) (begin : ℕ)
    (m : MachineState) (streams : Streams) → IsAt placing here (Routine 2 arguments result) begin m → AreBytes streams
    → Follows placing (4 * length arguments + 13) m streams (Does here arguments result streams (Some writes_byte))
wrote placing is arguments result here begin m streams at input = by (words_in here arguments) refl
  where
    stuck : (streams' : Streams) → Follows placing (4 * length arguments + 13) m streams (Stopped NoStep streams')
    stuck streams' =
        no_step_owed placing here (Routine 2 arguments result) begin (4 * length arguments + 13) m streams streams'
        (site placing here (Routine 2 arguments result) begin m is at) (omega arith)

    by_result : (byte : ℕ) → words_in here arguments ≡ Some (byte ∷ []) → (o : Option ℕ) → result ≡ o
        → Follows placing (4 * length arguments + 13) m streams
        (with_result here o None (record streams { output = streams.output ++ (byte % 256) ∷ [] }))
    by_result byte e (Some to) is_result = stuck (record streams { output = streams.output ++ (byte % 256) ∷ [] })
    by_result byte e None is_result =
        let one = one_word here arguments byte e in
        subst (λ given. Follows placing (4 * length given + 13) m streams
        (goes_on_with here (record streams { output = streams.output ++ (byte % 256) ∷ [] }) here.state.memory))
        (sym one.1)
        (written_by placing is one.0 byte here begin m streams
        (subst (λ r. IsAt placing here (Routine 2 (one.0 ∷ []) r) begin m) is_result
        (subst (λ given. IsAt placing here (Routine 2 given result) begin m) one.1 at)) input one.2)

    by : (o : Option (List ℕ)) → words_in here arguments ≡ o
        → Follows placing (4 * length arguments + 13) m streams
        (with o streams (λ words. with (writes_byte words here.state.memory here.state.heap_used streams) streams
        (goes_on_by here result)))
    by None e = stuck streams
    by (Some []) e = stuck streams
    by (Some (byte ∷ [])) e = by_result byte e result refl
    by (Some (a ∷ b ∷ words)) e = stuck streams

has_taken : (placing : Placing) → IsPlacing placing → (arguments : List ℕ) (result : Option ℕ) (here : Here)
    (begin : ℕ) (m : MachineState) (streams : Streams) → IsAt placing here (Routine 3 arguments result) begin m
    → AreBytes streams
    → Follows placing (4 * length arguments + 14) m streams (Does here arguments result streams (Some reads_byte))
has_taken placing is arguments result here begin m streams at input = by (words_in here arguments) refl
  where
    stuck : Follows placing (4 * length arguments + 14) m streams (Stopped NoStep streams)
    stuck =
        no_step_owed placing here (Routine 3 arguments result) begin (4 * length arguments + 14) m streams streams
        (site placing here (Routine 3 arguments result) begin m is at) (omega arith)

    by : (o : Option (List ℕ)) → words_in here arguments ≡ o
        → Follows placing (4 * length arguments + 14) m streams
        (with o streams (λ words. with (reads_byte words here.state.memory here.state.heap_used streams) streams
        (goes_on_by here result)))
    by None e = stuck
    by (Some []) e =
        let none : arguments ≡ [] = no_word here arguments e in
        subst (λ given. Follows placing (4 * length given + 14) m streams
        (with_result here result (Some (first_of streams.input))
        (record streams { input = behind_first streams.input })))
        (sym none)
        (read_by placing is result here begin m streams
        (subst (λ given. IsAt placing here (Routine 3 given result) begin m) none at) input)
    by (Some (a ∷ words)) e = stuck

equal_of : (a b : ℕ) → (a == b) ≡ true → a ≡ b
equal_of a b e = grind (arith, nat_tests)

-- the program's routine of a number
does_by : (placing : Placing) → IsPlacing placing → (here : Here) (operation : LirOp) (begin : ℕ) (m : MachineState)
    → IsAt placing here operation begin m → (number : ℕ) → here.program.routine number ≡ effects number
does_by placing is here operation begin m at number =
    ap (λ program. program.routine number) at.program ∙ is.does number

pub routine_followed : (placing : Placing) → IsPlacing placing → (number : ℕ) (arguments : List ℕ) (result : Option ℕ)
    → IsFollowed placing (Routine number arguments result)
routine_followed placing is number arguments result =
    by (number == 1) refl (number == 2) refl (number == 3) refl
  where
    Followed : ℕ → Type 0
    Followed n = IsFollowed placing (Routine n arguments result)

    by : (a : Bool) → (number == 1) ≡ a → (b : Bool) → (number == 2) ≡ b → (c : Bool) → (number == 3) ≡ c
        → Followed number
    by true ea b eb c ec =
        subst Followed (sym (equal_of number 1 ea))
        (λ here begin m streams at input.
        subst (λ o. Follows placing (4 * length arguments + 8) m streams (Does here arguments result streams o))
        (sym (does_by placing is here (Routine 1 arguments result) begin m at 1))
        (ended placing is arguments result here begin m streams at input))
    by false ea true eb c ec =
        subst Followed (sym (equal_of number 2 eb))
        (λ here begin m streams at input.
        subst (λ o. Follows placing (4 * length arguments + 13) m streams (Does here arguments result streams o))
        (sym (does_by placing is here (Routine 2 arguments result) begin m at 2))
        (wrote placing is arguments result here begin m streams at input))
    by false ea false eb true ec =
        subst Followed (sym (equal_of number 3 ec))
        (λ here begin m streams at input.
        subst (λ o. Follows placing (4 * length arguments + 14) m streams (Does here arguments result streams o))
        (sym (does_by placing is here (Routine 3 arguments result) begin m at 3))
        (has_taken placing is arguments result here begin m streams at input))
    by false ea false eb false ec =
        λ here begin m streams at input.
        let operation : LirOp = Routine number arguments result in
        let most : ℕ = 4 * length arguments + (6 + in_routine number) in
        let none : here.program.routine number ≡ None =
        does_by placing is here operation begin m at number
        ∙ ap (λ t. cond t (Some ends_program)
        (cond (number == 2) (Some writes_byte) (cond (number == 3) (Some reads_byte) None))) ea
        ∙ ap (λ t. cond t (Some writes_byte) (cond (number == 3) (Some reads_byte) None)) eb
        ∙ ap (λ t. cond t (Some reads_byte) None) ec in
        subst (λ o. Follows placing most m streams (Does here arguments result streams o)) (sym none)
        (no_step_owed placing here operation begin most m streams streams
        (site placing here operation begin m is at) (omega arith))
