-- How a call finds the body that it calls, and where its frame is to lie, if it fits.
use Rattle.std.proofs.Common.{◌≡◌, ◌∙◌, inr, ℕ, ◌+◌, ◌-◌, ◌*◌, ◌/◌, ◌%◌, ◌^◌, ◌<◌, ◌≤◌, Bool, true, false, cond, not}
use Rattle.std.proofs.Common.{pos, ◌+ℤ◌, ◌-ℤ◌, List, [], ◌∷◌, length, Option, Some, arith, refl, ap, sym, subst}
use Rattle.std.proofs.Common.{nat_lt, slice_get}
use Rattle.std.specs.Prelude.{unwrap_or}
use Rattle.std.specs.Int.{cast_signed, w32}
use Rattle.std.specs.Option.{option_and_then}
use Rattle.std.proofs.lemmas.Int.{ints}
use Rattle.std.proofs.lemmas.Bool.Decides.{nat_tests}
use Rattle.byteorder.specs.Endian.{little_bytes}
use Rattle.num_core.specs.Bits.{low_bits}
use Rattle.num_core.specs.Run.{Ended, Running, Streams}
use Rattle.num_core.specs.declared.fix.FixKind.TheVariants as kinds
use Rattle.rv_isa.specs.declared.ins.Ins.{Ins}
use Rattle.rv_isa.specs.Instructions.{IsLegal, word_of}
use Rattle.rv_step.specs.Machine.{MachineState, loads, register, without_bit_0}
use Rattle.rv_step.specs.Memory.{Bytes, MayRead, Number}
use Rattle.rv_step.proofs.AddressLaws.{loads_number}
use Rattle.rv_step.proofs.Addresses.{allowed_within, split}
use Rattle.rv_code.specs.Code.{AllLegal, BlockAt, CodeAt, given, text_of}
use Rattle.rv_code.specs.Registers.{HasRegisters}
use Rattle.lir_core.specs.Calls.{item_of, stack_text}
use Rattle.lir_core.specs.Slots.{Here, word_in}
use Rattle.lir_core.specs.declared.body.LirBody.{LirBody}
use Rattle.lir_core.specs.declared.op.Callee.{Callee}
use Rattle.lir_core.specs.declared.op.Callee.TheVariants.{Body, Through}
use Rattle.lir_core.specs.declared.op.LirOp.{LirOp}
use Rattle.rt_code.specs.Code.{code_of as routine_code, lower, upper}
use Rattle.rt_code.specs.Conventions.{HasScratch}
use Rattle.rt_code.specs.Effects.{EndsWithin, number_of, with_error}
use Rattle.rt_code.specs.declared.routines.Routine.TheVariants.{StackBound}
use Rattle.rt_code.proofs.Machines.{sum_of, then_steps}
use Rattle.rt_code.proofs.Whole.{has_effect}
use Rattle.rv_lines.specs.Frame.{home}
use Rattle.rv_lines.specs.declared.line.Condition.TheVariants.{NotLessUnsigned}
use Rattle.rv_gen.specs.Calling.{gets_callee}
use Rattle.rv_gen.specs.Placing.{branch, code_of, distance}
use Rattle.rv_words.specs.Groups.{IsAt}
use Rattle.rv_words.specs.Linked.{bits_between, linked}
use Rattle.rv_words.specs.Placing.{HasProgram, IsBodyPlaced, IsPlacing, Placing, data_bytes, reach}
use Rattle.rv_words.proofs.Branches.{Turns, branch_near, even_kept, far_is, has_all}
use Rattle.rv_words.proofs.ConstantCode.{singles}
use Rattle.rv_words.proofs.ConstantLaws.{got_item}
use Rattle.rv_words.proofs.Entering.{difference, enter_block}
use Rattle.rv_words.proofs.Giving.{IsTarget}
use Rattle.rv_words.proofs.Going.{Goes, goes_given, goes_on}
use Rattle.rv_words.proofs.Got.{Got, got_at, got_once}
use Rattle.rv_words.proofs.Lines.{AtLines, at_equal, first_code, size_singles}
use Rattle.rv_words.proofs.LinkedCode.{size_of}
use Rattle.rv_words.proofs.MoveLaws.{gets_code, gets_singles, got_slot}
use Rattle.rv_words.proofs.Moved.{KeepsOwn, program_same}
use Rattle.rv_words.proofs.Places.{far_of}
use Rattle.rv_words.proofs.RaiseLaws.{GoesOut, goes_out}
use Rattle.rv_words.proofs.Reading.{SlotStands, slot_stands}
use Rattle.rv_words.proofs.Registers.{given_has, given_other, given_same, low_small, register_fits}
use Rattle.rv_words.proofs.Sites.{Site}

-- ---- the body that is called

-- the address of the body's code
abbrev pub callee_address : Here → Callee → Option ℕ
callee_address here (Body item) = here.program.address_of kinds.Code item
callee_address here (Through slot) = word_in here slot

pub item_by_address : (here : Here) (callee : Callee)
    → item_of here callee ≡ option_and_then here.program.item_at (callee_address here callee)
item_by_address here (Body item) = refl
item_by_address here (Through slot) = refl

pub got_callee : (placing : Placing) (here : Here) (operation : LirOp) (begin : ℕ) (callee : Callee) (address : ℕ)
    (m : MachineState) → IsPlacing placing → IsAt placing here operation begin m
    → (s : Site placing here operation begin m)
    → AtLines placing.program begin here.body s.far_at s.k (gets_callee here.body.vars callee) m
    → callee_address here callee ≡ Some address
    → Got begin (linked placing.program begin here.body)
    (s.k + size_of (far_of here.body) s.far_at (gets_callee here.body.vars callee)) 4 30 address m
got_callee placing here operation begin (Body item) address m is at s there told =
    let named : placing.program.address_of kinds.Code item ≡ Some address =
    ap (λ program. program.address_of kinds.Code item) (sym at.program) ∙ told in
    let bits : ℕ = bits_between (begin + 4 * s.k) (unwrap_or (placing.program.address_of kinds.Code item) 0) in
    let bits_is : bits ≡ low_bits 32 (pos address -ℤ pos (begin + 4 * s.k)) =
    ap (λ o. bits_between (begin + 4 * s.k) (unwrap_or o 0)) named in
    let near_end : begin + 4 * length (code_of here.body) < reach = s.placed.near in
    let within : s.k < length (code_of here.body) = s.within in
    let target : IsTarget 30 = record { some = omega arith; few = omega arith } in
    got_at begin (linked placing.program begin here.body) (s.k + 1 + 1) (s.k + (2 + 0)) (1 + 1) 4 30 address m
    (omega arith) (omega arith)
    (got_item placing begin s.k 30 address (linked placing.program begin here.body) m bits bits_is s.code_at s.pc
    there.block there.legal target (omega (arith, near_end, within)) (is.near kinds.Code item address named)
    at.stands.serves.registers)
got_callee placing here operation begin (Through slot) address m is at s there told =
    let body : LirBody = here.body in
    let o : Option ℕ = home body.vars slot in
    let code : List Ins = gets_code o 30 slot in
    let first = first_code placing.program begin body s.far_at s.k code m
    (at_equal placing.program begin body s.far_at s.k (gets_callee body.vars (Through slot)) (singles code) m
    (gets_singles o 30 slot) there) in
    let stands : SlotStands m body.vars slot address =
    slot_stands placing here operation begin m slot address is at s told in
    let size : size_of (far_of body) s.far_at (gets_callee body.vars (Through slot)) ≡ length code =
    ap (size_of (far_of body) s.far_at) (gets_singles o 30 slot) ∙ size_singles (far_of body) s.far_at code in
    subst (λ n. Got begin (linked placing.program begin body) (s.k + n) 4 30 address m) (sym size)
    (got_slot begin (linked placing.program begin body) s.k 30 slot address m o s.code_at s.pc first.0 first.1
    stands.stands stands.small stands.fits stands.near (omega arith) (omega arith) at.stands.serves.registers)

-- ---- how many bytes its frame takes

first_word : (m : MachineState) (address : ℕ) (code : List Ins) (ins : Ins) → slice_get code 0 ≡ Some ins
    → Bytes m address (text_of code) → Number m address 4 (word_of ins)
first_word m address [] ins e there = cc
first_word m address (x ∷ code) ins e there =
    let same : x ≡ ins = cc in
    subst (λ i. Number m address 4 (word_of i)) same
    (split m address (little_bytes 4 (word_of x)) (text_of code) there).0

frame_in_word : (frame : ℕ) → frame < 2 ^ 20 → word_of (Ins.Lui 0 frame) / 2 ^ 12 ≡ frame
frame_in_word frame h = omega (arith, h)

word_fits : (frame : ℕ) → frame < 2 ^ 20 → word_of (Ins.Lui 0 frame) < 2 ^ 32
word_fits frame h = omega (arith, h)

-- The machine has measured the frame: x7 has its size, and x5 how much room there is above the lowest address.
pub record Measured (begin : ℕ) (code : List Ins) (k frame room : ℕ) (m : MachineState) : Type 0 where
  pub new : MachineState
  pub goes : Goes begin code (k + 1 + 1 + 1) 3 m new
  pub size : register new 7 ≡ frame
  pub left : register new 5 ≡ room
  pub others : (q : ℕ) → (q ≡ 5 → ⊥) → (q ≡ 7 → ⊥) → (q ≡ 28 → ⊥) → register new q ≡ register m q
  pub registers : HasRegisters new
  pub memory : new.segments ≡ m.segments

abbrev pub measures : List Ins
measures = Ins.Lwu 7 30 (pos 0) ∷ Ins.Srli 7 7 12 ∷ Ins.Sub 5 2 26 ∷ []

pub measured : (placing : Placing) (begin k c item : ℕ) (code : List Ins) (body : LirBody) (m : MachineState)
    → IsPlacing placing → HasProgram placing m → placing.program.item_at c ≡ Some item
    → placing.program.body_of item ≡ Some body → CodeAt begin code m → m.pc ≡ begin + 4 * k → BlockAt code k measures
    → AllLegal measures → register m 30 ≡ c → register m 26 ≤ register m 2 → HasRegisters m
    → Measured begin code k body.frame (register m 2 - register m 26) m
measured placing begin k c item code body m is has item_there body_there at pc there legal callee low registers =
    let placed : IsBodyPlaced placing c item body = is.bodies item c body item_there body_there in
    let own : CodeAt c (linked placing.program c body) m = has.code item c body item_there body_there in
    let first = enter_block placing item c body placed in
    let w : ℕ = word_of (Ins.Lui 0 body.frame) in
    let most : body.frame ≤ 65536 = body.frame_size.greatest in
    let number : Number m c 4 w = first_word m c (linked placing.program c body) (Ins.Lui 0 body.frame) first.0.0
    own.bytes in
    let may : MayRead m c 4 = has.first_words item c body item_there body_there in
    let fits : c + 4 * length (linked placing.program c body) < 2 ^ 64 = own.fits in
    let place : low_bits 64 (pos (register m 30) +ℤ pos 0) ≡ c =
    let z : c + 0 ≡ c = omega arith in
    ap (λ x. low_bits 64 (pos x +ℤ pos 0)) callee ∙ sum_of c 0 (omega (arith, fits)) ∙ z in
    let g1 : Got begin code (k + 1) 1 7 w m =
    got_once begin code k (Ins.Lwu 7 30 (pos 0)) 7 w m at pc there.0 legal.0
    (λ s. ap (λ p. loads m 7 4 p (λ n. n) s) place
    ∙ loads_number m 7 4 c w (λ n. n) s has.segments (word_fits body.frame (omega (arith, most))) may number)
    (omega arith) (omega arith) (let small : w < 2 ^ 32 = word_fits body.frame (omega (arith, most)) in omega
    (arith, small)) registers in
    let g2 : Got begin code (k + 1 + 1) 1 7 body.frame g1.new =
    got_once begin code (k + 1) (Ins.Srli 7 7 12) 7 body.frame g1.new g1.goes.code_at g1.goes.pc there.1.0 legal.1.0
    (λ s. ap (λ x. Running (given 7 (x / 2 ^ 12) g1.new) s) g1.has
    ∙ ap (λ x. Running (given 7 x g1.new) s) (frame_in_word body.frame (omega (arith, most))))
    (omega arith) (omega arith) (omega (arith, most)) g1.registers in
    let x2 : register g2.new 2 ≡ register m 2 =
    g2.others 2 (λ e. omega (arith, e)) (λ e. omega (arith, e)) ∙ g1.others 2 (λ e. omega (arith, e))
    (λ e. omega (arith, e)) in
    let x26 : register g2.new 26 ≡ register m 26 =
    g2.others 26 (λ e. omega (arith, e)) (λ e. omega (arith, e)) ∙ g1.others 26 (λ e. omega (arith, e))
    (λ e. omega (arith, e)) in
    let v : ℕ = register m 2 - register m 26 in
    let small : register m 2 < 2 ^ 64 = register_fits 2 m (omega arith) registers in
    let g3 : Got begin code (k + 1 + 1 + 1) 1 5 v g2.new =
    got_once begin code (k + 1 + 1) (Ins.Sub 5 2 26) 5 v g2.new g2.goes.code_at g2.goes.pc there.1.1.0 legal.1.1.0
    (λ s. ap (λ x. Running (given 5 x g2.new) s)
    (ap (λ x. low_bits 64 (pos x -ℤ pos (register g2.new 26))) x2
    ∙ ap (λ x. low_bits 64 (pos (register m 2) -ℤ pos x)) x26
    ∙ difference (register m 2) (register m 26) low small))
    (omega arith) (omega arith) (omega (arith, small)) g2.registers in
    record {
      new = g3.new;
      goes = subst (λ n. Goes begin code (k + 1 + 1 + 1) n m g3.new)
          (let n : g1.count + (g2.count + g3.count) ≡ 3 = three g1.count g2.count g3.count g1.some g1.few g2.some g2.few
          g3.some g3.few in n)
          (goes_on begin code (k + 1) (k + 1 + 1 + 1) g1.count (g2.count + g3.count) m g1.new g3.new g1.goes
          (goes_on begin code (k + 1 + 1) (k + 1 + 1 + 1) g2.count g3.count g1.new g2.new g3.new g2.goes g3.goes));
      size = g3.others 7 (λ e. omega (arith, e)) (λ e. omega (arith, e)) ∙ g2.has;
      left = g3.has;
      others = λ q a b d. g3.others q a d ∙ g2.others q b d ∙ g1.others q b d;
      registers = g3.registers;
      memory = g3.memory ∙ g2.memory ∙ g1.memory;
    }
  where
    three : (a b c : ℕ) → 0 < a → a ≤ 1 → 0 < b → b ≤ 1 → 0 < c → c ≤ 1 → a + (b + c) ≡ 3
    three a b c h h' i i' j j' = omega (arith, h, h', i, i', j, j')

-- ---- the frame to be

abbrev pub places_frame : ℕ → ℕ → List Ins
places_frame bits bits' =
    Ins.Lwu 7 30 (pos 0) ∷ Ins.Srli 7 7 12 ∷ Ins.Sub 5 2 26 ∷ Ins.Bgeu 5 7 (pos 12) ∷ Ins.Auipc 5 (upper bits)
    ∷ Ins.Jalr 0 5 (lower bits') ∷ Ins.Sub 31 2 7 ∷ []

-- x31 has the address of the frame to be.
pub record Framed (begin : ℕ) (code : List Ins) (place a : ℕ) (m : MachineState) : Type 0 where
  pub new : MachineState
  pub count : ℕ
  pub few : count ≤ 5
  pub goes : Goes begin code place count m new
  pub has : register new 31 ≡ a
  pub others : (q : ℕ) → (q ≡ 5 → ⊥) → (q ≡ 7 → ⊥) → (q ≡ 28 → ⊥) → (q ≡ 31 → ⊥) → register new q ≡ register m q
  pub registers : HasRegisters new
  pub memory : new.segments ≡ m.segments

-- the branch behind what is measured
turned : (begin : ℕ) (code : List Ins) (from : ℕ) (t : Bool) (m : MachineState) → CodeAt begin code m
    → m.pc ≡ begin + 4 * from → slice_get code from ≡ Some (Ins.Bgeu 5 7 (pos 12)) → IsLegal (Ins.Bgeu 5 7 (pos 12))
    → begin + 4 * (from + 3) < 2 ^ 64 → not (nat_lt (register m 5) (register m 7)) ≡ t
    → Turns begin code (cond t (from + 3) (from + 1)) m
turned begin code from t m at pc there legal fits is =
    let over : distance from (from + 3) ≡ pos 12 = omega (arith, ints) in
    branch_near begin code from (from + 3) NotLessUnsigned 5 7 t m at pc
    (there ∙ ap (λ d. Some (branch NotLessUnsigned 5 7 d)) (sym over))
    (subst (λ d. IsLegal (branch NotLessUnsigned 5 7 d)) (sym over) legal) fits is

pub framed : (begin k frame room bits bits' : ℕ) (code : List Ins) (m : MachineState)
    → (g : Measured begin code k frame room m) → BlockAt code k (places_frame bits bits')
    → AllLegal (places_frame bits bits') → begin + 4 * (k + 7) < 2 ^ 64 → frame ≤ room → frame ≤ register m 2
    → register m 2 < 2 ^ 64 → Framed begin code (k + 7) (register m 2 - frame) m
framed begin k frame room bits bits' code m g there legal fits enough h small =
    let from : ℕ = k + 1 + 1 + 1 in
    let test : not (nat_lt (register g.new 5) (register g.new 7)) ≡ true =
    ap (λ x. not (nat_lt x (register g.new 7))) g.left ∙ ap (λ x. not (nat_lt room x)) g.size
    ∙ fits_in room frame enough in
    let t : Turns begin code (from + 3) g.new =
    turned begin code from true g.new g.goes.code_at g.goes.pc there.1.1.1.0 legal.1.1.1.0 (omega (arith, fits)) test in
    let turned_to : MachineState = record g.new { pc = t.pc } in
    let place : k + 1 + 1 + 1 + 1 + 1 + 1 ≡ from + 3 = omega arith in
    let x2 : register g.new 2 ≡ register m 2 =
    g.others 2 (λ e. omega (arith, e)) (λ e. omega (arith, e)) (λ e. omega (arith, e)) in
    let last : Got begin code (from + 3 + 1) 1 31 (register m 2 - frame) turned_to =
    got_once begin code (from + 3) (Ins.Sub 31 2 7) 31 (register m 2 - frame) turned_to t.goes.code_at t.goes.pc
    (subst (λ n. slice_get code n ≡ Some (Ins.Sub 31 2 7)) place there.1.1.1.1.1.1.0) legal.1.1.1.1.1.1.0
    (λ s. ap (λ x. Running (given 31 x turned_to) s)
    (ap (λ x. low_bits 64 (pos x -ℤ pos (register g.new 7))) x2
    ∙ ap (λ x. low_bits 64 (pos (register m 2) -ℤ pos x)) g.size ∙ difference (register m 2) frame h small))
    (omega arith) (omega arith) (omega (arith, small)) (has_all g.new t.pc g.registers) in
    let end : from + 3 + 1 ≡ k + 7 = omega arith in
    let few : last.count ≤ 1 = last.few in
    record {
      new = last.new;
      count = 3 + (1 + last.count);
      few = omega (arith, few);
      goes = subst (λ p. Goes begin code p (3 + (1 + last.count)) m last.new) end
          (goes_on begin code from (from + 3 + 1) 3 (1 + last.count) m g.new last.new g.goes
          (goes_on begin code (from + 3) (from + 3 + 1) 1 last.count g.new turned_to last.new t.goes last.goes));
      has = last.has;
      others = λ q a b c d. last.others q d c ∙ g.others q a b c;
      registers = last.registers;
      memory = last.memory ∙ g.memory;
    }
  where
    fits_in : (x y : ℕ) → y ≤ x → not (nat_lt x y) ≡ true
    fits_in x y h = grind (arith, nat_tests)

pub framed_keeps : (begin : ℕ) (code : List Ins) (place a : ℕ) (m : MachineState)
    → (f : Framed begin code place a m) → KeepsOwn m f.new
framed_keeps begin code place a m f = record {
  frame = f.others 2 (λ e. omega (arith, e)) (λ e. omega (arith, e)) (λ e. omega (arith, e)) (λ e. omega (arith, e));
  homes = λ k h. f.others (18 + k) (λ e. omega (arith, e)) (λ e. omega (arith, e)) (λ e. omega (arith, e, h))
      (λ e. omega (arith, e, h));
  lowest = f.others 26 (λ e. omega (arith, e)) (λ e. omega (arith, e)) (λ e. omega (arith, e)) (λ e. omega (arith, e));
  heap = f.others 27 (λ e. omega (arith, e)) (λ e. omega (arith, e)) (λ e. omega (arith, e)) (λ e. omega (arith, e));
}

pub framed_callee : (begin : ℕ) (code : List Ins) (place a : ℕ) (m : MachineState)
    → (f : Framed begin code place a m) → register f.new 30 ≡ register m 30
framed_callee begin code place a m f =
    f.others 30 (λ e. omega (arith, e)) (λ e. omega (arith, e)) (λ e. omega (arith, e)) (λ e. omega (arith, e))

-- ---- or the line of the stack's bound

-- The scratch bytes of the innermost frame are there for the routine.
scratch_there : (placing : Placing) (m : MachineState) (target : ℕ) → IsPlacing placing → HasProgram placing m
    → target + 4 * length (routine_code StackBound) ≤ placing.lowest_data → placing.lowest_data ≤ register m 2
    → register m 2 ≤ placing.program.stack_end → HasScratch (register m 2) target (length (routine_code StackBound)) m
scratch_there placing m target is has below low high =
    let room : placing.program.stack_end + 128 ≤ 2 ^ 64 = is.room_behind in
    let first : placing.lowest_data ≤ register m 2 + 96 = omega (arith, low) in
    let last : register m 2 + 96 + 32 ≤ placing.lowest_data + data_bytes placing = omega (arith, low, high) in
    record {
      fits = omega (arith, high, room);
      read = allowed_within (λ s. s.read) placing.lowest_data (data_bytes placing) (register m 2 + 96) 32 m.segments
          first
          last has.read;
      write = allowed_within (λ s. s.write) placing.lowest_data (data_bytes placing) (register m 2 + 96) 32 m.segments
          first last has.write;
      apart = inr (omega (arith, below, first));
    }

pub refused : (placing : Placing) (begin k frame room bits : ℕ) (code : List Ins) (m : MachineState) (streams : Streams)
    → IsPlacing placing → HasProgram placing m → (g : Measured begin code k frame room m)
    → BlockAt code k (places_frame bits bits) → AllLegal (places_frame bits bits)
    → bits ≡ bits_between (begin + 4 * (k + 1 + 1 + 1 + 1))
    (unwrap_or (placing.program.address_of kinds.Routine (number_of StackBound)) 0)
    → begin + 4 * (k + 7) < reach → room < frame → placing.lowest_data ≤ register m 2
    → register m 2 ≤ placing.program.stack_end → EndsWithin 29 m streams 134 (with_error stack_text streams)
refused placing begin k frame room bits code m streams is has g there legal bits_is near few low high =
    let ends : EndsWithin 23 new streams 134 (with_error stack_text streams) =
    has_effect StackBound target new streams
    (record { code_at = has_new.routines StackBound target named; registers = registers_new; pc = refl })
    (scratch_there placing new target is has_new below (subst (λ x. placing.lowest_data ≤ x) (sym x2) low)
    (subst (λ x. x ≤ placing.program.stack_end) (sym x2) high)) in
    let most : ends.count ≤ 23 = ends.few in
    record {
      count = 3 + (1 + (1 + 1 + ends.count));
      some = omega arith;
      few = omega (arith, most);
      ends = then_steps 3 (1 + (1 + 1 + ends.count)) (Running m streams) g.new streams
          (Ended 134 (with_error stack_text streams)) (g.goes.runs streams)
          (then_steps 1 (1 + 1 + ends.count) (Running g.new streams) m1 streams
          (Ended 134 (with_error stack_text streams)) (t.goes.runs streams)
          (then_steps (1 + 1) ends.count (Running m1 streams) new streams (Ended 134 (with_error stack_text streams))
          (out.runs streams) ends.ends));
    }
  where
    from : ℕ
    from = k + 1 + 1 + 1

    none_left : (x y : ℕ) → x < y → not (nat_lt x y) ≡ false
    none_left x y h = grind (arith, nat_tests)

    test : not (nat_lt (register g.new 5) (register g.new 7)) ≡ false
    test =
        ap (λ x. not (nat_lt x (register g.new 7))) g.left ∙ ap (λ x. not (nat_lt room x)) g.size
        ∙ none_left room frame few

    t : Turns begin code (from + 1) g.new
    t =
        turned begin code from false g.new g.goes.code_at g.goes.pc there.1.1.1.0 legal.1.1.1.0 (omega (arith, near))
        test

    m1 : MachineState
    m1 = record g.new { pc = t.pc }

    target : ℕ
    target = (is.routines StackBound).0

    named : placing.program.address_of kinds.Routine (number_of StackBound) ≡ Some target
    named = (is.routines StackBound).1

    below : target + 4 * length (routine_code StackBound) ≤ placing.lowest_data
    below = (is.routines StackBound).2

    v : ℕ
    v = low_bits 64 (pos m1.pc +ℤ cast_signed w32 (upper bits * 2 ^ 12))

    m2 : MachineState
    m2 = given 5 v m1

    first : Goes begin code (from + 1 + 1) 1 m1 m2
    first =
        goes_given begin code (from + 1) (Ins.Auipc 5 (upper bits)) 5 v m1 t.goes.code_at t.goes.pc there.1.1.1.1.0
        legal.1.1.1.1.0 (λ ss. refl)

    new : MachineState
    new = record m2 { pc = target }

    has_1 : HasRegisters m1
    has_1 = has_all g.new t.pc g.registers

    registers_new : HasRegisters new
    registers_new =
        has_all m2 target (given_has 5 v m1 (low_small (pos m1.pc +ℤ cast_signed w32 (upper bits * 2 ^ 12))) has_1)

    has_new : HasProgram placing new
    has_new = program_same placing m new g.memory has

    even : target % 4 ≡ 0
    even = (has.routines StackBound target named).aligned

    bits_to : bits ≡ low_bits 32 (pos target -ℤ pos (begin + 4 * (from + 1)))
    bits_to = bits_is ∙ ap (λ o. bits_between (begin + 4 * (from + 1)) (unwrap_or o 0)) named

    x5 : register m2 5 ≡ v
    x5 = given_same 5 v m1 (omega arith) (omega arith) has_1

    whole : low_bits 64 (pos v +ℤ lower bits) ≡ target
    whole =
        ap (λ p. low_bits 64 (pos (low_bits 64 (pos p +ℤ cast_signed w32 (upper bits * 2 ^ 12))) +ℤ lower bits))
        t.goes.pc
        ∙ ap (λ b. low_bits 64 (pos (low_bits 64 (pos (begin + 4 * (from + 1)) +ℤ cast_signed w32
        (upper b * 2 ^ 12))) +ℤ lower b)) bits_to
        ∙ far_is (begin + 4 * (from + 1)) target (omega (arith, near))
        (is.near kinds.Routine (number_of StackBound) target named)

    goes_there : without_bit_0 (low_bits 64 (pos (register m2 5) +ℤ lower bits)) ≡ target
    goes_there =
        ap (λ x. without_bit_0 (low_bits 64 (pos x +ℤ lower bits))) x5 ∙ ap without_bit_0 whole ∙ even_kept target even

    out : GoesOut begin code (1 + 1) m1 new
    out =
        goes_out begin code (from + 1 + 1) 1 (Ins.Jalr 0 5 (lower bits)) m1 m2 new first there.1.1.1.1.1.0
        legal.1.1.1.1.1.0 (λ ss. ap (λ p. Running (record m2 { pc = p }) ss) goes_there)

    x2 : register new 2 ≡ register m 2
    x2 =
        given_other 5 2 v m1 (λ e. omega (arith, e))
        ∙ g.others 2 (λ e. omega (arith, e)) (λ e. omega (arith, e)) (λ e. omega (arith, e))
