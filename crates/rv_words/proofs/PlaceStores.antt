-- Words in registers that go to places: to bytes behind an address, or to part of the frame.
use Rattle.std.proofs.Common.{◌≡◌, ◌∙◌, ◌⊎◌, inl, inr, ℕ, ◌+◌, ◌-◌, ◌*◌, ◌/◌, ◌%◌, ◌^◌, ◌<◌, ◌≤◌, Bool, true}
use Rattle.std.proofs.Common.{false, cond, ◌&&◌, ◌==◌, List, [], ◌∷◌, ◌++◌, length, map, Option, Some, None, pos, ◌+ℤ◌}
use Rattle.std.proofs.Common.{arith, refl, ap, sym, subst, nat_lt, nat_le, length-append, slice_index}
use Rattle.std.specs.Option.{option_and_then}
use Rattle.std.specs.List.{AllZip, list_all}
use Rattle.std.proofs.lemmas.Int.{ints}
use Rattle.std.proofs.lemmas.Bool.Decides.{nat_tests}
use Rattle.byteorder.specs.Endian.{little_bytes}
use Rattle.byteorder.specs.Numbers.{length-bytes_low_first}
use Rattle.num_core.specs.Bits.{low_bits}
use Rattle.num_core.specs.Run.{Running, Streams}
use Rattle.num_core.specs.declared.kind.Narrow.{Narrow}
use Rattle.rv_isa.specs.declared.ins.Ins.{Ins}
use Rattle.rv_step.specs.Machine.{MachineState, address as address_of, register, stores as stores_bytes}
use Rattle.rv_step.specs.Memory.{AreApart, MayWrite, Writes, is_allowed}
use Rattle.rv_step.proofs.Addresses.{allowed_within}
use Rattle.rv_code.specs.Code.{AllLegal, BlockAt, CodeAt, given}
use Rattle.rv_code.specs.Registers.{HasRegisters}
use Rattle.rv_code.proofs.Going.{block_parts, legal_parts}
use Rattle.lir_core.specs.Memory.{Byte, Cell, FlatMemory, cells_from, is_own, overwritten, with_cells}
use Rattle.lir_core.specs.Pieces.{at_place, bytes_of_type, word}
use Rattle.lir_core.specs.Slots.{Here, addresses, goes_on_with, place_behind, place_of, word_in}
use Rattle.lir_core.specs.Tells.{CellTellsNoMore}
use Rattle.lir_core.specs.declared.body.LirBody.{LirBody}
use Rattle.lir_core.specs.declared.op.LirOp.{LirOp}
use Rattle.lir_core.specs.declared.op.Place.{Place}
use Rattle.lir_core.specs.declared.op.Place.TheVariants.{Slot, Flat}
use Rattle.rt_code.proofs.Machines.{writes_between}
use Rattle.rv_lines.specs.Frame.{home}
use Rattle.rv_lines.specs.Operands.{adds_far, is_near, register_or, stores, stores_behind}
use Rattle.rv_lines.specs.declared.line.Line.{Line}
use Rattle.rv_lines.specs.declared.line.Line.TheVariants.{Single}
use Rattle.rv_lines.proofs.Loading.{stored_number}
use Rattle.rv_gen.specs.Lines.{op_lines}
use Rattle.rv_gen.specs.Placing.{code_of}
use Rattle.std.proofs.lemmas.Bool.{leb-true}
use Rattle.lir_core.specs.Check.{fits, has_short_offset, is_whole_or_apart, lies_in_frame}
use Rattle.lir_core.specs.Slots.{is_variable, place_here}
use Rattle.lir_core.proofs.Sound.{second_of}
use Rattle.rv_lines.specs.Frame.{slot_place}
use Rattle.rv_lines.specs.Moving.{bytes_place, home_of_bytes, stores_frame, stores_place}
use Rattle.rv_lines.specs.Operands.{writes_slot}
use Rattle.rv_words.proofs.Going.{goes_given}
use Rattle.rv_words.proofs.LoadLaws.{holds_of_one, home_none, le_true, whole_of}
use Rattle.rv_words.proofs.Reading.{room_here}
use Rattle.rv_words.proofs.RefusingLaws.{homed_by}
use Rattle.rv_words.proofs.Registers.{given_has, given_other, given_same}
use Rattle.rv_words.proofs.Results.{slot_given, writing}
use Rattle.rv_words.proofs.Room.{below_all}
use Rattle.rv_words.specs.Groups.{IsAt}
use Rattle.rv_words.specs.Linked.{linked}
use Rattle.rv_words.specs.Placing.{IsPlacing, Placing, data_bytes}
use Rattle.rv_words.specs.Stands.{AreBytes, FollowsInBody, Stands}
use Rattle.rv_words.specs.Steps.{at_place as most_at_place, behind_address}
use Rattle.rv_words.proofs.ConstantCode.{constant_code, constant_length, constant_short, far_code, far_length}
use Rattle.rv_words.proofs.ConstantCode.{far_singles, got_far}
use Rattle.rv_words.proofs.ConstantCode.{singles, singles_append}
use Rattle.rv_words.proofs.Flat.{own_in_data}
use Rattle.rv_words.proofs.Going.{Goes, Put, goes_on, goes_put}
use Rattle.rv_words.proofs.Got.{got_keeps}
use Rattle.rv_words.proofs.Homes.{home_bound}
use Rattle.rv_words.proofs.JumpLaws.{spot_there}
use Rattle.rv_words.proofs.Lines.{AtLines, at_equal, first_code, size_singles}
use Rattle.rv_words.proofs.LinkedCode.{size_of}
use Rattle.rv_words.proofs.LoadLaws.{place_told, some_bytes}
use Rattle.rv_words.proofs.Moved.{KeepsOwn, keeps_through}
use Rattle.rv_words.proofs.Operands.{Past, free_28, free_5, past_operand, slot_still}
use Rattle.rv_words.proofs.Places.{far_of}
use Rattle.rv_words.proofs.Reading.{SlotStands, slot_stands}
use Rattle.rv_words.proofs.Results.{all_owned, same_keeps, same_registers, written_where}
use Rattle.rv_words.proofs.Sites.{Site, followed, linked_length}
use Rattle.rv_words.proofs.Slotted.{bytes_small}
use Rattle.rv_words.proofs.Standing.{goes_on_at}
use Rattle.rv_words.proofs.Stored.{stands_flat}

-- ---- a number of a type from a register

abbrev pub put_by : Bool → Narrow → ℕ → ℕ → ℕ → List Ins
put_by near narrow rs base offset =
    cond near (stores narrow rs base (pos offset) ∷ []) (far_code 28 base offset ++ stores narrow rs 28 (pos 0) ∷ [])

abbrev pub put_code : Narrow → ℕ → ℕ → ℕ → List Ins
put_code narrow rs base offset = put_by (is_near offset) narrow rs base offset

pub put_singles : (narrow : Narrow) (rs base offset : ℕ)
    → stores_behind narrow rs base offset ≡ singles (put_code narrow rs base offset)
put_singles narrow rs base offset = by (is_near offset)
  where
    by : (b : Bool) → cond b (Single (stores narrow rs base (pos offset)) ∷ [])
        (adds_far 28 base offset ++ Single (stores narrow rs 28 (pos 0)) ∷ [])
        ≡ singles (put_by b narrow rs base offset)
    by true = refl
    by false =
        ap (λ xs. xs ++ Single (stores narrow rs 28 (pos 0)) ∷ []) (far_singles 28 base offset)
        ∙ sym (singles_append (far_code 28 base offset) (stores narrow rs 28 (pos 0) ∷ []))

far_put_length : (narrow : Narrow) (rs base offset : ℕ)
    → length (far_code 28 base offset ++ stores narrow rs 28 (pos 0) ∷ []) ≡ length (constant_code 28 offset) + 1 + 1
far_put_length narrow rs base offset =
    length-append (far_code 28 base offset) (stores narrow rs 28 (pos 0) ∷ [])
    ∙ ap (λ n. n + 1) (far_length 28 base offset)

put_length : (narrow : Narrow) (rs base offset : ℕ) → length (put_code narrow rs base offset) ≤ behind_address offset
put_length narrow rs base offset = by (is_near offset)
  where
    by : (b : Bool) → length (put_by b narrow rs base offset) ≤ cond b 1 10
    by true = omega arith
    by false =
        let few : length (constant_code 28 offset) ≤ 8 = constant_length 28 offset in
        omega (arith, few, far_put_length narrow rs base offset)

pub put_short : (narrow : Narrow) (rs base offset : ℕ) → offset < 2 ^ 31 → length (put_code narrow rs base offset) ≤ 4
put_short narrow rs base offset h = by (is_near offset)
  where
    by : (b : Bool) → length (put_by b narrow rs base offset) ≤ 4
    by true = omega arith
    by false =
        let few : length (constant_code 28 offset) ≤ 2 = constant_short 28 offset h in
        omega (arith, few, far_put_length narrow rs base offset)

-- The machine has written the number, and nothing else that counts has changed.
pub record PutNumber (address : ℕ) (code : List Ins) (place most a count value : ℕ) (m : MachineState) : Type 0 where
  pub new : MachineState
  pub steps : ℕ
  pub some : 0 < steps
  pub few : steps ≤ most
  pub goes : Goes address code place steps m new
  pub writes : Writes a (little_bytes count value) m new
  pub keeps : KeepsOwn m new
  pub others : (q : ℕ) → (q ≡ 28 → ⊥) → register new q ≡ register m q
  pub registers : HasRegisters new

put_one : (address : ℕ) (code : List Ins) (k : ℕ) (narrow : Narrow) (rs base offset a value : ℕ) (m : MachineState)
    → CodeAt address code m → m.pc ≡ address + 4 * k → BlockAt code k (stores narrow rs base (pos offset) ∷ [])
    → AllLegal (stores narrow rs base (pos offset) ∷ []) → register m rs ≡ value
    → address_of m base (pos offset) ≡ a → MayWrite m a (bytes_of_type narrow)
    → AreApart a (bytes_of_type narrow) address (4 * length code) → HasRegisters m
    → PutNumber address code (k + 1) 1 a (bytes_of_type narrow) value m
put_one address code k narrow rs base offset a value m at pc there legal is place may apart has =
    let count : ℕ = bytes_of_type narrow in
    let p : Put address code k a (little_bytes count value) m =
    goes_put address code k (stores narrow rs base (pos offset)) count a value m at pc there.0 legal.0
    (λ ss. stored_number narrow m ss rs base (pos offset)
    ∙ ap (λ x. stores_bytes m count x (register m rs) ss) place ∙ ap (λ v. stores_bytes m count a v ss) is) may apart
    (length-bytes_low_first 0 count value) in
    record {
      new = p.new;
      steps = 1;
      some = omega arith;
      few = omega arith;
      goes = p.goes;
      writes = p.writes;
      keeps = same_keeps m p.new p.registers;
      others = λ q ne. ap (λ rs. slice_index rs q) p.registers;
      registers = same_registers m p.new p.registers has;
    }

pub put_number : (address : ℕ) (code : List Ins) (k : ℕ) (narrow : Narrow) (rs base offset b a value : ℕ)
    (m : MachineState) → CodeAt address code m → m.pc ≡ address + 4 * k
    → BlockAt code k (put_code narrow rs base offset) → AllLegal (put_code narrow rs base offset) → (rs ≡ 28 → ⊥)
    → (base ≡ 28 → ⊥) → register m rs ≡ value → register m base ≡ b → low_bits 64 (pos b +ℤ pos offset) ≡ a
    → a < 2 ^ 64 → offset < 2 ^ 64 → MayWrite m a (bytes_of_type narrow)
    → AreApart a (bytes_of_type narrow) address (4 * length code) → HasRegisters m
    → PutNumber address code (k + length (put_code narrow rs base offset)) (length (put_code narrow rs base offset)) a
    (bytes_of_type narrow) value m
put_number address code k narrow rs base offset b a value m at pc there legal other base_apart is base_is sum fits small
    may
    apart has =
    by (is_near offset) there legal
  where
    by : (t : Bool) → BlockAt code k (put_by t narrow rs base offset) → AllLegal (put_by t narrow rs base offset)
        → PutNumber address code (k + length (put_by t narrow rs base offset))
        (length (put_by t narrow rs base offset)) a (bytes_of_type narrow) value m
    by true there legal =
        put_one address code k narrow rs base offset a value m at pc there legal is
        (ap (λ x. low_bits 64 (pos x +ℤ pos offset)) base_is ∙ sum) may apart has
    by false there legal =
        let far : List Ins = far_code 28 base offset in
        let last : List Ins = stores narrow rs 28 (pos 0) ∷ [] in
        let c : ℕ = length (constant_code 28 offset) in
        let parts = block_parts code k far last there in
        let lawful = legal_parts far last legal in
        let g = got_far address code k 28 base offset b m at pc parts.0 lawful.0 (omega arith) (omega arith) base_apart
        base_is small has in
        let size : length far ≡ c + 1 = far_length 28 base offset in
        let place : k + length far ≡ k + c + 1 = omega (arith, size) in
        let there' : address_of g.new 28 (pos 0) ≡ a =
        ap (λ x. low_bits 64 (pos x +ℤ pos 0)) (g.has ∙ sum) ∙ omega (arith, fits) in
        let p = put_one address code (k + c + 1) narrow rs 28 0 a value g.new g.goes.code_at g.goes.pc
        (subst (λ n. BlockAt code n last) place parts.1) lawful.1 (g.others rs other other ∙ is) there'
        (ap (λ ss. is_allowed (λ s. s.write) ss a (bytes_of_type narrow)) g.memory ∙ may) apart g.registers in
        let whole : length (far ++ last) ≡ c + 1 + 1 = far_put_length narrow rs base offset in
        let end : k + c + 1 + 1 ≡ k + length (far ++ last) = omega (arith, whole) in
        let few : g.count ≤ c + 1 = g.few in
        let few' : p.steps ≤ 1 = p.few in
        let some : 0 < p.steps = p.some in
        record {
          new = p.new;
          steps = g.count + p.steps;
          some = omega (arith, some);
          few = omega (arith, few, few', whole);
          goes = subst (λ n. Goes address code n (g.count + p.steps) m p.new) end
              (goes_on address code (k + c + 1) (k + c + 1 + 1) g.count p.steps m g.new p.new g.goes p.goes);
          writes = writes_between a (little_bytes (bytes_of_type narrow) value) g.new m p.new p.new (sym g.memory) refl
              p.writes;
          keeps = keeps_through m g.new p.new (got_keeps address code (k + c + 1) (c + 1) 28 _ m free_28 g) p.keeps;
          others = λ q ne. p.others q ne ∙ g.others q ne ne;
          registers = p.registers;
        }

-- ---- the store, where the program has something of its own there

-- The machine is at the store with its operands in registers.
pub stored_at : (placing : Placing) (here : Here) (operation : LirOp) (begin most before own_most : ℕ) (narrow : Narrow)
    (rs base offset b a value : ℕ) (cells : List Cell) (memory : FlatMemory) (m : MachineState) (streams : Streams)
    → IsPlacing placing
    → IsAt placing here operation begin m → (s : Site placing here operation begin m)
    → (p : Past placing.program begin here.body s.far_at s.k before (op_lines here.body operation)
    (stores_behind narrow rs base offset) m)
    → KeepsOwn m p.new → p.new.segments ≡ m.segments → (rs ≡ 28 → ⊥) → (base ≡ 28 → ⊥) → register p.new rs ≡ value
    → register p.new base ≡ b → low_bits 64 (pos b +ℤ pos offset) ≡ a → offset < 2 ^ 64
    → a + bytes_of_type narrow ≤ addresses
    → length cells ≡ bytes_of_type narrow
    → AllZip CellTellsNoMore cells (map Byte (little_bytes (bytes_of_type narrow) value))
    → with_cells here.state.memory a cells ≡ Some memory
    → length (put_code narrow rs base offset) ≤ own_most → before + own_most ≤ most → AreBytes streams
    → FollowsInBody placing begin here.body most m streams (goes_on_with here streams memory)
stored_at placing here operation begin most before own_most narrow rs base offset b a value cells memory m streams is at
    s p keeps memory_same other base_apart rs_is base_is sum small fits cells_size told written short enough bytes =
    let body : LirBody = here.body in
    let code : List Ins = linked placing.program begin body in
    let count : ℕ = bytes_of_type narrow in
    let some : 0 < count = some_bytes narrow in
    let number : List ℕ = little_bytes count value in
    let size : length number ≡ count = length-bytes_low_first 0 count value in
    let parts = written_where here.state.memory memory a cells written in
    let own : (x : ℕ) → a ≤ x → x < a + count → is_own (here.state.memory x) ≡ true =
    all_owned here.state.memory a count
    (subst (λ n. list_all is_own (cells_from here.state.memory a n) ≡ true) cells_size parts.0) in
    let first = own_in_data placing here.state a is at.stands.bounds (omega (arith, fits, some))
    (own a (omega arith) (omega (arith, some))) in
    let z : ℕ = a + count - 1 in
    let last = own_in_data placing here.state z is at.stands.bounds (omega (arith, fits, some))
    (own z (omega (arith, some)) (omega (arith, some))) in
    let low : placing.lowest_data ≤ a = first.0 in
    let high : z < placing.program.stack_end = last.1 in
    let may : MayWrite p.new a count =
    ap (λ ss. is_allowed (λ w. w.write) ss a count) memory_same
    ∙ allowed_within (λ w. w.write) placing.lowest_data (data_bytes placing) a count m.segments low
    (omega (arith, low, high, some)) at.stands.serves.memory.write in
    let below : begin + 4 * length (code_of body) ≤ placing.lowest_data = s.placed.below_data in
    let apart : AreApart a count begin (4 * length code) =
    inr (omega (arith, below, low, linked_length placing.program begin body)) in
    let ins : List Ins = put_code narrow rs base offset in
    let found = first_code placing.program begin body p.far p.place ins p.new
    (at_equal placing.program begin body p.far p.place (stores_behind narrow rs base offset) (singles ins) p.new
    (put_singles narrow rs base offset) p.at) in
    let q : PutNumber begin code (p.place + length ins) (length ins) a count value p.new =
    put_number begin code p.place narrow rs base offset b a value p.new p.at.code_at p.at.pc found.0 found.1 other
    base_apart
    rs_is base_is sum (omega (arith, fits, some)) small may apart p.at.registers in
    let own_size : size_of (far_of body) p.far (stores_behind narrow rs base offset) ≡ length ins =
    ap (size_of (far_of body) p.far) (put_singles narrow rs base offset) ∙ size_singles (far_of body) p.far ins in
    let end : s.k + size_of (far_of body) s.far_at (op_lines body operation) ≡ p.place + length ins =
    omega (arith, p.size, own_size) in
    let room : 0 < size_of (far_of body) s.far_at (op_lines body operation) = s.some_room in
    let within : s.k + size_of (far_of body) s.far_at (op_lines body operation) ≤ length (code_of body) = s.end in
    let goes : Goes begin code (p.place + length ins) (p.count + q.steps) m q.new =
    goes_on begin code p.place (p.place + length ins) p.count q.steps m p.new q.new p.goes q.goes in
    let spot = spot_there placing here operation begin (p.place + length ins) (here.frame.place + 1) m q.new s
    (s.next ∙ ap Some end) (omega (arith, end, room)) (omega (arith, end, within)) goes.pc in
    let stands : Stands placing (goes_on_at here.state here.frame here.below (here.frame.place + 1)
    (overwritten here.state.memory a cells)) q.new =
    stands_flat placing here.state m q.new here.frame here.below (here.frame.place + 1) a number
    cells is
    at.stands at.frames s.i spot
    (writes_between a number p.new m q.new q.new (sym memory_same) refl q.writes)
    (keeps_through m p.new q.new keeps q.keeps) q.registers (omega (arith, some, size)) (omega (arith, fits, size))
    (cells_size ∙ sym size) told (bytes_small 0 count value)
    (λ x from upto. own x from (omega (arith, upto, size))) in
    let few : p.count ≤ before = p.few in
    let few' : q.steps ≤ length ins = q.few in
    let some_steps : 0 < q.steps = q.some in
    followed placing begin body most (p.count + q.steps) (p.place + length ins) m q.new
    (goes_on_at here.state here.frame here.below (here.frame.place + 1) memory) streams (omega (arith, some_steps))
    (omega (arith, few, few', short, enough)) goes
    (subst (λ mem. Stands placing (goes_on_at here.state here.frame here.below
    (here.frame.place + 1) mem) q.new) parts.1
    stands)
    bytes

-- ---- behind an address that a slot holds

base_apart_of : (vars : List ℕ) (slot : ℕ) (o : Option ℕ) → home vars slot ≡ o → register_or o 5 ≡ 28 → ⊥
base_apart_of vars slot (Some r) e same =
    let bound = home_bound vars slot r e in
    let less : r < 26 = bound.2 in
    omega (arith, same, less)
base_apart_of vars slot None e same = omega (arith, same)

below_of : (p q : ℕ) → nat_lt p q ≡ true → p < q
below_of p q t = grind (arith, nat_tests)

flat_stored : (placing : Placing) (here : Here) (operation : LirOp) (begin most before base offset b a : ℕ)
    (narrow : Narrow) (rs value : ℕ) (cells : List Cell) (memory : FlatMemory) (m : MachineState) (streams : Streams)
    → IsPlacing placing → IsAt placing here operation begin m → (s : Site placing here operation begin m)
    → (p : Past placing.program begin here.body s.far_at s.k before (op_lines here.body operation)
    (stores_place here.body.vars narrow rs (Flat base offset)) m)
    → KeepsOwn m p.new → p.new.segments ≡ m.segments → (rs ≡ 28 → ⊥) → (rs ≡ 5 → ⊥) → register p.new rs ≡ value
    → length cells ≡ bytes_of_type narrow
    → AllZip CellTellsNoMore cells (map Byte (little_bytes (bytes_of_type narrow) value))
    → nat_lt offset (2 ^ 32) ≡ true → word_in here base ≡ Some b
    → place_behind offset (bytes_of_type narrow) b ≡ Some a → with_cells here.state.memory a cells ≡ Some memory
    → before + (4 + behind_address offset) ≤ most → AreBytes streams
    → FollowsInBody placing begin here.body most m streams (goes_on_with here streams memory)
flat_stored placing here operation begin most before base offset b a narrow rs value cells memory m streams is at s p
    keeps memory_same other not_5 rs_is size told short base_is place_is written enough bytes =
    let body : LirBody = here.body in
    let x : ℕ = register_or (home body.vars base) 5 in
    let l : SlotStands m body.vars base b = slot_stands placing here operation begin m base b is at s base_is in
    let last : List Line = stores_behind narrow rs x offset in
    let one = past_operand placing.program begin body p.far p.place 5 base b last p.new p.at
    (slot_still m p.new body.vars base b keeps memory_same l) free_5 (omega arith) (omega arith) in
    let q = one.past in
    let few : p.count ≤ before = p.few in
    let few' : q.count ≤ 4 = q.few in
    let both : Past placing.program begin body s.far_at s.k (before + 4) (op_lines body operation) last m = record {
      far = q.far;
      place = q.place;
      new = q.new;
      count = p.count + q.count;
      few = omega (arith, few, few');
      goes = goes_on begin (linked placing.program begin body) p.place q.place p.count q.count m p.new q.new p.goes
          q.goes;
      at = q.at;
      size = p.size ∙ q.size;
    } in
    let behind = place_told offset (bytes_of_type narrow) b a place_is in
    let small : offset < 2 ^ 32 = below_of offset (2 ^ 32) short in
    let sum : pos b +ℤ pos offset ≡ pos (b + offset) = omega (arith, ints) in
    stored_at placing here operation begin most (before + 4) (behind_address offset) narrow rs x offset b a value cells
    memory m streams is at s both (keeps_through m p.new q.new keeps one.keeps) (one.memory ∙ memory_same) other
    (base_apart_of body.vars base (home body.vars base) refl) (one.others rs not_5 other ∙ rs_is)
    one.has (ap (low_bits 64) sum ∙ behind.0) (omega (arith, small)) behind.1 size told written
    (put_length narrow rs x offset) (omega (arith, enough)) bytes

-- ---- in the frame

-- a store of eight bytes is one of a word
stores_eight : (narrow : Narrow) → bytes_of_type narrow ≡ 8 → (rs base offset : ℕ)
    → stores_behind narrow rs base offset ≡ stores_behind Narrow.I8 rs base offset
stores_eight Narrow.I1 e rs base offset = absurd (omega (arith, e))
stores_eight Narrow.U1 e rs base offset = absurd (omega (arith, e))
stores_eight Narrow.I2 e rs base offset = absurd (omega (arith, e))
stores_eight Narrow.U2 e rs base offset = absurd (omega (arith, e))
stores_eight Narrow.I4 e rs base offset = absurd (omega (arith, e))
stores_eight Narrow.U4 e rs base offset = absurd (omega (arith, e))
stores_eight Narrow.I8 e rs base offset = refl
stores_eight Narrow.U8 e rs base offset = refl

slot_stored : (placing : Placing) (here : Here) (operation : LirOp) (begin most before slot offset : ℕ)
    (narrow : Narrow) (rs value : ℕ) (cells : List Cell) (memory : FlatMemory) (m : MachineState) (streams : Streams)
    → IsPlacing placing → IsAt placing here operation begin m → (s : Site placing here operation begin m)
    → (p : Past placing.program begin here.body s.far_at s.k before (op_lines here.body operation)
    (stores_place here.body.vars narrow rs (Slot slot offset)) m)
    → KeepsOwn m p.new → p.new.segments ≡ m.segments → (rs ≡ 28 → ⊥) → register p.new rs ≡ value → value < 2 ^ 64
    → length cells ≡ bytes_of_type narrow
    → AllZip CellTellsNoMore cells (map Byte (little_bytes (bytes_of_type narrow) value))
    → fits here.body (at_place (Slot slot offset) (bytes_of_type narrow)) ≡ true
    → option_and_then (λ q. with_cells here.state.memory q cells)
    (place_of here (Slot slot offset) (bytes_of_type narrow)) ≡ Some memory
    → before + 4 ≤ most → AreBytes streams
    → FollowsInBody placing begin here.body most m streams (goes_on_with here streams memory)
slot_stored placing here operation begin most before slot offset narrow rs value cells memory m streams is at s p keeps
    memory_same other rs_is small size told fits_piece written enough bytes =
    by (is_variable here.body (first / 8)) refl found.1
  where
    body : LirBody
    body = here.body

    count : ℕ
    count = bytes_of_type narrow

    first : ℕ
    first = 8 * slot + offset

    place : ℕ
    place = bytes_place slot offset

    a : ℕ
    a = here.frame.address + 128 + first

    found : (lies_in_frame body.frame (at_place (Slot slot offset) count) ≡ true)
        × (with_cells here.state.memory (cond (is_variable body (first / 8)) (addresses + a) a) cells ≡ Some memory)
    found =
        writing (lies_in_frame body.frame (at_place (Slot slot offset) count)) (is_variable body (first / 8)) a
        here.state.memory memory cells written

    ends : 128 + first + count ≤ body.frame
    ends = leb-true (128 + first + count) body.frame found.0

    most_frame : body.frame ≤ 65536
    most_frame = body.frame_size.greatest

    same : here.frame.address ≡ register m 2
    same = s.i.first.address

    top : here.frame.address + body.frame + 128 ≤ addresses
    top = below_all placing here.frame.address body is (room_here placing here operation begin m is at)

    -- at the lines by the home of the bytes
    at_home : (h : Option ℕ) → home_of_bytes body.vars first count ≡ h
        → AtLines placing.program begin body p.far p.place (stores_frame h narrow rs place) p.new
    at_home h e =
        at_equal placing.program begin body p.far p.place (stores_place body.vars narrow rs (Slot slot offset))
        (stores_frame h narrow rs place) p.new (ap (λ o. stores_frame o narrow rs place) e) p.at

    size_home : (h : Option ℕ) → home_of_bytes body.vars first count ≡ h
        → s.k + size_of (far_of body) s.far_at (op_lines body operation)
        ≡ p.place + size_of (far_of body) p.far (stores_frame h narrow rs place)
    size_home h e = p.size ∙ ap (λ o. p.place + size_of (far_of body) p.far (stores_frame o narrow rs place)) e

    -- bytes that have an address
    flat : is_variable body (first / 8) ≡ false → with_cells here.state.memory a cells ≡ Some memory
        → FollowsInBody placing begin body most m streams (goes_on_with here streams memory)
    flat not_one written' =
        let none : home_of_bytes body.vars first count ≡ None = home_none body first count not_one in
        let sum : pos (register m 2) +ℤ pos place ≡ pos (register m 2 + place) = omega (arith, ints) in
        let address_is : low_bits 64 (pos (register m 2) +ℤ pos place) ≡ a =
        ap (low_bits 64) sum ∙ omega (arith, same, top, ends) in
        stored_at placing here operation begin most before 4 narrow rs 2 place (register m 2) a value cells memory m
        streams is at s
        (record {
          far = p.far;
          place = p.place;
          new = p.new;
          count = p.count;
          few = p.few;
          goes = p.goes;
          at = at_home None none;
          size = size_home None none;
        })
        keeps memory_same other (λ e. omega (arith, e)) rs_is keeps.frame address_is
        (omega (arith, ends, most_frame)) (omega (arith, top, ends)) size told written'
        (put_short narrow rs 2 place (omega (arith, ends, most_frame))) enough bytes

    by_variable : is_variable body (first / 8) ≡ true
        → with_cells here.state.memory (addresses + a) cells ≡ Some memory
        → FollowsInBody placing begin body most m streams (goes_on_with here streams memory)
    by_variable variable written' =
        let v : ℕ = first / 8 in
        let whole : (first ≡ 8 * v) × (count ≡ 8) =
        whole_of first count v refl (some_bytes narrow)
        (holds_of_one (is_whole_or_apart (at_place (Slot slot offset) count)) body.vars v
        (second_of (lies_in_frame body.frame (at_place (Slot slot offset) count))
        (list_all (is_whole_or_apart (at_place (Slot slot offset) count)) body.vars) fits_piece)
        variable) in
        let ends_word : 128 + 8 * v + 8 ≤ body.frame = omega (arith, ends, whole.0, whole.1) in
        let b : ℕ = here.frame.address + 128 + 8 * v in
        let index : 8 * v / 8 ≡ v = omega arith in
        let there : with_cells here.state.memory (addresses + b) cells ≡ Some memory =
        subst (λ f. with_cells here.state.memory (addresses + (here.frame.address + 128 + f)) cells ≡ Some memory)
        whole.0 written' in
        let gives : option_and_then (λ q. with_cells here.state.memory q cells) (place_here here (word v))
        ≡ Some memory =
        ap (λ t. option_and_then (λ q. with_cells here.state.memory q cells)
        (cond t (Some (cond (is_variable body (8 * v / 8)) (addresses + b) b)) None))
        (le_true (128 + 8 * v + 8) body.frame ends_word)
        ∙ ap (λ k. with_cells here.state.memory (cond (is_variable body k) (addresses + b) b) cells) index
        ∙ ap (λ t. with_cells here.state.memory (cond t (addresses + b) b) cells) variable ∙ there in
        let even : first % 8 ≡ 0 = omega (arith, whole.0) in
        let home_is : home_of_bytes body.vars first count ≡ home body.vars v =
        ap (λ c. cond (c == 8) (cond (first % 8 == 0) (home body.vars v) None) None) whole.1
        ∙ ap (λ k. cond (k == 0) (home body.vars v) None) even in
        by_home v whole gives (size ∙ whole.1)
        (subst (λ c. AllZip CellTellsNoMore cells (map Byte (little_bytes c value))) whole.1 told) home_is
        (home body.vars v) refl
      where
        by_home : (v : ℕ) → (first ≡ 8 * v) × (count ≡ 8)
            → option_and_then (λ q. with_cells here.state.memory q cells) (place_here here (word v)) ≡ Some memory
            → length cells ≡ 8 → AllZip CellTellsNoMore cells (map Byte (little_bytes 8 value))
            → home_of_bytes body.vars first count ≡ home body.vars v → (o : Option ℕ) → home body.vars v ≡ o
            → FollowsInBody placing begin body most m streams (goes_on_with here streams memory)
        by_home v whole gives eight told_8 home_is (Some q) e =
            let code : List Ins = linked placing.program begin body in
            let bound = home_bound body.vars v q e in
            let low : 18 ≤ q = bound.0 in
            let high : q < 26 = bound.2 in
            let there : AtLines placing.program begin body p.far p.place (stores_frame (Some q) narrow rs place) p.new =
            at_home (Some q) (home_is ∙ e) in
            let m2 : MachineState = given q value p.new in
            let sum : low_bits 64 (pos (register p.new rs) +ℤ pos 0) ≡ value =
            ap (λ x. low_bits 64 (pos x +ℤ pos 0)) rs_is ∙ omega (arith, small) in
            let step : Goes begin code (p.place + 1) 1 p.new m2 =
            goes_given begin code p.place (Ins.Addi q rs (pos 0)) q value p.new p.at.code_at p.at.pc there.block.0
            there.legal.0 (λ ss. ap (λ x. Running (given q x p.new) ss) sum) in
            let has : HasRegisters m2 = given_has q value p.new small p.at.registers in
            let few : p.count ≤ before = p.few in
            slot_given placing here operation begin v 7 most (before + 1) value cells memory m streams (Some q) is at s
            (λ same'. omega (arith, same')) e
            (record {
              far = p.far + 1;
              place = p.place + 1;
              new = m2;
              count = p.count + 1;
              few = omega (arith, few);
              goes = goes_on begin code p.place (p.place + 1) p.count 1 m p.new m2 p.goes step;
              at = record { code_at = step.code_at; pc = step.pc; block = tt; legal = tt; registers = has };
              size = size_home (Some q) (home_is ∙ e) ∙ omega arith;
            })
            (homed_by m p.new m2 q (q - 18) value (omega (arith, low)) (omega (arith, low, high)) keeps memory_same has
            (given_same q value p.new (omega (arith, low)) (omega (arith, high)) p.at.registers)
            (λ r ne kept. given_other q r value p.new ne) refl)
            (λ r e'. omega arith) small eight told_8 gives (omega (arith, enough)) bytes
        by_home v whole gives eight told_8 home_is None e =
            let none : home_of_bytes body.vars first count ≡ None = home_is ∙ e in
            let place_is : place ≡ slot_place v = omega (arith, whole.0) in
            let lines : stores_behind narrow rs 2 place ≡ writes_slot None rs v =
            stores_eight narrow whole.1 rs 2 place ∙ ap (stores_behind Narrow.I8 rs 2) place_is in
            slot_given placing here operation begin v rs most before value cells memory m streams None is at s other e
            (record {
              far = p.far;
              place = p.place;
              new = p.new;
              count = p.count;
              few = p.few;
              goes = p.goes;
              at = at_equal placing.program begin body p.far p.place (stores_behind narrow rs 2 place)
                  (writes_slot None rs v) p.new lines (at_home None none);
              size = size_home None none ∙ ap (λ ls. p.place + size_of (far_of body) p.far ls) lines;
            })
            (keeps, memory_same, rs_is) (λ r e'. cc) small eight told_8 gives enough bytes

    by : (b : Bool) → is_variable body (first / 8) ≡ b
        → with_cells here.state.memory (cond b (addresses + a) a) cells ≡ Some memory
        → FollowsInBody placing begin body most m streams (goes_on_with here streams memory)
    by true e written' = by_variable e written'
    by false e written' = flat e written'

-- ---- at a place

-- The machine is at the lines that store a register's word at a place, and the program writes cells there that tell no
-- more than the word's lowest bytes.
pub place_stored : (placing : Placing) (here : Here) (operation : LirOp) (begin most before : ℕ) (to : Place)
    (narrow : Narrow) (rs value : ℕ) (cells : List Cell) (memory : FlatMemory) (m : MachineState) (streams : Streams)
    → IsPlacing placing → IsAt placing here operation begin m → (s : Site placing here operation begin m)
    → (p : Past placing.program begin here.body s.far_at s.k before (op_lines here.body operation)
    (stores_place here.body.vars narrow rs to) m)
    → KeepsOwn m p.new → p.new.segments ≡ m.segments → (rs ≡ 28 → ⊥) → (rs ≡ 5 → ⊥) → register p.new rs ≡ value
    → value < 2 ^ 64 → length cells ≡ bytes_of_type narrow
    → AllZip CellTellsNoMore cells (map Byte (little_bytes (bytes_of_type narrow) value))
    → fits here.body (at_place to (bytes_of_type narrow)) ≡ true → has_short_offset to ≡ true
    → option_and_then (λ q. with_cells here.state.memory q cells) (place_of here to (bytes_of_type narrow))
    ≡ Some memory
    → before + most_at_place to ≤ most → AreBytes streams
    → FollowsInBody placing begin here.body most m streams (goes_on_with here streams memory)
place_stored placing here operation begin most before (Slot slot offset) narrow rs value cells memory m streams is at
    s p
    keeps memory_same other not_5 rs_is small size told fits_piece short written enough bytes =
    slot_stored placing here operation begin most before slot offset narrow rs value cells memory m streams is at s p
    keeps memory_same other rs_is small size told fits_piece written enough bytes
place_stored placing here operation begin most before (Flat base offset) narrow rs value cells memory m streams is at
    s p
    keeps memory_same other not_5 rs_is small size told fits_piece short written enough bytes =
    by (word_in here base) refl written
  where
    count : ℕ
    count = bytes_of_type narrow

    by_place : (b : ℕ) → word_in here base ≡ Some b → (o : Option ℕ) → place_behind offset count b ≡ o
        → option_and_then (λ q. with_cells here.state.memory q cells) o ≡ Some memory
        → FollowsInBody placing begin here.body most m streams (goes_on_with here streams memory)
    by_place b base_is None e written' = cc
    by_place b base_is (Some a) e written' =
        flat_stored placing here operation begin most before base offset b a narrow rs value cells memory m streams is
        at
        s p keeps memory_same other not_5 rs_is size told short base_is e written' enough bytes

    by : (o : Option ℕ) → word_in here base ≡ o
        → option_and_then (λ q. with_cells here.state.memory q cells)
        (option_and_then (place_behind offset count) o) ≡ Some memory
        → FollowsInBody placing begin here.body most m streams (goes_on_with here streams memory)
    by None e written' = cc
    by (Some b) e written' = by_place b e (place_behind offset count b) refl written'
