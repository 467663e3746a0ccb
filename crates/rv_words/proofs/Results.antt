-- The word of a result comes to its slot: to its home, or to memory.
use Rattle.std.proofs.Common.{◌≡◌, ◌∙◌, inr, ℕ, zero, suc, ◌+◌, ◌-◌, ◌*◌, ◌/◌, ◌^◌, ◌<◌, ◌≤◌, Bool, true, false}
use Rattle.std.proofs.Common.{cond, List, [], ◌∷◌, ◌++◌, length, map, Option, Some, None, All, pos, arith, refl, ap}
use Rattle.std.proofs.Common.{sym, subst, slice_index, length-append}
use Rattle.std.specs.Prelude.{slice_get}
use Rattle.std.specs.List.{AllZip, list_all}
use Rattle.std.specs.Option.{option_and_then}
use Rattle.std.proofs.lemmas.Bool.{leb-true}
use Rattle.byteorder.specs.Endian.{little_bytes}
use Rattle.byteorder.specs.Numbers.{length-bytes_low_first}
use Rattle.num_core.specs.Run.{Running, Streams}
use Rattle.num_core.specs.declared.kind.Narrow.TheVariants.{I8}
use Rattle.rv_isa.specs.declared.ins.Ins.{Ins}
use Rattle.rv_isa.specs.Instructions.{IsLegal}
use Rattle.rv_step.specs.Machine.{MachineState, register, stores}
use Rattle.rv_step.specs.Memory.{AreApart, MayWrite, Writes, is_allowed}
use Rattle.rv_code.specs.Code.{AllLegal, BlockAt, CodeAt}
use Rattle.rv_code.specs.Registers.{HasRegisters}
use Rattle.rv_code.proofs.Going.{block_parts, legal_parts}
use Rattle.lir_core.specs.Check.{lies_in_frame}
use Rattle.lir_core.specs.Memory.{Byte, Cell, FlatMemory, cells_from, is_own, overwritten, with_cells}
use Rattle.lir_core.specs.Pieces.{word}
use Rattle.lir_core.specs.Slots.{Here, addresses, is_variable, place_here}
use Rattle.lir_core.specs.Tells.{CellTellsNoMore}
use Rattle.lir_core.specs.declared.body.LirBody.{LirBody}
use Rattle.lir_core.specs.declared.op.LirOp.{LirOp}
use Rattle.lir_core.proofs.Sound.{first_of, second_of}
use Rattle.rt_code.proofs.Machines.{sum_of, writes_between}
use Rattle.rv_lines.specs.Frame.{home, slot_place}
use Rattle.rv_lines.specs.Operands.{adds_far, is_near, stores_behind, writes_slot}
use Rattle.rv_lines.specs.declared.line.Line.TheVariants.{Single}
use Rattle.rv_gen.specs.Lines.{op_lines}
use Rattle.rv_gen.specs.Placing.{code_of}
use Rattle.rv_words.specs.Groups.{IsAt}
use Rattle.rv_words.specs.Linked.{linked}
use Rattle.rv_words.specs.Placing.{IsPlacing, Placing}
use Rattle.rv_words.specs.Stands.{AreBytes, FollowsInBody, Stands}
use Rattle.rv_words.specs.Words.{stands_at}
use Rattle.rv_words.proofs.ConstantCode.{constant_code, constant_short, far_code, far_length, far_singles, got_far}
use Rattle.rv_words.proofs.ConstantCode.{singles}
use Rattle.rv_words.proofs.ConstantCode.{singles_append}
use Rattle.rv_words.proofs.Going.{Goes, Put, goes_on, goes_put}
use Rattle.rv_words.proofs.Got.{got_keeps}
use Rattle.rv_words.proofs.Homed.{Homed, stands_homed}
use Rattle.rv_words.proofs.Homes.{home_bound, home_variable}
use Rattle.rv_words.proofs.JumpLaws.{spot_there}
use Rattle.rv_words.proofs.Lines.{AtLines, at_equal, first_code, size_singles}
use Rattle.rv_words.proofs.LinkedCode.{size_of}
use Rattle.rv_words.proofs.Moved.{KeepsOwn, keeps_through}
use Rattle.rv_words.proofs.Operands.{Past, free_28}
use Rattle.rv_words.proofs.Places.{far_of}
use Rattle.rv_words.proofs.Reading.{room_here}
use Rattle.rv_words.proofs.Room.{HasRoom, below_all, in_data, may_write}
use Rattle.rv_words.proofs.Sites.{Site, followed, linked_length}
use Rattle.rv_words.proofs.Slotted.{IsPut, stands_put}
use Rattle.rv_words.proofs.Standing.{goes_on_at}

-- ---- a word to memory

abbrev pub store_by : Bool → ℕ → ℕ → ℕ → List Ins
store_by near rs base offset =
    cond near (Ins.Sd base rs (pos offset) ∷ []) (far_code 28 base offset ++ Ins.Sd 28 rs (pos 0) ∷ [])

abbrev pub store_code : ℕ → ℕ → ℕ → List Ins
store_code rs base offset = store_by (is_near offset) rs base offset

pub store_singles : (rs base offset : ℕ) → stores_behind I8 rs base offset ≡ singles (store_code rs base offset)
store_singles rs base offset = by (is_near offset)
  where
    by : (b : Bool) → cond b (Single (Ins.Sd base rs (pos offset)) ∷ [])
        (adds_far 28 base offset ++ Single (Ins.Sd 28 rs (pos 0)) ∷ []) ≡ singles (store_by b rs base offset)
    by true = refl
    by false =
        ap (λ xs. xs ++ Single (Ins.Sd 28 rs (pos 0)) ∷ []) (far_singles 28 base offset)
        ∙ sym (singles_append (far_code 28 base offset) (Ins.Sd 28 rs (pos 0) ∷ []))

-- The machine has written the word, and nothing else that counts has changed.
pub record PutWord (address : ℕ) (code : List Ins) (place most a value : ℕ) (m : MachineState) : Type 0 where
  pub new : MachineState
  pub count : ℕ
  pub some : 0 < count
  pub few : count ≤ most
  pub goes : Goes address code place count m new
  pub writes : Writes a (little_bytes 8 value) m new
  pub keeps : KeepsOwn m new
  pub registers : HasRegisters new

pub same_registers : (m new : MachineState) → new.registers ≡ m.registers → HasRegisters m → HasRegisters new
same_registers m new e has = record {
  count = ap length e ∙ has.count;
  x0 = ap (λ rs. slice_index rs 0) e ∙ has.x0;
  words = subst (All (λ w. w < 2 ^ 64)) (sym e) has.words;
}

pub same_keeps : (m new : MachineState) → new.registers ≡ m.registers → KeepsOwn m new
same_keeps m new e = record {
  frame = ap (λ rs. slice_index rs 2) e;
  homes = λ k h. ap (λ rs. slice_index rs (18 + k)) e;
  lowest = ap (λ rs. slice_index rs 26) e;
  heap = ap (λ rs. slice_index rs 27) e;
}

put_once : (address : ℕ) (code : List Ins) (k rs base offset a value : ℕ) (m : MachineState) → CodeAt address code m
    → m.pc ≡ address + 4 * k → slice_get code k ≡ Some (Ins.Sd base rs (pos offset))
    → IsLegal (Ins.Sd base rs (pos offset)) → register m rs ≡ value → register m base + offset ≡ a → a < 2 ^ 64
    → MayWrite m a 8 → AreApart a 8 address (4 * length code) → HasRegisters m → PutWord address code
    (k + 1) 1 a value m
put_once address code k rs base offset a value m at pc there legal is place fits may apart has =
    let sum = sum_of (register m base) offset (omega (arith, place, fits)) ∙ place in
    let p : Put address code k a (little_bytes 8 value) m =
    goes_put address code k (Ins.Sd base rs (pos offset)) 8 a value m at pc there legal
    (λ streams. ap (λ x. stores m 8 x (register m rs) streams) sum ∙ ap (λ v. stores m 8 a v streams) is) may apart
    (length-bytes_low_first 0 8 value) in
    record {
      new = p.new;
      count = 1;
      some = omega arith;
      few = omega arith;
      goes = p.goes;
      writes = p.writes;
      keeps = same_keeps m p.new p.registers;
      registers = same_registers m p.new p.registers has;
    }

store_length : (rs base offset : ℕ) → length (far_code 28 base offset ++ Ins.Sd 28 rs (pos 0) ∷ [])
    ≡ length (constant_code 28 offset) + 1 + 1
store_length rs base offset =
    length-append (far_code 28 base offset) (Ins.Sd 28 rs (pos 0) ∷ []) ∙ ap (λ n. n + 1) (far_length 28 base offset)

pub put_word : (address : ℕ) (code : List Ins) (k rs offset a value : ℕ) (m : MachineState) → CodeAt address code m
    → m.pc ≡ address + 4 * k → BlockAt code k (store_code rs 2 offset) → AllLegal (store_code rs 2 offset)
    → (rs ≡ 28 → ⊥) → register m rs ≡ value → register m 2 + offset ≡ a → a < 2 ^ 64 → offset < 2 ^ 31 → MayWrite m a 8
    → AreApart a 8 address (4 * length code) → HasRegisters m
    → PutWord address code (k + length (store_code rs 2 offset)) 4 a value m
put_word address code k rs offset a value m at pc there legal other is place fits near may apart has =
    by (is_near offset) there legal
  where
    by : (t : Bool) → BlockAt code k (store_by t rs 2 offset) → AllLegal (store_by t rs 2 offset)
        → PutWord address code (k + length (store_by t rs 2 offset)) 4 a value m
    by true there legal =
        let p = put_once address code k rs 2 offset a value m at pc there.0 legal.0 is place fits may apart has in
        record {
          new = p.new;
          count = p.count;
          some = p.some;
          few = let few : p.count ≤ 1 = p.few in omega (arith, few);
          goes = p.goes;
          writes = p.writes;
          keeps = p.keeps;
          registers = p.registers;
        }
    by false there legal =
        let far : List Ins = far_code 28 2 offset in
        let c : ℕ = length (constant_code 28 offset) in
        let parts = block_parts code k far (Ins.Sd 28 rs (pos 0) ∷ []) there in
        let lawful = legal_parts far (Ins.Sd 28 rs (pos 0) ∷ []) legal in
        let v_is = sum_of (register m 2) offset (omega (arith, place, fits)) ∙ place in
        let g = got_far address code k 28 2 offset (register m 2) m at pc parts.0 lawful.0 (omega arith) (omega arith)
        (λ e. omega (arith, e)) refl (omega (arith, near)) has in
        let size : length far ≡ c + 1 = far_length 28 2 offset in
        let where_it_is : k + length far ≡ k + c + 1 = omega (arith, size) in
        let ins : slice_get code (k + c + 1) ≡ Some (Ins.Sd 28 rs (pos 0)) =
        subst (λ n. slice_get code n ≡ Some (Ins.Sd 28 rs (pos 0))) where_it_is parts.1.0 in
        let p = put_once address code (k + c + 1) rs 28 0 a value g.new g.goes.code_at g.goes.pc ins lawful.1.0
        (g.others rs other other ∙ is) (omega (arith, g.has, v_is)) fits
        (ap (λ ss. is_allowed (λ s. s.write) ss a 8) g.memory ∙ may) apart g.registers in
        let whole : length (far ++ Ins.Sd 28 rs (pos 0) ∷ []) ≡ c + 1 + 1 = store_length rs 2 offset in
        let last : k + c + 1 + 1 ≡ k + length (far ++ Ins.Sd 28 rs (pos 0) ∷ []) = omega (arith, whole) in
        let short : c ≤ 2 = constant_short 28 offset near in
        let few : g.count ≤ c + 1 = g.few in
        let few' : p.count ≤ 1 = p.few in
        let some : 0 < p.count = p.some in
        record {
          new = p.new;
          count = g.count + p.count;
          some = omega (arith, some);
          few = omega (arith, few, few', short);
          goes = subst (λ n. Goes address code n (g.count + p.count) m p.new) last
              (goes_on address code (k + c + 1) (k + c + 1 + 1) g.count p.count m g.new p.new g.goes p.goes);
          writes = writes_between a (little_bytes 8 value) g.new m p.new p.new (sym g.memory) refl p.writes;
          keeps = keeps_through m g.new p.new (got_keeps address code (k + c + 1) (c + 1) 28 _ m free_28 g) p.keeps;
          registers = p.registers;
        }

-- ---- what the program writes

pub writing : (lies beyond_all : Bool) (a : ℕ) (memory new : FlatMemory) (cells : List Cell)
    → option_and_then (λ p. with_cells memory p cells) (cond lies (Some (cond beyond_all (addresses + a) a)) None)
    ≡ Some new
    → (lies ≡ true) × (with_cells memory (cond beyond_all (addresses + a) a) cells ≡ Some new)
writing true beyond_all a memory new cells e = (refl, e)
writing false beyond_all a memory new cells e = cc

pub written_where : (memory new : FlatMemory) (p : ℕ) (cells : List Cell) → with_cells memory p cells ≡ Some new
    → (list_all is_own (cells_from memory p (length cells)) ≡ true) × (overwritten memory p cells ≡ new)
written_where memory new p cells e = by (list_all is_own (cells_from memory p (length cells))) refl e
  where
    by : (b : Bool) → list_all is_own (cells_from memory p (length cells)) ≡ b
        → cond b (Some (overwritten memory p cells)) None ≡ Some new
        → (list_all is_own (cells_from memory p (length cells)) ≡ true) × (overwritten memory p cells ≡ new)
    by true is e = (is, cc)
    by false is e = cc

pub all_owned : (memory : FlatMemory) (p n : ℕ) → list_all is_own (cells_from memory p n) ≡ true → (x : ℕ) → p ≤ x
    → x < p + n → is_own (memory x) ≡ true
all_owned memory p zero all x low high = absurd (omega (arith, low, high))
all_owned memory p (suc n) all x low high =
    by (λ low' high'. all_owned memory (suc p) n rest x low' high') (x - p) refl
  where
    first : is_own (memory p) ≡ true
    first = first_of (is_own (memory p)) (list_all is_own (cells_from memory (suc p) n)) all

    rest : list_all is_own (cells_from memory (suc p) n) ≡ true
    rest = second_of (is_own (memory p)) (list_all is_own (cells_from memory (suc p) n)) all

    by : (suc p ≤ x → x < suc p + n → is_own (memory x) ≡ true) → (d : ℕ) → x - p ≡ d → is_own (memory x) ≡ true
    by more zero e = let same : p ≡ x = omega (arith, low, e) in subst (λ y. is_own (memory y) ≡ true) same first
    by more (suc d) e = more (omega (arith, low, e)) (omega (arith, high))

-- ---- the result in its slot

-- The result is in its home, or in another register.
abbrev pub HasResult : Option ℕ → ℕ → MachineState → MachineState → ℕ → Type 0
HasResult (Some r) other m new value = Homed m new (r - 18) value
HasResult None other m new value =
    KeepsOwn m new × (new.segments ≡ m.segments) × (register new other ≡ value)

-- how many instructions write the slot at most
abbrev pub most_after : Option ℕ → ℕ
most_after (Some r) = 0
most_after None = 4

pub slot_given : (placing : Placing) (here : Here) (operation : LirOp) (begin to other most most_before value : ℕ)
    (cells : List Cell) (memory : FlatMemory) (m : MachineState) (streams : Streams) (o : Option ℕ) → IsPlacing placing
    → IsAt placing here operation begin m → (s : Site placing here operation begin m) → (other ≡ 28 → ⊥)
    → home here.body.vars to ≡ o
    → (p : Past placing.program begin here.body s.far_at s.k most_before (op_lines here.body operation)
    (writes_slot o other to) m)
    → HasResult o other m p.new value → ((r : ℕ) → o ≡ Some r → 0 < p.count) → value < 2 ^ 64 → length cells ≡ 8
    → AllZip CellTellsNoMore cells (map Byte (little_bytes 8 value))
    → option_and_then (λ place. with_cells here.state.memory place cells) (place_here here (word to)) ≡ Some memory
    → most_before + most_after o ≤ most → AreBytes streams
    → FollowsInBody placing begin here.body most m streams
    (Running (goes_on_at here.state here.frame here.below (here.frame.place + 1) memory) streams)
slot_given placing here operation begin to other most most_before value cells memory m streams o is at s apart home_of p
    result some small size told gives enough bytes =
    by_home o home_of p.at p.size result some enough
  where
    body : LirBody
    body = here.body

    code : List Ins
    code = linked placing.program begin body

    a : ℕ
    a = here.frame.address + 128 + 8 * to

    found : (lies_in_frame body.frame (word to) ≡ true)
        × (with_cells here.state.memory (cond (is_variable body (8 * to / 8)) (addresses + a) a) cells ≡ Some memory)
    found =
        writing (lies_in_frame body.frame (word to)) (is_variable body (8 * to / 8)) a here.state.memory memory cells
        gives

    variable_is : is_variable body (8 * to / 8) ≡ is_variable body to
    variable_is = let e : 8 * to / 8 ≡ to = omega arith in ap (is_variable body) e

    ends : 128 + 8 * to + 8 ≤ body.frame
    ends = leb-true (128 + 8 * to + 8) body.frame found.0

    same : here.frame.address ≡ register m 2
    same = s.i.first.address

    a_is : a ≡ register m 2 + slot_place to
    a_is = omega (arith, same)

    a' : ℕ
    a' = register m 2 + slot_place to

    done : with_cells here.state.memory (cond (is_variable body to) (addresses + a') a') cells ≡ Some memory
    done =
        subst (λ x. with_cells here.state.memory (cond (is_variable body to) (addresses + x) x) cells ≡ Some memory)
        a_is
        (subst (λ b. with_cells here.state.memory (cond b (addresses + a) a) cells ≡ Some memory) variable_is found.1)

    place : Bool → ℕ
    place b = cond b (addresses + a') a'

    parts : (list_all is_own (cells_from here.state.memory (place (is_variable body to)) (length cells)) ≡ true)
        × (overwritten here.state.memory (place (is_variable body to)) cells ≡ memory)
    parts = written_where here.state.memory memory (place (is_variable body to)) cells done

    owned : (x : ℕ) → place (is_variable body to) ≤ x → x < place (is_variable body to) + 8
        → is_own (here.state.memory x) ≡ true
    owned =
        all_owned here.state.memory (place (is_variable body to)) 8
        (subst (λ n. list_all is_own (cells_from here.state.memory (place (is_variable body to)) n) ≡ true) size
        parts.0)

    fits_here : slot_place to + 8 ≤ s.i.here.body.frame
    fits_here = subst (λ c. slot_place to + 8 ≤ c.frame) (sym s.body_is) (omega (arith, ends))

    room : HasRoom placing here.frame.address body
    room = room_here placing here operation begin m is at

    -- the next operation begins at a place
    next_spot : (to' : ℕ) (new : MachineState) → s.k + size_of (far_of body) s.far_at (op_lines body operation) ≡ to'
        → s.k < to' → new.pc ≡ begin + 4 * to'
        → stands_at placing new.pc
        ≡ Some (record { item = s.i.here.item; body = s.i.here.body; place = here.frame.place + 1 })
    next_spot to' new e more pc =
        let end : s.k + size_of (far_of body) s.far_at (op_lines body operation) ≤ length (code_of body) = s.end in
        spot_there placing here operation begin to' (here.frame.place + 1) m new s (s.next ∙ ap Some e)
        (omega (arith, more)) (omega (arith, e, end)) pc

    finish : (count to' : ℕ) (new : MachineState) → 0 < count → count ≤ most → Goes begin code to' count m new
        → Stands placing (goes_on_at here.state here.frame here.below (here.frame.place + 1)
        (overwritten here.state.memory (place (is_variable body to)) cells)) new
        → FollowsInBody placing begin body most m streams
        (Running (goes_on_at here.state here.frame here.below (here.frame.place + 1) memory) streams)
    finish count to' new some few goes stands =
        followed placing begin body most count to' m new
        (goes_on_at here.state here.frame here.below (here.frame.place + 1) memory) streams some few goes
        (subst (λ mem. Stands placing (goes_on_at here.state here.frame here.below
        (here.frame.place + 1) mem) new) parts.1
        stands)
        bytes

    stepped : (k : ℕ) → Goes begin code k p.count m p.new → s.k + size_of (far_of body) s.far_at
        (op_lines body operation) ≡ k
        → s.k < k
    stepped k goes e = let more : 0 < size_of (far_of body) s.far_at (op_lines body operation) = s.some_room in omega
        (arith, e, more)

    by_home : (o : Option ℕ) → home body.vars to ≡ o
        → AtLines placing.program begin body p.far p.place (writes_slot o other to) p.new
        → s.k + size_of (far_of body) s.far_at (op_lines body operation)
        ≡ p.place + size_of (far_of body) p.far (writes_slot o other to)
        → HasResult o other m p.new value → ((r : ℕ) → o ≡ Some r → 0 < p.count) → most_before + most_after o ≤ most
        → FollowsInBody placing begin body most m streams
        (Running (goes_on_at here.state here.frame here.below (here.frame.place + 1) memory) streams)
    by_home (Some r) e there sizes homed stepped_on room_left =
        let bound = home_bound body.vars to r e in
        let low : 18 ≤ r = bound.0 in
        let high : r < 26 = bound.2 in
        let k : ℕ = r - 18 in
        let r_is : r ≡ 18 + k = omega (arith, low) in
        let home_is : home s.i.here.body.vars to ≡ Some (18 + k) =
        ap (λ c. home c.vars to) s.body_is ∙ e ∙ ap Some r_is in
        let variable : is_variable body to ≡ true = home_variable body.vars to r e in
        let variable' : is_variable s.i.here.body to ≡ true = ap (λ c. is_variable c to) s.body_is ∙ variable in
        let last : s.k + size_of (far_of body) s.far_at (op_lines body operation) ≡ p.place = omega (arith, sizes) in
        let few : p.count ≤ most_before = p.few in
        let stands : Stands placing (goes_on_at here.state here.frame here.below (here.frame.place + 1)
        (overwritten here.state.memory (addresses + a') cells)) p.new =
        stands_homed placing here.state m p.new here.frame here.below (here.frame.place + 1) k value to cells at.stands
        at.frames s.i (next_spot p.place p.new last (stepped p.place p.goes last) p.goes.pc) homed home_is
        (omega (arith, low, high)) variable' fits_here size told
        (λ x l h. owned x (subst (λ b. place b ≤ x) (sym variable) l) (subst (λ b. x < place b + 8)
        (sym variable) h)) in
        finish p.count p.place p.new (stepped_on r refl) (omega (arith, few, room_left)) p.goes
        (subst (λ b. Stands placing (goes_on_at here.state here.frame here.below (here.frame.place + 1)
        (overwritten here.state.memory (place b) cells)) p.new) (sym variable) stands)
    by_home None e there sizes result stepped_on room_left =
        let lines : List Ins = store_code other 2 (slot_place to) in
        let first = first_code placing.program begin body p.far p.place lines p.new
        (at_equal placing.program begin body p.far p.place (writes_slot None other to) (singles lines) p.new
        (store_singles other 2 (slot_place to)) there) in
        let most_frame : body.frame ≤ 65536 = body.frame_size.greatest in
        let top : here.frame.address + body.frame + 128 ≤ addresses =
        below_all placing here.frame.address body is room in
        let frame_now : register p.new 2 + slot_place to ≡ a' = ap (λ x. x + slot_place to) result.0.frame in
        let may : MayWrite p.new a' 8 =
        ap (λ ss. is_allowed (λ w. w.write) ss a' 8) result.1
        ∙ may_write placing m here.frame.address body a' 8 is at.stands.serves.memory room (omega (arith, same))
        (omega (arith, same, ends)) in
        let inside = in_data placing here.frame.address body a' 8 is room (omega (arith, same)) (omega
        (arith, same, ends)) in
        let code_below : begin + 4 * length (code_of body) ≤ placing.lowest_data = s.placed.below_data in
        let code_apart : AreApart a' 8 begin (4 * length code) =
        inr (omega (arith, code_below, inside.0, linked_length placing.program begin body)) in
        let q : PutWord begin code (p.place + length lines) 4 a' value p.new =
        put_word begin code p.place other (slot_place to) a' value p.new p.at.code_at p.at.pc first.0 first.1 apart
        result.2
        frame_now (omega (arith, top, same, ends)) (omega (arith, ends, most_frame)) may code_apart p.at.registers in
        let own_size : size_of (far_of body) p.far (writes_slot None other to) ≡ length lines =
        ap (size_of (far_of body) p.far) (store_singles other 2 (slot_place to))
        ∙ size_singles (far_of body) p.far lines in
        let last : s.k + size_of (far_of body) s.far_at (op_lines body operation) ≡ p.place + length lines =
        omega (arith, sizes, own_size) in
        let goes : Goes begin code (p.place + length lines) (p.count + q.count) m q.new =
        goes_on begin code p.place (p.place + length lines) p.count q.count m p.new q.new p.goes q.goes in
        let few : p.count ≤ most_before = p.few in
        let few' : q.count ≤ 4 = q.few in
        let put : IsPut placing here.state m q.new here.frame here.below body to value = record {
          body_there = at.body;
          at = same;
          fits = omega (arith, ends);
          small = small;
          writes = writes_between a' (little_bytes 8 value) p.new m q.new q.new (sym result.1) refl q.writes;
          keeps = keeps_through m p.new q.new result.0 q.keeps;
          registers = q.registers;
        } in
        let stepped' : s.k < p.place + length lines =
        let more : 0 < size_of (far_of body) s.far_at (op_lines body operation) = s.some_room in omega
        (arith, last, more) in
        finish (p.count + q.count) (p.place + length lines) q.new
        (let some_more : 0 < q.count = q.some in omega (arith, some_more)) (omega (arith, few, few', room_left)) goes
        (stands_put placing here.state m q.new here.frame here.below body (here.frame.place + 1) to value cells
        (is_variable body to) is at.stands at.frames s.i s.body_is
        (next_spot (p.place + length lines) q.new last stepped' goes.pc) put e refl size told owned)
