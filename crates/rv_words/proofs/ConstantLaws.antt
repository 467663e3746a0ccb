-- Constants and addresses.
use Rattle.std.proofs.Common.{◌≡◌, ◌∙◌, inr, ◌==◌, ℕ, ◌+◌, ◌*◌, ◌^◌, ◌<◌, ◌≤◌, Bool, true, false, cond, not, ℤ, pos}
use Rattle.std.proofs.Common.{◌+ℤ◌}
use Rattle.std.proofs.Common.{◌-ℤ◌, List, [], ◌∷◌, length, Option, Some, None, arith, refl, ap, sym, subst}
use Rattle.std.specs.Prelude.{unwrap_or}
use Rattle.std.specs.List.{list_any}
use Rattle.std.specs.Int.{cast_signed, w32}
use Rattle.std.proofs.lemmas.Bool.{leb-true}
use Rattle.num_core.specs.Bits.{low_bits}
use Rattle.num_core.specs.Run.{Running}
use Rattle.num_core.specs.declared.fix.FixKind.{FixKind}
use Rattle.rv_isa.specs.declared.ins.Ins.{Ins}
use Rattle.rv_step.specs.Machine.{MachineState, register}
use Rattle.rv_code.specs.Code.{AllLegal, BlockAt, CodeAt, given}
use Rattle.rv_code.specs.Registers.{HasRegisters}
use Rattle.lir_core.specs.Tells.{WordTellsNoMore}
use Rattle.rv_gen.specs.Placing.{code_of}
use Rattle.lir_core.specs.Check.{can_be_addressed, lies_in_frame}
use Rattle.lir_core.specs.Frame.{fixed_bytes}
use Rattle.lir_core.specs.Pieces.{word}
use Rattle.lir_core.specs.Program.{no_step, with}
use Rattle.lir_core.specs.Slots.{addresses, gives}
use Rattle.lir_core.specs.State.{WordCause}
use Rattle.lir_core.specs.Values.{word_of}
use Rattle.lir_core.specs.declared.op.LirOp.{LirOp}
use Rattle.lir_core.specs.declared.op.LirOp.TheVariants.{Constant, Address, SlotAddress, Dictionary}
use Rattle.lir_core.proofs.Sound.{first_of}
use Rattle.rt_code.specs.Code.{lower, upper}
use Rattle.rt_code.proofs.Machines.{sum_of}
use Rattle.rv_lines.specs.Frame.{dictionary_at, home, slot_place}
use Rattle.rv_lines.specs.Operands.{gets_address, loads_constant, register_or, writes_slot}
use Rattle.rv_lines.specs.declared.line.Line.TheVariants.{Single}
use Rattle.rv_gen.specs.Calling.{gets_item}
use Rattle.rv_words.specs.Groups.{IsFollowedInBody}
use Rattle.rv_words.specs.Linked.{bits_between, linked}
use Rattle.rv_words.specs.Placing.{IsPlacing, Placing, reach}
use Rattle.rv_words.specs.Stands.{FollowsInBody}
use Rattle.rv_words.specs.Words.{word_at}
use Rattle.rv_words.proofs.Branches.{far_is}
use Rattle.rv_words.proofs.ConstantCode.{address_code, address_short, address_singles, constant_code, constant_length}
use Rattle.rv_words.proofs.ConstantCode.{constant_singles, got_address, got_constant, got_load}
use Rattle.rv_words.proofs.Giving.{IsTarget, is_target, past_none, word_by_singles, word_given}
use Rattle.rv_words.proofs.Got.{Got, got_at, got_is, got_once, got_through}
use Rattle.rv_words.proofs.Lines.{at_site, first_part}
use Rattle.rv_words.proofs.Operands.{keeps_itself}
use Rattle.rv_words.proofs.Reading.{room_here, word_small}
use Rattle.rv_words.proofs.Registers.{low_small}
use Rattle.rv_words.proofs.Room.{HasRoom, below_all, in_data, may_read}
use Rattle.rv_words.proofs.Sites.{Site, followed_stuck, site}

pub constant_followed : (placing : Placing) → IsPlacing placing → (to : ℕ) (value : ℤ)
    → IsFollowedInBody placing (Constant to value)
constant_followed placing is to value here begin m streams at bytes =
    let operation : LirOp = Constant to value in
    let s : Site placing here operation begin m = site placing here operation begin m is at in
    let n : ℕ = word_of value in
    let r : ℕ = register_or (home here.body.vars to) 7 in
    let target : IsTarget r = is_target here.body.vars to (home here.body.vars to) refl in
    word_by_singles placing here operation begin to 12 0 8 n (λ q. loads_constant q n)
    (constant_code r n) m streams is at s
    (past_none placing here operation begin m at s) (keeps_itself m) refl (constant_singles r n)
    (λ block legal. got_at begin (linked placing.program begin here.body) (s.k + length (constant_code r n))
    (s.k + length (constant_code r n)) (length (constant_code r n)) 8 r n m refl (constant_length r n)
    (got_constant begin (linked placing.program begin here.body) s.k r n m s.code_at s.pc block legal target.some
    target.few
    (low_small value) at.stands.serves.registers))
    (low_small value) (omega arith) bytes

pub slot_address_followed : (placing : Placing) → IsPlacing placing → (to slot : ℕ)
    → IsFollowedInBody placing (SlotAddress to slot)
slot_address_followed placing is to slot here begin m streams at bytes =
    by (can_be_addressed here.body slot) refl
  where
    operation : LirOp
    operation = SlotAddress to slot

    s : Site placing here operation begin m
    s = site placing here operation begin m is at

    r : ℕ
    r = register_or (home here.body.vars to) 7

    target : IsTarget r
    target = is_target here.body.vars to (home here.body.vars to) refl

    same : here.frame.address ≡ register m 2
    same = s.i.first.address

    by : (b : Bool) → can_be_addressed here.body slot ≡ b
        → FollowsInBody placing begin here.body 7 m streams
        (cond b (gives here to (here.frame.address + (fixed_bytes + 8 * slot)) streams) (no_step streams))
    by false e = followed_stuck placing here operation begin 7 m WordCause.NoStep streams streams s (omega arith)
    by true e =
        let lies : lies_in_frame here.body.frame (word slot) ≡ true =
        first_of (lies_in_frame here.body.frame (word slot)) (not (list_any (λ var. var == slot) here.body.vars)) e in
        let ends : 128 + 8 * slot + 8 ≤ here.body.frame = leb-true (128 + 8 * slot + 8) here.body.frame lies in
        let most : here.body.frame ≤ 65536 = here.body.frame_size.greatest in
        let room : HasRoom placing here.frame.address here.body = room_here placing here operation begin m is at in
        let top : here.frame.address + here.body.frame + 128 ≤ addresses =
        below_all placing here.frame.address here.body is room in
        let n : ℕ = here.frame.address + (fixed_bytes + 8 * slot) in
        let code = address_code r 2 (slot_place slot) in
        let v_is : low_bits 64 (pos (register m 2) +ℤ pos (slot_place slot)) ≡ n =
        sum_of (register m 2) (slot_place slot) (omega (arith, same, top, ends)) ∙ omega (arith, same) in
        word_by_singles placing here operation begin to 7 0 3 n (λ q. gets_address q 2
        (slot_place slot)) code m streams is at
        s (past_none placing here operation begin m at s) (keeps_itself m) refl (address_singles r 2 (slot_place slot))
        (λ block legal. got_at begin (linked placing.program begin here.body) (s.k + length code) (s.k + length code)
        (length code) 3 r n m refl (address_short r 2 (slot_place slot) (omega (arith, ends, most)))
        (got_is begin (linked placing.program begin here.body) (s.k + length code) (length code) r
        (low_bits 64 (pos (register m 2) +ℤ pos (slot_place slot))) n m v_is
        (got_address begin (linked placing.program begin here.body) s.k r 2 (slot_place slot)
        (register m 2) m s.code_at s.pc
        block legal target.some target.few (λ e'. omega (arith, e')) refl (omega (arith, ends, most))
        at.stands.serves.registers)))
        (omega (arith, top, ends)) (omega arith) bytes

pub dictionary_followed : (placing : Placing) → IsPlacing placing → (to : ℕ)
    → IsFollowedInBody placing (Dictionary to)
dictionary_followed placing is to here begin m streams at bytes =
    by here.frame.dictionary refl
  where
    operation : LirOp
    operation = Dictionary to

    s : Site placing here operation begin m
    s = site placing here operation begin m is at

    r : ℕ
    r = register_or (home here.body.vars to) 7

    target : IsTarget r
    target = is_target here.body.vars to (home here.body.vars to) refl

    same : here.frame.address ≡ register m 2
    same = s.i.first.address

    some_word : (a b : ℕ) → Some a ≡ Some b → a ≡ b
    some_word a b e = cc

    told : (o : Option ℕ) → here.frame.dictionary ≡ o → (value : ℕ) → o ≡ Some value
        → word_at m (register m 2 + dictionary_at) ≡ value
    told o e value e' =
        let there : WordTellsNoMore (Some value) (Some (word_at m (register m 2 + dictionary_at))) =
        subst (λ w. WordTellsNoMore w (Some (word_at m (register m 2 + dictionary_at)))) (e
        ∙ e') s.i.first.dictionary in
        some_word (word_at m (register m 2 + dictionary_at)) value there

    by : (o : Option ℕ) → here.frame.dictionary ≡ o
        → FollowsInBody placing begin here.body 5 m streams (with o streams (λ value. gives here to value streams))
    by None e = followed_stuck placing here operation begin 5 m WordCause.NoStep streams streams s (omega arith)
    by (Some value) e =
        let a : ℕ = register m 2 + dictionary_at in
        let least : 192 ≤ here.body.frame = here.body.frame_size.least in
        let room : HasRoom placing here.frame.address here.body = room_here placing here operation begin m is at in
        let top : here.frame.address + here.body.frame + 128 ≤ addresses =
        below_all placing here.frame.address here.body is room in
        let may = may_read placing m here.frame.address here.body a 8 is at.stands.serves.memory room (omega
        (arith, same))
        (omega (arith, same, least)) in
        let inside = in_data placing here.frame.address here.body a 8 is room (omega (arith, same)) (omega
        (arith, same, least)) in
        let word : word_at m a ≡ value = told (Some value) e value refl in
        let small : value < 2 ^ 64 =
        subst (λ w. w < 2 ^ 64) word (word_small placing m a at.stands.serves.memory inside.0 inside.1) in
        word_by_singles placing here operation begin to 5 0 1 value (λ q. Single (Ins.Ld q 2 (pos dictionary_at)) ∷ [])
        (Ins.Ld r 2 (pos dictionary_at) ∷ []) m streams is at s (past_none placing here operation begin m at s)
        (keeps_itself m) refl refl
        (λ block legal. got_load begin (linked placing.program begin here.body) s.k r 2 dictionary_at a value m
        s.code_at s.pc
        block.0 legal.0 target.some target.few refl (omega (arith, same, least, top)) may word small
        at.stands.serves.registers)
        small (omega arith) bytes

-- the two instructions that take an address
pub got_item : (placing : Placing) (begin k r address : ℕ) (code : List Ins) (m : MachineState) (bits : ℕ)
    → bits ≡ low_bits 32 (pos address -ℤ pos (begin + 4 * k))
    → CodeAt begin code m → m.pc ≡ begin + 4 * k
    → BlockAt code k (Ins.Auipc r (upper bits) ∷ Ins.Addi r r (lower bits) ∷ [])
    → AllLegal (Ins.Auipc r (upper bits) ∷ Ins.Addi r r (lower bits) ∷ []) → IsTarget r
    → begin + 4 * k < reach → address < reach → HasRegisters m
    → Got begin code (k + 1 + 1) (1 + 1) r address m
got_item placing begin k r address code m bits bits_is code_at pc block legal target near near' has =
    let v : ℕ = low_bits 64 (pos m.pc +ℤ cast_signed w32 (upper bits * 2 ^ 12)) in
    let first : Got begin code (k + 1) 1 r v m =
    got_once begin code k (Ins.Auipc r (upper bits)) r v m code_at pc block.0 legal.0 (λ streams. refl) target.some
    target.few
    (low_small (pos m.pc +ℤ cast_signed w32 (upper bits * 2 ^ 12))) has in
    let whole : low_bits 64 (pos v +ℤ lower bits) ≡ address =
    ap (λ p. low_bits 64 (pos (low_bits 64 (pos p +ℤ cast_signed w32 (upper bits * 2 ^ 12))) +ℤ lower bits)) pc
    ∙ ap (λ b. low_bits 64 (pos (low_bits 64 (pos (begin + 4 * k) +ℤ cast_signed w32
    (upper b * 2 ^ 12))) +ℤ lower b)) bits_is
    ∙ far_is (begin + 4 * k) address near near' in
    let small : address < 2 ^ 64 = omega (arith, near') in
    let second : Got begin code (k + 1 + 1) 1 r address first.new =
    got_once begin code (k + 1) (Ins.Addi r r (lower bits)) r address first.new first.goes.code_at first.goes.pc
    block.1.0
    legal.1.0
    (λ streams. ap (λ x. Running (given r (low_bits 64 (pos x +ℤ lower bits)) first.new) streams) first.has
    ∙ ap (λ x. Running (given r x first.new) streams) whole)
    target.some target.few small first.registers in
    got_through begin code (k + 1) (k + 1 + 1) 1 1 r v r address m first second (inr refl)

pub address_followed : (placing : Placing) → IsPlacing placing → (to : ℕ) (kind : FixKind) (item : ℕ)
    → IsFollowedInBody placing (Address to kind item)
address_followed placing is to kind item here begin m streams at bytes =
    by (here.program.address_of kind item) refl
  where
    operation : LirOp
    operation = Address to kind item

    s : Site placing here operation begin m
    s = site placing here operation begin m is at

    r : ℕ
    r = register_or (home here.body.vars to) 7

    target : IsTarget r
    target = is_target here.body.vars to (home here.body.vars to) refl

    by : (o : Option ℕ) → here.program.address_of kind item ≡ o
        → FollowsInBody placing begin here.body 6 m streams (with o streams (λ address. gives here to address streams))
    by None e = followed_stuck placing here operation begin 6 m WordCause.NoStep streams streams s (omega arith)
    by (Some address) e =
        let named : placing.program.address_of kind item ≡ Some address =
        ap (λ program. program.address_of kind item) (sym at.program) ∙ e in
        let bits : ℕ = bits_between (begin + 4 * s.k) (unwrap_or (placing.program.address_of kind item) 0) in
        let bits_is : bits ≡ low_bits 32 (pos address -ℤ pos (begin + 4 * s.k)) =
        ap (λ o. bits_between (begin + 4 * s.k) (unwrap_or o 0)) named in
        let own = first_part placing.program begin here.body s.far_at s.k (gets_item r kind item)
        (writes_slot (home here.body.vars to) 7 to) m
        (at_site placing here operation begin m s at.stands.serves.registers) in
        let near_end : begin + 4 * length (code_of here.body) < reach = s.placed.near in
        let within : s.k < length (code_of here.body) = s.within in
        let near : address < reach = is.near kind item address named in
        word_given placing here operation begin to 6 0 2 address (λ q. gets_item q kind item) m streams is at s
        (past_none placing here operation begin m at s) (keeps_itself m) refl
        (got_at begin (linked placing.program begin here.body) (s.k + 1 + 1) (s.k + (2 + 0)) (1 + 1) 2 r address m
        (omega arith)
        (omega arith)
        (got_item placing begin s.k r address (linked placing.program begin here.body) m bits bits_is s.code_at s.pc
        own.block
        own.legal target (omega (arith, near_end, within)) near at.stands.serves.registers))
        (omega (arith, near)) (omega arith) bytes
