-- What is computed of values.
use Rattle.std.proofs.Common.{◌≡◌, ◌∙◌, ℕ, ◌+◌, ◌*◌, ◌^◌, ◌<◌, ◌≤◌, ℤ, Bool, true, false, List, [], ◌∷◌, length}
use Rattle.std.proofs.Common.{Option, Some, None}
use Rattle.std.proofs.Common.{arith, refl, ap, sym, subst, slice_index}
use Rattle.num_core.specs.Run.{Run, Running, Streams}
use Rattle.num_core.specs.declared.kind.Kind.{Kind}
use Rattle.num_core.specs.declared.kind.Narrow.{Narrow}
use Rattle.num_core.specs.declared.kind.ShiftOp.{ShiftOp}
use Rattle.num_core.specs.Integers.{IsOfKind}
use Rattle.rv_isa.specs.declared.ins.Ins.{Ins}
use Rattle.rv_step.specs.Machine.{MachineState, effect, register, with_register}
use Rattle.rv_code.specs.Code.{given}
use Rattle.rv_code.specs.Registers.{HasRegisters}
use Rattle.lir_core.specs.Program.{with}
use Rattle.lir_core.specs.Slots.{Here, gives, value_in}
use Rattle.lir_core.specs.State.{WordCause, WordState}
use Rattle.lir_core.specs.Step.{one_if}
use Rattle.lir_core.specs.Values.{changed, combined, holds_of, value_converted, value_shifted, word_of}
use Rattle.lir_core.specs.declared.op.BinaryOperation.{BinaryOperation}
use Rattle.lir_core.specs.declared.op.LirOp.{LirOp}
use Rattle.lir_core.specs.declared.op.LirOp.TheVariants.{Binary, Compare, Convert, Shift, Unary}
use Rattle.lir_core.specs.declared.op.Test.{Test}
use Rattle.lir_core.specs.declared.op.UnaryOperation.{UnaryOperation}
use Rattle.rv_lines.specs.Computing.{changes, combines, compares, converts, shifts}
use Rattle.rv_lines.specs.Frame.{home}
use Rattle.rv_lines.specs.Leading.{AreRegisters, LeadsTo}
use Rattle.rv_lines.specs.Leading.Leads.{Gives, Over}
use Rattle.rv_lines.specs.Operands.{register_or, writes_slot}
use Rattle.rv_lines.specs.declared.line.Line.{Line}
use Rattle.rv_lines.specs.declared.line.Line.TheVariants.{Single}
use Rattle.rv_lines.proofs.Comparing.{compared_lines}
use Rattle.rv_lines.proofs.Converting.{converted_lines}
use Rattle.rv_lines.proofs.Shifting.{changed_value, shifted_value}
use Rattle.rv_lines.proofs.Values.{wrapped_operation}
use Rattle.rv_gen.specs.Lines.{op_lines, to_slot, with_one, with_two}
use Rattle.rv_words.specs.Groups.{IsAt, IsFollowedInBody}
use Rattle.rv_words.specs.Linked.{linked}
use Rattle.rv_words.specs.Placing.{IsPlacing, Placing, reach}
use Rattle.rv_words.specs.Stands.{AreBytes, FollowsInBody}
use Rattle.rv_words.proofs.Along.{GoesWith, all_in_reach, along}
use Rattle.rv_words.proofs.Giving.{IsTarget, is_target, word_given}
use Rattle.rv_words.proofs.LinkedCode.{size_of}
use Rattle.rv_words.proofs.Lines.{AtLines, at_equal, at_site, first_part}
use Rattle.rv_words.proofs.Moved.{KeepsOwn}
use Rattle.rv_words.proofs.Operands.{Past, past_one, past_two}
use Rattle.rv_words.proofs.Places.{far_of}
use Rattle.rv_words.proofs.Reading.{SlotStands, slot_stands}
use Rattle.rv_words.proofs.Registers.{given_has, given_other, given_same, low_small}
use Rattle.rv_words.proofs.Sites.{Site, followed_stuck, linked_length, site}
use Rattle.rv_words.proofs.Told.{IsValue, value_told}

-- ---- values that are there

pub with_value : (placing : Placing) (here : Here) (operation : LirOp) (begin most : ℕ) (m : MachineState)
    (streams : Streams) (kind : Kind) (slot : ℕ) (next : ℤ → Run WordState WordCause)
    → Site placing here operation begin m → 0 < most
    → ((a : ℤ) → IsValue here kind slot a → FollowsInBody placing begin here.body most m streams (next a))
    → FollowsInBody placing begin here.body most m streams (with (value_in here kind slot) streams next)
with_value placing here operation begin most m streams kind slot next s some one = by (value_in here kind slot) refl
  where
    by : (o : Option ℤ) → value_in here kind slot ≡ o
        → FollowsInBody placing begin here.body most m streams (with o streams next)
    by None e = followed_stuck placing here operation begin most m WordCause.NoStep streams streams s some
    by (Some a) e = one a (value_told here kind slot a e)

-- ---- lines that lead to a word in a register

pub are_registers : (m : MachineState) → HasRegisters m → AreRegisters m.registers
are_registers m has = record { count = has.count; x0 = has.x0; words = has.words }

-- an instruction that gives it
leads_single : (m : MachineState) (ins : Ins) (r n : ℕ) → HasRegisters m → 0 < r → r < 32 → n < 2 ^ 64
    → ((m' : MachineState) (streams : Streams) → m'.registers ≡ m.registers
    → effect ins m' streams ≡ Running (given r n m') streams)
    → LeadsTo (Single ins ∷ []) m.registers r n
leads_single m ins r n has some few small does = record {
  new = with_register m.registers r n;
  leads = Gives ins [] m.registers r n _ does small (Over (with_register m.registers r n));
  registers_then = are_registers (given r n m) (given_has r n m small has);
  result = given_same r n m some few has;
  others = λ q ne. given_other r q n m ne;
}

pub word_by_leads : (placing : Placing) (here : Here) (operation : LirOp) (begin to most before own n : ℕ)
    (by_lines : ℕ → List Line) (m : MachineState) (streams : Streams) → IsPlacing placing
    → IsAt placing here operation begin m → (s : Site placing here operation begin m)
    → (p : Past placing.program begin here.body s.far_at s.k before (op_lines here.body operation)
    (to_slot here.body.vars to by_lines) m)
    → KeepsOwn m p.new → p.new.segments ≡ m.segments
    → LeadsTo (by_lines (register_or (home here.body.vars to) 7)) p.new.registers (register_or
    (home here.body.vars to) 7) n
    → 0 < length (by_lines (register_or (home here.body.vars to) 7))
    → length (by_lines (register_or (home here.body.vars to) 7)) ≤ own
    → n < 2 ^ 64 → before + own + 4 ≤ most → AreBytes streams
    → FollowsInBody placing begin here.body most m streams (gives here to n streams)
word_by_leads placing here operation begin to most before own n by_lines m streams is at s p keeps memory leads some
    few small
    enough bytes =
    let body = here.body in
    let code : List Ins = linked placing.program begin body in
    let r : ℕ = register_or (home body.vars to) 7 in
    let xs : List Line = by_lines r in
    let first : AtLines placing.program begin body p.far p.place xs p.new =
    first_part placing.program begin body p.far p.place xs (writes_slot (home body.vars to) 7 to) p.new p.at in
    let near : begin + 4 * length code < reach =
    subst (λ k. begin + 4 * k < reach) (sym (linked_length placing.program begin body)) s.placed.near in
    let g : GoesWith begin code (p.place + size_of (far_of body) p.far xs) (length xs) p.new leads.new =
    along placing.program begin body p.far p.place xs p.new.registers leads.new p.new leads.leads first refl near
    (all_in_reach begin body s.placed.near) in
    word_given placing here operation begin to most before own n by_lines m streams is at s p keeps memory
    (record {
      new = g.new;
      count = length xs;
      some = some;
      few = few;
      goes = g.goes;
      has = ap (λ rs. slice_index rs r) g.are ∙ leads.result;
      others = λ q ne ne'. ap (λ rs. slice_index rs q) g.are ∙ leads.others q ne;
      registers = g.has;
      memory = g.memory;
    }) small enough bytes

-- ---- of one value

of_one : (placing : Placing) → IsPlacing placing → (here : Here) (operation : LirOp) (begin to value most own : ℕ)
    (kind : Kind) (by_lines : ℕ → ℕ → List Line) (word : ℤ → ℕ) (m : MachineState) (streams : Streams)
    → IsAt placing here operation begin m → AreBytes streams
    → op_lines here.body operation ≡ with_one here.body.vars value (λ x. to_slot here.body.vars to (λ r. by_lines r x))
    → ((r x : ℕ) (a : ℤ) (new : MachineState) → IsTarget r → HasRegisters new → IsOfKind kind a
    → register new x ≡ word_of a → LeadsTo (by_lines r x) new.registers r (word a))
    → ((r x : ℕ) → (0 < length (by_lines r x)) × (length (by_lines r x) ≤ own)) → ((a : ℤ) → word a < 2 ^ 64)
    → 4 + own + 4 ≤ most
    → FollowsInBody placing begin here.body most m streams
    (with (value_in here kind value) streams (λ a. gives here to (word a) streams))
of_one placing is here operation begin to value most own kind by_lines word m streams at bytes lines leads sizes small
    enough =
    with_value placing here operation begin most m streams kind value (λ a. gives here to (word a) streams) s
    (omega (arith, enough)) one
  where
    s : Site placing here operation begin m
    s = site placing here operation begin m is at

    r : ℕ
    r = register_or (home here.body.vars to) 7

    x : ℕ
    x = register_or (home here.body.vars value) 5

    one : (a : ℤ) → IsValue here kind value a
        → FollowsInBody placing begin here.body most m streams (gives here to (word a) streams)
    one a v =
        let l : SlotStands m here.body.vars value v.word =
        slot_stands placing here operation begin m value v.word is at s v.there in
        let next : ℕ → List Line = λ x. to_slot here.body.vars to (λ r. by_lines r x) in
        let there : AtLines placing.program begin here.body s.far_at s.k (with_one here.body.vars value next) m =
        at_equal placing.program begin here.body s.far_at s.k (op_lines here.body operation)
        (with_one here.body.vars value next) m lines (at_site placing here operation begin m s
        at.stands.serves.registers) in
        let p = past_one placing.program begin here.body s.far_at s.k value v.word next m there l in
        let q : Past placing.program begin here.body s.far_at s.k 4 (op_lines here.body operation) (next x) m = record {
          far = p.past.far;
          place = p.past.place;
          new = p.past.new;
          count = p.past.count;
          few = p.past.few;
          goes = p.past.goes;
          at = p.past.at;
          size = ap (λ ls. s.k + size_of (far_of here.body) s.far_at ls) lines ∙ p.past.size;
        } in
        word_by_leads placing here operation begin to most 4 own (word a) (λ r. by_lines r x) m streams is at s q
        p.keeps
        p.memory
        (leads r x a p.past.new (is_target here.body.vars to (home here.body.vars to) refl) p.past.at.registers
        v.of_kind
        (p.has ∙ v.is l.small))
        (sizes r x).0 (sizes r x).1 (small a) enough bytes

-- ---- of two

of_two : (placing : Placing) → IsPlacing placing → (here : Here) (operation : LirOp) (begin to left right most own : ℕ)
    (kind kind' : Kind) (by_lines : ℕ → ℕ → ℕ → List Line) (word : ℤ → ℤ → ℕ) (m : MachineState) (streams : Streams)
    → IsAt placing here operation begin m → AreBytes streams
    → op_lines here.body operation
    ≡ with_two here.body.vars left right (λ x y. to_slot here.body.vars to (λ r. by_lines r x y))
    → ((r x y : ℕ) (a b : ℤ) (new : MachineState) → IsTarget r → HasRegisters new → IsOfKind kind a → IsOfKind kind' b
    → register new x ≡ word_of a → register new y ≡ word_of b → LeadsTo (by_lines r x y) new.registers r (word a b))
    → ((r x y : ℕ) → (0 < length (by_lines r x y)) × (length (by_lines r x y) ≤ own))
    → ((a b : ℤ) → word a b < 2 ^ 64) → 8 + own + 4 ≤ most
    → FollowsInBody placing begin here.body most m streams
    (with (value_in here kind left) streams (λ a. with (value_in here kind' right) streams
    (λ b. gives here to (word a b) streams)))
of_two placing is here operation begin to left right most own kind kind' by_lines word m streams at bytes lines leads
    sizes
    small enough =
    with_value placing here operation begin most m streams kind left
    (λ a. with (value_in here kind' right) streams (λ b. gives here to (word a b) streams)) s (omega (arith, enough))
    (λ a v. with_value placing here operation begin most m streams kind' right (λ b. gives here to (word a b) streams) s
    (omega (arith, enough)) (λ b w. both a b v w))
  where
    s : Site placing here operation begin m
    s = site placing here operation begin m is at

    r : ℕ
    r = register_or (home here.body.vars to) 7

    x : ℕ
    x = register_or (home here.body.vars left) 5

    y : ℕ
    y = register_or (home here.body.vars right) 6

    both : (a b : ℤ) → IsValue here kind left a → IsValue here kind' right b
        → FollowsInBody placing begin here.body most m streams (gives here to (word a b) streams)
    both a b v w =
        let l : SlotStands m here.body.vars left v.word =
        slot_stands placing here operation begin m left v.word is at s v.there in
        let l' : SlotStands m here.body.vars right w.word =
        slot_stands placing here operation begin m right w.word is at s w.there in
        let next : ℕ → ℕ → List Line = λ x y. to_slot here.body.vars to (λ r. by_lines r x y) in
        let there : AtLines placing.program begin here.body s.far_at s.k (with_two here.body.vars left right next) m =
        at_equal placing.program begin here.body s.far_at s.k (op_lines here.body operation)
        (with_two here.body.vars left right next) m lines
        (at_site placing here operation begin m s at.stands.serves.registers) in
        let p = past_two placing.program begin here.body s.far_at s.k left right v.word w.word next m there l l' in
        let q : Past placing.program begin here.body s.far_at s.k 8 (op_lines here.body operation)
        (next x y) m = record {
          far = p.past.far;
          place = p.past.place;
          new = p.past.new;
          count = p.past.count;
          few = p.past.few;
          goes = p.past.goes;
          at = p.past.at;
          size = ap (λ ls. s.k + size_of (far_of here.body) s.far_at ls) lines ∙ p.past.size;
        } in
        word_by_leads placing here operation begin to most 8 own (word a b) (λ r. by_lines r x y) m streams is at s q
        p.keeps
        p.memory
        (leads r x y a b p.past.new (is_target here.body.vars to (home here.body.vars to) refl) p.past.at.registers
        v.of_kind w.of_kind (p.left ∙ v.is l.small) (p.right ∙ w.is l'.small))
        (sizes r x y).0 (sizes r x y).1 (small a b) enough bytes

-- ---- the operations

pub binary_followed : (placing : Placing) → IsPlacing placing → (operation : BinaryOperation) (kind : Kind)
    (to left right : ℕ) → IsFollowedInBody placing (Binary operation kind to left right)
binary_followed placing is operation kind to left right here begin m streams at bytes =
    of_two placing is here (Binary operation kind to left right) begin to left right 13 1 kind kind
    (λ r x y. Single (combines operation kind r x y) ∷ []) (λ a b. word_of (combined operation kind a b)) m streams at
    bytes
    refl
    (λ r x y a b new target has ka kb e f.
    leads_single new (combines operation kind r x y) r (word_of (combined operation kind a b)) has target.some
    target.few
    (low_small (combined operation kind a b))
    (λ m' ss same. wrapped_operation operation kind m' ss r x y a b ka kb (ap (λ rs. slice_index rs x) same ∙ e)
    (ap (λ rs. slice_index rs y) same ∙ f)))
    (λ r x y. (omega arith, omega arith)) (λ a b. low_small (combined operation kind a b)) (omega arith)

pub unary_followed : (placing : Placing) → IsPlacing placing → (operation : UnaryOperation) (kind : Kind) (to value : ℕ)
    → IsFollowedInBody placing (Unary operation kind to value)
unary_followed placing is operation kind to value here begin m streams at bytes =
    of_one placing is here (Unary operation kind to value) begin to value 9 1 kind
    (λ r x. Single (changes operation kind r x) ∷ []) (λ a. word_of (changed operation kind a)) m streams at bytes refl
    (λ r x a new target has ka e.
    leads_single new (changes operation kind r x) r (word_of (changed operation kind a)) has target.some target.few
    (low_small (changed operation kind a))
    (λ m' ss same. changed_value operation kind m' ss r x a ka (ap (λ rs. slice_index rs 0) same ∙ has.x0)
    (ap (λ rs. slice_index rs x) same ∙ e)))
    (λ r x. (omega arith, omega arith)) (λ a. low_small (changed operation kind a)) (omega arith)

pub shift_followed : (placing : Placing) → IsPlacing placing → (operation : ShiftOp) (kind : Kind) (to value amount : ℕ)
    → IsFollowedInBody placing (Shift operation kind to value amount)
shift_followed placing is operation kind to value amount here begin m streams at bytes =
    of_two placing is here (Shift operation kind to value amount) begin to value amount 13 1 kind Kind.I8
    (λ r x y. Single (shifts operation kind r x y) ∷ []) (λ a b. word_of (value_shifted operation kind a b)) m streams
    at
    bytes refl
    (λ r x y a b new target has ka kb e f.
    leads_single new (shifts operation kind r x y) r (word_of (value_shifted operation kind a b)) has target.some
    target.few
    (low_small (value_shifted operation kind a b))
    (λ m' ss same. shifted_value operation kind m' ss r x y a b ka kb (ap (λ rs. slice_index rs x) same ∙ e)
    (ap (λ rs. slice_index rs y) same ∙ f)))
    (λ r x y. (omega arith, omega arith)) (λ a b. low_small (value_shifted operation kind a b)) (omega arith)

converts_size : (narrow : Narrow) (kind : Kind) (r x : ℕ)
    → (0 < length (converts narrow kind r x)) × (length (converts narrow kind r x) ≤ 2)
converts_size Narrow.I1 kind r x = (omega arith, omega arith)
converts_size Narrow.U1 kind r x = (omega arith, omega arith)
converts_size Narrow.I2 kind r x = (omega arith, omega arith)
converts_size Narrow.U2 kind r x = (omega arith, omega arith)
converts_size Narrow.I4 kind r x = (omega arith, omega arith)
converts_size Narrow.U4 kind r x = (omega arith, omega arith)
converts_size Narrow.I8 kind r x = (omega arith, omega arith)
converts_size Narrow.U8 Kind.I4 r x = (omega arith, omega arith)
converts_size Narrow.U8 Kind.U4 r x = (omega arith, omega arith)
converts_size Narrow.U8 Kind.I8 r x = (omega arith, omega arith)
converts_size Narrow.U8 Kind.U8 r x = (omega arith, omega arith)

pub convert_followed : (placing : Placing) → IsPlacing placing → (narrow : Narrow) (from : Kind) (to value : ℕ)
    → IsFollowedInBody placing (Convert narrow from to value)
convert_followed placing is narrow from to value here begin m streams at bytes =
    of_one placing is here (Convert narrow from to value) begin to value 10 2 from (λ r x. converts narrow from r x)
    (λ a. word_of (value_converted narrow from a)) m streams at bytes refl
    (λ r x a new target has ka e.
    converted_lines narrow from r x a new.registers (are_registers new has) target.some target.few ka e)
    (λ r x. converts_size narrow from r x) (λ a. low_small (value_converted narrow from a)) (omega arith)

compares_size : (test : Test) (kind : Kind) (r x y : ℕ)
    → (0 < length (compares test kind r x y)) × (length (compares test kind r x y) ≤ 2)
compares_size Test.Equal kind r x y = (omega arith, omega arith)
compares_size Test.NotEqual kind r x y = (omega arith, omega arith)
compares_size Test.Less kind r x y = (omega arith, omega arith)
compares_size Test.NotLess kind r x y = (omega arith, omega arith)

one_small : (t : Bool) → one_if t < 2 ^ 64
one_small true = omega arith
one_small false = omega arith

pub compare_followed : (placing : Placing) → IsPlacing placing → (test : Test) (kind : Kind) (to left right : ℕ)
    → IsFollowedInBody placing (Compare test kind to left right)
compare_followed placing is test kind to left right here begin m streams at bytes =
    of_two placing is here (Compare test kind to left right) begin to left right 14 2 kind kind
    (λ r x y. compares test kind r x y) (λ a b. one_if (holds_of test kind a b)) m streams at bytes refl
    (λ r x y a b new target has ka kb e f.
    compared_lines test kind r x y a b new.registers (are_registers new has) target.some target.few ka kb e f)
    (λ r x y. compares_size test kind r x y) (λ a b. one_small (holds_of test kind a b)) (omega arith)
