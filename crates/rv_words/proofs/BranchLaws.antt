-- Branches.
use Rattle.std.proofs.Common.{◌≡◌, ◌∙◌, ℕ, ◌+◌, ◌*◌, ◌<◌, ◌≤◌, Bool, true, false, cond, not, ◌==◌, ℤ}
use Rattle.std.proofs.Common.{List, [], ◌∷◌, length, Option, Some, None, arith, refl, ap, sym, subst, nat_lt}
use Rattle.std.specs.List.{list_all}
use Rattle.num_core.specs.Run.{Streams}
use Rattle.num_core.specs.declared.kind.Kind.{Kind}
use Rattle.rv_isa.specs.declared.ins.Ins.{Ins}
use Rattle.rv_step.specs.Machine.{MachineState, register}
use Rattle.rv_code.specs.Code.{AllLegal, BlockAt}
use Rattle.rv_code.proofs.Going.{block_parts, legal_parts}
use Rattle.lir_core.specs.Pieces.{labels}
use Rattle.lir_core.specs.Program.{with}
use Rattle.lir_core.specs.Slots.{Here, value_in, word_in}
use Rattle.lir_core.specs.Step.{branches}
use Rattle.lir_core.specs.Values.{holds_of, word_of}
use Rattle.lir_core.specs.declared.body.LirBody.{LirBody}
use Rattle.lir_core.specs.declared.op.LirOp.{LirOp}
use Rattle.lir_core.specs.declared.op.LirOp.TheVariants.{Branch, BranchIfZero, BranchUnlessZero}
use Rattle.lir_core.specs.declared.op.Test.{Test}
use Rattle.lir_core.specs.State.{WordCause}
use Rattle.rv_lines.specs.Computing.{condition_of}
use Rattle.rv_lines.specs.Frame.{home}
use Rattle.rv_lines.specs.Operands.{register_or}
use Rattle.rv_lines.specs.declared.line.Condition.{Condition}
use Rattle.rv_lines.specs.declared.line.Line.{Line}
use Rattle.rv_lines.specs.Holds.{holds}
use Rattle.rv_gen.specs.Lines.{lines_of, op_lines, with_one}
use Rattle.rv_gen.specs.Placing.{are_close, branch_code, branch_limit, code_of, place_in, places_in}
use Rattle.rv_lines.proofs.Tests.{tested}
use Rattle.rv_words.specs.Groups.{IsAt, IsFollowedInBody}
use Rattle.rv_words.specs.Linked.{linked}
use Rattle.rv_words.specs.Placing.{IsPlacing, Placing, reach}
use Rattle.rv_words.specs.Stands.{AreBytes, FollowsInBody}
use Rattle.rv_words.proofs.Branches.{Lands, lands_behind, lands_by_branch}
use Rattle.rv_words.proofs.JumpLaws.{landed}
use Rattle.rv_words.proofs.Lines.{AtLines, at_site}
use Rattle.rv_words.proofs.LinkedCode.{size_of}
use Rattle.rv_words.proofs.Moved.{KeepsOwn}
use Rattle.rv_words.proofs.Operands.{Past, past_one, past_two}
use Rattle.rv_words.proofs.Places.{far_of}
use Rattle.rv_words.proofs.Reading.{SlotStands, slot_stands}
use Rattle.rv_words.proofs.Sites.{Site, followed_stuck, linked_length, site}
use Rattle.rv_words.proofs.Targets.{Target, first_label, labels_within}
use Rattle.rv_words.proofs.Told.{IsValue, value_told}

-- the label of an operation with one
one_target : (placing : Placing) → IsPlacing placing → (operation : LirOp) (label : ℕ) (here : Here) (begin : ℕ)
    (m : MachineState) → IsAt placing here operation begin m → labels operation ≡ label ∷ [] → Target here.body label
one_target placing is operation label here begin m at only =
    first_label here.body label []
    (subst (λ ls. list_all (λ l. nat_lt l (length here.body.ops)) ls ≡ true) only
    (labels_within here.body here.frame.place operation (is.laid_out.sound here.frame.item here.body at.body)
    at.operation_there))

-- The machine is at the branch with its operands in registers. It goes to the label where the test holds, and else to
-- the next operation.
pub branched : (placing : Placing) (here : Here) (operation : LirOp) (begin label most most_before : ℕ)
    (condition : Condition) (x y : ℕ) (t : Bool) (m : MachineState) (streams : Streams) → IsPlacing placing
    → IsAt placing here operation begin m → (s : Site placing here operation begin m) → Target here.body label
    → (p : Past placing.program begin here.body s.far_at s.k most_before (op_lines here.body operation)
    (Line.Branch condition x y label ∷ []) m)
    → KeepsOwn m p.new → p.new.segments ≡ m.segments
    → holds condition (register p.new x) (register p.new y) ≡ t → most_before + 3 ≤ most → AreBytes streams
    → FollowsInBody placing begin here.body most m streams (branches here label streams t)
branched placing here operation begin label most most_before condition x y t m streams is at s target p keeps memory
    holds_is
    enough bytes = by t lands
  where
    body : LirBody
    body = here.body

    code : List Ins
    code = linked placing.program begin body

    close : Bool
    close = are_close branch_limit p.far (place_in (far_of body) label)

    own : List Ins
    own = branch_code close condition x y p.place (place_in (places_in (lines_of body)) label)

    block : BlockAt code p.place (branch_code close condition x y p.place target.to)
    block =
        subst (λ n. BlockAt code p.place (branch_code close condition x y p.place n)) target.is
        (block_parts code p.place own [] p.at.block).0

    legal : AllLegal (branch_code close condition x y p.place target.to)
    legal =
        subst (λ n. AllLegal (branch_code close condition x y p.place n)) target.is (legal_parts own [] p.at.legal).0

    near : begin + 4 * length code < reach
    near =
        let n : begin + 4 * length (code_of body) < reach = s.placed.near in
        subst (λ k. begin + 4 * k < reach) (sym (linked_length placing.program begin body)) n

    near_target : begin + 4 * target.to < reach
    near_target =
        let n : begin + 4 * length (code_of body) < reach = s.placed.near in
        let h : target.to ≤ length (code_of body) = target.within in
        omega (arith, n, h)

    lands : Lands begin code (cond t target.to (p.place + cond close 1 3)) most m
    lands =
        let l : Lands begin code (cond t target.to (p.place + cond close 1 3)) 3 p.new =
        lands_by_branch begin code p.place target.to condition x y t close p.new p.at.code_at p.at.pc block legal
        s.code_at.aligned near near_target p.at.registers holds_is in
        let whole : Lands begin code (cond t target.to (p.place + cond close 1 3)) (most_before + 3) m =
        lands_behind begin code p.place (cond t target.to (p.place + cond close 1 3)) p.count most_before 3 m p.new
        p.goes
        p.few keeps memory l in
        let few : whole.count ≤ most_before + 3 = whole.few in
        record {
          new = whole.new;
          count = whole.count;
          some = whole.some;
          few = omega (arith, few, enough);
          goes = whole.goes;
          keeps = whole.keeps;
          registers = whole.registers;
          memory = whole.memory;
        }

    size : s.k + size_of (far_of body) s.far_at (op_lines body operation) ≡ p.place + (cond close 1 3 + 0)
    size = p.size

    one_or_three : (b : Bool) → 0 < cond b 1 3
    one_or_three true = omega arith
    one_or_three false = omega arith

    by : (b : Bool) → Lands begin code (cond b target.to (p.place + cond close 1 3)) most m
        → FollowsInBody placing begin body most m streams (branches here label streams b)
    by true l = landed placing here operation begin target.to label most m streams at s target.stop target.some
        target.within l bytes
    by false l =
        let next : ℕ = p.place + cond close 1 3 in
        let end : s.k + size_of (far_of body) s.far_at (op_lines body operation) ≤ length (code_of body) = s.end in
        let same : s.k + size_of (far_of body) s.far_at (op_lines body operation) ≡ next = omega (arith, size) in
        let some : 0 < cond close 1 3 = one_or_three close in
        landed placing here operation begin next (here.frame.place + 1) most m streams at s
        (s.next ∙ ap Some same) (omega (arith, some)) (omega (arith, same, end)) l bytes

-- ---- by two values

pub branch_followed : (placing : Placing) → IsPlacing placing → (test : Test) (kind : Kind) (left right label : ℕ)
    → IsFollowedInBody placing (Branch test kind left right label)
branch_followed placing is test kind left right label here begin m streams at bytes =
    first (value_in here kind left) refl
  where
    operation : LirOp
    operation = Branch test kind left right label

    s : Site placing here operation begin m
    s = site placing here operation begin m is at

    both : (a b : ℤ) → IsValue here kind left a → IsValue here kind right b
        → FollowsInBody placing begin here.body 11 m streams (branches here label streams (holds_of test kind a b))
    both a b v w =
        let x : ℕ = register_or (home here.body.vars left) 5 in
        let y : ℕ = register_or (home here.body.vars right) 6 in
        let l : SlotStands m here.body.vars left v.word =
        slot_stands placing here operation begin m left v.word is at s v.there in
        let r : SlotStands m here.body.vars right w.word =
        slot_stands placing here operation begin m right w.word is at s w.there in
        let p = past_two placing.program begin here.body s.far_at s.k left right v.word w.word
        (λ x y. Line.Branch (condition_of test kind) x y label ∷ []) m
        (at_site placing here operation begin m s at.stands.serves.registers) l r in
        let holds_is : holds (condition_of test kind) (register p.past.new x) (register p.past.new y)
        ≡ holds_of test kind a b =
        ap (λ n. holds (condition_of test kind) n (register p.past.new y)) (p.left ∙ v.is l.small)
        ∙ ap (holds (condition_of test kind) (word_of a)) (p.right ∙ w.is r.small)
        ∙ tested test kind a b v.of_kind w.of_kind in
        branched placing here operation begin label 11 8 (condition_of test kind) x y
        (holds_of test kind a b) m streams is at
        s (one_target placing is operation label here begin m at refl) p.past p.keeps p.memory holds_is
        (omega arith) bytes

    second : (a : ℤ) → IsValue here kind left a → (o : Option ℤ) → value_in here kind right ≡ o
        → FollowsInBody placing begin here.body 11 m streams
        (with o streams (λ b. branches here label streams (holds_of test kind a b)))
    second a v None e =
        followed_stuck placing here operation begin 11 m WordCause.NoStep streams streams s (omega arith)
    second a v (Some b) e = both a b v (value_told here kind right b e)

    first : (o : Option ℤ) → value_in here kind left ≡ o
        → FollowsInBody placing begin here.body 11 m streams
        (with o streams (λ a. with (value_in here kind right) streams
        (λ b. branches here label streams (holds_of test kind a b))))
    first None e =
        followed_stuck placing here operation begin 11 m WordCause.NoStep streams streams s (omega arith)
    first (Some a) e = second a (value_told here kind left a e) (value_in here kind right) refl

-- ---- by one word

-- x0 is 0
by_zero : (placing : Placing) → IsPlacing placing → (operation : LirOp) (condition : Condition) (value label : ℕ)
    (t : ℕ → Bool) (here : Here) (begin : ℕ) (m : MachineState) (streams : Streams) → IsAt placing here operation
    begin m
    → AreBytes streams
    → op_lines here.body operation ≡ with_one here.body.vars value (λ x. Line.Branch condition x 0 label ∷ [])
    → labels operation ≡ label ∷ [] → ((n : ℕ) → holds condition n 0 ≡ t n)
    → FollowsInBody placing begin here.body 7 m streams
    (with (word_in here value) streams (λ n. branches here label streams (t n)))
by_zero placing is operation condition value label t here begin m streams at bytes lines only tests =
    by (word_in here value) refl
  where
    s : Site placing here operation begin m
    s = site placing here operation begin m is at

    x : ℕ
    x = register_or (home here.body.vars value) 5

    branched_by : (n : ℕ)
        → (p : Past placing.program begin here.body s.far_at s.k 4
        (with_one here.body.vars value (λ r. Line.Branch condition r 0 label ∷ []))
        (Line.Branch condition x 0 label ∷ []) m)
        → register p.new x ≡ n → KeepsOwn m p.new → p.new.segments ≡ m.segments
        → FollowsInBody placing begin here.body 7 m streams (branches here label streams (t n))
    branched_by n p has keeps memory =
        let zero_is : register p.new 0 ≡ 0 = p.at.registers.x0 in
        let holds_is : holds condition (register p.new x) (register p.new 0) ≡ t n =
        ap (λ a. holds condition a (register p.new 0)) has ∙ ap (holds condition n) zero_is ∙ tests n in
        branched placing here operation begin label 7 4 condition x 0 (t n) m streams is at s
        (one_target placing is operation label here begin m at only)
        (record {
          far = p.far;
          place = p.place;
          new = p.new;
          count = p.count;
          few = p.few;
          goes = p.goes;
          at = p.at;
          size = ap (λ ls. s.k + size_of (far_of here.body) s.far_at ls) lines ∙ p.size;
        })
        keeps memory holds_is (omega arith) bytes

    one : (n : ℕ) → word_in here value ≡ Some n
        → FollowsInBody placing begin here.body 7 m streams (branches here label streams (t n))
    one n e =
        let v : SlotStands m here.body.vars value n = slot_stands placing here operation begin m value n is at s e in
        let there : AtLines placing.program begin here.body s.far_at s.k
        (with_one here.body.vars value (λ r. Line.Branch condition r 0 label ∷ [])) m =
        subst (λ ls. AtLines placing.program begin here.body s.far_at s.k ls m) lines
        (at_site placing here operation begin m s at.stands.serves.registers) in
        let p = past_one placing.program begin here.body s.far_at s.k value n
        (λ r. Line.Branch condition r 0 label ∷ []) m there v in
        branched_by n p.past p.has p.keeps p.memory

    by : (o : Option ℕ) → word_in here value ≡ o
        → FollowsInBody placing begin here.body 7 m streams (with o streams (λ n. branches here label streams (t n)))
    by None e = followed_stuck placing here operation begin 7 m WordCause.NoStep streams streams s (omega arith)
    by (Some n) e = one n e

pub if_zero_followed : (placing : Placing) → IsPlacing placing → (value label : ℕ)
    → IsFollowedInBody placing (BranchIfZero value label)
if_zero_followed placing is value label here begin m streams at bytes =
    by_zero placing is (BranchIfZero value label) Condition.Equal value label (λ n. n == 0) here begin m streams at
    bytes
    refl refl (λ n. refl)

pub unless_zero_followed : (placing : Placing) → IsPlacing placing → (value label : ℕ)
    → IsFollowedInBody placing (BranchUnlessZero value label)
unless_zero_followed placing is value label here begin m streams at bytes =
    by_zero placing is (BranchUnlessZero value label) Condition.NotEqual value label (λ n. not
    (n == 0)) here begin m streams
    at bytes refl refl (λ n. refl)
