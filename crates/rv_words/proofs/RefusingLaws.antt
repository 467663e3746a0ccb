-- What is computed of values and may be refused: where there is a result it comes to its slot, and else control goes
-- to a
-- label.
use Rattle.std.proofs.Common.{◌≡◌, ◌∙◌, ℕ, ◌+◌, ◌-◌, ◌*◌, ◌^◌, ◌<◌, ◌≤◌, ℤ, pos, ◌+ℤ◌, Bool}
use Rattle.std.proofs.Common.{true, false, cond, List, [], ◌∷◌, ◌++◌, length, Option, Some, None, arith, refl, ap}
use Rattle.std.proofs.Common.{sym, subst}
use Rattle.std.proofs.Common.{slice_index}
use Rattle.std.specs.Prelude.{nat_lt}
use Rattle.std.specs.List.{list_all}
use Rattle.lir_core.proofs.Sound.{second_of}
use Rattle.rv_lines.proofs.Dividing.{divided_lines, zero_lines}
use Rattle.rv_lines.proofs.Narrowing.{narrowed_lines}
use Rattle.rv_lines.proofs.Refusing.{combined_lines}
use Rattle.std.specs.Option.{option_map}
use Rattle.std.specs.Ordering.{int_eq}
use Rattle.byteorder.specs.Endian.{little_bytes}
use Rattle.num_core.specs.Bits.{low_bits}
use Rattle.num_core.specs.Run.{Run, Running, Streams}
use Rattle.num_core.specs.Integers.{IsOfKind}
use Rattle.num_core.specs.declared.kind.Kind.{Kind}
use Rattle.num_core.specs.declared.kind.Narrow.{Narrow}
use Rattle.rv_isa.specs.declared.ins.Ins.{Ins}
use Rattle.rv_step.specs.Machine.{MachineState, register}
use Rattle.rv_code.specs.Code.{given}
use Rattle.rv_code.specs.Registers.{HasRegisters}
use Rattle.lir_core.specs.Memory.{FlatMemory, cells_of}
use Rattle.lir_core.specs.Pieces.{labels}
use Rattle.lir_core.specs.Program.{with}
use Rattle.lir_core.specs.Slots.{Here, gives, goes_on_with, goes_to, memory_with, value_in}
use Rattle.lir_core.specs.State.{WordCause, WordState}
use Rattle.lir_core.specs.Step.{gives_or, gives_value}
use Rattle.lir_core.specs.Values.{combined_in_range, divided, is_least_by_minus_one, value_in_range, word_of}
use Rattle.lir_core.specs.declared.body.LirBody.{LirBody}
use Rattle.lir_core.specs.declared.op.CheckedOperation.{CheckedOperation}
use Rattle.lir_core.specs.declared.op.DivisionPart.{DivisionPart}
use Rattle.lir_core.specs.declared.op.LirOp.{LirOp}
use Rattle.lir_core.specs.declared.op.LirOp.TheVariants.{Checked, ConvertChecked, Divide}
use Rattle.rv_lines.specs.Computing.{combines_checked, converts_checked, converts_to_i4, converts_to_i8, converts_to_u4}
use Rattle.rv_lines.specs.Computing.{converts_to_u8, divides, keeps_short}
use Rattle.rv_lines.specs.Frame.{home}
use Rattle.rv_lines.specs.Leading.{Answers, AnswersOr, AreRegisters, IsKept, Refuses}
use Rattle.rv_lines.specs.Operands.{puts_slot, register_or, writes_slot}
use Rattle.rv_lines.specs.declared.line.Line.{Line}
use Rattle.rv_lines.specs.declared.line.Line.TheVariants.{Single}
use Rattle.rv_gen.specs.Lines.{op_lines, to_slot}
use Rattle.rv_words.specs.Groups.{IsAt, IsFollowedInBody}
use Rattle.rv_words.specs.Linked.{linked}
use Rattle.rv_words.specs.Placing.{IsPlacing, Placing, reach}
use Rattle.rv_words.specs.Stands.{AreBytes, FollowsInBody}
use Rattle.rv_words.proofs.Along.{GoesToLabel, GoesWith, all_in_reach, along, to_label}
use Rattle.rv_words.proofs.Branches.{Lands, lands_behind}
use Rattle.rv_words.proofs.ComputingLaws.{are_registers, with_value}
use Rattle.rv_words.proofs.Giving.{IsTarget, all_itself, is_target, size_of_cells}
use Rattle.rv_words.proofs.Going.{Goes, goes_given, goes_on}
use Rattle.rv_words.proofs.Homed.{Homed}
use Rattle.rv_words.proofs.Homes.{home_bound}
use Rattle.rv_words.proofs.JumpLaws.{landed}
use Rattle.rv_words.proofs.Lines.{AtLines, at_behind, at_site, first_part}
use Rattle.rv_words.proofs.LinkedCode.{longest_of, size_append, size_of}
use Rattle.rv_words.proofs.Moved.{KeepsOwn, keeps_through}
use Rattle.rv_words.proofs.Operands.{Past, past_one, past_two}
use Rattle.rv_words.proofs.Places.{far_of}
use Rattle.rv_words.proofs.Reading.{SlotStands, slot_stands}
use Rattle.rv_words.proofs.Registers.{given_has, given_other, given_same, low_small}
use Rattle.rv_words.proofs.Results.{HasResult, most_after, slot_given}
use Rattle.rv_words.proofs.Sites.{Site, followed_stuck, linked_length, site}
use Rattle.rv_words.proofs.Targets.{Target, first_label, labels_within}
use Rattle.rv_words.proofs.Told.{IsValue}

-- ---- registers

is_kept : (r : ℕ) → (r ≡ 7 → ⊥) → (r ≡ 28 → ⊥) → (r ≡ 29 → ⊥) → IsKept r
is_kept r a b c = record { not_result = a; not_first = b; not_second = c }

home_kept : (r : ℕ) → 18 ≤ r → r < 28 → IsKept r
home_kept r low high =
    is_kept r (λ e. omega (arith, e, low)) (λ e. omega (arith, e, high)) (λ e. omega (arith, e, high))

-- operands are in registers that are kept
operand_kept : (vars : List ℕ) (slot other : ℕ) (o : Option ℕ) → home vars slot ≡ o → other < 7 → IsKept
    (register_or o other)
operand_kept vars slot other (Some r) e h =
    let bound = home_bound vars slot r e in
    let high : r < 26 = bound.2 in
    home_kept r bound.0 (omega (arith, high))
operand_kept vars slot other None e h =
    is_kept other (λ e'. omega (arith, e', h)) (λ e'. omega (arith, e', h)) (λ e'. omega (arith, e', h))

keeps_own : (m new : MachineState) → ((r : ℕ) → IsKept r → register new r ≡ register m r) → KeepsOwn m new
keeps_own m new same = record {
  frame = same 2 (is_kept 2 (λ e. omega (arith, e)) (λ e. omega (arith, e)) (λ e. omega (arith, e)));
  homes = λ k h. same (18 + k) (home_kept (18 + k) (omega arith) (omega (arith, h)));
  lowest = same 26 (home_kept 26 (omega arith) (omega arith));
  heap = same 27 (home_kept 27 (omega arith) (omega arith));
}

-- ---- to the label

pub refused : (placing : Placing) (here : Here) (operation : LirOp) (begin label most before own : ℕ)
    (lines rest : List Line)
    (m : MachineState) (streams : Streams) → IsAt placing here operation begin m
    → (s : Site placing here operation begin m) → Target here.body label
    → (p : Past placing.program begin here.body s.far_at s.k before (op_lines here.body operation) (lines ++ rest) m)
    → KeepsOwn m p.new → p.new.segments ≡ m.segments → Refuses lines p.new.registers label → length lines ≤ own
    → before + own + 2 ≤ most → AreBytes streams
    → FollowsInBody placing begin here.body most m streams (goes_to here label streams)
refused placing here operation begin label most before own lines rest m streams at s target p keeps memory refuses
    short enough
    bytes =
    let body : LirBody = here.body in
    let code : List Ins = linked placing.program begin body in
    let near : begin + 4 * length code < reach =
    subst (λ k. begin + 4 * k < reach) (sym (linked_length placing.program begin body)) s.placed.near in
    let first : AtLines placing.program begin body p.far p.place lines p.new =
    first_part placing.program begin body p.far p.place lines rest p.new p.at in
    let g : GoesToLabel begin code target.to (length lines) p.new refuses.new =
    to_label placing.program begin body p.far p.place label target.to lines p.new.registers refuses.new p.new
    refuses.leads
    first refl near (all_in_reach begin body s.placed.near) target.is in
    let w : GoesWith begin code g.place g.count p.new refuses.new = g.with_registers in
    let kept : KeepsOwn p.new w.new =
    keeps_own p.new w.new (λ r k. ap (λ rs. slice_index rs r) w.are ∙ refuses.others r k) in
    let few : g.count + 1 ≤ length lines = g.few in
    let few' : p.count ≤ before = p.few in
    let l : Lands begin code target.to (before + g.count + 3) m =
    lands_behind begin code g.place target.to (p.count + g.count) (before + g.count) 3 m w.new
    (goes_on begin code p.place g.place p.count g.count m p.new w.new p.goes w.goes) (omega (arith, few'))
    (keeps_through m p.new w.new keeps kept) (w.memory ∙ memory) g.lands in
    let few_lands : l.count ≤ before + g.count + 3 = l.few in
    landed placing here operation begin target.to label most m streams at s target.stop target.some target.within
    (record {
      new = l.new;
      count = l.count;
      some = l.some;
      few = omega (arith, few_lands, few, short, enough);
      goes = l.goes;
      keeps = l.keeps;
      registers = l.registers;
      memory = l.memory;
    }) bytes

-- ---- to the slot

-- The machine is behind some lines, which have given a register a word. It was between the operands and these lines.
pub record Behind (placing : Placing) (here : Here) (operation : LirOp) (begin far_at k most r n : ℕ) (rest : List Line)
    (m between : MachineState) : Type 0 where
  pub past : Past placing.program begin here.body far_at k most (op_lines here.body operation) rest m
  pub has : register past.new r ≡ n
  pub kept : (q : ℕ) → (q ≡ r → ⊥) → IsKept q → register past.new q ≡ register between q
  pub memory : past.new.segments ≡ between.segments
  pub some : 0 < past.count

answered : (placing : Placing) (here : Here) (operation : LirOp) (begin before own r n : ℕ) (lines rest : List Line)
    (m : MachineState) → (s : Site placing here operation begin m)
    → (p : Past placing.program begin here.body s.far_at s.k before (op_lines here.body operation) (lines ++ rest) m)
    → Answers lines p.new.registers r n → 0 < length lines → length lines ≤ own
    → Behind placing here operation begin s.far_at s.k (before + own) r n rest m p.new
answered placing here operation begin before own r n lines rest m s p answers some short =
    let body : LirBody = here.body in
    let code : List Ins = linked placing.program begin body in
    let near : begin + 4 * length code < reach =
    subst (λ k. begin + 4 * k < reach) (sym (linked_length placing.program begin body)) s.placed.near in
    let first : AtLines placing.program begin body p.far p.place lines p.new =
    first_part placing.program begin body p.far p.place lines rest p.new p.at in
    let g : GoesWith begin code (p.place + size_of (far_of body) p.far lines) (length lines) p.new answers.new =
    along placing.program begin body p.far p.place lines p.new.registers answers.new p.new answers.leads first refl near
    (all_in_reach begin body s.placed.near) in
    let few : p.count ≤ before = p.few in
    let sizes : size_of (far_of body) p.far (lines ++ rest)
    ≡ size_of (far_of body) p.far lines + size_of (far_of body) (p.far + longest_of lines) rest =
    size_append (far_of body) p.far lines rest in
    record {
      past = record {
        far = p.far + longest_of lines;
        place = p.place + size_of (far_of body) p.far lines;
        new = g.new;
        count = p.count + length lines;
        few = omega (arith, few, short);
        goes = goes_on begin code p.place (p.place + size_of (far_of body) p.far lines) p.count
            (length lines) m p.new g.new
            p.goes g.goes;
        at = at_behind placing.program begin body p.far p.place (length lines) lines rest p.new g.new p.at g.goes g.has;
        size = omega (arith, p.size, sizes);
      };
      has = ap (λ rs. slice_index rs r) g.are ∙ answers.result;
      kept = λ q ne k. ap (λ rs. slice_index rs q) g.are ∙ answers.others q ne k;
      memory = g.memory;
      some = omega (arith, some);
    }

-- a home that has got the word, relative to a machine with the same own registers
pub homed_by : (m between new : MachineState) (r k n : ℕ) → r ≡ 18 + k → k < 8 → KeepsOwn m between
    → between.segments ≡ m.segments → HasRegisters new → register new r ≡ n
    → ((q : ℕ) → (q ≡ r → ⊥) → IsKept q → register new q ≡ register between q) → new.segments ≡ between.segments
    → Homed m new k n
homed_by m between new r k n is few keeps memory has word kept memory' = record {
  memory = memory' ∙ memory;
  registers = has;
  word = ap (register new) (sym is) ∙ word;
  frame = kept 2 (λ e. omega (arith, e, is)) (is_kept 2 (λ e. omega (arith, e)) (λ e. omega (arith, e)) (λ e. omega
      (arith, e)))
      ∙ keeps.frame;
  lowest = kept 26 (λ e. omega (arith, e, is, few)) (home_kept 26 (omega arith) (omega arith)) ∙ keeps.lowest;
  heap = kept 27 (λ e. omega (arith, e, is, few)) (home_kept 27 (omega arith) (omega arith)) ∙ keeps.heap;
  others = λ j h ne. kept (18 + j) (λ e. ne (omega (arith, e, is))) (home_kept (18 + j) (omega arith) (omega
      (arith, h)))
      ∙ keeps.homes j h;
}

-- The result has come to where a slot is written from.
pub record Arrived (placing : Placing) (here : Here) (operation : LirOp) (begin far_at k most to n : ℕ) (o : Option ℕ)
    (m : MachineState) : Type 0 where
  pub past : Past placing.program begin here.body far_at k most (op_lines here.body operation) (writes_slot o 7 to) m
  pub result : HasResult o 7 m past.new n
  pub some : 0 < past.count

-- from x7 to a home is one instruction more
abbrev pub one_more_for : Option ℕ → ℕ
one_more_for (Some r) = 1
one_more_for None = 0

put : (placing : Placing) (here : Here) (operation : LirOp) (begin far_at k most to n : ℕ) (o : Option ℕ)
    (m between : MachineState) → home here.body.vars to ≡ o → KeepsOwn m between → between.segments ≡ m.segments
    → n < 2 ^ 64 → Behind placing here operation begin far_at k most 7 n (puts_slot o 7 to) m between
    → Arrived placing here operation begin far_at k (most + one_more_for o) to n o m
put placing here operation begin far_at k most to n None m between e keeps memory small b =
    let p = b.past in
    let few : p.count ≤ most = p.few in
    record {
      past = record {
        far = p.far;
        place = p.place;
        new = p.new;
        count = p.count;
        few = omega (arith, few);
        goes = p.goes;
        at = p.at;
        size = p.size;
      };
      result = (
        keeps_through m between p.new keeps (keeps_own between p.new (λ q kept. b.kept q kept.not_result kept)),
        b.memory ∙ memory,
        b.has,
      );
      some = b.some;
    }
put placing here operation begin far_at k most to n (Some r) m between e keeps memory small b =
    let p = b.past in
    let body : LirBody = here.body in
    let code : List Ins = linked placing.program begin body in
    let bound = home_bound body.vars to r e in
    let low : 18 ≤ r = bound.0 in
    let high : r < 26 = bound.2 in
    let m2 : MachineState = given r n p.new in
    let value : low_bits 64 (pos (register p.new 7) +ℤ pos 0) ≡ n =
    ap (λ x. low_bits 64 (pos x +ℤ pos 0)) b.has ∙ omega (arith, small) in
    let step : Goes begin code (p.place + 1) 1 p.new m2 =
    goes_given begin code p.place (Ins.Addi r 7 (pos 0)) r n p.new p.at.code_at p.at.pc p.at.block.0 p.at.legal.0
    (λ ss. ap (λ x. Running (given r x p.new) ss) value) in
    let has : HasRegisters m2 = given_has r n p.new small p.at.registers in
    let few : p.count ≤ most = p.few in
    record {
      past = record {
        far = p.far + 1;
        place = p.place + 1;
        new = m2;
        count = p.count + 1;
        few = omega (arith, few);
        goes = goes_on begin code p.place (p.place + 1) p.count 1 m p.new m2 p.goes step;
        at = at_behind placing.program begin body p.far p.place 1 (Single (Ins.Addi r 7
            (pos 0)) ∷ []) [] p.new m2 p.at step
            has;
        size = omega (arith, p.size);
      };
      result = homed_by m between m2 r (r - 18) n (omega (arith, low)) (omega (arith, low, high)) keeps memory has
          (given_same r n p.new (omega (arith, low)) (omega (arith, high)) p.at.registers)
          (λ q ne kept. given_other r q n p.new ne ∙ b.kept q kept.not_result kept) b.memory;
      some = omega arith;
    }

-- a result in its own register
direct : (placing : Placing) (here : Here) (operation : LirOp) (begin far_at k most to n : ℕ) (o : Option ℕ)
    (m between : MachineState) → home here.body.vars to ≡ o → KeepsOwn m between → between.segments ≡ m.segments
    → Behind placing here operation begin far_at k most (register_or o 7) n (writes_slot o 7 to) m between
    → Arrived placing here operation begin far_at k most to n o m
direct placing here operation begin far_at k most to n None m between e keeps memory b = record {
  past = b.past;
  result = (
    keeps_through m between b.past.new keeps (keeps_own between b.past.new (λ q kept. b.kept q kept.not_result kept)),
    b.memory ∙ memory,
    b.has,
  );
  some = b.some;
}
direct placing here operation begin far_at k most to n (Some r) m between e keeps memory b =
    let bound = home_bound here.body.vars to r e in
    let low : 18 ≤ r = bound.0 in
    let high : r < 26 = bound.2 in
    record {
      past = b.past;
      result = homed_by m between b.past.new r (r - 18) n (omega (arith, low)) (omega (arith, low, high)) keeps memory
          b.past.at.registers b.has b.kept b.memory;
      some = b.some;
    }

-- and from there to the slot
arrived : (placing : Placing) (here : Here) (operation : LirOp) (begin to most before n : ℕ) (m : MachineState)
    (streams : Streams) (o : Option ℕ) → IsPlacing placing → IsAt placing here operation begin m
    → (s : Site placing here operation begin m) → home here.body.vars to ≡ o
    → Arrived placing here operation begin s.far_at s.k before to n o m → n < 2 ^ 64 → before + most_after o ≤ most
    → 0 < most → AreBytes streams → FollowsInBody placing begin here.body most m streams (gives here to n streams)
arrived placing here operation begin to most before n m streams o is at s e g small enough some bytes =
    by (memory_with here to n) refl
  where
    by : (w : Option FlatMemory) → memory_with here to n ≡ w
        → FollowsInBody placing begin here.body most m streams (with w streams (goes_on_with here streams))
    by None e' = followed_stuck placing here operation begin most m WordCause.NoStep streams streams s some
    by (Some memory') e' =
        slot_given placing here operation begin to 7 most before n (cells_of 8 n) memory' m streams o is at s
        (λ same. omega (arith, same)) e g.past g.result (λ r e''. g.some) small (size_of_cells n)
        (all_itself (little_bytes 8 n)) e' enough bytes

few_enough : (o : Option ℕ) (before most : ℕ) → before + 4 ≤ most → (before + one_more_for o) + most_after o ≤ most
few_enough (Some r) before most h = omega (arith, h)
few_enough None before most h = omega (arith, h)

few_direct : (o : Option ℕ) (before most : ℕ) → before + 4 ≤ most → before + most_after o ≤ most
few_direct (Some r) before most h = omega (arith, h)
few_direct None before most h = omega (arith, h)

-- ---- where the result may be refused, to x7

-- By whether there is a result: the lines lead to x7, from where it is put, or to the label.
put_or : (placing : Placing) → IsPlacing placing → (here : Here) (operation : LirOp)
    (begin to label most before own : ℕ)
    (lines : List Line) (m : MachineState) (streams : Streams) (value : Option ℤ) → IsAt placing here operation begin m
    → (s : Site placing here operation begin m) → Target here.body label
    → (p : Past placing.program begin here.body s.far_at s.k before (op_lines here.body operation)
    (lines ++ puts_slot (home here.body.vars to) 7 to) m)
    → KeepsOwn m p.new → p.new.segments ≡ m.segments
    → AnswersOr lines p.new.registers 7 label (option_map word_of value) → 0 < length lines → length lines ≤ own
    → before + own + 4 ≤ most → AreBytes streams
    → FollowsInBody placing begin here.body most m streams (gives_or here to label streams value)
put_or placing is here operation begin to label most before own lines m streams None at s target p keeps memory answer
    some
    short enough bytes =
    refused placing here operation begin label most before own lines (puts_slot (home here.body.vars to) 7 to) m
    streams at s
    target p keeps memory answer short (omega (arith, enough)) bytes
put_or placing is here operation begin to label most before own lines m streams (Some value) at s target p keeps
    memory answer
    some short enough bytes =
    let o : Option ℕ = home here.body.vars to in
    let n : ℕ = word_of value in
    let b = answered placing here operation begin before own 7 n lines (puts_slot o 7 to) m s p answer some short in
    let g = put placing here operation begin s.far_at s.k (before + own) to n o m p.new refl keeps memory
    (low_small value) b in
    arrived placing here operation begin to most (before + own + one_more_for o) n m streams o is at s refl g
    (low_small value)
    (few_enough o (before + own) most enough) (omega (arith, enough)) bytes

combines_size : (operation : CheckedOperation) (kind : Kind) (x y label : ℕ)
    → (0 < length (combines_checked operation kind x y label)) × (length
    (combines_checked operation kind x y label) ≤ 8)
combines_size CheckedOperation.Add Kind.I4 x y label = (omega arith, omega arith)
combines_size CheckedOperation.Add Kind.U4 x y label = (omega arith, omega arith)
combines_size CheckedOperation.Add Kind.I8 x y label = (omega arith, omega arith)
combines_size CheckedOperation.Add Kind.U8 x y label = (omega arith, omega arith)
combines_size CheckedOperation.Subtract Kind.I4 x y label = (omega arith, omega arith)
combines_size CheckedOperation.Subtract Kind.U4 x y label = (omega arith, omega arith)
combines_size CheckedOperation.Subtract Kind.I8 x y label = (omega arith, omega arith)
combines_size CheckedOperation.Subtract Kind.U8 x y label = (omega arith, omega arith)
combines_size CheckedOperation.Multiply Kind.I4 x y label = (omega arith, omega arith)
combines_size CheckedOperation.Multiply Kind.U4 x y label = (omega arith, omega arith)
combines_size CheckedOperation.Multiply Kind.I8 x y label = (omega arith, omega arith)
combines_size CheckedOperation.Multiply Kind.U8 x y label = (omega arith, omega arith)

-- the label of an operation
target_of : (placing : Placing) → IsPlacing placing → (here : Here) (operation : LirOp) (begin label : ℕ)
    (m : MachineState)
    → IsAt placing here operation begin m → (others : List ℕ) → labels operation ≡ label ∷ others
    → Target here.body label
target_of placing is here operation begin label m at others e =
    first_label here.body label others
    (subst (λ ls. list_all (λ l. nat_lt l (length here.body.ops)) ls ≡ true) e
    (labels_within here.body here.frame.place operation (is.laid_out.sound here.frame.item here.body at.body)
    at.operation_there))

pub checked_followed : (placing : Placing) → IsPlacing placing → (operation : CheckedOperation) (kind : Kind)
    (to left right overflow : ℕ) → IsFollowedInBody placing (Checked operation kind to left right overflow)
checked_followed placing is operation kind to left right overflow here begin m streams at bytes =
    with_value placing here whole begin 20 m streams kind left
    (λ a. with (value_in here kind right) streams
    (λ b. gives_or here to overflow streams (combined_in_range operation kind a b))) s (omega arith)
    (λ a v. with_value placing here whole begin 20 m streams kind right
    (λ b. gives_or here to overflow streams (combined_in_range operation kind a b)) s (omega arith)
    (λ b w. both a b v w))
  where
    whole : LirOp
    whole = Checked operation kind to left right overflow

    s : Site placing here whole begin m
    s = site placing here whole begin m is at

    x : ℕ
    x = register_or (home here.body.vars left) 5

    y : ℕ
    y = register_or (home here.body.vars right) 6

    both : (a b : ℤ) → IsValue here kind left a → IsValue here kind right b
        → FollowsInBody placing begin here.body 20 m streams
        (gives_or here to overflow streams (combined_in_range operation kind a b))
    both a b v w =
        let l : SlotStands m here.body.vars left v.word =
        slot_stands placing here whole begin m left v.word is at s v.there in
        let r : SlotStands m here.body.vars right w.word =
        slot_stands placing here whole begin m right w.word is at s w.there in
        let p = past_two placing.program begin here.body s.far_at s.k left right v.word w.word
        (λ x y. combines_checked operation kind x y overflow ++ puts_slot (home here.body.vars to) 7 to) m
        (at_site placing here whole begin m s at.stands.serves.registers) l r in
        let size = combines_size operation kind x y overflow in
        put_or placing is here whole begin to overflow 20 8 8 (combines_checked operation kind x y overflow) m streams
        (combined_in_range operation kind a b) at s (target_of placing is here whole begin overflow m at [] refl)
        p.past p.keeps
        p.memory
        (combined_lines operation kind x y overflow a b p.past.new.registers
        (are_registers p.past.new p.past.at.registers)
        (operand_kept here.body.vars left 5 (home here.body.vars left) refl (omega arith))
        (operand_kept here.body.vars right 6 (home here.body.vars right) refl (omega arith)) v.of_kind w.of_kind
        (p.left ∙ v.is l.small) (p.right ∙ w.is r.small))
        size.0 size.1 (omega arith) bytes

short_size : (kind : Kind) (others x label : ℕ)
    → (0 < length (keeps_short kind others x label)) × (length (keeps_short kind others x label) ≤ 4)
short_size Kind.I4 others x label = (omega arith, omega arith)
short_size Kind.U4 others x label = (omega arith, omega arith)
short_size Kind.I8 others x label = (omega arith, omega arith)
short_size Kind.U8 others x label = (omega arith, omega arith)

i4_size : (kind : Kind) (x label : ℕ)
    → (0 < length (converts_to_i4 kind x label)) × (length (converts_to_i4 kind x label) ≤ 4)
i4_size Kind.I4 x label = (omega arith, omega arith)
i4_size Kind.U4 x label = (omega arith, omega arith)
i4_size Kind.I8 x label = (omega arith, omega arith)
i4_size Kind.U8 x label = (omega arith, omega arith)

u4_size : (kind : Kind) (x label : ℕ)
    → (0 < length (converts_to_u4 kind x label)) × (length (converts_to_u4 kind x label) ≤ 4)
u4_size Kind.I4 x label = (omega arith, omega arith)
u4_size Kind.U4 x label = (omega arith, omega arith)
u4_size Kind.I8 x label = (omega arith, omega arith)
u4_size Kind.U8 x label = (omega arith, omega arith)

i8_size : (kind : Kind) (x label : ℕ)
    → (0 < length (converts_to_i8 kind x label)) × (length (converts_to_i8 kind x label) ≤ 4)
i8_size Kind.I4 x label = (omega arith, omega arith)
i8_size Kind.U4 x label = (omega arith, omega arith)
i8_size Kind.I8 x label = (omega arith, omega arith)
i8_size Kind.U8 x label = (omega arith, omega arith)

u8_size : (kind : Kind) (x label : ℕ)
    → (0 < length (converts_to_u8 kind x label)) × (length (converts_to_u8 kind x label) ≤ 4)
u8_size Kind.I4 x label = (omega arith, omega arith)
u8_size Kind.U4 x label = (omega arith, omega arith)
u8_size Kind.I8 x label = (omega arith, omega arith)
u8_size Kind.U8 x label = (omega arith, omega arith)

narrows_size : (narrow : Narrow) (kind : Kind) (x label : ℕ)
    → (0 < length (converts_checked narrow kind x label)) × (length (converts_checked narrow kind x label) ≤ 4)
narrows_size Narrow.I1 kind x label = short_size kind 56 x label
narrows_size Narrow.U1 kind x label = (omega arith, omega arith)
narrows_size Narrow.I2 kind x label = short_size kind 48 x label
narrows_size Narrow.U2 kind x label = (omega arith, omega arith)
narrows_size Narrow.I4 kind x label = i4_size kind x label
narrows_size Narrow.U4 kind x label = u4_size kind x label
narrows_size Narrow.I8 kind x label = i8_size kind x label
narrows_size Narrow.U8 kind x label = u8_size kind x label

pub convert_checked_followed : (placing : Placing) → IsPlacing placing → (narrow : Narrow) (from : Kind)
    (to value overflow : ℕ) → IsFollowedInBody placing (ConvertChecked narrow from to value overflow)
convert_checked_followed placing is narrow from to value overflow here begin m streams at bytes =
    with_value placing here whole begin 12 m streams from value
    (λ a. gives_or here to overflow streams (value_in_range narrow from a)) s (omega arith) one
  where
    whole : LirOp
    whole = ConvertChecked narrow from to value overflow

    s : Site placing here whole begin m
    s = site placing here whole begin m is at

    x : ℕ
    x = register_or (home here.body.vars value) 5

    one : (a : ℤ) → IsValue here from value a
        → FollowsInBody placing begin here.body 12 m streams
        (gives_or here to overflow streams (value_in_range narrow from a))
    one a v =
        let l : SlotStands m here.body.vars value v.word =
        slot_stands placing here whole begin m value v.word is at s v.there in
        let p = past_one placing.program begin here.body s.far_at s.k value v.word
        (λ x. converts_checked narrow from x overflow ++ puts_slot (home here.body.vars to) 7 to) m
        (at_site placing here whole begin m s at.stands.serves.registers) l in
        let size = narrows_size narrow from x overflow in
        put_or placing is here whole begin to overflow 12 4 4 (converts_checked narrow from x overflow) m streams
        (value_in_range narrow from a) at s (target_of placing is here whole begin overflow m at [] refl) p.past p.keeps
        p.memory
        (narrowed_lines narrow from x overflow a p.past.new.registers (are_registers p.past.new p.past.at.registers)
        (operand_kept here.body.vars value 5 (home here.body.vars value) refl (omega arith)) v.of_kind (p.has
        ∙ v.is l.small))
        size.0 size.1 (omega arith) bytes

-- ---- divisions

divides_size : (part : DivisionPart) (kind : Kind) (r x y if_none overflow : ℕ)
    → (0 < length (divides part kind r x y if_none overflow)) × (length (divides part kind r x y if_none overflow) ≤ 8)
divides_size part Kind.I4 r x y if_none overflow = (omega arith, omega arith)
divides_size part Kind.U4 r x y if_none overflow = (omega arith, omega arith)
divides_size part Kind.I8 r x y if_none overflow = (omega arith, omega arith)
divides_size part Kind.U8 r x y if_none overflow = (omega arith, omega arith)

-- the second label of an operation
second_target : (placing : Placing) → IsPlacing placing → (here : Here) (operation : LirOp) (begin first label : ℕ)
    (m : MachineState) → IsAt placing here operation begin m → labels operation ≡ first ∷ label ∷ []
    → Target here.body label
second_target placing is here operation begin first label m at e =
    let inside : ℕ → Bool = λ l. nat_lt l (length here.body.ops) in
    first_label here.body label []
    (second_of (inside first) (list_all inside (label ∷ []))
    (subst (λ ls. list_all inside ls ≡ true) e
    (labels_within here.body here.frame.place operation (is.laid_out.sound here.frame.item here.body at.body)
    at.operation_there)))

-- The operands of a division are in registers.
by_parts : (placing : Placing) → IsPlacing placing → (here : Here) (part : DivisionPart) (kind : Kind)
    (to left right if_none overflow begin x y : ℕ) (m : MachineState) (streams : Streams) (a b : ℤ)
    → IsAt placing here (Divide part kind to left right if_none overflow) begin m
    → (s : Site placing here (Divide part kind to left right if_none overflow) begin m) → AreBytes streams
    → (p : Past placing.program begin here.body s.far_at s.k 8
    (op_lines here.body (Divide part kind to left right if_none overflow))
    (divides part kind (register_or (home here.body.vars to) 7) x y if_none overflow
    ++ writes_slot (home here.body.vars to) 7 to) m)
    → KeepsOwn m p.new → p.new.segments ≡ m.segments → IsKept x → IsKept y → IsOfKind kind a → IsOfKind kind b
    → register p.new x ≡ word_of a → register p.new y ≡ word_of b
    → FollowsInBody placing begin here.body 20 m streams
    (cond (int_eq b (pos 0)) (goes_to here if_none streams)
    (cond (is_least_by_minus_one kind a b) (goes_to here overflow streams)
    (gives_value here to streams (divided part kind a b))))
by_parts placing is here part kind to left right if_none overflow begin x y m streams a b at s bytes p keeps memory kx
    ky ka kb e
    f =
    by (int_eq b (pos 0)) refl
  where
    whole : LirOp
    whole = Divide part kind to left right if_none overflow

    o : Option ℕ
    o = home here.body.vars to

    r : ℕ
    r = register_or o 7

    target : IsTarget r
    target = is_target here.body.vars to o refl

    lines : List Line
    lines = divides part kind r x y if_none overflow

    size : (0 < length lines) × (length lines ≤ 8)
    size = divides_size part kind r x y if_none overflow

    n : ℕ
    n = word_of (divided part kind a b)

    has : AreRegisters p.new.registers
    has = are_registers p.new p.at.registers

    unless_least : (t : Bool) → AnswersOr lines p.new.registers r overflow (cond t None (Some n))
        → FollowsInBody placing begin here.body 20 m streams
        (cond t (goes_to here overflow streams) (gives here to n streams))
    unless_least true refuses =
        refused placing here whole begin overflow 20 8 8 lines (writes_slot o 7 to) m streams at s
        (second_target placing is here whole begin if_none overflow m at refl) p keeps memory refuses size.1
        (omega arith) bytes
    unless_least false answers =
        let b' = answered placing here whole begin 8 8 r n lines (writes_slot o 7 to) m s p answers size.0 size.1 in
        let g = direct placing here whole begin s.far_at s.k 16 to n o m p.new refl keeps memory b' in
        arrived placing here whole begin to 20 16 n m streams o is at s refl g (low_small (divided part kind a b))
        (few_direct o 16 20 (omega arith)) (omega arith) bytes

    by : (t : Bool) → int_eq b (pos 0) ≡ t
        → FollowsInBody placing begin here.body 20 m streams
        (cond t (goes_to here if_none streams)
        (cond (is_least_by_minus_one kind a b) (goes_to here overflow streams)
        (gives_value here to streams (divided part kind a b))))
    by true t =
        refused placing here whole begin if_none 20 8 8 lines (writes_slot o 7 to) m streams at s
        (target_of placing is here whole begin if_none m at (overflow ∷ []) refl) p keeps memory
        (zero_lines part kind r x y if_none overflow b p.new.registers has kb f t) size.1 (omega arith) bytes
    by false t =
        unless_least (is_least_by_minus_one kind a b)
        (divided_lines part kind r x y if_none overflow a b p.new.registers has target.some target.few kx ky ka kb e f
        t)

pub divide_followed : (placing : Placing) → IsPlacing placing → (part : DivisionPart) (kind : Kind)
    (to left right if_none overflow : ℕ) → IsFollowedInBody placing (Divide part kind to left right if_none overflow)
divide_followed placing is part kind to left right if_none overflow here begin m streams at bytes =
    with_value placing here whole begin 20 m streams kind left
    (λ a. with (value_in here kind right) streams (λ b. by_both a b)) s (omega arith)
    (λ a v. with_value placing here whole begin 20 m streams kind right (λ b. by_both a b) s (omega arith)
    (λ b w. both a b v w))
  where
    whole : LirOp
    whole = Divide part kind to left right if_none overflow

    by_both : ℤ → ℤ → Run WordState WordCause
    by_both a b =
        cond (int_eq b (pos 0)) (goes_to here if_none streams)
        (cond (is_least_by_minus_one kind a b) (goes_to here overflow streams)
        (gives_value here to streams (divided part kind a b)))

    s : Site placing here whole begin m
    s = site placing here whole begin m is at

    x : ℕ
    x = register_or (home here.body.vars left) 5

    y : ℕ
    y = register_or (home here.body.vars right) 6

    both : (a b : ℤ) → IsValue here kind left a → IsValue here kind right b
        → FollowsInBody placing begin here.body 20 m streams (by_both a b)
    both a b v w =
        let l : SlotStands m here.body.vars left v.word =
        slot_stands placing here whole begin m left v.word is at s v.there in
        let r : SlotStands m here.body.vars right w.word =
        slot_stands placing here whole begin m right w.word is at s w.there in
        let p = past_two placing.program begin here.body s.far_at s.k left right v.word w.word
        (λ x y. to_slot here.body.vars to (λ r. divides part kind r x y if_none overflow)) m
        (at_site placing here whole begin m s at.stands.serves.registers) l r in
        by_parts placing is here part kind to left right if_none overflow begin x y m streams a b at s bytes p.past
        p.keeps
        p.memory (operand_kept here.body.vars left 5 (home here.body.vars left) refl (omega arith))
        (operand_kept here.body.vars right 6 (home here.body.vars right) refl (omega arith)) v.of_kind w.of_kind
        (p.left ∙ v.is l.small) (p.right ∙ w.is r.small)
