-- Where a machine is that has left a body: at the call of the frame below, behind its jump.
use Rattle.std.proofs.Common.{◌≡◌, ◌∙◌, ℕ, ◌+◌, ◌*◌, ◌%◌, ◌<◌, Bool, true, false, cond, List, [], ◌∷◌, ◌++◌, drop}
use Rattle.std.proofs.Common.{Option, Some, None, map, arith, refl, ap, sym, subst, nat_lt}
use Rattle.std.specs.Prelude.{slice_get}
use Rattle.std.specs.List.{AllZip}
use Rattle.rv_isa.specs.declared.ins.Ins.{Ins}
use Rattle.rv_step.specs.Machine.{MachineState, register, without_bit_0}
use Rattle.rv_code.proofs.Going.{code_in_same_memory}
use Rattle.rv_code.specs.Code.{CodeAt}
use Rattle.lir_core.specs.Slots.{Here}
use Rattle.lir_core.specs.State.{Frame}
use Rattle.lir_core.specs.Tells.{FrameTellsNoMore}
use Rattle.lir_core.specs.declared.body.LirBody.{LirBody}
use Rattle.lir_core.specs.declared.op.LirOp.{LirOp}
use Rattle.lir_core.specs.declared.op.LirOp.TheVariants.{Call, Return}
use Rattle.lir_core.specs.declared.op.Block.{Block}
use Rattle.rv_lines.specs.Frame.{return_at}
use Rattle.rv_lines.specs.declared.line.Line.{Line}
use Rattle.rv_gen.specs.Calling.{takes_result}
use Rattle.rv_gen.specs.Lines.{op_lines}
use Rattle.rv_words.specs.Groups.{IsAt}
use Rattle.rv_words.specs.Linked.{linked}
use Rattle.rv_words.specs.Placing.{IsPlacing, Placing, around_at}
use Rattle.rv_words.specs.Stands.{Stands}
use Rattle.rv_words.specs.Words.{Held, Spot, caller_of, frame_of, homes_below, homes_of, lines_to_jump, saved}
use Rattle.rv_words.specs.Words.{stands_at, waits_at, width, word_at}
use Rattle.rv_words.proofs.Branches.{even_kept, has_all}
use Rattle.rv_words.proofs.CallSites.{IsBehindCall, IsWaiting, waiting, waiting_stands}
use Rattle.rv_words.proofs.Leaving.{Left}
use Rattle.rv_words.proofs.Lines.{AtLines, at_equal, at_later, at_site}
use Rattle.rv_words.proofs.LinkedCode.{longest_of, size_append, size_of}
use Rattle.rv_words.proofs.Places.{far_of}
use Rattle.rv_words.proofs.Popped.{IsPopped, popped, stands_popped}
use Rattle.rv_words.proofs.Sites.{Site, site}
use Rattle.rv_words.proofs.Standing.{Inner, held_at, homes_in, inner_of, rest_of}
use Rattle.rv_words.proofs.Taking.{at_pc}
use Rattle.rv_words.proofs.Widths.{calls_split, width_is, widths_to_jump}

-- ---- the frame that waits

-- The frame below the innermost one as the machine holds it, and where it goes on.
pub record Below (placing : Placing) (m : MachineState) (held : Held) (next : Frame) : Type 0 where
  pub caller : Spot
  pub waits : caller_of placing m held ≡ Some caller
  pub item : next.item ≡ caller.item
  pub place : next.place ≡ caller.place
  pub address : next.address ≡ held.address + held.spot.body.frame
  pub is_waiting : IsWaiting placing (word_at m (held.address + return_at)) caller

waits_by : (b : Bool) (o : Option Spot) (caller : Spot) → cond b o None ≡ Some caller → o ≡ Some caller
waits_by true o caller e = e
waits_by false o caller e = absurd (let no : None ≡ Some caller = e in cc)

pub below_of : (placing : Placing) (m : MachineState) (held : Held) (count : ℕ) (next : Frame) (others : List Frame)
    → AllZip FrameTellsNoMore (next ∷ others) (map (frame_of m) (rest_of count placing m held))
    → Below placing m held next
below_of placing m held count next others told =
    let i : Inner placing m count (caller_of placing m held) (held.address + held.spot.body.frame)
    (homes_below m held) next others =
    inner_of placing m count (caller_of placing m held) (held.address + held.spot.body.frame) (homes_below m held) next
    others told in
    record {
      caller = i.here;
      waits = i.is;
      item = i.first.item;
      place = i.first.place;
      address = i.first.address;
      is_waiting = waiting placing (word_at m (held.address + return_at)) i.here
          (waits_by (nat_lt (held.address + held.spot.body.frame) placing.program.stack_end)
          (waits_at placing (word_at m (held.address + return_at))) i.here i.is);
    }

-- ---- the machine at its call

-- the frame below, as the innermost one of the program that has lost one
abbrev pub here_below : Here → LirBody → Frame → List Frame → LirBody → ℕ → Here
here_below here body next others own address = record {
  program = here.program;
  state = popped here.state here.below own address;
  body = body;
  frame = next;
  below = others;
}

-- the call at which a frame waits
abbrev pub call_of : (body : LirBody) (place k : ℕ) → IsBehindCall body place k → LirOp
call_of body place k c = Call c.callee c.dictionary c.arguments c.cleared c.result

-- The machine is behind the jump of the call, at the lines that take the result. Where its pc is set to where the call
-- begins, it stands there.
pub record IsBack (placing : Placing) (here : Here) (operation : LirOp) (result : Block) (begin pc : ℕ)
    (new : MachineState) : Type 0 where
  pub at : IsAt placing here operation begin (at_pc pc new)
  pub its_site : Site placing here operation begin (at_pc pc new)
  pub far : ℕ
  pub k : ℕ
  pub there : AtLines placing.program begin here.body far k (takes_result here.body.vars result) new
  pub last : its_site.k + size_of (far_of here.body) its_site.far_at (op_lines here.body operation)
      ≡ k + size_of (far_of here.body) far (takes_result here.body.vars result)

-- a return address is one of an instruction
pub even_return : (placing : Placing) (here : Here) (operation : LirOp) (begin : ℕ) (m : MachineState) (address : ℕ)
    (caller : Spot) → IsAt placing here operation begin m → IsWaiting placing address caller
    → without_bit_0 address ≡ address
even_return placing here operation begin m address caller at w =
    let code_at : CodeAt w.begin (linked placing.program w.begin caller.body) m =
    at.stands.serves.memory.code caller.item w.begin caller.body w.item_there w.body_there in
    let aligned : w.begin % 4 ≡ 0 = code_at.aligned in
    even_kept address (omega (arith, w.there, aligned))

pub back : (placing : Placing) (here : Here) (operation : LirOp) (begin value : ℕ) (m : MachineState) (next : Frame)
    (others : List Frame) → IsPlacing placing → IsAt placing here operation begin m
    → (s : Site placing here operation begin m) → here.below ≡ next ∷ others
    → (b : Below placing m (held_at s.i.here (register m 2) (homes_in m)) next)
    → (l : Left here.body value (word_at m (register m 2 + return_at)) m)
    → IsBack placing (here_below here b.caller.body next others s.i.here.body (register m 2))
    (call_of b.caller.body b.caller.place b.is_waiting.k b.is_waiting.call) b.is_waiting.call.result b.is_waiting.begin
    (b.is_waiting.begin + 4 * b.is_waiting.call.stop) l.new
back placing here operation begin value m next others is at s some b l = record {
  at = at_v;
  its_site = s_v;
  far = s_v.far_at + longest_of first;
  k = s_v.k + size_of (far_of body) s_v.far_at first;
  there = at_later placing.program w.begin body s_v.far_at s_v.k first rest v l.new
      (at_equal placing.program w.begin body s_v.far_at s_v.k (op_lines body op) (first ++ rest) v lines
      (at_site placing there op w.begin v s_v (has_all l.new pc l.registers)))
      (code_in_same_memory w.begin (linked placing.program w.begin body) m l.new
      (at.stands.serves.memory.code caller.item w.begin body w.item_there w.body_there) l.memory)
      (l.pc ∙ w.there ∙ ap (λ n. w.begin + 4 * n) k_is) l.registers;
  last = ap (λ ls. s_v.k + size_of (far_of body) s_v.far_at ls) lines
      ∙ omega (arith, size_append (far_of body) s_v.far_at first rest);
}
  where
    held : Held
    held = held_at s.i.here (register m 2) (homes_in m)

    caller : Spot
    caller = b.caller

    body : LirBody
    body = caller.body

    w : IsWaiting placing (word_at m (register m 2 + return_at)) caller
    w = b.is_waiting

    c : IsBehindCall body caller.place w.k
    c = w.call

    op : LirOp
    op = Call c.callee c.dictionary c.arguments c.cleared c.result

    first : List Line
    first = lines_to_jump body.vars c.callee c.dictionary c.arguments c.cleared

    rest : List Line
    rest = takes_result body.vars c.result

    lines : op_lines body op ≡ first ++ rest
    lines = calls_split body.vars c.callee c.dictionary c.arguments c.cleared c.result

    pc : ℕ
    pc = w.begin + 4 * c.stop

    v : MachineState
    v = at_pc pc l.new

    spots : (around_at placing pc ≡ Some (record { begin = w.begin; item = caller.item; body = body }))
        × (stands_at placing pc ≡ Some caller)
    spots = waiting_stands placing (word_at m (register m 2 + return_at)) caller is w

    p : IsPopped placing m v held caller
    p = record {
      waits = b.waits;
      spot = spots.1;
      address = subst (λ c. register l.new 2 ≡ register m 2 + c.frame) (sym s.body_is) l.frame;
      homes = subst (λ c. homes_in l.new ≡ saved m (register m 2) (homes_of c) ++ drop (homes_of c) (homes_in m))
          (sym s.body_is) l.homes;
      lowest = l.lowest;
      heap = l.heap;
      registers = has_all l.new pc l.registers;
      memory = l.memory;
    }

    there : Here
    there = here_below here body next others s.i.here.body (register m 2)

    at_v : IsAt placing there op w.begin v
    at_v = record {
      program = at.program;
      frames = some;
      body = ap placing.program.body_of b.item ∙ w.body_there;
      operation_there = ap (slice_get body.ops) b.place ∙ c.there;
      around = spots.0 ∙ ap (λ i. Some (record { begin = w.begin; item = i; body = body })) (sym b.item);
      stands = stands_popped placing here.state m v here.frame here.below next others caller some at.stands at.frames
          s.i
          (at.body ∙ ap Some (sym s.body_is)) p;
    }

    s_v : Site placing there op w.begin v
    s_v = site placing there op w.begin v is at_v

    -- both say where the call begins
    k_is : w.k ≡ s_v.k + size_of (far_of body) s_v.far_at first
    k_is =
        let own : size_of (far_of body) s_v.far_at first ≡ width first =
        width_is (far_of body) s_v.far_at first
        (widths_to_jump body.vars c.callee c.dictionary c.arguments c.cleared) in
        let pcs : w.begin + 4 * c.stop ≡ w.begin + 4 * s_v.k = s_v.pc in
        let sum : c.stop + width first ≡ w.k = c.sum in
        omega (arith, own, pcs, sum)
