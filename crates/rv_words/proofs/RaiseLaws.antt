-- An object that is raised: where no body has clauses, the machine goes to the line of such objects.
use Rattle.std.proofs.Common.{◌≡◌, ◌∙◌, ◌⊎◌, inl, inr, ℕ, suc, ◌+◌, ◌*◌, ◌%◌, ◌^◌, ◌<◌, ◌≤◌, pos, ◌+ℤ◌, ◌-ℤ◌}
use Rattle.std.proofs.Common.{List, [], ◌∷◌, ◌++◌, length, Option, Some, None, arith, refl, ap, sym, subst, slice_get}
use Rattle.std.specs.Prelude.{filter, unwrap_or}
use Rattle.std.specs.Int.{cast_signed, w32}
use Rattle.num_core.specs.Bits.{low_bits}
use Rattle.num_core.specs.Run.{Running, Streams, after}
use Rattle.num_core.specs.declared.fix.FixKind.TheVariants.{Routine}
use Rattle.rv_isa.specs.declared.ins.Ins.{Ins}
use Rattle.rv_isa.specs.Instructions.{IsLegal}
use Rattle.rv_step.specs.Machine.{MachineState, effect, machine_step, register, without_bit_0}
use Rattle.rv_code.specs.Code.{given}
use Rattle.rv_code.proofs.Going.{steps_at, within}
use Rattle.lir_core.specs.Calls.{lowest}
use Rattle.lir_core.specs.Handlers.{candidates, candidates_among, caught_at, finishes_first, is_tried, raises}
use Rattle.lir_core.specs.Program.{WordProgram, with}
use Rattle.lir_core.specs.Slots.{Here, word_in}
use Rattle.lir_core.specs.State.{ASearch, Frame, WordCause, WordState}
use Rattle.lir_core.specs.declared.op.LirOp.{LirOp}
use Rattle.lir_core.specs.declared.op.LirOp.TheVariants.{EndHandler, Raise, Rethrow}
use Rattle.rt_code.specs.Code.{lower, upper}
use Rattle.rt_code.specs.Effects.{number_of}
use Rattle.rt_code.specs.declared.routines.Routine.TheVariants.{Unhandled}
use Rattle.rt_code.proofs.Machines.{then_step}
use Rattle.rv_gen.specs.Calling.{goes_to_routine}
use Rattle.rv_gen.specs.Lines.{op_lines}
use Rattle.rv_gen.specs.Placing.{code_of}
use Rattle.rv_words.specs.Groups.{IsAt, IsFollowedInBody}
use Rattle.rv_words.specs.Linked.{bits_between, linked}
use Rattle.rv_words.specs.Placing.{IsPlacing, Placing, Serves, reach}
use Rattle.rv_words.specs.Stands.{FetchesAt, FetchesFrom, FollowsInBody, IsUnhandled, Related}
use Rattle.rv_words.specs.Stands.Related.{InSearch}
use Rattle.rv_words.proofs.Branches.{even_kept, far_is, free_5, has_all}
use Rattle.rv_words.proofs.Going.{Goes, goes_given}
use Rattle.rv_words.proofs.Got.{free_kept}
use Rattle.rv_words.proofs.Lines.{AtLines, at_equal, at_site}
use Rattle.rv_words.proofs.Moved.{KeepsOwn, clear_same, program_same}
use Rattle.rv_words.proofs.Registers.{given_has, given_same, low_small}
use Rattle.rv_words.proofs.Sites.{Site, followed_stuck, linked_length, site}

-- A way through the code of a body whose last instruction leads out of it.
pub record GoesOut (address : ℕ) (code : List Ins) (count : ℕ) (m new : MachineState) : Type 0 where
  pub runs : (streams : Streams) → after machine_step count (Running m streams) ≡ Running new streams
  pub fetches : (streams : Streams) → FetchesFrom address (4 * length code) count m streams

before_or_last : (j n : ℕ) → j < n + 1 → (j < n) ⊎ (j ≡ n)
before_or_last j n h = grind arith

pub goes_out : (address : ℕ) (code : List Ins) (k n : ℕ) (ins : Ins) (m between new : MachineState)
    → Goes address code k n m between → slice_get code k ≡ Some ins → IsLegal ins
    → ((streams : Streams) → effect ins between streams ≡ Running new streams) → GoesOut address code (n + 1) m new
goes_out address code k n ins m between new goes there legal does =
    let inside : k < length code = within code k ins there in
    let pc : between.pc ≡ address + 4 * k = goes.pc in
    record {
      runs = λ streams. then_step n (Running m streams) between streams (Running new streams) (goes.runs streams)
          (steps_at address code k ins between streams goes.code_at pc there legal ∙ does streams);
      fetches = λ streams j h. elim (before_or_last j n h) [
        | inl before ↦ goes.fetches streams j before
        | inr last ↦ subst (λ i. FetchesAt address (4 * length code) (after machine_step i (Running m streams)))
            (sym last)
            (record {
              m = between;
              streams = streams;
              runs = goes.runs streams;
              above = omega (arith, pc);
              below = omega (arith, pc, inside);
            })
      ];
    }

-- no frame has a clause that might catch
no_candidates : (program : WordProgram) → ((item : ℕ) → program.clauses_of item ≡ []) → (above : ℕ)
    (frames : List Frame) → candidates program above frames ≡ []
no_candidates program none above [] = refl
no_candidates program none above (frame ∷ frames) =
    ap (λ clauses. candidates_among above [] (filter (is_tried frame.place) clauses)
    ++ candidates program (suc above) frames) (none frame.item) ∙ no_candidates program none (suc above) frames

-- The machine goes to the line where the program begins a search that finds nothing.
raised : (placing : Placing) → IsPlacing placing → (operation : LirOp) (object : ℕ) (here : Here) (begin : ℕ)
    (m : MachineState) (streams : Streams) → IsAt placing here operation begin m
    → Site placing here operation begin m
    → op_lines here.body operation ≡ goes_to_routine (number_of Unhandled)
    → FollowsInBody placing begin here.body 2 m streams (raises here object streams)
raised placing is operation object here begin m streams at s lines = record {
  follows = record {
    count = 1 + 1;
    some = omega arith;
    few = omega arith;
    related = subst (Related placing (raises here object streams)) (sym (out.runs streams))
        (InSearch state new streams object under_way unhandled);
  };
  fetches = subst (λ n. FetchesFrom begin (4 * n) (1 + 1) m streams) (linked_length placing.program begin here.body)
      (out.fetches streams);
}
  where
    state : WordState
    state = record here.state { under_way = ASearch object (candidates here.program 0 here.state.frames) }

    target : ℕ
    target = (is.routines Unhandled).0

    named : placing.program.address_of Routine (number_of Unhandled) ≡ Some target
    named = (is.routines Unhandled).1

    code : List Ins
    code = linked placing.program begin here.body

    bits : ℕ
    bits = bits_between (begin + 4 * s.k) (unwrap_or (placing.program.address_of Routine (number_of Unhandled)) 0)

    bits_is : bits ≡ low_bits 32 (pos target -ℤ pos (begin + 4 * s.k))
    bits_is = ap (λ o. bits_between (begin + 4 * s.k) (unwrap_or o 0)) named

    there : AtLines placing.program begin here.body s.far_at s.k (goes_to_routine (number_of Unhandled)) m
    there =
        at_equal placing.program begin here.body s.far_at s.k (op_lines here.body operation)
        (goes_to_routine (number_of Unhandled)) m lines (at_site placing here operation begin m s
        at.stands.serves.registers)

    v : ℕ
    v = low_bits 64 (pos m.pc +ℤ cast_signed w32 (upper bits * 2 ^ 12))

    m1 : MachineState
    m1 = given 5 v m

    first : Goes begin code (s.k + 1) 1 m m1
    first =
        goes_given begin code s.k (Ins.Auipc 5 (upper bits)) 5 v m s.code_at s.pc there.block.0 there.legal.0
        (λ ss. refl)

    new : MachineState
    new = record m1 { pc = target }

    near : begin + 4 * s.k < reach
    near =
        let end : begin + 4 * length (code_of here.body) < reach = s.placed.near in
        let h : s.k < length (code_of here.body) = s.within in
        omega (arith, end, h)

    even : target % 4 ≡ 0
    even = (at.stands.serves.memory.routines Unhandled target named).aligned

    x5 : register m1 5 ≡ v
    x5 = given_same 5 v m (omega arith) (omega arith) at.stands.serves.registers

    whole : low_bits 64 (pos v +ℤ lower bits) ≡ target
    whole =
        ap (λ p. low_bits 64 (pos (low_bits 64 (pos p +ℤ cast_signed w32 (upper bits * 2 ^ 12))) +ℤ lower bits)) s.pc
        ∙ ap (λ b. low_bits 64 (pos (low_bits 64 (pos (begin + 4 * s.k) +ℤ cast_signed w32
        (upper b * 2 ^ 12))) +ℤ lower b))
        bits_is
        ∙ far_is (begin + 4 * s.k) target near (is.near Routine (number_of Unhandled) target named)

    goes_there : without_bit_0 (low_bits 64 (pos (register m1 5) +ℤ lower bits)) ≡ target
    goes_there =
        ap (λ x. without_bit_0 (low_bits 64 (pos x +ℤ lower bits))) x5 ∙ ap without_bit_0 whole ∙ even_kept target even

    out : GoesOut begin code (1 + 1) m new
    out =
        goes_out begin code (s.k + 1) 1 (Ins.Jalr 0 5 (lower bits)) m m1 new first there.block.1.0 there.legal.1.0
        (λ ss. ap (λ p. Running (record m1 { pc = p }) ss) goes_there)

    keeps : KeepsOwn m m1
    keeps = free_kept 5 v m free_5

    serves : Serves placing new
    serves = record {
      registers = has_all m1 target
          (given_has 5 v m (low_small (pos m.pc +ℤ cast_signed w32 (upper bits * 2 ^ 12))) at.stands.serves.registers);
      memory = program_same placing m new refl at.stands.serves.memory;
      lowest = keeps.lowest ∙ at.stands.serves.lowest;
      heap = subst (λ n. placing.program.heap_begin ≤ n) (sym keeps.heap) at.stands.serves.heap;
      clear = clear_same m new refl keeps.lowest keeps.heap at.stands.serves.clear;
    }

    none : (item : ℕ) → here.program.clauses_of item ≡ []
    none item = ap (λ program. program.clauses_of item) at.program ∙ is.no_clauses item

    under_way : state.under_way ≡ ASearch object []
    under_way = ap (ASearch object) (no_candidates here.program none 0 here.state.frames)

    unhandled : IsUnhandled placing state new
    unhandled = record {
      serves = serves;
      pc = named;
      frame = keeps.frame ∙ sym s.i.first.address ∙ sym (ap (lowest placing.program) at.frames);
      bounds = record {
        frames = at.stands.bounds.frames;
        heap = at.stands.bounds.heap;
        memory = at.stands.bounds.memory;
      };
    }

pub raise_followed : (placing : Placing) → IsPlacing placing → (object : ℕ) → IsFollowedInBody placing (Raise object)
raise_followed placing is object here begin m streams at bytes = by (word_in here object) refl
  where
    s : Site placing here (Raise object) begin m
    s = site placing here (Raise object) begin m is at

    by : (o : Option ℕ) → word_in here object ≡ o
        → FollowsInBody placing begin here.body 2 m streams (with o streams (λ address. raises here address streams))
    by None e =
        followed_stuck placing here (Raise object) begin 2 m WordCause.NoStep streams streams s (omega arith)
    by (Some address) e = raised placing is (Raise object) address here begin m streams at s refl

-- no handler was entered
pub rethrow_followed : (placing : Placing) → IsPlacing placing → IsFollowedInBody placing Rethrow
rethrow_followed placing is here begin m streams at bytes =
    let s : Site placing here Rethrow begin m = site placing here Rethrow begin m is at in
    subst (FollowsInBody placing begin here.body 2 m streams)
    (sym (ap (λ es. with (caught_at here.frame.place es) streams (λ object. raises here object streams))
    s.i.first.entered))
    (followed_stuck placing here Rethrow begin 2 m WordCause.NoStep streams streams s (omega arith))

pub end_handler_followed : (placing : Placing) → IsPlacing placing → IsFollowedInBody placing EndHandler
end_handler_followed placing is here begin m streams at bytes =
    let s : Site placing here EndHandler begin m = site placing here EndHandler begin m is at in
    subst (FollowsInBody placing begin here.body 2 m streams)
    (sym (ap (λ es. finishes_first es here streams) s.i.first.entered))
    (followed_stuck placing here EndHandler begin 2 m WordCause.NoStep streams streams s (omega arith))
