-- An operation that gives a word to a slot: operands in registers, the word to a register, and from there to the slot.
use Rattle.std.proofs.Common.{◌≡◌, ◌∙◌, ℕ, ◌+◌, ◌-◌, ◌^◌, ◌<◌, ◌≤◌, List, [], ◌∷◌, ◌++◌, length, map, Option, Some}
use Rattle.std.proofs.Common.{None, arith, refl, ap, sym, subst}
use Rattle.std.specs.List.{AllZip}
use Rattle.std.proofs.lemmas.List.{length-map}
use Rattle.byteorder.specs.Endian.{little_bytes}
use Rattle.byteorder.specs.Numbers.{length-bytes_low_first}
use Rattle.num_core.specs.Run.{Streams}
use Rattle.rv_isa.specs.declared.ins.Ins.{Ins}
use Rattle.rv_step.specs.Machine.{MachineState}
use Rattle.rv_code.specs.Code.{AllLegal, BlockAt}
use Rattle.lir_core.specs.Memory.{Byte, FlatMemory, cells_of}
use Rattle.lir_core.specs.Program.{with}
use Rattle.lir_core.specs.Slots.{Here, gives, goes_on_with, memory_with}
use Rattle.lir_core.specs.State.{WordCause}
use Rattle.lir_core.specs.Tells.{CellTellsNoMore}
use Rattle.lir_core.specs.declared.body.LirBody.{LirBody}
use Rattle.lir_core.specs.declared.op.LirOp.{LirOp}
use Rattle.rv_lines.specs.Frame.{home}
use Rattle.rv_lines.specs.Operands.{register_or, writes_slot}
use Rattle.rv_lines.specs.declared.line.Line.{Line}
use Rattle.rv_gen.specs.Lines.{op_lines, to_slot}
use Rattle.rv_words.specs.Groups.{IsAt}
use Rattle.rv_words.specs.Linked.{linked}
use Rattle.rv_words.specs.Placing.{IsPlacing, Placing}
use Rattle.rv_words.specs.Stands.{AreBytes, FollowsInBody}
use Rattle.rv_words.proofs.ConstantCode.{singles}
use Rattle.rv_words.proofs.Going.{goes_nowhere, goes_on}
use Rattle.rv_words.proofs.Got.{Got, IsFree, got_home, got_keeps}
use Rattle.rv_words.proofs.Homed.{Homed}
use Rattle.rv_words.proofs.Homes.{home_bound}
use Rattle.rv_words.proofs.Lines.{at_behind, at_equal, at_site, first_code, first_part, size_singles}
use Rattle.rv_words.proofs.LinkedCode.{longest_of, size_append, size_of}
use Rattle.rv_words.proofs.Moved.{KeepsOwn, keeps_through}
use Rattle.rv_words.proofs.Operands.{Past}
use Rattle.rv_words.proofs.Places.{far_of}
use Rattle.rv_words.proofs.Results.{HasResult, most_after, slot_given}
use Rattle.rv_words.proofs.Sites.{Site, followed_stuck}

pub all_itself : (bytes : List ℕ) → AllZip CellTellsNoMore (map Byte bytes) (map Byte bytes)
all_itself [] = tt
all_itself (b ∷ bytes) = (refl, all_itself bytes)

pub size_of_cells : (value : ℕ) → length (cells_of 8 value) ≡ 8
size_of_cells value = length-map (little_bytes 8 value) Byte ∙ length-bytes_low_first 0 8 value

-- the register of a result is one that may be written
pub record IsTarget (r : ℕ) : Type 0 where
  pub some : 0 < r
  pub few : r < 32

pub is_target : (vars : List ℕ) (to : ℕ) (o : Option ℕ) → home vars to ≡ o → IsTarget (register_or o 7)
is_target vars to (Some r) e =
    let bound = home_bound vars to r e in
    let low : 18 ≤ r = bound.0 in
    let high : r < 26 = bound.2 in
    record { some = omega (arith, low); few = omega (arith, high) }
is_target vars to None e = record { some = omega arith; few = omega arith }

pub free_7 : IsFree 7
free_7 = (λ e. omega (arith, e), λ k h e. omega (arith, e))

-- what a machine that differs from another in no own register keeps the same
homed_through : (m between new : MachineState) (k value : ℕ) → KeepsOwn m between → between.segments ≡ m.segments
    → Homed between new k value → Homed m new k value
homed_through m between new k value keeps memory homed = record {
  memory = homed.memory ∙ memory;
  registers = homed.registers;
  word = homed.word;
  frame = homed.frame ∙ keeps.frame;
  lowest = homed.lowest ∙ keeps.lowest;
  heap = homed.heap ∙ keeps.heap;
  others = λ j h ne. homed.others j h ne ∙ keeps.homes j h;
}

result_of : (address : ℕ) (code : List Ins) (place most to n : ℕ) (vars : List ℕ) (m between : MachineState)
    (o : Option ℕ) → home vars to ≡ o → KeepsOwn m between → between.segments ≡ m.segments
    → (g : Got address code place most (register_or o 7) n between) → HasResult o 7 m g.new n
result_of address code place most to n vars m between (Some r) e keeps memory g =
    let bound = home_bound vars to r e in
    let low : 18 ≤ r = bound.0 in
    let high : r < 26 = bound.2 in
    homed_through m between g.new (r - 18) n keeps memory
    (got_home address code place most r (r - 18) n between (omega (arith, low)) (omega (arith, low, high)) g)
result_of address code place most to n vars m between None e keeps memory g = (
  keeps_through m between g.new keeps (got_keeps address code place most 7 n between free_7 g),
  g.memory
      ∙ memory,
  g.has,
)

-- The word comes to a register by some lines, behind those of the operands.
pub word_given : (placing : Placing) (here : Here) (operation : LirOp) (begin to most before own n : ℕ)
    (by_lines : ℕ → List Line) (m : MachineState) (streams : Streams) → IsPlacing placing
    → IsAt placing here operation begin m → (s : Site placing here operation begin m)
    → (p : Past placing.program begin here.body s.far_at s.k before (op_lines here.body operation)
    (to_slot here.body.vars to by_lines) m)
    → KeepsOwn m p.new → p.new.segments ≡ m.segments
    → (g : Got begin (linked placing.program begin here.body)
    (p.place + size_of (far_of here.body) p.far (by_lines (register_or (home here.body.vars to) 7))) own
    (register_or (home here.body.vars to) 7) n p.new)
    → n < 2 ^ 64 → before + own + 4 ≤ most → AreBytes streams
    → FollowsInBody placing begin here.body most m streams (gives here to n streams)
word_given placing here operation begin to most before own n by_lines m streams is at s p keeps memory g small enough
    bytes =
    by (memory_with here to n) refl
  where
    body : LirBody
    body = here.body

    r : ℕ
    r = register_or (home body.vars to) 7

    xs : List Line
    xs = by_lines r

    rest : List Line
    rest = writes_slot (home body.vars to) 7 to

    next : Past placing.program begin body s.far_at s.k (before + own) (op_lines body operation) rest m
    next =
        let few : p.count ≤ before = p.few in
        let few' : g.count ≤ own = g.few in
        let sizes : size_of (far_of body) p.far (xs ++ rest)
        ≡ size_of (far_of body) p.far xs + size_of (far_of body) (p.far + longest_of xs) rest =
        size_append (far_of body) p.far xs rest in
        record {
          far = p.far + longest_of xs;
          place = p.place + size_of (far_of body) p.far xs;
          new = g.new;
          count = p.count + g.count;
          few = omega (arith, few, few');
          goes = goes_on begin (linked placing.program begin body) p.place (p.place + size_of
              (far_of body) p.far xs) p.count
              g.count m p.new g.new p.goes g.goes;
          at = at_behind placing.program begin body p.far p.place g.count xs rest p.new g.new p.at g.goes g.registers;
          size = omega (arith, p.size, sizes);
        }

    few_enough : (o : Option ℕ) → (before + own) + most_after o ≤ most
    few_enough (Some q) = omega (arith, enough)
    few_enough None = omega (arith, enough)

    by : (o : Option FlatMemory) → memory_with here to n ≡ o
        → FollowsInBody placing begin body most m streams (with o streams (goes_on_with here streams))
    by None e = followed_stuck placing here operation begin most m WordCause.NoStep streams streams s (omega
        (arith, enough))
    by (Some memory') e =
        slot_given placing here operation begin to 7 most (before + own) n (cells_of 8 n) memory' m streams
        (home body.vars to)
        is at s (λ same. omega (arith, same)) refl next
        (result_of begin (linked placing.program begin body) (p.place + size_of (far_of body) p.far xs) own to n
        body.vars m
        p.new (home body.vars to) refl keeps memory g)
        (λ r' e'. let some : 0 < g.count = g.some in omega (arith, some)) small (size_of_cells n) (all_itself
        (little_bytes 8 n))
        e (few_enough (home body.vars to)) bytes

-- Lines that are an instruction each.
pub word_by_singles : (placing : Placing) (here : Here) (operation : LirOp) (begin to most before own n : ℕ)
    (by_lines : ℕ → List Line) (code : List Ins) (m : MachineState) (streams : Streams) → IsPlacing placing
    → IsAt placing here operation begin m → (s : Site placing here operation begin m)
    → (p : Past placing.program begin here.body s.far_at s.k before (op_lines here.body operation)
    (to_slot here.body.vars to by_lines) m)
    → KeepsOwn m p.new → p.new.segments ≡ m.segments
    → by_lines (register_or (home here.body.vars to) 7) ≡ singles code
    → (BlockAt (linked placing.program begin here.body) p.place code → AllLegal code
    → Got begin (linked placing.program begin here.body) (p.place + length code) own
    (register_or (home here.body.vars to) 7) n p.new)
    → n < 2 ^ 64 → before + own + 4 ≤ most → AreBytes streams
    → FollowsInBody placing begin here.body most m streams (gives here to n streams)
word_by_singles placing here operation begin to most before own n by_lines code m streams is at s p keeps memory same
    got small
    enough bytes =
    let body : LirBody = here.body in
    let r : ℕ = register_or (home body.vars to) 7 in
    let xs : List Line = by_lines r in
    let first = first_code placing.program begin body p.far p.place code p.new
    (at_equal placing.program begin body p.far p.place xs (singles code) p.new same
    (first_part placing.program begin body p.far p.place xs (writes_slot (home body.vars to) 7 to) p.new p.at)) in
    let size : size_of (far_of body) p.far xs ≡ length code =
    ap (size_of (far_of body) p.far) same ∙ size_singles (far_of body) p.far code in
    word_given placing here operation begin to most before own n by_lines m streams is at s p keeps memory
    (subst (λ k. Got begin (linked placing.program begin body) (p.place + k) own r n p.new) (sym size)
    (got first.0 first.1)) small enough bytes

-- no operands are read
abbrev pub past_none : (placing : Placing) (here : Here) (operation : LirOp) (begin : ℕ) (m : MachineState)
    → IsAt placing here operation begin m → (s : Site placing here operation begin m)
    → Past placing.program begin here.body s.far_at s.k 0 (op_lines here.body operation)
    (op_lines here.body operation) m
past_none placing here operation begin m at s = record {
  far = s.far_at;
  place = s.k;
  new = m;
  count = 0;
  few = omega arith;
  goes = goes_nowhere begin (linked placing.program begin here.body) s.k m s.code_at s.pc;
  at = at_site placing here operation begin m s at.stands.serves.registers;
  size = refl;
}
