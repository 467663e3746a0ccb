-- Bytes that go from the address in a register to that in another, and behind them the program.
use Rattle.std.proofs.Common.{◌≡◌, ◌∙◌, ℕ, ◌+◌, ◌-◌, ◌*◌, ◌/◌, ◌%◌, ◌<◌, ◌≤◌, Bool, true, false, cond, ◌==◌}
use Rattle.std.proofs.Common.{List, [], ◌∷◌, ◌++◌, length, map, take, drop, Some, arith, refl, ap, sym, subst, nat_lt}
use Rattle.std.proofs.Common.{length-append}
use Rattle.std.proofs.lemmas.List.{append-nil, length-take-le, take-append-drop}
use Rattle.std.specs.List.{AllZip, list_all}
use Rattle.std.proofs.lemmas.Bool.Decides.{nat_tests}
use Rattle.num_core.specs.Run.{Streams}
use Rattle.num_core.specs.declared.kind.Narrow.{Narrow}
use Rattle.rv_isa.specs.declared.ins.Ins.{Ins}
use Rattle.rv_step.specs.Machine.{MachineState, register}
use Rattle.rv_step.specs.Memory.{Writes}
use Rattle.rv_code.specs.Registers.{HasRegisters}
use Rattle.lir_core.specs.Memory.{Byte, Cell, FlatMemory, cells_from, is_own, with_cells}
use Rattle.lir_core.specs.Pieces.{bytes_of_type}
use Rattle.lir_core.specs.Program.{WordProgram}
use Rattle.lir_core.specs.Slots.{Here, addresses, goes_on_with}
use Rattle.lir_core.specs.Tells.{CellTellsNoMore}
use Rattle.lir_core.specs.declared.body.LirBody.{LirBody}
use Rattle.lir_core.specs.declared.op.LirOp.{LirOp}
use Rattle.rv_lines.specs.Moving.{passes, passes_bytes, passes_rest, passes_words}
use Rattle.rv_lines.specs.declared.line.Line.{Line}
use Rattle.rv_gen.specs.Lines.{op_lines}
use Rattle.rv_gen.specs.Placing.{code_of}
use Rattle.rv_words.specs.Groups.{IsAt}
use Rattle.rv_words.specs.Linked.{linked}
use Rattle.rv_words.specs.Placing.{IsPlacing, Placing}
use Rattle.rv_words.specs.Stands.{AreBytes, FollowsInBody, Stands}
use Rattle.rv_words.proofs.Going.{Goes, goes_nowhere, goes_on}
use Rattle.rv_words.proofs.JumpLaws.{spot_there}
use Rattle.rv_words.proofs.Lines.{AtLines, at_behind, at_equal, first_code, first_part, size_singles}
use Rattle.rv_words.proofs.LinkedCode.{longest_of, size_append, size_of}
use Rattle.rv_words.proofs.Moved.{KeepsOwn, stands_moved}
use Rattle.rv_words.proofs.Operands.{Past}
use Rattle.rv_words.proofs.Passing.{AreSmall, CanPass, PassedOne, PastBytes, all_small, aside_keeps, can_first}
use Rattle.rv_words.proofs.Passing.{can_rest}
use Rattle.rv_words.proofs.Passing.{pass_code, pass_one, past_words, words_within, writes_both, writes_nothing}
use Rattle.rv_words.proofs.Places.{far_of}
use Rattle.rv_words.proofs.Results.{all_owned, written_where}
use Rattle.rv_words.proofs.Sites.{Site, followed}
use Rattle.rv_words.proofs.Standing.{goes_on_at}
use Rattle.rv_words.proofs.Stored.{stands_flat}

-- ---- the last bytes, of which there are fewer than eight

-- The machine has gone through lines that have passed some bytes behind the addresses in x5 and x6, which stay.
pub record PastPart (program : WordProgram) (begin : ℕ) (body : LirBody) (far_at k most t : ℕ) (bytes : List ℕ)
    (lines rest : List Line) (m : MachineState) : Type 0 where
  pub past : Past program begin body far_at k most lines rest m
  pub writes : Writes t bytes m past.new
  pub others : (q : ℕ) → (q ≡ 7 → ⊥) → register past.new q ≡ register m q

-- a number of these bytes, or none
past_part : (program : WordProgram) (begin : ℕ) (body : LirBody) (far_at k : ℕ) (b : Bool) (narrow : Narrow)
    (offset s t : ℕ) (bytes : List ℕ) (rest : List Line) (m : MachineState)
    → AtLines program begin body far_at k (cond b [] (passes narrow offset) ++ rest) m
    → register m 5 + offset ≡ s → register m 6 + offset ≡ t → CanPass begin (linked program begin body) s t bytes m
    → length bytes ≡ cond b 0 (bytes_of_type narrow)
    → PastPart program begin body far_at k 2 t bytes (cond b [] (passes narrow offset) ++ rest) rest m
past_part program begin body far_at k true narrow offset s t [] rest m at from to can size = record {
  past = record {
    far = far_at;
    place = k;
    new = m;
    count = 0;
    few = omega arith;
    goes = goes_nowhere begin (linked program begin body) k m at.code_at at.pc;
    at = at;
    size = refl;
  };
  writes = writes_nothing t m at.code_at.segments;
  others = λ q ne. refl;
}
past_part program begin body far_at k true narrow offset s t (x ∷ bytes) rest m at from to can size =
    absurd (omega (arith, size))
past_part program begin body far_at k false narrow offset s t bytes rest m at from to can size =
    let code : List Ins = pass_code narrow offset in
    let xs : List Line = passes narrow offset in
    let first = first_code program begin body far_at k code m (first_part program begin body far_at k xs rest m at) in
    let p : PassedOne begin (linked program begin body) (k + 1 + 1) t bytes m =
    pass_one begin (linked program begin body) k narrow offset s t bytes m at.code_at at.pc first.0 first.1 from to can
    size at.registers in
    let far' : ℕ = far_at + longest_of xs in
    let own : size_of (far_of body) far_at xs ≡ 2 = size_singles (far_of body) far_at code in
    let place : ℕ = k + size_of (far_of body) far_at xs in
    let sizes : size_of (far_of body) far_at (xs ++ rest)
    ≡ size_of (far_of body) far_at xs + size_of (far_of body) far' rest =
    size_append (far_of body) far_at xs rest in
    let there : k + 1 + 1 ≡ place = omega (arith, own) in
    let goes : Goes begin (linked program begin body) place 2 m p.new =
    subst (λ n. Goes begin (linked program begin body) n 2 m p.new) there p.goes in
    record {
      past = record {
        far = far';
        place = place;
        new = p.new;
        count = 2;
        few = omega arith;
        goes = goes;
        at = at_behind program begin body far_at k 2 xs rest m p.new at goes p.registers;
        size = omega (arith, sizes);
      };
      writes = p.writes;
      others = p.others;
    }

-- how many bytes each of the three parts has
pub part_4 : (r : ℕ) → r < 8 → cond (nat_lt r 4) 0 4 ≡ r / 4 * 4
part_4 r h = by (nat_lt r 4) refl
  where
    below : nat_lt r 4 ≡ true → r < 4
    below t = grind (arith, nat_tests)

    above : nat_lt r 4 ≡ false → 4 ≤ r
    above t = grind (arith, nat_tests)

    by : (b : Bool) → nat_lt r 4 ≡ b → cond b 0 4 ≡ r / 4 * 4
    by true e = let low : r < 4 = below e in omega (arith, low)
    by false e = let high : 4 ≤ r = above e in omega (arith, high, h)

pub equal_of : (a b : ℕ) → (a == b) ≡ true → a ≡ b
equal_of a b e = grind (arith, nat_tests)

unequal_of : (a : ℕ) → (a == 0) ≡ false → 0 < a
unequal_of a e = grind (arith, nat_tests)

pub part_2 : (r : ℕ) → r < 8 → r / 4 * 4 + cond (r % 4 / 2 == 0) 0 2 ≡ r / 2 * 2
part_2 r h = by (r % 4 / 2 == 0) refl
  where
    by : (b : Bool) → (r % 4 / 2 == 0) ≡ b → r / 4 * 4 + cond b 0 2 ≡ r / 2 * 2
    by true e = let none : r % 4 / 2 ≡ 0 = equal_of (r % 4 / 2) 0 e in omega (arith, none)
    by false e = let some : 0 < r % 4 / 2 = unequal_of (r % 4 / 2) e in omega (arith, some)

pub part_1 : (r : ℕ) → r / 2 * 2 + cond (r % 2 == 0) 0 1 ≡ r
part_1 r = by (r % 2 == 0) refl
  where
    by : (b : Bool) → (r % 2 == 0) ≡ b → r / 2 * 2 + cond b 0 1 ≡ r
    by true e = let none : r % 2 ≡ 0 = equal_of (r % 2) 0 e in omega (arith, none)
    by false e = let some : 0 < r % 2 = unequal_of (r % 2) e in omega (arith, some)

-- the three parts of so many bytes
record InParts (r : ℕ) (bytes : List ℕ) : Type 0 where
  xs : List ℕ
  ys : List ℕ
  zs : List ℕ
  whole : xs ++ (ys ++ zs) ≡ bytes
  first : length xs ≡ cond (nat_lt r 4) 0 4
  second : length ys ≡ cond (r % 4 / 2 == 0) 0 2
  third : length zs ≡ cond (r % 2 == 0) 0 1

in_parts : (r : ℕ) (bytes : List ℕ) → r < 8 → length bytes ≡ r → InParts r bytes
in_parts r bytes h size =
    let a : ℕ = cond (nat_lt r 4) 0 4 in
    let b : ℕ = cond (r % 4 / 2 == 0) 0 2 in
    let c : ℕ = cond (r % 2 == 0) 0 1 in
    let e4 : a ≡ r / 4 * 4 = part_4 r h in
    let e2 : r / 4 * 4 + b ≡ r / 2 * 2 = part_2 r h in
    let e1 : r / 2 * 2 + c ≡ r = part_1 r in
    let xs : List ℕ = take a bytes in
    let others : List ℕ = drop a bytes in
    let first : length xs ≡ a = length-take-le a bytes (omega (arith, e4, e2, e1, size)) in
    let whole : xs ++ others ≡ bytes = take-append-drop a bytes in
    let rest_size : length xs + length others ≡ length bytes = sym (length-append xs others) ∙ ap length whole in
    let ys : List ℕ = take b others in
    let zs : List ℕ = drop b others in
    let second : length ys ≡ b = length-take-le b others (omega (arith, e4, e2, e1, size, rest_size, first)) in
    let whole' : ys ++ zs ≡ others = take-append-drop b others in
    let last_size : length ys + length zs ≡ length others = sym (length-append ys zs) ∙ ap length whole' in
    record {
      xs = xs;
      ys = ys;
      zs = zs;
      whole = ap (λ os. xs ++ os) whole' ∙ whole;
      first = first;
      second = second;
      third = omega (arith, e4, e2, e1, size, rest_size, first, second, last_size);
    }

can_at : (address : ℕ) (code : List Ins) (s t s' t' : ℕ) (bytes : List ℕ) (m : MachineState) → s ≡ s' → t ≡ t'
    → CanPass address code s t bytes m → CanPass address code s' t' bytes m
can_at address code s t s' t' bytes m e e' can =
    subst (λ x. CanPass address code x t' bytes m) e (subst (λ y. CanPass address code s y bytes m) e' can)

rest_lines : (r : ℕ) → passes_rest r ≡ cond (nat_lt r 4) [] (passes Narrow.I4 0)
    ++ (cond (r % 4 / 2 == 0) [] (passes Narrow.I2 (r / 4 * 4))
    ++ (cond (r % 2 == 0) [] (passes Narrow.I1 (r / 2 * 2)) ++ []))
rest_lines r =
    ap (λ ls. cond (nat_lt r 4) [] (passes Narrow.I4 0) ++ (cond (r % 4 / 2 == 0) [] (passes Narrow.I2 (r / 4 * 4)) ++
    ls))
    (sym (append-nil (cond (r % 2 == 0) [] (passes Narrow.I1 (r / 2 * 2)))))

past_rest : (program : WordProgram) (begin : ℕ) (body : LirBody) (far_at k r s t : ℕ) (bytes : List ℕ)
    (m : MachineState) → AtLines program begin body far_at k (passes_rest r) m → r < 8 → register m 5 ≡ s
    → register m 6 ≡ t → CanPass begin (linked program begin body) s t bytes m → length bytes ≡ r
    → PastPart program begin body far_at k 6 t bytes (passes_rest r) [] m
past_rest program begin body far_at k r s t bytes m at h from to can size =
    let code : List Ins = linked program begin body in
    let p : InParts r bytes = in_parts r bytes h size in
    let tail : List ℕ = p.ys ++ p.zs in
    let e4 : cond (nat_lt r 4) 0 4 ≡ r / 4 * 4 = part_4 r h in
    let e2 : r / 4 * 4 + cond (r % 4 / 2 == 0) 0 2 ≡ r / 2 * 2 = part_2 r h in
    let can_all : CanPass begin code s t (p.xs ++ tail) m = subst (λ bs. CanPass begin code s t bs m) (sym p.whole)
    can in
    let lines_c : List Line = cond (r % 2 == 0) [] (passes Narrow.I1 (r / 2 * 2)) ++ [] in
    let lines_b : List Line = cond (r % 4 / 2 == 0) [] (passes Narrow.I2 (r / 4 * 4)) ++ lines_c in
    let lines_a : List Line = cond (nat_lt r 4) [] (passes Narrow.I4 0) ++ lines_b in
    let one : PastPart program begin body far_at k 2 t p.xs lines_a lines_b m =
    past_part program begin body far_at k (nat_lt r 4) Narrow.I4 0 s t p.xs lines_b m
    (at_equal program begin body far_at k (passes_rest r) lines_a m (rest_lines r) at) (omega (arith, from))
    (omega (arith, to)) (can_first begin code s t p.xs tail m can_all) p.first in
    let m1 : MachineState = one.past.new in
    let can_1 : CanPass begin code (s + length p.xs) (t + length p.xs) tail m1 =
    can_rest begin code s t p.xs tail m m1 can_all one.writes in
    let from_1 : register m1 5 ≡ s = one.others 5 (λ e. omega (arith, e)) ∙ from in
    let to_1 : register m1 6 ≡ t = one.others 6 (λ e. omega (arith, e)) ∙ to in
    let two : PastPart program begin body one.past.far one.past.place 2 (t + length p.xs) p.ys lines_b lines_c m1 =
    past_part program begin body one.past.far one.past.place (r % 4 / 2 == 0) Narrow.I2 (r / 4 * 4) (s + length p.xs)
    (t + length p.xs) p.ys lines_c m1 one.past.at (omega (arith, from_1, e4, p.first))
    (omega (arith, to_1, e4, p.first))
    (can_first begin code (s + length p.xs) (t + length p.xs) p.ys p.zs m1 can_1) p.second in
    let m2 : MachineState = two.past.new in
    let can_2 : CanPass begin code (s + length p.xs + length p.ys) (t + length p.xs + length p.ys) p.zs m2 =
    can_rest begin code (s + length p.xs) (t + length p.xs) p.ys p.zs m1 m2 can_1 two.writes in
    let from_2 : register m2 5 ≡ s = two.others 5 (λ e. omega (arith, e)) ∙ from_1 in
    let to_2 : register m2 6 ≡ t = two.others 6 (λ e. omega (arith, e)) ∙ to_1 in
    let three : PastPart program begin body two.past.far two.past.place 2 (t + length p.xs + length p.ys) p.zs lines_c
    []
    m2 =
    past_part program begin body two.past.far two.past.place (r % 2 == 0) Narrow.I1 (r / 2 * 2)
    (s + length p.xs + length p.ys) (t + length p.xs + length p.ys) p.zs [] m2 two.past.at
    (omega (arith, from_2, e4, e2, p.first, p.second)) (omega (arith, to_2, e4, e2, p.first, p.second)) can_2 p.third in
    let m3 : MachineState = three.past.new in
    let few_1 : one.past.count ≤ 2 = one.past.few in
    let few_2 : two.past.count ≤ 2 = two.past.few in
    let few_3 : three.past.count ≤ 2 = three.past.few in
    record {
      past = record {
        far = three.past.far;
        place = three.past.place;
        new = m3;
        count = one.past.count + (two.past.count + three.past.count);
        few = omega (arith, few_1, few_2, few_3);
        goes = goes_on begin code one.past.place three.past.place one.past.count (two.past.count + three.past.count) m
            m1
            m3 one.past.goes
            (goes_on begin code two.past.place three.past.place two.past.count three.past.count m1 m2 m3 two.past.goes
            three.past.goes);
        at = three.past.at;
        size = ap (λ ls. k + size_of (far_of body) far_at ls) (rest_lines r) ∙ one.past.size ∙ two.past.size
            ∙ three.past.size;
      };
      writes = subst (λ bs. Writes t bs m m3) p.whole
          (writes_both t p.xs tail m m1 m3 one.writes
          (writes_both (t + length p.xs) p.ys p.zs m1 m2 m3 two.writes three.writes));
      others = λ q ne. three.others q ne ∙ two.others q ne ∙ one.others q ne;
    }

-- all of them, in words and the rest
pub past_bytes : (program : WordProgram) (begin : ℕ) (body : LirBody) (far_at k count s t : ℕ) (bytes : List ℕ)
    (m : MachineState) → AtLines program begin body far_at k (passes_bytes count) m → register m 5 ≡ s
    → register m 6 ≡ t → CanPass begin (linked program begin body) s t bytes m → length bytes ≡ count
    → (p : Past program begin body far_at k (15 + 5 * (count / 8)) (passes_bytes count) [] m) × Writes t bytes m p.new
    × KeepsOwn m p.new
past_bytes program begin body far_at k count s t bytes m at from to can size =
    let code : List Ins = linked program begin body in
    let w : ℕ = count / 8 in
    let xs : List ℕ = take (8 * w) bytes in
    let ys : List ℕ = drop (8 * w) bytes in
    let first : length xs ≡ 8 * w = length-take-le (8 * w) bytes (omega (arith, size)) in
    let whole : xs ++ ys ≡ bytes = take-append-drop (8 * w) bytes in
    let rest_size : length xs + length ys ≡ length bytes = sym (length-append xs ys) ∙ ap length whole in
    let can_all : CanPass begin code s t (xs ++ ys) m = subst (λ bs. CanPass begin code s t bs m) (sym whole) can in
    let one : PastBytes program begin body far_at k (9 + 5 * w) s t xs (passes_words w ++ passes_rest (count % 8))
    (passes_rest (count % 8)) m =
    past_words program begin body far_at k w s t (9 + 5 * w) xs (passes_rest (count % 8)) m at from to
    (can_first begin code s t xs ys m can_all) first (words_within w) in
    let m1 : MachineState = one.past.new in
    let two : PastPart program begin body one.past.far one.past.place 6 (t + length xs) ys (passes_rest (count % 8)) []
    m1 =
    past_rest program begin body one.past.far one.past.place (count % 8) (s + length xs) (t + length xs) ys m1
    one.past.at
    (omega arith) one.from one.to (can_rest begin code s t xs ys m m1 can_all one.writes)
    (omega (arith, rest_size, first, size)) in
    let few_1 : one.past.count ≤ 9 + 5 * w = one.past.few in
    let few_2 : two.past.count ≤ 6 = two.past.few in
    let p : Past program begin body far_at k (15 + 5 * (count / 8)) (passes_bytes count) [] m = record {
      far = two.past.far;
      place = two.past.place;
      new = two.past.new;
      count = one.past.count + two.past.count;
      few = omega (arith, few_1, few_2);
      goes = goes_on begin code one.past.place two.past.place one.past.count two.past.count m m1 two.past.new
          one.past.goes two.past.goes;
      at = two.past.at;
      size = one.past.size ∙ two.past.size;
    } in (
      p,
      subst (λ bs. Writes t bs m two.past.new) whole (writes_both t xs ys m m1 two.past.new one.writes two.writes),
      aside_keeps m two.past.new
          (λ q aside ne. two.others q aside.not_7 ∙ one.others q aside ne),
    )

-- ---- behind them the program goes on

-- The machine is behind the last line of the operation, and has written bytes that tell no less than the cells that the
-- program has written.
pub flat_written : (placing : Placing) (here : Here) (operation : LirOp) (begin most place count a : ℕ)
    (bytes : List ℕ) (cells : List Cell) (memory : FlatMemory) (m new : MachineState) (streams : Streams)
    → IsPlacing placing → IsAt placing here operation begin m → (s : Site placing here operation begin m)
    → s.k + size_of (far_of here.body) s.far_at (op_lines here.body operation) ≡ place
    → Goes begin (linked placing.program begin here.body) place count m new → 0 < count → count ≤ most
    → Writes a bytes m new → KeepsOwn m new → HasRegisters new → 0 < length bytes → a + length bytes ≤ addresses
    → length cells ≡ length bytes → AllZip CellTellsNoMore cells (map Byte bytes) → AreSmall bytes
    → with_cells here.state.memory a cells ≡ Some memory → AreBytes streams
    → FollowsInBody placing begin here.body most m streams (goes_on_with here streams memory)
flat_written placing here operation begin most place count a bytes cells memory m new streams is at s last goes some
    few writes keeps registers some_bytes within size told small written input =
    let body : LirBody = here.body in
    let parts = written_where here.state.memory memory a cells written in
    let own : (x : ℕ) → a ≤ x → x < a + length bytes → is_own (here.state.memory x) ≡ true =
    all_owned here.state.memory a (length bytes)
    (subst (λ n. list_all is_own (cells_from here.state.memory a n) ≡ true) size parts.0) in
    let room : 0 < size_of (far_of body) s.far_at (op_lines body operation) = s.some_room in
    let end : s.k + size_of (far_of body) s.far_at (op_lines body operation) ≤ length (code_of body) = s.end in
    let spot = spot_there placing here operation begin place (here.frame.place + 1) m new s (s.next ∙ ap Some last)
    (omega (arith, last, room)) (omega (arith, last, end)) goes.pc in
    followed placing begin body most count place m new
    (goes_on_at here.state here.frame here.below (here.frame.place + 1) memory) streams some few goes
    (subst (λ mem. Stands placing (goes_on_at here.state here.frame here.below (here.frame.place + 1) mem) new) parts.1
    (stands_flat placing here.state m new here.frame here.below (here.frame.place + 1) a bytes cells is at.stands
    at.frames s.i spot writes keeps registers some_bytes within size told (all_small bytes small) own))
    input

same_memory : (a b : FlatMemory) → Some a ≡ Some b → a ≡ b
same_memory a b e = cc

-- where no byte is written
pub nothing_written : (placing : Placing) (here : Here) (operation : LirOp) (begin most place count a : ℕ)
    (memory : FlatMemory) (m new : MachineState) (streams : Streams)
    → IsPlacing placing → IsAt placing here operation begin m → (s : Site placing here operation begin m)
    → s.k + size_of (far_of here.body) s.far_at (op_lines here.body operation) ≡ place
    → Goes begin (linked placing.program begin here.body) place count m new → 0 < count → count ≤ most
    → KeepsOwn m new → HasRegisters new → new.segments ≡ m.segments
    → with_cells here.state.memory a [] ≡ Some memory → AreBytes streams
    → FollowsInBody placing begin here.body most m streams (goes_on_with here streams memory)
nothing_written placing here operation begin most place count a memory m new streams is at s last goes some few keeps
    registers same written input =
    let body : LirBody = here.body in
    let unchanged : here.state.memory ≡ memory = same_memory here.state.memory memory written in
    let room : 0 < size_of (far_of body) s.far_at (op_lines body operation) = s.some_room in
    let end : s.k + size_of (far_of body) s.far_at (op_lines body operation) ≤ length (code_of body) = s.end in
    let spot = spot_there placing here operation begin place (here.frame.place + 1) m new s (s.next ∙ ap Some last)
    (omega (arith, last, room)) (omega (arith, last, end)) goes.pc in
    followed placing begin body most count place m new
    (goes_on_at here.state here.frame here.below (here.frame.place + 1) memory) streams some few goes
    (subst (λ mem. Stands placing (goes_on_at here.state here.frame here.below (here.frame.place + 1) mem) new)
    unchanged
    (stands_moved placing here.state m new here.frame here.below (here.frame.place + 1) at.stands at.frames s.i spot
    same
    keeps registers))
    input
