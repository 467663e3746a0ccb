-- Bytes of a place that become 0.
use Rattle.std.proofs.Common.{◌≡◌, ◌∙◌, ◌⊎◌, inl, inr, ℕ, zero, suc, ◌+◌, ◌*◌, ◌/◌, ◌%◌, ◌^◌, ◌<◌, ◌≤◌, Bool, true}
use Rattle.std.proofs.Common.{false}
use Rattle.std.proofs.Common.{cond, ◌&&◌, ◌==◌, List, [], ◌∷◌, ◌++◌, length, map, replicate, Option, Some, None, pos}
use Rattle.std.proofs.Common.{arith, refl, ap, sym, subst, nat_lt}
use Rattle.std.specs.List.{AllZip, list_all}
use Rattle.std.specs.Option.{option_and_then}
use Rattle.std.proofs.lemmas.List.{append-nil, length-replicate}
use Rattle.byteorder.specs.Endian.{little_bytes}
use Rattle.num_core.specs.Run.{Run, Streams}
use Rattle.num_core.specs.declared.kind.Narrow.{Narrow}
use Rattle.num_core.specs.declared.kind.Narrow.TheVariants.{I8}
use Rattle.rv_isa.specs.declared.ins.Ins.{Ins}
use Rattle.rv_step.specs.Machine.{MachineState, register}
use Rattle.rv_step.specs.Memory.{Writes, is_allowed}
use Rattle.rv_step.proofs.Addresses.{allowed_within}
use Rattle.std.proofs.Common.{slice_index}
use Rattle.rt_code.proofs.Machines.{writes_between}
use Rattle.lir_core.specs.Check.{fits, has_short_offset, is_short}
use Rattle.lir_core.specs.Memory.{Byte, Cell, FlatMemory, cells_from, is_own, with_cells, zeros}
use Rattle.lir_core.specs.Pieces.{at_place, bytes_of_type}
use Rattle.lir_core.specs.Program.{WordProgram, no_step, with}
use Rattle.lir_core.specs.Slots.{Here, addresses, goes_on_with, place_of}
use Rattle.lir_core.specs.State.{WordCause, WordState}
use Rattle.lir_core.specs.Step.{clears as clears_cells}
use Rattle.lir_core.specs.Tells.{CellTellsNoMore}
use Rattle.lir_core.specs.declared.body.LirBody.{LirBody}
use Rattle.lir_core.specs.declared.op.LirOp.{LirOp}
use Rattle.lir_core.specs.declared.op.LirOp.TheVariants.{Clear}
use Rattle.lir_core.specs.declared.op.Place.{Place}
use Rattle.lir_core.specs.declared.op.Place.TheVariants.{Slot, Flat}
use Rattle.lir_core.proofs.Sound.{first_of}
use Rattle.rv_lines.specs.Moving.{clears_number, clears_rest, clears_words, gets_place, stores_place}
use Rattle.rv_lines.specs.Operands.{stores}
use Rattle.rv_lines.specs.declared.line.Line.{Line}
use Rattle.rv_gen.specs.Lines.{op_lines}
use Rattle.rv_gen.specs.Placing.{code_of}
use Rattle.rv_words.specs.Groups.{IsAt, IsFollowedInBody}
use Rattle.rv_words.specs.Linked.{linked}
use Rattle.rv_words.specs.Placing.{IsPlacing, Placing, data_bytes}
use Rattle.rv_words.specs.Stands.{AreBytes, FollowsInBody}
use Rattle.rv_words.specs.Steps.{at_place as most_at_place}
use Rattle.rv_words.proofs.Clearing.{CanClear, ClearedOne, PastZeros, clear_first, clear_one, clear_rest, past_zeros}
use Rattle.rv_words.proofs.Clearing.{zeros_both}
use Rattle.rv_words.proofs.ConstantCode.{constant_code, constant_length, singles}
use Rattle.rv_words.proofs.Copied.{PastPlace, Placed, are_plain, kept_but, own_range, past_place, placed}
use Rattle.rv_words.proofs.CopiedBytes.{equal_of, flat_written, nothing_written, part_1, part_2, part_4}
use Rattle.rv_words.proofs.Giving.{all_itself, past_none}
use Rattle.rv_words.proofs.Going.{Goes, goes_nowhere, goes_on}
use Rattle.rv_words.proofs.Lines.{AtLines, at_behind, at_equal, at_site, first_code, first_part, size_singles}
use Rattle.rv_words.proofs.LinkedCode.{longest_of, size_append, size_of}
use Rattle.rv_words.proofs.LoadLaws.{parts_fit}
use Rattle.rv_words.proofs.Moved.{KeepsOwn, keeps_through}
use Rattle.rv_words.proofs.Operands.{Past, free_6, keeps_itself}
use Rattle.rv_words.proofs.Passing.{AreSmall, writes_nothing}
use Rattle.rv_words.proofs.PlaceStores.{place_stored}
use Rattle.rv_words.proofs.Places.{far_of}
use Rattle.rv_words.proofs.Results.{same_registers, written_where}
use Rattle.rv_words.proofs.Sites.{Site, followed_stuck, linked_length, site}

-- ---- the last bytes, of which there are fewer than eight

record PastPart (program : WordProgram) (begin : ℕ) (body : LirBody) (far_at k most t count : ℕ)
    (lines rest : List Line) (m : MachineState) : Type 0 where
  past : Past program begin body far_at k most lines rest m
  writes : Writes t (replicate count 0) m past.new
  same : past.new.registers ≡ m.registers

clear_part : (program : WordProgram) (begin : ℕ) (body : LirBody) (far_at k : ℕ) (b : Bool) (narrow : Narrow)
    (offset t : ℕ) (rest : List Line) (m : MachineState)
    → AtLines program begin body far_at k (cond b [] (clears_number narrow offset) ++ rest) m
    → register m 6 + offset ≡ t → CanClear begin (linked program begin body) t (cond b 0 (bytes_of_type narrow)) m
    → PastPart program begin body far_at k 1 t (cond b 0 (bytes_of_type narrow))
    (cond b [] (clears_number narrow offset) ++ rest) rest m
clear_part program begin body far_at k true narrow offset t rest m at to can = record {
  past = record {
    far = far_at;
    place = k;
    new = m;
    count = 0;
    few = omega arith;
    goes = goes_nowhere begin (linked program begin body) k m at.code_at at.pc;
    at = at;
    size = refl;
  };
  writes = writes_nothing t m at.code_at.segments;
  same = refl;
}
clear_part program begin body far_at k false narrow offset t rest m at to can =
    let code : List Ins = stores narrow 0 6 (pos offset) ∷ [] in
    let xs : List Line = clears_number narrow offset in
    let first = first_code program begin body far_at k code m (first_part program begin body far_at k xs rest m at) in
    let p : ClearedOne begin (linked program begin body) (k + 1) t (bytes_of_type narrow) m =
    clear_one begin (linked program begin body) k narrow offset t m at.code_at at.pc first.0 first.1 to can at.registers
    in
    let far' : ℕ = far_at + longest_of xs in
    let own : size_of (far_of body) far_at xs ≡ 1 = size_singles (far_of body) far_at code in
    let place : ℕ = k + size_of (far_of body) far_at xs in
    let sizes : size_of (far_of body) far_at (xs ++ rest)
    ≡ size_of (far_of body) far_at xs + size_of (far_of body) far' rest =
    size_append (far_of body) far_at xs rest in
    let there : k + 1 ≡ place = omega (arith, own) in
    let goes : Goes begin (linked program begin body) place 1 m p.new =
    subst (λ n. Goes begin (linked program begin body) n 1 m p.new) there p.goes in
    record {
      past = record {
        far = far';
        place = place;
        new = p.new;
        count = 1;
        few = omega arith;
        goes = goes;
        at = at_behind program begin body far_at k 1 xs rest m p.new at goes (same_registers m p.new p.same
            at.registers);
        size = omega (arith, sizes);
      };
      writes = p.writes;
      same = p.same;
    }

rest_lines : (r : ℕ) → clears_rest r ≡ cond (nat_lt r 4) [] (clears_number Narrow.I4 0)
    ++ (cond (r % 4 / 2 == 0) [] (clears_number Narrow.I2 (r / 4 * 4))
    ++ (cond (r % 2 == 0) [] (clears_number Narrow.I1 (r / 2 * 2)) ++ []))
rest_lines r =
    ap (λ ls. cond (nat_lt r 4) [] (clears_number Narrow.I4 0)
    ++ (cond (r % 4 / 2 == 0) [] (clears_number Narrow.I2 (r / 4 * 4)) ++ ls))
    (sym (append-nil (cond (r % 2 == 0) [] (clears_number Narrow.I1 (r / 2 * 2)))))

past_rest : (program : WordProgram) (begin : ℕ) (body : LirBody) (far_at k r t : ℕ) (m : MachineState)
    → AtLines program begin body far_at k (clears_rest r) m → r < 8 → register m 6 ≡ t
    → CanClear begin (linked program begin body) t r m
    → PastPart program begin body far_at k 3 t r (clears_rest r) [] m
past_rest program begin body far_at k r t m at h to can =
    let code : List Ins = linked program begin body in
    let a : ℕ = cond (nat_lt r 4) 0 4 in
    let b : ℕ = cond (r % 4 / 2 == 0) 0 2 in
    let c : ℕ = cond (r % 2 == 0) 0 1 in
    let e4 : a ≡ r / 4 * 4 = part_4 r h in
    let e2 : r / 4 * 4 + b ≡ r / 2 * 2 = part_2 r h in
    let e1 : r / 2 * 2 + c ≡ r = part_1 r in
    let all : a + (b + c) ≡ r = omega (arith, e4, e2, e1) in
    let can_all : CanClear begin code t (a + (b + c)) m = subst (λ n. CanClear begin code t n m) (sym all) can in
    let lines_c : List Line = cond (r % 2 == 0) [] (clears_number Narrow.I1 (r / 2 * 2)) ++ [] in
    let lines_b : List Line = cond (r % 4 / 2 == 0) [] (clears_number Narrow.I2 (r / 4 * 4)) ++ lines_c in
    let lines_a : List Line = cond (nat_lt r 4) [] (clears_number Narrow.I4 0) ++ lines_b in
    let one : PastPart program begin body far_at k 1 t a lines_a lines_b m =
    clear_part program begin body far_at k (nat_lt r 4) Narrow.I4 0 t lines_b m
    (at_equal program begin body far_at k (clears_rest r) lines_a m (rest_lines r) at) (omega (arith, to))
    (clear_first begin code t a (b + c) m can_all) in
    let m1 : MachineState = one.past.new in
    let can_1 : CanClear begin code (t + a) (b + c) m1 =
    clear_rest begin code t a (b + c) (replicate a 0) m m1 can_all one.writes in
    let to_1 : register m1 6 ≡ t = ap (λ rs. slice_index rs 6) one.same ∙ to in
    let two : PastPart program begin body one.past.far one.past.place 1 (t + a) b lines_b lines_c m1 =
    clear_part program begin body one.past.far one.past.place (r % 4 / 2 == 0) Narrow.I2 (r / 4 * 4) (t + a) lines_c m1
    one.past.at (omega (arith, to_1, e4)) (clear_first begin code (t + a) b c m1 can_1) in
    let m2 : MachineState = two.past.new in
    let can_2 : CanClear begin code (t + a + b) c m2 =
    clear_rest begin code (t + a) b c (replicate b 0) m1 m2 can_1 two.writes in
    let to_2 : register m2 6 ≡ t = ap (λ rs. slice_index rs 6) two.same ∙ to_1 in
    let three : PastPart program begin body two.past.far two.past.place 1 (t + a + b) c lines_c [] m2 =
    clear_part program begin body two.past.far two.past.place (r % 2 == 0) Narrow.I1 (r / 2 * 2) (t + a + b) [] m2
    two.past.at (omega (arith, to_2, e4, e2)) can_2 in
    let m3 : MachineState = three.past.new in
    let few_1 : one.past.count ≤ 1 = one.past.few in
    let few_2 : two.past.count ≤ 1 = two.past.few in
    let few_3 : three.past.count ≤ 1 = three.past.few in
    record {
      past = record {
        far = three.past.far;
        place = three.past.place;
        new = m3;
        count = one.past.count + (two.past.count + three.past.count);
        few = omega (arith, few_1, few_2, few_3);
        goes = goes_on begin code one.past.place three.past.place one.past.count (two.past.count + three.past.count) m
            m1
            m3 one.past.goes
            (goes_on begin code two.past.place three.past.place two.past.count three.past.count m1 m2 m3 two.past.goes
            three.past.goes);
        at = three.past.at;
        size = ap (λ ls. k + size_of (far_of body) far_at ls) (rest_lines r) ∙ one.past.size ∙ two.past.size
            ∙ three.past.size;
      };
      writes = subst (λ n. Writes t (replicate n 0) m m3) all
          (zeros_both t a (b + c) m m1 m3 one.writes (zeros_both (t + a) b c m1 m2 m3 two.writes three.writes));
      same = three.same ∙ two.same ∙ one.same;
    }

-- all of them, in words and the rest
past_cleared : (program : WordProgram) (begin : ℕ) (body : LirBody) (far_at k count t : ℕ) (m : MachineState)
    → AtLines program begin body far_at k (clears_words (count / 8) ++ clears_rest (count % 8)) m → register m 6 ≡ t
    → CanClear begin (linked program begin body) t count m
    → (p : Past program begin body far_at k (12 + 3 * (count / 8)) (clears_words (count / 8) ++ clears_rest (count % 8))
    [] m) × Writes t (replicate count 0) m p.new × KeepsOwn m p.new
past_cleared program begin body far_at k count t m at to can =
    let code : List Ins = linked program begin body in
    let w : ℕ = count / 8 in
    let r : ℕ = count % 8 in
    let all : 8 * w + r ≡ count = omega arith in
    let can_all : CanClear begin code t (8 * w + r) m = subst (λ n. CanClear begin code t n m) (sym all) can in
    let short : length (constant_code 28 (8 * w)) ≤ 8 = constant_length 28 (8 * w) in
    let one : PastZeros program begin body far_at k (9 + 3 * w) t (8 * w) (clears_words w ++ clears_rest r)
    (clears_rest r) m =
    past_zeros program begin body far_at k w t (9 + 3 * w) (clears_rest r) m at to
    (clear_first begin code t (8 * w) r m can_all) (omega (arith, short)) in
    let m1 : MachineState = one.past.new in
    let two : PastPart program begin body one.past.far one.past.place 3 (t + 8 * w) r (clears_rest r) [] m1 =
    past_rest program begin body one.past.far one.past.place r (t + 8 * w) m1 one.past.at (omega arith) one.to
    (clear_rest begin code t (8 * w) r (replicate (8 * w) 0) m m1 can_all one.writes) in
    let few_1 : one.past.count ≤ 9 + 3 * w = one.past.few in
    let few_2 : two.past.count ≤ 3 = two.past.few in
    let p : Past program begin body far_at k (12 + 3 * (count / 8)) (clears_words w ++ clears_rest r) [] m = record {
      far = two.past.far;
      place = two.past.place;
      new = two.past.new;
      count = one.past.count + two.past.count;
      few = omega (arith, few_1, few_2);
      goes = goes_on begin code one.past.place two.past.place one.past.count two.past.count m m1 two.past.new
          one.past.goes two.past.goes;
      at = two.past.at;
      size = one.past.size ∙ two.past.size;
    } in (
      p,
      subst (λ n. Writes t (replicate n 0) m two.past.new) all
          (zeros_both t (8 * w) r m m1 two.past.new one.writes two.writes),
      kept_but 6 m two.past.new free_6
          (λ q ne ne'. ap (λ rs. slice_index rs q) two.same ∙ one.others q ne ne'),
    )

-- ---- what a clear does

clears_by : (here : Here) (to : Place) (count : ℕ) (streams : Streams) (P : Run WordState WordCause → Type 0)
    → P (no_step streams)
    → ((target : ℕ) (memory : FlatMemory) → place_of here to count ≡ Some target
    → with_cells here.state.memory target (zeros count) ≡ Some memory → P (goes_on_with here streams memory))
    → P (clears_cells here to count streams)
clears_by here to count streams P stuck done = by_target (place_of here to count) refl
  where
    by_written : (target : ℕ) → place_of here to count ≡ Some target → (o : Option FlatMemory)
        → with_cells here.state.memory target (zeros count) ≡ o → P (with o streams (goes_on_with here streams))
    by_written target e None w = stuck
    by_written target e (Some memory) w = done target memory e w

    by_target : (o : Option ℕ) → place_of here to count ≡ o
        → P (with (option_and_then (λ place. with_cells here.state.memory place (zeros count)) o) streams
        (goes_on_with here streams))
    by_target None e = stuck
    by_target (Some target) e = by_written target e (with_cells here.state.memory target (zeros count)) refl

clear_fits : (placing : Placing) → IsPlacing placing → (to : Place) (count : ℕ) (here : Here) (begin : ℕ)
    (m : MachineState) → IsAt placing here (Clear to count) begin m
    → (fits here.body (at_place to count) ≡ true) × (has_short_offset to ≡ true)
clear_fits placing is to count here begin m at =
    let both = parts_fit placing is here (Clear to count) begin m at in (
      first_of (fits here.body (at_place to count)) true both.0,
      first_of (has_short_offset to) (is_short count) both.1,
    )

-- ---- a word

word_cleared : (placing : Placing) → IsPlacing placing → (to : Place) → IsFollowedInBody placing (Clear to 8)
word_cleared placing is to here begin m streams at input =
    clears_by here to 8 streams (FollowsInBody placing begin here.body (most_at_place to) m streams)
    (followed_stuck placing here operation begin (most_at_place to) m WordCause.NoStep streams streams s (some to))
    (λ target memory e writes.
    place_stored placing here operation begin (most_at_place to) 0 to I8 0 0 (zeros 8) memory m streams is at s
    (past_none placing here operation begin m at s) (keeps_itself m) refl (λ g. omega (arith, g))
    (λ g. omega (arith, g))
    at.stands.serves.registers.x0 (omega arith) refl (all_itself (little_bytes 8 0)) f.0 f.1
    (ap (option_and_then (λ p. with_cells here.state.memory p (zeros 8))) e ∙ writes) (omega arith) input)
  where
    operation : LirOp
    operation = Clear to 8

    s : Site placing here operation begin m
    s = site placing here operation begin m is at

    some : (place : Place) → 0 < most_at_place place
    some (Slot slot offset) = omega arith
    some (Flat base offset) = omega arith

    f : (fits here.body (at_place to 8) ≡ true) × (has_short_offset to ≡ true)
    f = clear_fits placing is to 8 here begin m at

-- ---- any other number of bytes

either_zero : (n : ℕ) → (n ≡ 0) ⊎ (0 < n)
either_zero n = grind arith

zeros_told : (n : ℕ) → AllZip CellTellsNoMore (zeros n) (map Byte (replicate n 0))
zeros_told zero = tt
zeros_told (suc n) = (refl, zeros_told n)

small_zeros : (n : ℕ) → AreSmall (replicate n 0)
small_zeros zero = tt
small_zeros (suc n) = (omega arith, small_zeros n)

bytes_cleared : (placing : Placing) → IsPlacing placing → (to : Place) (count : ℕ) → (count == 8) ≡ false
    → (here : Here) (begin : ℕ) (m : MachineState) (streams : Streams) → IsAt placing here (Clear to count) begin m
    → AreBytes streams
    → FollowsInBody placing begin here.body (25 + 3 * (count / 8)) m streams (clears_cells here to count streams)
bytes_cleared placing is to count not_8 here begin m streams at input =
    clears_by here to count streams (FollowsInBody placing begin here.body most m streams)
    (followed_stuck placing here operation begin most m WordCause.NoStep streams streams s (omega arith)) done
  where
    operation : LirOp
    operation = Clear to count

    most : ℕ
    most = 25 + 3 * (count / 8)

    body : LirBody
    body = here.body

    code : List Ins
    code = linked placing.program begin body

    s : Site placing here operation begin m
    s = site placing here operation begin m is at

    rest : List Line
    rest = clears_words (count / 8) ++ clears_rest (count % 8)

    lines : List Line
    lines = gets_place body.vars 6 to ++ rest

    lines_are : op_lines body operation ≡ lines
    lines_are = ap (λ b. cond b (stores_place body.vars I8 0 to) lines) not_8

    f : (fits body (at_place to count) ≡ true) × (has_short_offset to ≡ true)
    f = clear_fits placing is to count here begin m at

    at_rest : (target : ℕ) → (p : Placed here m to count target)
        → PastPlace placing.program begin body s.far_at s.k 6 p.at lines rest m
    at_rest target p =
        past_place placing.program begin body s.far_at s.k 6 p.at to rest m
        (at_equal placing.program begin body s.far_at s.k (op_lines body operation) lines m lines_are
        (at_site placing here operation begin m s at.stands.serves.registers)) p.stands free_6 (omega arith) (omega
        arith)

    some_cleared : (target : ℕ) (memory : FlatMemory) → 0 < count → Placed here m to count target
        → with_cells here.state.memory target (zeros count) ≡ Some memory
        → FollowsInBody placing begin body most m streams (goes_on_with here streams memory)
    some_cleared target memory some p writes =
        let plain = are_plain body to count f.0 not_8 some in
        let b = at_rest target p in
        let m1 : MachineState = b.past.new in
        let x6 : register m1 6 ≡ target = b.has ∙ p.same plain in
        let parts = written_where here.state.memory memory target (zeros count) writes in
        let size : length (zeros count) ≡ count = length-replicate count (Byte 0) in
        let byte_size : length (replicate count 0) ≡ count = length-replicate count 0 in
        let range = own_range placing here.state target count is at.stands.bounds some (p.within plain)
        (subst (λ n. list_all is_own (cells_from here.state.memory target n) ≡ true) size parts.0) in
        let room : placing.program.stack_end + 128 ≤ 2 ^ 64 = is.room_behind in
        let below : begin + 4 * length (code_of body) ≤ placing.lowest_data = s.placed.below_data in
        let can : CanClear begin code target count m1 = record {
          write = ap (λ ss. is_allowed (λ g. g.write) ss target count) b.memory
              ∙ allowed_within (λ g. g.write) placing.lowest_data (data_bytes placing) target count m.segments range.0
              (omega (arith, range.0, range.1)) at.stands.serves.memory.write;
          fits = omega (arith, range.1, room);
          apart = inr (omega (arith, below, range.0, linked_length placing.program begin body));
        } in
        let r = past_cleared placing.program begin body b.past.far b.past.place count target m1 b.past.at x6 can in
        let q = r.0 in
        let goes : Goes begin code q.place (b.past.count + q.count) m q.new =
        goes_on begin code b.past.place q.place b.past.count q.count m m1 q.new b.past.goes q.goes in
        let whole : s.k + size_of (far_of body) s.far_at (op_lines body operation) ≡ q.place + 0 =
        ap (λ ls. s.k + size_of (far_of body) s.far_at ls) lines_are ∙ b.past.size ∙ q.size in
        let some_steps : 0 < b.past.count = b.some in
        let few_1 : b.past.count ≤ 13 = b.past.few in
        let few_2 : q.count ≤ 12 + 3 * (count / 8) = q.few in
        flat_written placing here operation begin most q.place (b.past.count + q.count) target (replicate count 0)
        (zeros count) memory m q.new streams is at s (omega (arith, whole)) goes (omega (arith, some_steps))
        (omega (arith, few_1, few_2))
        (writes_between target (replicate count 0) m1 m q.new q.new (sym b.memory) refl r.1)
        (keeps_through m m1 q.new b.keeps r.2) q.at.registers (omega (arith, some, byte_size))
        (omega (arith, p.within plain, byte_size)) (size ∙ sym byte_size) (zeros_told count) (small_zeros count) writes
        input

    none_cleared : (target : ℕ) (memory : FlatMemory) → count ≡ 0 → Placed here m to count target
        → with_cells here.state.memory target (zeros count) ≡ Some memory
        → FollowsInBody placing begin body most m streams (goes_on_with here streams memory)
    none_cleared target memory none p writes =
        let b = at_rest target p in
        let no_lines : rest ≡ [] = ap (λ n. clears_words (n / 8) ++ clears_rest (n % 8)) none in
        let whole : s.k + size_of (far_of body) s.far_at (op_lines body operation) ≡ b.past.place + 0 =
        ap (λ ls. s.k + size_of (far_of body) s.far_at ls) lines_are ∙ b.past.size
        ∙ ap (λ ls. b.past.place + size_of (far_of body) b.past.far ls) no_lines in
        let few : b.past.count ≤ 13 = b.past.few in
        nothing_written placing here operation begin most b.past.place b.past.count target memory m b.past.new streams
        is at
        s (omega (arith, whole)) b.past.goes b.some (omega (arith, few)) b.keeps b.past.at.registers b.memory
        (subst (λ n. with_cells here.state.memory target (zeros n) ≡ Some memory) none writes) input

    done : (target : ℕ) (memory : FlatMemory) → place_of here to count ≡ Some target
        → with_cells here.state.memory target (zeros count) ≡ Some memory
        → FollowsInBody placing begin body most m streams (goes_on_with here streams memory)
    done target memory e writes =
        let p = placed placing here operation begin m to count target is at s f.1 e in
        elim (either_zero count)
        as (λ _. FollowsInBody placing begin body most m streams (goes_on_with here streams memory)) [
          | inl none ↦ none_cleared target memory none p writes
          | inr some ↦ some_cleared target memory some p writes
        ]

-- ---- a clear

pub clear_followed : (placing : Placing) → IsPlacing placing → (to : Place) (count : ℕ)
    → IsFollowedInBody placing (Clear to count)
clear_followed placing is to count = by (count == 8) refl
  where
    by : (b : Bool) → (count == 8) ≡ b → IsFollowedInBody placing (Clear to count)
    by true e =
        subst (λ n. IsFollowedInBody placing (Clear to n)) (sym (equal_of count 8 e)) (word_cleared placing is to)
    by false e = λ here begin m streams at input.
        subst (λ b. FollowsInBody placing begin here.body
        (cond b (most_at_place to) (25 + 3 * (count / 8))) m streams (clears_cells here to count streams)) (sym e)
        (bytes_cleared placing is to count e here begin m streams at input)
