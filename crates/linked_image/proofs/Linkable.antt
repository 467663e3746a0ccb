-- In all lines of a body the two instructions that take an address are an `auipc` and one that adds to it.
use Rattle.std.proofs.Common.{ℕ, ◌+◌, ◌*◌, ◌/◌, ◌%◌, Bool, true, false, cond, List, [], ◌∷◌, ◌++◌}
use Rattle.std.proofs.Common.{take, Option, Some, None, nat_lt, ◌==◌, ◌^◌}
use Rattle.std.proofs.Common.{pos, ◌-ℤ◌}
use Rattle.std.specs.List.{flat_map}
use Rattle.num_core.specs.declared.kind.Kind.{Kind}
use Rattle.num_core.specs.declared.kind.Kind.TheVariants as kinds
use Rattle.num_core.specs.declared.kind.Narrow.{Narrow}
use Rattle.num_core.specs.declared.kind.Narrow.TheVariants as narrows
use Rattle.rv_isa.specs.declared.ins.Ins.{Ins}
use Rattle.lir_core.specs.Frame.{most_passed}
use Rattle.lir_core.specs.Pieces.{bytes_of_type}
use Rattle.lir_core.specs.Values.{word_of}
use Rattle.lir_core.specs.declared.body.LirBody.{LirBody}
use Rattle.lir_core.specs.declared.op.Argument.{Argument}
use Rattle.lir_core.specs.declared.op.Block.{Block}
use Rattle.lir_core.specs.declared.op.Callee.{Callee}
use Rattle.lir_core.specs.declared.op.Callee.TheVariants.{Body, Through}
use Rattle.lir_core.specs.declared.op.CheckedOperation.{CheckedOperation}
use Rattle.lir_core.specs.declared.op.DivisionPart.{DivisionPart}
use Rattle.lir_core.specs.declared.op.LirOp.{LirOp}
use Rattle.lir_core.specs.declared.op.LirOp.TheVariants as op
use Rattle.lir_core.specs.declared.op.Place.{Place}
use Rattle.lir_core.specs.declared.op.Place.TheVariants.{Slot, Flat}
use Rattle.lir_core.specs.declared.op.Test.{Test}
use Rattle.rt_code.specs.Code.{lower}
use Rattle.rt_code.specs.Effects.{number_of}
use Rattle.rt_code.specs.declared.routines.Routine.TheVariants.{Unhandled}
use Rattle.rv_gen.specs.Calling.{calls, calls_routine, clears_block, does_routine, enters, finds_frame, gets_callee}
use Rattle.rv_gen.specs.Calling.{gets_item, gives_argument, gives_dictionary, gives_result, goes_to_routine}
use Rattle.rv_gen.specs.Calling.{loads_homes}
use Rattle.rv_gen.specs.Calling.{passes_to_routine, restores_homes, returns, saves_homes, takes_frame, takes_result}
use Rattle.rv_gen.specs.Calling.{takes_word}
use Rattle.rv_gen.specs.Lines.{lines_of, op_lines, ops_lines, to_slot, with_one, with_two}
use Rattle.rv_lines.specs.Computing.{changes, combines, combines_checked, compares, condition_of, converts}
use Rattle.rv_lines.specs.Computing.{converts_checked, divides, divides_by, extends_by_zeros, extends_sign, is_less}
use Rattle.rv_lines.specs.Computing.{keeps_low, keeps_low_signed, keeps_short, keeps_unsigned, refuses_least, shifts}
use Rattle.rv_lines.specs.Frame.{dictionary_at, first_home, home, home_count, return_at, slot_place}
use Rattle.rv_lines.specs.Moving.{bytes_place, clears, clears_number, clears_rest, clears_word, clears_words, copies}
use Rattle.rv_lines.specs.Moving.{finds_end, gets_place, home_of_bytes, loads_frame, loads_place, moves, passes}
use Rattle.rv_lines.specs.Moving.{passes_bytes, passes_rest, passes_word, passes_words, stores_frame, stores_place}
use Rattle.rv_lines.specs.declared.line.Condition.{Condition}
use Rattle.rv_lines.specs.declared.line.Line.{Line}
use Rattle.rv_lines.specs.declared.line.Line.TheVariants.{Single, Branch, Jump}
use Rattle.rv_lines.specs.Operands.{adds_far, gets_address, gets_slot, is_near, is_of_12_bits, is_of_32_bits}
use Rattle.rv_lines.specs.Operands.{loads_32_bits, loads_64_bits, loads_behind, loads_constant, puts_slot, reads_slot}
use Rattle.rv_lines.specs.Operands.{loads, register_or, stores, stores_behind, takes_lower_bits, writes_slot}
use Rattle.linked_image.proofs.Pairs.{AllTake, IsPair, append_take}
use Rattle.linked_image.proofs.Pairs.IsPair.{Adds, Jumps}

-- the two forms
gives_item : (rd : ℕ) → IsPair (Ins.Auipc rd 0) (Ins.Addi rd rd (pos 0))
gives_item rd = Adds rd 0 rd rd (pos 0)

goes_there : IsPair (Ins.Auipc 5 0) (Ins.Jalr 0 5 (pos 0))
goes_there = Jumps 5 0 0 5 (pos 0)

comes_back : IsPair (Ins.Auipc 1 0) (Ins.Jalr 1 1 (pos 0))
comes_back = Jumps 1 0 1 1 (pos 0)

one_line : (ins : Ins) → AllTake (Single ins ∷ [])
one_line ins = (tt, tt)

-- ---- operands

of_32_bits : (rd word : ℕ) → AllTake (loads_32_bits rd word)
unfolding loads_32_bits
of_32_bits rd word = (tt, (tt, tt))

of_lower_bits : (rd word : ℕ) → AllTake (takes_lower_bits rd word)
unfolding takes_lower_bits
of_lower_bits rd word = (tt, (tt, (tt, (tt, (tt, (tt, tt))))))

of_constant : (rd word : ℕ) → AllTake (loads_constant rd word)
unfolding loads_constant
of_constant rd word = by (is_of_12_bits word) (is_of_32_bits word)
  where
    by : (a b : Bool) → AllTake (cond a (Single (Ins.Addi rd 0 (lower (word % 2 ^ 32))) ∷ [])
        (cond b (loads_32_bits rd (word % 2 ^ 32)) (loads_64_bits rd word)))
    by true b = one_line (Ins.Addi rd 0 (lower (word % 2 ^ 32)))
    by false true = of_32_bits rd (word % 2 ^ 32)
    by false false =
        append_take (loads_32_bits rd (word / 2 ^ 32)) (takes_lower_bits rd word) (of_32_bits rd (word / 2 ^ 32))
        (of_lower_bits rd word)

of_far : (rd base offset : ℕ) → AllTake (adds_far rd base offset)
of_far rd base offset =
    append_take (loads_constant 28 offset) (Single (Ins.Add rd 28 base) ∷ []) (of_constant 28 offset) (tt, tt)

of_address : (rd base offset : ℕ) → AllTake (gets_address rd base offset)
of_address rd base offset = by (is_near offset)
  where
    by : (b : Bool) → AllTake (cond b (Single (Ins.Addi rd base (pos offset)) ∷ []) (adds_far rd base offset))
    by true = one_line (Ins.Addi rd base (pos offset))
    by false = of_far rd base offset

of_load : (narrow : Narrow) (rd base offset : ℕ) → AllTake (loads_behind narrow rd base offset)
of_load narrow rd base offset = by (is_near offset)
  where
    by : (b : Bool) → AllTake (cond b (Single (loads narrow rd base (pos offset)) ∷ [])
        (adds_far 28 base offset ++ Single (loads narrow rd 28 (pos 0)) ∷ []))
    by true = one_line (loads narrow rd base (pos offset))
    by false =
        append_take (adds_far 28 base offset) (Single (loads narrow rd 28 (pos 0)) ∷ []) (of_far 28 base offset)
        (tt, tt)

of_store : (narrow : Narrow) (rs base offset : ℕ) → AllTake (stores_behind narrow rs base offset)
of_store narrow rs base offset = by (is_near offset)
  where
    by : (b : Bool) → AllTake (cond b (Single (stores narrow rs base (pos offset)) ∷ [])
        (adds_far 28 base offset ++ Single (stores narrow rs 28 (pos 0)) ∷ []))
    by true = one_line (stores narrow rs base (pos offset))
    by false =
        append_take (adds_far 28 base offset) (Single (stores narrow rs 28 (pos 0)) ∷ []) (of_far 28 base offset)
        (tt, tt)

of_reads : (home : Option ℕ) (other slot : ℕ) → AllTake (reads_slot home other slot)
of_reads (Some register) other slot = tt
of_reads None other slot = (of_load narrows.I8 other 2 (slot_place slot))

of_writes : (home : Option ℕ) (other slot : ℕ) → AllTake (writes_slot home other slot)
of_writes (Some register) other slot = tt
of_writes None other slot = (of_store narrows.I8 other 2 (slot_place slot))

of_gets : (home : Option ℕ) (rd slot : ℕ) → AllTake (gets_slot home rd slot)
of_gets (Some register) rd slot = one_line (Ins.Addi rd register (pos 0))
of_gets None rd slot = of_load narrows.I8 rd 2 (slot_place slot)

of_puts : (home : Option ℕ) (rs slot : ℕ) → AllTake (puts_slot home rs slot)
of_puts (Some register) rs slot = one_line (Ins.Addi register rs (pos 0))
of_puts None rs slot = of_store narrows.I8 rs 2 (slot_place slot)

-- ---- operations by their form

of_to_slot : (vars : List ℕ) (to : ℕ) (gives : ℕ → List Line) → ((r : ℕ) → AllTake (gives r))
    → AllTake (to_slot vars to gives)
of_to_slot vars to gives all =
    append_take (gives (register_or (home vars to) 7)) (writes_slot (home vars to) 7 to)
    (all (register_or (home vars to) 7)) (of_writes (home vars to) 7 to)

of_one : (vars : List ℕ) (value : ℕ) (next : ℕ → List Line) → ((x : ℕ) → AllTake (next x))
    → AllTake (with_one vars value next)
of_one vars value next all =
    append_take (reads_slot (home vars value) 5 value) (next (register_or (home vars value) 5))
    (of_reads (home vars value) 5 value) (all (register_or (home vars value) 5))

of_two : (vars : List ℕ) (left right : ℕ) (next : ℕ → ℕ → List Line) → ((x y : ℕ) → AllTake (next x y))
    → AllTake (with_two vars left right next)
of_two vars left right next all =
    let rest : List Line = next (register_or (home vars left) 5) (register_or (home vars right) 6) in
    append_take (reads_slot (home vars left) 5 left) (reads_slot (home vars right) 6 right ++ rest)
    (of_reads (home vars left) 5 left)
    (append_take (reads_slot (home vars right) 6 right) rest (of_reads (home vars right) 6 right)
    (all (register_or (home vars left) 5) (register_or (home vars right) 6)))

-- ---- what is computed: lists that are known but for tests on the kind

of_lines_2 : (a b : Ins) → AllTake (Single a ∷ Single b ∷ [])
of_lines_2 a b = (tt, (tt, tt))

of_zeros : (others r x : ℕ) → AllTake (extends_by_zeros others r x)
of_zeros others r x = of_lines_2 (Ins.Slli r x others) (Ins.Srli r r others)

of_sign : (others r x : ℕ) → AllTake (extends_sign others r x)
of_sign others r x = of_lines_2 (Ins.Slli r x others) (Ins.Srai r r others)

of_converts : (narrow : Narrow) (kind : Kind) (r x : ℕ) → AllTake (converts narrow kind r x)
of_converts narrows.I1 kind r x = of_sign 56 r x
of_converts narrows.U1 kind r x = of_zeros 56 r x
of_converts narrows.I2 kind r x = of_sign 48 r x
of_converts narrows.U2 kind r x = of_zeros 48 r x
of_converts narrows.I4 kind r x = one_line (Ins.Addiw r x (pos 0))
of_converts narrows.U4 kind r x = one_line (Ins.Addiw r x (pos 0))
of_converts narrows.I8 kind r x = one_line (Ins.Addi r x (pos 0))
of_converts narrows.U8 kinds.I4 r x = of_zeros 32 r x
of_converts narrows.U8 kinds.U4 r x = of_zeros 32 r x
of_converts narrows.U8 kinds.I8 r x = one_line (Ins.Addi r x (pos 0))
of_converts narrows.U8 kinds.U8 r x = one_line (Ins.Addi r x (pos 0))

of_compares : (test : Test) (kind : Kind) (r x y : ℕ) → AllTake (compares test kind r x y)
of_compares Test.Equal kind r x y = of_lines_2 (Ins.Xor r x y) (Ins.Sltiu r r (pos 1))
of_compares Test.NotEqual kind r x y = of_lines_2 (Ins.Xor r x y) (Ins.Sltu r 0 r)
of_compares Test.Less kind r x y = one_line (is_less kind r x y)
of_compares Test.NotLess kind r x y = of_lines_2 (is_less kind r x y) (Ins.Xori r r (pos 1))

-- each form of a checked result is a list that is known
of_checked : (operation : CheckedOperation) (kind : Kind) (x y overflow : ℕ)
    → AllTake (combines_checked operation kind x y overflow)
of_checked CheckedOperation.Add kinds.I4 x y o = (tt, (tt, (tt, tt)))
of_checked CheckedOperation.Add kinds.U4 x y o = (tt, (tt, tt))
of_checked CheckedOperation.Add kinds.I8 x y o =
    (tt, (tt, (tt, (tt, tt))))
of_checked CheckedOperation.Add kinds.U8 x y o = (tt, (tt, tt))
of_checked CheckedOperation.Subtract kinds.I4 x y o =
    (tt, (tt, (tt, tt)))
of_checked CheckedOperation.Subtract kinds.U4 x y o = (tt, (tt, tt))
of_checked CheckedOperation.Subtract kinds.I8 x y o =
    (tt, (tt, (tt, (tt, tt))))
of_checked CheckedOperation.Subtract kinds.U8 x y o = (tt, (tt, tt))
of_checked CheckedOperation.Multiply kinds.I4 x y o =
    (tt, (tt, (tt, tt)))
of_checked CheckedOperation.Multiply kinds.U4 x y o = (tt, (tt, (tt, (tt, (tt, (tt, (tt, (tt, tt))))))))
of_checked CheckedOperation.Multiply kinds.I8 x y o =
    (tt, (tt, (tt, (tt, tt))))
of_checked CheckedOperation.Multiply kinds.U8 x y o =
    (tt, (tt, (tt, tt)))

of_low : (others x overflow : ℕ) → AllTake (keeps_low others x overflow)
of_low others x overflow = (tt, (tt, (tt, tt)))

of_low_signed : (others x overflow : ℕ) → AllTake (keeps_low_signed others x overflow)
of_low_signed others x overflow = (tt, (tt, (tt, tt)))

of_unsigned : (x overflow : ℕ) → AllTake (keeps_unsigned x overflow)
of_unsigned x overflow = (tt, (tt, tt))

of_short : (kind : Kind) (others x overflow : ℕ) → AllTake (keeps_short kind others x overflow)
of_short kinds.I4 others x overflow = of_low_signed others x overflow
of_short kinds.U4 others x overflow = of_low (others + 1) x overflow
of_short kinds.I8 others x overflow = of_low_signed others x overflow
of_short kinds.U8 others x overflow = of_low (others + 1) x overflow

of_converts_checked : (narrow : Narrow) (kind : Kind) (x overflow : ℕ)
    → AllTake (converts_checked narrow kind x overflow)
of_converts_checked narrows.I1 kind x o = of_short kind 56 x o
of_converts_checked narrows.U1 kind x o = of_low 56 x o
of_converts_checked narrows.I2 kind x o = of_short kind 48 x o
of_converts_checked narrows.U2 kind x o = of_low 48 x o
of_converts_checked narrows.I4 kinds.I4 x o = one_line (Ins.Addi 7 x (pos 0))
of_converts_checked narrows.I4 kinds.U4 x o = of_unsigned x o
of_converts_checked narrows.I4 kinds.I8 x o = of_low_signed 32 x o
of_converts_checked narrows.I4 kinds.U8 x o = of_low 33 x o
of_converts_checked narrows.U4 kinds.I4 x o = of_unsigned x o
of_converts_checked narrows.U4 kinds.U4 x o = one_line (Ins.Addi 7 x (pos 0))
of_converts_checked narrows.U4 kinds.I8 x o =
    (tt, (tt, (tt, (tt, tt))))
of_converts_checked narrows.U4 kinds.U8 x o =
    (tt, (tt, (tt, (tt, tt))))
of_converts_checked narrows.I8 kinds.I4 x o = one_line (Ins.Addi 7 x (pos 0))
of_converts_checked narrows.I8 kinds.U4 x o = of_zeros 32 7 x
of_converts_checked narrows.I8 kinds.I8 x o = one_line (Ins.Addi 7 x (pos 0))
of_converts_checked narrows.I8 kinds.U8 x o = of_unsigned x o
of_converts_checked narrows.U8 kinds.I4 x o = of_unsigned x o
of_converts_checked narrows.U8 kinds.U4 x o = of_zeros 32 7 x
of_converts_checked narrows.U8 kinds.I8 x o = of_unsigned x o
of_converts_checked narrows.U8 kinds.U8 x o = one_line (Ins.Addi 7 x (pos 0))

-- a division: the test for 0 comes first
of_refuses : (kind : Kind) (x y overflow : ℕ) → AllTake (refuses_least kind x y overflow)
of_refuses kinds.I4 x y overflow = (tt, (tt, (tt, (tt, (tt, tt)))))
of_refuses kinds.U4 x y overflow = tt
of_refuses kinds.I8 x y overflow = (tt, (tt, (tt, (tt, (tt, (tt, tt))))))
of_refuses kinds.U8 x y overflow = tt

of_divides : (part : DivisionPart) (kind : Kind) (r x y if_zero overflow : ℕ)
    → AllTake (divides part kind r x y if_zero overflow)
of_divides part kind r x y if_zero overflow = (
  tt,
  append_take (refuses_least kind x y overflow) (Single (divides_by part kind r x y) ∷ [])
      (of_refuses kind x y overflow) (tt, tt),
)

-- ---- memory

of_loads_frame : (home : Option ℕ) (narrow : Narrow) (rd offset : ℕ) → AllTake (loads_frame home narrow rd offset)
of_loads_frame (Some register) narrow rd offset = one_line (Ins.Addi rd register (pos 0))
of_loads_frame None narrow rd offset = of_load narrow rd 2 offset

of_stores_frame : (home : Option ℕ) (narrow : Narrow) (rs offset : ℕ) → AllTake (stores_frame home narrow rs offset)
of_stores_frame (Some register) narrow rs offset = one_line (Ins.Addi register rs (pos 0))
of_stores_frame None narrow rs offset = of_store narrow rs 2 offset

of_loads_place : (vars : List ℕ) (narrow : Narrow) (rd : ℕ) (from : Place) → AllTake
    (loads_place vars narrow rd from)
of_loads_place vars narrow rd (Slot slot offset) =
    of_loads_frame (home_of_bytes vars (8 * slot + offset) (bytes_of_type narrow)) narrow rd (bytes_place slot offset)
of_loads_place vars narrow rd (Flat base offset) =
    append_take (reads_slot (home vars base) 5 base) (loads_behind narrow rd (register_or (home vars base) 5) offset)
    (of_reads (home vars base) 5 base) (of_load narrow rd (register_or (home vars base) 5) offset)

of_stores_place : (vars : List ℕ) (narrow : Narrow) (rs : ℕ) (to : Place) → AllTake (stores_place vars narrow rs to)
of_stores_place vars narrow rs (Slot slot offset) =
    of_stores_frame (home_of_bytes vars (8 * slot + offset) (bytes_of_type narrow)) narrow rs (bytes_place slot offset)
of_stores_place vars narrow rs (Flat base offset) =
    append_take (reads_slot (home vars base) 5 base) (stores_behind narrow rs (register_or (home vars base) 5) offset)
    (of_reads (home vars base) 5 base) (of_store narrow rs (register_or (home vars base) 5) offset)

of_gets_place : (vars : List ℕ) (rd : ℕ) (place : Place) → AllTake (gets_place vars rd place)
of_gets_place vars rd (Slot slot offset) = of_address rd 2 (bytes_place slot offset)
of_gets_place vars rd (Flat base offset) =
    append_take (reads_slot (home vars base) rd base) (gets_address rd (register_or (home vars base) rd) offset)
    (of_reads (home vars base) rd base) (of_address rd (register_or (home vars base) rd) offset)

of_end : (begin words : ℕ) → AllTake (finds_end begin words)
of_end begin words =
    append_take (loads_constant 28 (8 * words)) (Single (Ins.Add 28 28 begin) ∷ []) (of_constant 28 (8 * words))
    (tt, tt)

words_pass : (words : ℕ) → AllTake (passes_words words)
words_pass words = by (words == 0)
  where
    by : (b : Bool) → AllTake (cond b [] (finds_end 5 words ++ passes_word))
    by true = tt
    by false =
        append_take (finds_end 5 words) passes_word (of_end 5 words)
        (tt, (tt, (tt, (tt, (tt, tt)))))

words_clear : (words : ℕ) → AllTake (clears_words words)
words_clear words = by (words == 0)
  where
    by : (b : Bool) → AllTake (cond b [] (finds_end 6 words ++ clears_word))
    by true = tt
    by false =
        append_take (finds_end 6 words) clears_word (of_end 6 words) (tt, (tt, (tt, tt)))

if_none : (b : Bool) (xs : List Line) → AllTake xs → AllTake (cond b [] xs)
if_none true xs none = tt
if_none false xs none = none

rest_passes : (rest : ℕ) → AllTake (passes_rest rest)
rest_passes rest =
    let first : List Line = passes narrows.I4 0 in
    let second : List Line = passes narrows.I2 (rest / 4 * 4) in
    let third : List Line = passes narrows.I1 (rest / 2 * 2) in
    append_take (cond (nat_lt rest 4) [] first)
    (cond (rest % 4 / 2 == 0) [] second ++ cond (rest % 2 == 0) [] third)
    (if_none (nat_lt rest 4) first (tt, (tt, tt)))
    (append_take (cond (rest % 4 / 2 == 0) [] second) (cond (rest % 2 == 0) [] third)
    (if_none (rest % 4 / 2 == 0) second (tt, (tt, tt)))
    (if_none (rest % 2 == 0) third (tt, (tt, tt))))

rest_clears : (rest : ℕ) → AllTake (clears_rest rest)
rest_clears rest =
    let first : List Line = clears_number narrows.I4 0 in
    let second : List Line = clears_number narrows.I2 (rest / 4 * 4) in
    let third : List Line = clears_number narrows.I1 (rest / 2 * 2) in
    append_take (cond (nat_lt rest 4) [] first)
    (cond (rest % 4 / 2 == 0) [] second ++ cond (rest % 2 == 0) [] third)
    (if_none (nat_lt rest 4) first (tt, tt))
    (append_take (cond (rest % 4 / 2 == 0) [] second) (cond (rest % 2 == 0) [] third)
    (if_none (rest % 4 / 2 == 0) second (tt, tt)) (if_none (rest % 2 == 0) third (tt, tt)))

of_copies : (vars : List ℕ) (to from : Place) (bytes : ℕ) → AllTake (copies vars to from bytes)
of_copies vars to from bytes = by (bytes == 8)
  where
    by : (b : Bool) → AllTake (cond b (loads_place vars narrows.I8 7 from ++ stores_place vars narrows.I8 7 to)
        (gets_place vars 5 from ++ (gets_place vars 6 to ++ passes_bytes bytes)))
    by true =
        append_take (loads_place vars narrows.I8 7 from) (stores_place vars narrows.I8 7 to)
        (of_loads_place vars narrows.I8 7 from) (of_stores_place vars narrows.I8 7 to)
    by false =
        append_take (gets_place vars 5 from) (gets_place vars 6 to ++ passes_bytes bytes) (of_gets_place vars 5 from)
        (append_take (gets_place vars 6 to) (passes_bytes bytes) (of_gets_place vars 6 to)
        (append_take (passes_words (bytes / 8)) (passes_rest (bytes % 8)) (words_pass (bytes / 8))
        (rest_passes (bytes % 8))))

of_clears : (vars : List ℕ) (to : Place) (bytes : ℕ) → AllTake (clears vars to bytes)
of_clears vars to bytes = by (bytes == 8)
  where
    by : (b : Bool) → AllTake (cond b (stores_place vars narrows.I8 0 to)
        (gets_place vars 6 to ++ (clears_words (bytes / 8) ++ clears_rest (bytes % 8))))
    by true = of_stores_place vars narrows.I8 0 to
    by false =
        append_take (gets_place vars 6 to) (clears_words (bytes / 8) ++ clears_rest (bytes % 8))
        (of_gets_place vars 6 to)
        (append_take (clears_words (bytes / 8)) (clears_rest (bytes % 8)) (words_clear (bytes / 8))
        (rest_clears (bytes % 8)))

of_moves : (to_home from_home : Option ℕ) (to from : ℕ) → AllTake (moves to_home from_home to from)
of_moves (Some register) from_home to from = of_gets from_home register from
of_moves None from_home to from =
    append_take (reads_slot from_home 5 from) (stores_behind narrows.I8 (register_or from_home 5) 2 (slot_place to))
    (of_reads from_home 5 from) (of_store narrows.I8 (register_or from_home 5) 2 (slot_place to))

-- ---- calls and returns

of_callee : (vars : List ℕ) (callee : Callee) → AllTake (gets_callee vars callee)
of_callee vars (Body item) = (gives_item 30, tt)
of_callee vars (Through slot) = (of_gets (home vars slot) 30 slot)

of_argument : (vars : List ℕ) (argument : Argument) → AllTake (gives_argument vars argument)
of_argument vars argument = by (argument.words == 1)
  where
    by : (b : Bool) → AllTake (cond b (reads_slot (home vars argument.from) 5 argument.from
        ++ stores_behind narrows.I8 (register_or (home vars argument.from) 5) 31 (slot_place argument.to))
        (gets_address 5 2 (slot_place argument.from)
        ++ (gets_address 6 31 (slot_place argument.to) ++ passes_words argument.words)))
    by true =
        append_take (reads_slot (home vars argument.from) 5 argument.from)
        (stores_behind narrows.I8 (register_or (home vars argument.from) 5) 31 (slot_place argument.to))
        (of_reads (home vars argument.from) 5 argument.from)
        (of_store narrows.I8 (register_or (home vars argument.from) 5) 31 (slot_place argument.to))
    by false =
        append_take (gets_address 5 2 (slot_place argument.from))
        (gets_address 6 31 (slot_place argument.to) ++ passes_words argument.words)
        (of_address 5 2 (slot_place argument.from))
        (append_take (gets_address 6 31 (slot_place argument.to)) (passes_words argument.words)
        (of_address 6 31 (slot_place argument.to)) (words_pass argument.words))

of_arguments : (vars : List ℕ) (arguments : List Argument) → AllTake (flat_map (gives_argument vars) arguments)
of_arguments vars [] = tt
of_arguments vars (argument ∷ arguments) =
    append_take (gives_argument vars argument) (flat_map (gives_argument vars) arguments)
    (of_argument vars argument) (of_arguments vars arguments)

of_dictionary : (vars : List ℕ) (dictionary : Option ℕ) → AllTake (gives_dictionary vars dictionary)
of_dictionary vars None = tt
of_dictionary vars (Some slot) =
    append_take (reads_slot (home vars slot) 5 slot)
    (Single (Ins.Sd 31 (register_or (home vars slot) 5) (pos dictionary_at)) ∷ []) (of_reads (home vars slot) 5 slot)
    (tt, tt)

of_cleared : (vars : List ℕ) (block : Block) → AllTake (clears_block vars block)
of_cleared vars block = by (block.words == 0) (block.words == 1)
  where
    by : (a b : Bool) → AllTake (cond a [] (cond b (puts_slot (home vars block.slot) 0 block.slot)
        (gets_address 6 2 (slot_place block.slot) ++ clears_words block.words)))
    by true b = tt
    by false true = (of_puts (home vars block.slot) 0 block.slot)
    by false false =
        append_take (gets_address 6 2 (slot_place block.slot)) (clears_words block.words)
        (of_address 6 2 (slot_place block.slot)) (words_clear block.words)

of_result : (vars : List ℕ) (block : Block) → AllTake (takes_result vars block)
of_result vars block = by (block.words == 0) (block.words == 1)
  where
    by : (a b : Bool) → AllTake (cond a [] (cond b (puts_slot (home vars block.slot) 10 block.slot)
        (Single (Ins.Addi 5 10 (pos 0)) ∷ (gets_address 6 2 (slot_place block.slot) ++ passes_words block.words))))
    by true b = tt
    by false true = (of_puts (home vars block.slot) 10 block.slot)
    by false false = (
      tt,
      append_take (gets_address 6 2 (slot_place block.slot)) (passes_words block.words)
          (of_address 6 2 (slot_place block.slot)) (words_pass block.words),
    )

of_calls : (vars : List ℕ) (callee : Callee) (dictionary : Option ℕ) (arguments : List Argument)
    (cleared result : Block) → AllTake (calls vars callee dictionary arguments cleared result)
of_calls vars callee dictionary arguments cleared result =
    let last : List Line = Single (Ins.Jalr 1 30 (pos 0)) ∷ takes_result vars result in
    let fourth : List Line = clears_block vars cleared ++ last in
    let third : List Line = gives_dictionary vars dictionary ++ fourth in
    let second : List Line = flat_map (gives_argument vars) arguments ++ third in
    append_take (gets_callee vars callee) (finds_frame ++ second) (of_callee vars callee)
    (append_take finds_frame second
    (tt, (tt, (tt, (tt, (goes_there, (tt, tt))))))
    (append_take (flat_map (gives_argument vars) arguments) third (of_arguments vars arguments)
    (append_take (gives_dictionary vars dictionary) fourth (of_dictionary vars dictionary)
    (append_take (clears_block vars cleared) last (of_cleared vars cleared) (tt, of_result vars result)))))

of_passed : (vars : List ℕ) (register : ℕ) (slots : List ℕ) → AllTake (passes_to_routine vars register slots)
of_passed vars register [] = tt
of_passed vars register (slot ∷ slots) =
    append_take (gets_slot (home vars slot) register slot) (passes_to_routine vars (register + 1) slots)
    (of_gets (home vars slot) register slot) (of_passed vars (register + 1) slots)

of_word : (vars : List ℕ) (result : Option ℕ) → AllTake (takes_word vars result)
of_word vars None = tt
of_word vars (Some slot) = (of_puts (home vars slot) 10 slot)

of_routine : (vars : List ℕ) (number : ℕ) (arguments : List ℕ) (result : Option ℕ)
    → AllTake (does_routine vars number arguments result)
of_routine vars number arguments result =
    append_take (passes_to_routine vars 10 (take most_passed arguments))
    (calls_routine number ++ takes_word vars result)
    (of_passed vars 10 (take most_passed arguments))
    (append_take (calls_routine number) (takes_word vars result) (comes_back, tt)
    (of_word vars result))

of_restored : (k : ℕ) (vars : List ℕ) → AllTake (restores_homes k vars)
of_restored k [] = tt
of_restored k (var ∷ vars) = (tt, of_restored (k + 1) vars)

of_given : (vars : List ℕ) (block : Block) → AllTake (gives_result vars block)
of_given vars block = by (block.words == 0) (block.words == 1)
  where
    by : (a b : Bool) → AllTake (cond a (Single (Ins.Addi 10 0 (pos 0)) ∷ [])
        (cond b (gets_slot (home vars block.slot) 10 block.slot) (gets_address 10 2 (slot_place block.slot))))
    by true b = one_line (Ins.Addi 10 0 (pos 0))
    by false true = of_gets (home vars block.slot) 10 block.slot
    by false false = of_address 10 2 (slot_place block.slot)

of_returns : (body : LirBody) (block : Block) → AllTake (returns body block)
of_returns body block =
    let last : List Line = Single (Ins.Ld 1 2 (pos return_at))
    ∷ (gets_address 2 2 body.frame ++ Single (Ins.Jalr 0 1 (pos 0)) ∷ []) in
    append_take (gives_result body.vars block) (restores_homes 0 (take home_count body.vars) ++ last)
    (of_given body.vars block)
    (append_take (restores_homes 0 (take home_count body.vars)) last (of_restored 0 (take home_count body.vars)) (
      tt,
      append_take (gets_address 2 2 body.frame) (Single (Ins.Jalr 0 1 (pos 0)) ∷ [])
          (of_address 2 2 body.frame) (tt, tt),
    ))

of_saved : (k : ℕ) (vars : List ℕ) → AllTake (saves_homes k vars)
of_saved k [] = tt
of_saved k (var ∷ vars) = (tt, of_saved (k + 1) vars)

of_loaded : (k : ℕ) (vars : List ℕ) → AllTake (loads_homes k vars)
of_loaded k [] = tt
of_loaded k (var ∷ vars) =
    append_take (loads_behind narrows.I8 (first_home + k) 2 (slot_place var)) (loads_homes (k + 1) vars)
    (of_load narrows.I8 (first_home + k) 2 (slot_place var)) (of_loaded (k + 1) vars)

of_frame : (bytes : ℕ) → AllTake (takes_frame bytes)
of_frame bytes = by (is_near bytes)
  where
    by : (b : Bool) → AllTake (cond b (Single (Ins.Addi 2 2 (pos 0 -ℤ pos bytes)) ∷ [])
        (loads_constant 28 bytes ++ Single (Ins.Sub 2 2 28) ∷ []))
    by true = (tt, tt)
    by false =
        append_take (loads_constant 28 bytes) (Single (Ins.Sub 2 2 28) ∷ []) (of_constant 28 bytes)
        (tt, tt)

of_enters : (body : LirBody) → AllTake (enters body)
of_enters body =
    let homes : List ℕ = take home_count body.vars in
    let last : List Line = saves_homes 0 homes ++ loads_homes 0 homes in (
      tt,
      append_take (takes_frame body.frame) (Single (Ins.Sd 2 1 (pos return_at)) ∷ last) (of_frame body.frame)
          (tt, append_take (saves_homes 0 homes) (loads_homes 0 homes) (of_saved 0 homes) (of_loaded 0 homes)),
    )

-- ---- each operation

of_jump : (label : ℕ) → AllTake (Jump label ∷ [])
of_jump label = (tt, tt)

of_goes : (number : ℕ) → AllTake (goes_to_routine number)
of_goes number = (goes_there, tt)

of_operation : (body : LirBody) (operation : LirOp) → AllTake (op_lines body operation)
of_operation body (op.Constant to value) =
    of_to_slot body.vars to (λ r. loads_constant r (word_of value)) (λ r. of_constant r (word_of value))
of_operation body (op.Address to kind item) =
    of_to_slot body.vars to (λ r. gets_item r kind item) (λ r. (gives_item r, tt))
of_operation body (op.SlotAddress to slot) =
    of_to_slot body.vars to (λ r. gets_address r 2 (slot_place slot)) (λ r. of_address r 2 (slot_place slot))
of_operation body (op.Dictionary to) =
    of_to_slot body.vars to (λ r. Single (Ins.Ld r 2 (pos dictionary_at)) ∷ [])
    (λ r. one_line (Ins.Ld r 2 (pos dictionary_at)))
of_operation body (op.Move to from) = of_moves (home body.vars to) (home body.vars from) to from
of_operation body (op.Load to from narrow) =
    of_to_slot body.vars to (λ r. loads_place body.vars narrow r from) (λ r. of_loads_place body.vars narrow r from)
of_operation body (op.Store to from narrow) =
    append_take (reads_slot (home body.vars from) 6 from)
    (stores_place body.vars narrow (register_or (home body.vars from) 6) to) (of_reads (home body.vars from) 6 from)
    (of_stores_place body.vars narrow (register_or (home body.vars from) 6) to)
of_operation body (op.Copy to from bytes) = of_copies body.vars to from bytes
of_operation body (op.Clear to bytes) = of_clears body.vars to bytes
of_operation body (op.Binary operation kind to left right) =
    of_two body.vars left right (λ x y. to_slot body.vars to (λ r. Single (combines operation kind r x y) ∷ []))
    (λ x y. of_to_slot body.vars to (λ r. Single (combines operation kind r x y) ∷ [])
    (λ r. one_line (combines operation kind r x y)))
of_operation body (op.Unary operation kind to value) =
    of_one body.vars value (λ x. to_slot body.vars to (λ r. Single (changes operation kind r x) ∷ []))
    (λ x. of_to_slot body.vars to (λ r. Single (changes operation kind r x) ∷ [])
    (λ r. one_line (changes operation kind r x)))
of_operation body (op.Checked operation kind to left right overflow) =
    of_two body.vars left right
    (λ x y. combines_checked operation kind x y overflow ++ puts_slot (home body.vars to) 7 to)
    (λ x y. append_take (combines_checked operation kind x y overflow) (puts_slot (home body.vars to) 7 to)
    (of_checked operation kind x y overflow) (of_puts (home body.vars to) 7 to))
of_operation body (op.Divide part kind to left right if_zero overflow) =
    of_two body.vars left right (λ x y. to_slot body.vars to (λ r. divides part kind r x y if_zero overflow))
    (λ x y. of_to_slot body.vars to (λ r. divides part kind r x y if_zero overflow)
    (λ r. of_divides part kind r x y if_zero overflow))
of_operation body (op.Shift operation kind to value amount) =
    of_two body.vars value amount (λ x y. to_slot body.vars to (λ r. Single (shifts operation kind r x y) ∷ []))
    (λ x y. of_to_slot body.vars to (λ r. Single (shifts operation kind r x y) ∷ [])
    (λ r. one_line (shifts operation kind r x y)))
of_operation body (op.Convert narrow from to value) =
    of_one body.vars value (λ x. to_slot body.vars to (λ r. converts narrow from r x))
    (λ x. of_to_slot body.vars to (λ r. converts narrow from r x) (λ r. of_converts narrow from r x))
of_operation body (op.ConvertChecked narrow from to value overflow) =
    of_one body.vars value (λ x. converts_checked narrow from x overflow ++ puts_slot (home body.vars to) 7 to)
    (λ x. append_take (converts_checked narrow from x overflow) (puts_slot (home body.vars to) 7 to)
    (of_converts_checked narrow from x overflow) (of_puts (home body.vars to) 7 to))
of_operation body (op.Compare test kind to left right) =
    of_two body.vars left right (λ x y. to_slot body.vars to (λ r. compares test kind r x y))
    (λ x y. of_to_slot body.vars to (λ r. compares test kind r x y) (λ r. of_compares test kind r x y))
of_operation body (op.Branch test kind left right label) =
    of_two body.vars left right (λ x y. Branch (condition_of test kind) x y label ∷ [])
    (λ x y. (tt, tt))
of_operation body (op.BranchIfZero value label) =
    of_one body.vars value (λ x. Branch Condition.Equal x 0 label ∷ [])
    (λ x. (tt, tt))
of_operation body (op.BranchUnlessZero value label) =
    of_one body.vars value (λ x. Branch Condition.NotEqual x 0 label ∷ [])
    (λ x. (tt, tt))
of_operation body (op.Jump label) = of_jump label
of_operation body (op.Call callee dictionary arguments cleared result) =
    of_calls body.vars callee dictionary arguments cleared result
of_operation body (op.Routine number arguments result) = of_routine body.vars number arguments result
of_operation body (op.Raise object) = of_goes (number_of Unhandled)
of_operation body op.Rethrow = of_goes (number_of Unhandled)
of_operation body (op.Leave label) = of_jump label
of_operation body op.EndHandler = of_goes (number_of Unhandled)
of_operation body (op.Return result) = of_returns body result

-- ---- a whole body

of_operations : (body : LirBody) (ops : List LirOp) → AllTake (ops_lines body ops)
of_operations body [] = tt
of_operations body (operation ∷ ops) = (
  tt,
  append_take (op_lines body operation) (ops_lines body ops) (of_operation body operation)
      (of_operations body ops),
)

pub of_lines : (body : LirBody) → AllTake (lines_of body)
unfolding lines_of
of_lines body = append_take (enters body) (ops_lines body body.ops) (of_enters body) (of_operations body body.ops)
