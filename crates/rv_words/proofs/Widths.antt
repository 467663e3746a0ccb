-- How many instructions the lines of a call are up to its jump: as many as in their longest form, since none of them
-- leads to a label.
use Rattle.std.proofs.Common.{◌≡◌, ◌∙◌, ℕ, ◌+◌, ◌*◌, ◌==◌, Bool, true, false, cond, pos, List, [], ◌∷◌, ◌++◌, Option}
use Rattle.std.proofs.Common.{Some}
use Rattle.std.proofs.Common.{None, arith, refl, ap, sym, subst, append_assoc}
use Rattle.std.specs.List.{flat_map}
use Rattle.num_core.specs.declared.kind.Narrow.TheVariants.{I8}
use Rattle.rv_isa.specs.declared.ins.Ins.{Ins}
use Rattle.lir_core.specs.declared.op.Argument.{Argument}
use Rattle.lir_core.specs.declared.op.Block.{Block}
use Rattle.lir_core.specs.declared.op.Callee.{Callee}
use Rattle.lir_core.specs.declared.op.Callee.TheVariants.{Body, Through}
use Rattle.rv_lines.specs.Frame.{dictionary_at, home, slot_place}
use Rattle.rv_lines.specs.Moving.{clears_word, clears_words, finds_end, passes_word, passes_words}
use Rattle.rv_lines.specs.Operands.{gets_address, gets_slot, loads_behind, loads_constant, puts_slot, reads_slot}
use Rattle.rv_lines.specs.Operands.{register_or, stores_behind}
use Rattle.rv_lines.specs.declared.line.Line.{Line}
use Rattle.rv_lines.specs.declared.line.Line.TheVariants.{Single}
use Rattle.rv_gen.specs.Calling.{calls, clears_block, finds_frame, gets_callee, gives_argument, gives_dictionary}
use Rattle.rv_gen.specs.Calling.{takes_result}
use Rattle.rv_gen.specs.Placing.{longest, size}
use Rattle.rv_words.specs.Words.{lines_to_jump, width}
use Rattle.rv_words.proofs.ConstantCode.{address_code, address_singles, constant_code, constant_singles, load_code}
use Rattle.rv_words.proofs.ConstantCode.{load_singles, singles}
use Rattle.rv_words.proofs.LinkedCode.{size_of}
use Rattle.rv_words.proofs.Results.{store_code, store_singles}

-- lines that have the same size wherever they stand
abbrev pub HaveWidths : List Line → Type 0
HaveWidths [] = Unit {0}
HaveWidths (line ∷ lines) =
    ((far : List ℕ) (far_at : ℕ) → size far far_at line ≡ longest line) × HaveWidths lines

pub widths_append : (xs ys : List Line) → HaveWidths xs → HaveWidths ys → HaveWidths (xs ++ ys)
widths_append [] ys p q = q
widths_append (x ∷ xs) ys p q = (p.0, widths_append xs ys p.1 q)

pub width_is : (far : List ℕ) (far_at : ℕ) (lines : List Line) → HaveWidths lines
    → size_of far far_at lines ≡ width lines
width_is far far_at [] p = refl
width_is far far_at (line ∷ lines) p =
    let rest : size_of far (far_at + longest line) lines ≡ width lines =
    width_is far (far_at + longest line) lines p.1 in
    omega (arith, p.0 far far_at, rest)

-- ---- those that are an instruction each

widths_singles : (code : List Ins) → HaveWidths (singles code)
widths_singles [] = tt
widths_singles (ins ∷ code) = (λ far far_at. refl, widths_singles code)

widths_by : (lines : List Line) (code : List Ins) → lines ≡ singles code → HaveWidths lines
widths_by lines code e = subst HaveWidths (sym e) (widths_singles code)

single : (far : List ℕ) (far_at : ℕ) → size far far_at (Single Ins.Ecall) ≡ longest (Single Ins.Ecall)
single far far_at = refl

of_gets : (o : Option ℕ) (rd slot : ℕ) → HaveWidths (gets_slot o rd slot)
of_gets (Some r) rd slot = (single, tt)
of_gets None rd slot = widths_by (loads_behind I8 rd 2 (slot_place slot)) (load_code rd 2 (slot_place slot))
    (load_singles rd 2 (slot_place slot))

of_reads : (o : Option ℕ) (other slot : ℕ) → HaveWidths (reads_slot o other slot)
of_reads (Some r) other slot = tt
of_reads None other slot = widths_by (loads_behind I8 other 2 (slot_place slot)) (load_code other 2 (slot_place slot))
    (load_singles other 2 (slot_place slot))

of_puts : (o : Option ℕ) (rs slot : ℕ) → HaveWidths (puts_slot o rs slot)
of_puts (Some r) rs slot = (single, tt)
of_puts None rs slot = widths_by (stores_behind I8 rs 2 (slot_place slot)) (store_code rs 2 (slot_place slot))
    (store_singles rs 2 (slot_place slot))

of_store : (rs base offset : ℕ) → HaveWidths (stores_behind I8 rs base offset)
of_store rs base offset = widths_by (stores_behind I8 rs base offset) (store_code rs base offset)
    (store_singles rs base offset)

of_address : (rd base offset : ℕ) → HaveWidths (gets_address rd base offset)
of_address rd base offset = widths_by (gets_address rd base offset) (address_code rd base offset)
    (address_singles rd base offset)

of_end : (begin words : ℕ) → HaveWidths (finds_end begin words)
of_end begin words =
    widths_append (loads_constant 28 (8 * words)) (Single (Ins.Add 28 28 begin) ∷ [])
    (widths_by (loads_constant 28 (8 * words)) (constant_code 28 (8 * words)) (constant_singles 28 (8 * words)))
    (single, tt)

of_passes : (words : ℕ) → HaveWidths (passes_words words)
of_passes words = by (words == 0)
  where
    by : (b : Bool) → HaveWidths (cond b [] (finds_end 5 words ++ passes_word))
    by true = tt
    by false = widths_append (finds_end 5 words) passes_word (of_end 5 words)
        (single, (single, (single, (single, (single, tt)))))

of_clears : (words : ℕ) → HaveWidths (clears_words words)
of_clears words = by (words == 0)
  where
    by : (b : Bool) → HaveWidths (cond b [] (finds_end 6 words ++ clears_word))
    by true = tt
    by false = widths_append (finds_end 6 words) clears_word (of_end 6 words) (single, (single, (single, tt)))

-- ---- the parts of a call

of_callee : (vars : List ℕ) (callee : Callee) → HaveWidths (gets_callee vars callee)
of_callee vars (Body item) = (λ far far_at. refl, tt)
of_callee vars (Through slot) = of_gets (home vars slot) 30 slot

of_frame : HaveWidths finds_frame
of_frame = (single, (single, (single, (single, (λ far far_at. refl, (single, tt))))))

of_argument : (vars : List ℕ) (argument : Argument) → HaveWidths (gives_argument vars argument)
of_argument vars argument = by (argument.words == 1)
  where
    by : (b : Bool) → HaveWidths (cond b (reads_slot (home vars argument.from) 5 argument.from
        ++ stores_behind I8 (register_or (home vars argument.from) 5) 31 (slot_place argument.to))
        (gets_address 5 2 (slot_place argument.from)
        ++ (gets_address 6 31 (slot_place argument.to) ++ passes_words argument.words)))
    by true =
        widths_append (reads_slot (home vars argument.from) 5 argument.from)
        (stores_behind I8 (register_or (home vars argument.from) 5) 31 (slot_place argument.to))
        (of_reads (home vars argument.from) 5 argument.from)
        (of_store (register_or (home vars argument.from) 5) 31 (slot_place argument.to))
    by false =
        widths_append (gets_address 5 2 (slot_place argument.from))
        (gets_address 6 31 (slot_place argument.to) ++ passes_words argument.words)
        (of_address 5 2 (slot_place argument.from))
        (widths_append (gets_address 6 31 (slot_place argument.to)) (passes_words argument.words)
        (of_address 6 31 (slot_place argument.to)) (of_passes argument.words))

of_arguments : (vars : List ℕ) (arguments : List Argument) → HaveWidths (flat_map (gives_argument vars) arguments)
of_arguments vars [] = tt
of_arguments vars (argument ∷ arguments) =
    widths_append (gives_argument vars argument) (flat_map (gives_argument vars) arguments)
    (of_argument vars argument) (of_arguments vars arguments)

of_dictionary : (vars : List ℕ) (dictionary : Option ℕ) → HaveWidths (gives_dictionary vars dictionary)
of_dictionary vars None = tt
of_dictionary vars (Some slot) =
    widths_append (reads_slot (home vars slot) 5 slot)
    (Single (Ins.Sd 31 (register_or (home vars slot) 5) (pos dictionary_at)) ∷ []) (of_reads (home vars slot) 5 slot)
    (single, tt)

of_cleared : (vars : List ℕ) (block : Block) → HaveWidths (clears_block vars block)
of_cleared vars block = by (block.words == 0) (block.words == 1)
  where
    by : (a b : Bool) → HaveWidths (cond a [] (cond b (puts_slot (home vars block.slot) 0 block.slot)
        (gets_address 6 2 (slot_place block.slot) ++ clears_words block.words)))
    by true b = tt
    by false true = of_puts (home vars block.slot) 0 block.slot
    by false false =
        widths_append (gets_address 6 2 (slot_place block.slot)) (clears_words block.words)
        (of_address 6 2 (slot_place block.slot)) (of_clears block.words)

pub widths_to_jump : (vars : List ℕ) (callee : Callee) (dictionary : Option ℕ) (arguments : List Argument)
    (cleared : Block) → HaveWidths (lines_to_jump vars callee dictionary arguments cleared)
widths_to_jump vars callee dictionary arguments cleared =
    let jump : List Line = Single (Ins.Jalr 1 30 (pos 0)) ∷ [] in
    let fourth : List Line = clears_block vars cleared ++ jump in
    let third : List Line = gives_dictionary vars dictionary ++ fourth in
    let second : List Line = flat_map (gives_argument vars) arguments ++ third in
    widths_append (gets_callee vars callee) (finds_frame ++ second) (of_callee vars callee)
    (widths_append finds_frame second of_frame
    (widths_append (flat_map (gives_argument vars) arguments) third (of_arguments vars arguments)
    (widths_append (gives_dictionary vars dictionary) fourth (of_dictionary vars dictionary)
    (widths_append (clears_block vars cleared) jump (of_cleared vars cleared) (single, tt)))))

-- A call is the lines up to its jump, and those that take the result.
pub calls_split : (vars : List ℕ) (callee : Callee) (dictionary : Option ℕ) (arguments : List Argument)
    (cleared result : Block)
    → calls vars callee dictionary arguments cleared result
    ≡ lines_to_jump vars callee dictionary arguments cleared ++ takes_result vars result
calls_split vars callee dictionary arguments cleared result =
    let rest : List Line = takes_result vars result in
    let jump : List Line = Single (Ins.Jalr 1 30 (pos 0)) ∷ [] in
    let a : List Line = gets_callee vars callee in
    let b : List Line = finds_frame in
    let c : List Line = flat_map (gives_argument vars) arguments in
    let d : List Line = gives_dictionary vars dictionary in
    let e : List Line = clears_block vars cleared in
    sym (append_assoc a (b ++ (c ++ (d ++ (e ++ jump)))) rest
    ∙ ap (λ xs. a ++ xs) (append_assoc b (c ++ (d ++ (e ++ jump))) rest)
    ∙ ap (λ xs. a ++ (b ++ xs)) (append_assoc c (d ++ (e ++ jump)) rest)
    ∙ ap (λ xs. a ++ (b ++ (c ++ xs))) (append_assoc d (e ++ jump) rest)
    ∙ ap (λ xs. a ++ (b ++ (c ++ (d ++ xs)))) (append_assoc e jump rest))
