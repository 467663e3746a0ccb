-- The file of a body's code does what the body does.
use Rattle.std.proofs.Common.{◌≡◌, ◌∙◌, ℕ, zero, suc, ◌+◌, ◌*◌, ◌<◌, ◌≤◌, Bool, true, false, not, ◌&&◌, cond, nat_eq}
use Rattle.std.proofs.Common.{nat_le, eq-eqb, ◌||◌, List, [], ◌∷◌, ◌++◌, length, arith, refl, ap, sym, subst, Ok}
use Rattle.std.proofs.Common.{Option, Some, None, length-append, replicate, All}
use Rattle.std.proofs.lemmas.List.{length-replicate}
use Rattle.num_core.specs.Run.{KeepsStep, Run, Running, Streams, after}
use Rattle.num_core.proofs.Runs.{keeps_step}
use Rattle.il_code.specs.Listing.{is_boundary}
use Rattle.il_code.specs.declared.body.Body.{Body}
use Rattle.il_code.specs.declared.body.Instr.{Instr}
use Rattle.rv_step.specs.Machine.{MachineState, machine_step}
use Rattle.rv_step.specs.declared.trap.Trap.{Trap}
use Rattle.elf_file.specs.declared.layout.ElfLayout.{ElfLayout}
use Rattle.elf_file.specs.Elf.{loaded, file_of, machine_of, headers_of, text_segment, rest_segment, base}
use Rattle.rv_isa.specs.declared.ins.Ins.{Ins}
use Rattle.ilc_build.specs.Bare.{ReadsBare, first_past}
use Rattle.cil_state.specs.State.{CilCause, CilState}
use Rattle.cil_state.specs.Step.{cil_step, cil_start}
use Rattle.ilc_build.specs.Code.{code_of, IsInt32Instr, place_of, row_size, text_of}
use Rattle.ilc_build.specs.Depths.{can_be_done, first_against, is_reached, is_verified_at, operation_at, row}
use Rattle.ilc_build.specs.Raising.{IsShallow}
use Rattle.ilc_build.specs.Typing.{can_stand, tiny_max_stack}
use Rattle.il_code.specs.declared.operation.Operation.{Operation}
use Rattle.il_code.specs.declared.operation.Operation.TheVariants.{NoOperation, Constant, Duplicate, Discard, Binary}
use Rattle.il_code.specs.declared.operation.Operation.TheVariants.{Branch, BranchIfTrue, Return}
use Rattle.ilc_build.specs.File.{IsFileOf, layout_of}
use Rattle.ilc_build.specs.Implements.{Implements, most_steps}
use Rattle.ilc_build.specs.declared.depths.Known.{Known}
use Rattle.ilc_build.specs.declared.depths.Known.TheVariants.{Nothing, Depth, Clash}
use Rattle.ilc_build.proofs.Blocks.{OnStack}
use Rattle.il_code.proofs.Following.{Follow, follow, follow-few}
use Rattle.ilc_build.proofs.Moves.{Found, found, row_is}
use Rattle.ilc_build.proofs.Place.{length-text_of}
use Rattle.ilc_build.proofs.Simulation.{AtInstruction, IsAt, Related, alike, at_most, both_hold, simulates}
use Rattle.ilc_build.proofs.Splits.{few_of_code}

-- ---- the size of the text

-- each instruction has a byte of the code
pub few_instructions : (bytes : List ℕ) (body : Body) (table : List Known) → ReadsBare bytes body table
    → length body.code < 64
few_instructions bytes body table reads =
    omega (
      arith,
      reads.size,
      follow-few 0 (length reads.code) body.code
          (follow reads.code body.code reads.bare.instructions),
    )

-- The headers and the text of a bare body fill one page at most.
pub short_text : (bytes : List ℕ) (body : Body) (table : List Known) → ReadsBare bytes body table
    → length (text_of (code_of body.code table)) ≤ 1260
short_text bytes body table reads =
    let few : length body.code < 64 = few_instructions bytes body table reads in
    omega (
      arith,
      few,
      few_of_code (place_of body.code table) 0 body.code table,
      length-text_of (code_of body.code table),
    )

-- ---- the first instruction

begins_first : (end : ℕ) (instrs : List Instr) (table : List Known) → Follow 0 end instrs
    → first_past instrs table ≡ None → is_boundary instrs 0 ≡ true
begins_first end [] table f past = cc
begins_first end (i ∷ instrs) table f past = ap (λ b. b || is_boundary instrs 0) (eq-eqb i.at 0 f.0)

first_place : (end : ℕ) (instrs : List Instr) (table : List Known) → Follow 0 end instrs → place_of instrs table 0 ≡ 0
first_place end [] table f = refl
first_place end (i ∷ instrs) [] f = refl
first_place end (i ∷ instrs) (k ∷ table) f =
    ap (λ b. cond b 0 (row_size k (operation_at i) + place_of instrs table 0)) (eq-eqb i.at 0 f.0)

-- ---- the machine at its start

starts : (bytes : List ℕ) (body : Body) (table : List Known) (reads : ReadsBare bytes body table) (layout : ElfLayout)
    → base + length (headers_of layout) ≡ 0x100B0 → layout.text ≡ text_of (code_of body.code table)
    → layout.entry ≡ 0x100B0 → layout.zeros ≡ 9437184
    → OnStack (headers_of layout) (code_of body.code table) (text_segment layout) (rest_segment layout) 0 []
    (machine_of layout)
starts bytes body table reads layout front text entry zeros =
    let short : length layout.text ≤ 1260 = omega (arith, ap length text, short_text bytes body table reads) in
    let words : 4 * length (code_of body.code table) ≤ 1260 =
    omega (arith, short_text bytes body table reads, length-text_of (code_of body.code table)) in
    let whole : length (headers_of layout ++ layout.text) ≡ length (headers_of layout) + length layout.text =
    length-append (headers_of layout) layout.text in
    let slots : length (layout.rest ++ replicate layout.zeros 0) ≡ length layout.rest + layout.zeros =
    length-append layout.rest (replicate layout.zeros 0)
    ∙ ap (λ n. length layout.rest + n) (length-replicate layout.zeros 0) in
    record {
      at = record {
        memory = refl;
        executable = refl;
        whole_words = omega (arith, front);
        bytes = ap (λ bs. headers_of layout ++ bs) text;
        pc = entry ∙ omega (arith, front);
        room = omega (arith, front, words);
      };
      has = record { count = refl; x0 = refl };
      memory = record {
        fixed = refl;
        before = omega (arith, front, whole, short);
        at = omega (arith, short);
        read = refl;
        write = refl;
        room = omega (arith, slots, zeros);
      };
      holds = tt;
      fits = tt;
    }

first_instruction : (bytes : List ℕ) (body : Body) (table : List Known) (reads : ReadsBare bytes body table)
    (layout : ElfLayout) → OnStack (headers_of layout) (code_of body.code table) (text_segment layout)
    (rest_segment layout) 0 [] (machine_of layout)
    → IsAt body table (headers_of layout) (text_segment layout) 0 [] (machine_of layout)
first_instruction bytes body table reads layout on =
    let f : Follow 0 (length reads.code) body.code = follow reads.code body.code reads.bare.instructions in
    let there : Found body.code 0 = found 0 (length reads.code) 0 body.code f
    (begins_first (length reads.code) body.code table f reads.bare.past) in
    record {
      there = there;
      known = row_is reads.code body table 0 0 reads.bare there reads.bare.least.solution.first;
      slots = rest_segment layout;
      on = subst (λ k. OnStack (headers_of layout) (code_of body.code table) (text_segment layout) (rest_segment layout)
          k [] (machine_of layout)) (sym (first_place (length reads.code) body.code table f)) on;
    }

-- The file of the code stands for the body.
pub implements : (bytes : List ℕ) (body : Body) (table : List Known) (reads : ReadsBare bytes body table)
    (layout : ElfLayout) (elf : List ℕ) → base + length (headers_of layout) ≡ 0x100B0
    → layout.text ≡ text_of (code_of body.code table) → layout.entry ≡ 0x100B0 → layout.zeros ≡ 9437184
    → All IsInt32Instr body.code → loaded elf ≡ Ok (machine_of layout) → Implements body elf
implements bytes body table reads layout elf front text entry zeros constants loads =
    record {
      machine = machine_of layout;
      loads = loads;
      keeps_step = λ input.
          let streams : Streams = record { input = input; output = []; error = [] } in
          let a : Run CilState CilCause = Running cil_start streams in
          let b : Run MachineState Trap = Running (machine_of layout) streams in
          let R : Run CilState CilCause → Run MachineState Trap
          → Type 0 = Related body table (headers_of layout) (text_segment layout) in
          let keeps : KeepsStep (λ _. R) (λ _. most_steps) (λ i. after (cil_step body) i a)
          (λ m. after machine_step m b) =
          keeps_step (cil_step body) machine_step R most_steps
          (simulates reads.code body table (headers_of layout) (text_segment layout) reads.bare
          (few_instructions bytes body table reads) constants)
          a b
          (AtInstruction 0 [] (machine_of layout) streams
          (first_instruction bytes body table reads layout
          (starts bytes body table reads layout front text entry zeros))) in
          record {
            moment = keeps.moment;
            rising = keeps.rising;
            within = keeps.within;
            related = λ i. alike body table (headers_of layout) (text_segment layout) _ _ (keeps.related i);
          };
    }

-- The file of the layout of a code is the file of the code.
pub file_is : (layout : ElfLayout) (code : List Ins) (elf : List ℕ) → layout ≡ layout_of (text_of code)
    → elf ≡ file_of layout → loaded elf ≡ Ok (machine_of layout) → IsFileOf code elf
file_is layout code elf is bytes loads =
    record {
      bytes = bytes ∙ ap file_of is;
      segments = loads ∙ ap (λ l. Ok (machine_of l)) is;
    }

-- ---- each depth is at most that under a tiny header

few_slots : (d : ℕ) (operation : Operation) → can_stand tiny_max_stack d operation ≡ true → d ≤ 8
few_slots d NoOperation can = let b : (nat_le d 8 ≡ true)
    × (nat_le 0 d ≡ true) = both_hold (nat_le d 8) (nat_le 0 d) can in at_most d 8 b.0
few_slots d (Constant n) can = let b : (nat_le d 8 ≡ true)
    × (nat_le 0 d ≡ true) = both_hold (nat_le d 8) (nat_le 0 d) can in at_most d 8 b.0
few_slots d Duplicate can = let b : (nat_le d 8 ≡ true)
    × (nat_le 1 d ≡ true) = both_hold (nat_le d 8) (nat_le 1 d) can in at_most d 8 b.0
few_slots d Discard can = let b : (nat_le d 8 ≡ true) × (nat_le 1 d ≡ true) = both_hold (nat_le d 8) (nat_le 1 d) can in
    at_most d 8 b.0
few_slots d (Binary operation) can = let b : (nat_le d 8 ≡ true)
    × (nat_le 2 d ≡ true) = both_hold (nat_le d 8) (nat_le 2 d) can in at_most d 8 b.0
few_slots d (Branch target) can = let b : (nat_le d 8 ≡ true)
    × (nat_le 0 d ≡ true) = both_hold (nat_le d 8) (nat_le 0 d) can in at_most d 8 b.0
few_slots d (BranchIfTrue target) can = let b : (nat_le d 8 ≡ true)
    × (nat_le 1 d ≡ true) = both_hold (nat_le d 8) (nat_le 1 d) can in at_most d 8 b.0
few_slots d Return can = let b : (nat_le d 8 ≡ true) × (nat_eq d 1 ≡ true) = both_hold (nat_le d 8) (nat_eq d 1) can in
    at_most d 8 b.0

shallow_row : (k : Known) (o : Option Operation) → (is_reached k && not (can_be_done tiny_max_stack k o)) ≡ false
    → IsShallow 8 k
shallow_row Nothing o none = tt
shallow_row Clash o none = tt
shallow_row (Depth d) None none = cc
shallow_row (Depth d) (Some operation) none = by (can_stand tiny_max_stack d operation) refl none
  where
    by : (b : Bool) → can_stand tiny_max_stack d operation ≡ b → not b ≡ false → d ≤ 8
    by true can e = few_slots d operation can
    by false can e = cc

pub shallow_rows : (instrs : List Instr) (table : List Known) → length table ≡ length instrs
    → first_against (is_verified_at tiny_max_stack) instrs table ≡ None → (n : ℕ) → IsShallow 8 (row table n)
shallow_rows instrs [] size none zero = tt
shallow_rows instrs [] size none (suc n) = tt
shallow_rows [] (k ∷ table) size none n = absurd (let e : suc (length table) ≡ 0 = size in omega (arith, e))
shallow_rows (i ∷ instrs) (k ∷ table) size none n =
    let sizes : suc (length table) ≡ suc (length instrs) = size in
    by (is_reached k && not (can_be_done tiny_max_stack k (operation_at i))) refl none
    (shallow_rows instrs table (omega (arith, sizes))) n
  where
    by : (b : Bool) → (is_reached k && not (can_be_done tiny_max_stack k (operation_at i))) ≡ b
        → cond b (Some i.at) (first_against (is_verified_at tiny_max_stack) instrs table) ≡ None
        → (first_against (is_verified_at tiny_max_stack) instrs table ≡ None → (n : ℕ) → IsShallow 8 (row table n))
        → (n : ℕ) → IsShallow 8 (row (k ∷ table) n)
    by true e none more n = cc
    by false e none more zero = shallow_row k (operation_at i) e
    by false e none more (suc n) = more none n
