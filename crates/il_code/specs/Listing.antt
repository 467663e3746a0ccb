-- The code of a body as a list of instructions, and where its branches lead: ECMA-335 III.1.2 and III.1.7.2.
use Rattle.std.specs.Prelude.{◌≡◌, ℕ, zero, suc, ◌<◌, Bool, not, ◌==◌, if◌then◌else◌, List, [], ◌∷◌, ◌++◌, length, map}
use Rattle.std.specs.Prelude.{slice_index_or, find, All, Option, Some, None, Result, Ok, Err}
use Rattle.std.specs.List.{list_any, list_all}
use Rattle.std.specs.Option.{option_map}
use Rattle.il_code.specs.Instructions.{instruction_at}
use Rattle.il_code.specs.declared.body.Instr.{Instr}
use Rattle.il_code.specs.declared.listing.CodeFault.{CodeFault}
use Rattle.il_code.specs.declared.listing.CodeFault.TheVariants.{BadOpcode, BadTarget, Memory}
use Rattle.il_code.specs.declared.body.Operand.{Operand}
use Rattle.il_code.specs.declared.body.Operand.TheVariants.{Target, Targets}

-- an instruction in front of those behind it
abbrev pub in_front : Instr → Result (List Instr) ℕ → Result (List Instr) ℕ
in_front i (Ok instrs) = Ok (i ∷ instrs)
in_front i (Err offset) = Err offset

abbrev pub listed_at : (ℕ → Result (List Instr) ℕ) → ℕ → Option Instr → Result (List Instr) ℕ
listed_at rest at None = Err at
listed_at rest at (Some i) = in_front i (rest i.next)

-- the instructions from an offset to the end of the code, of which there are no more than `most`
abbrev pub listed_from : ℕ → List ℕ → ℕ → Result (List Instr) ℕ
listed_from zero code at = if at == length code then Ok [] else Err at
listed_from (suc most) code at =
    if at == length code then Ok [] else listed_at (listed_from most code) at (instruction_at code at)

-- The instructions of code, one behind another, or the first offset where none stands whole. Code has no more
-- instructions than bytes.
abbrev pub listed : List ℕ → Result (List Instr) ℕ
listed code = listed_from (length code) code 0

-- Instructions that tile the code up to an offset: the first begins at 0, each other where the one before it ends, and
-- the last ends at the offset. Each is the one that stands there.
pub record AreTiles (code : List ℕ) (end : ℕ) (instrs : List Instr) : Type 0 where
  pub joined : map (λ i. i.at) instrs ++ end ∷ [] ≡ 0 ∷ map (λ i. i.next) instrs
  pub read : All (λ i. instruction_at code i.at ≡ Some i) instrs

-- instructions tile the code up to an offset inside it, where none stands whole
pub record IsBadOpcode (code : List ℕ) (offset : ℕ) : Type 0 where
  pub before : List Instr
  pub tiles : AreTiles code offset before
  pub inside : offset < length code
  pub none : instruction_at code offset ≡ None

-- each instruction stands at a higher offset than those in front of it
abbrev pub AreRising : List Instr → Type 0
AreRising instrs =
    (i j : ℕ) (d : Instr) → i < j → j < length instrs → (slice_index_or instrs i d).at < (slice_index_or instrs j d).at

-- the offsets that an operand leads to
abbrev pub targets_in : Operand → List ℕ
targets_in (Target offset) = offset ∷ []
targets_in (Targets offsets) = offsets
targets_in _ = []

-- one of the instructions stands at the offset
abbrev pub is_boundary : List Instr → ℕ → Bool
is_boundary instrs offset = list_any (λ i. i.at == offset) instrs

-- the instruction leads to instructions alone
abbrev pub targets_are_boundaries : List Instr → Instr → Bool
targets_are_boundaries instrs i = list_all (is_boundary instrs) (targets_in i.operand)

-- the offset of the first instruction with a target at which none of them stands
abbrev pub first_bad_target : List Instr → Option ℕ
first_bad_target instrs = option_map (λ i. i.at) (find (λ i. not (targets_are_boundaries instrs i)) instrs)

-- why code is no list of instructions whose targets are among them
abbrev pub NotListed : List ℕ → CodeFault → Type 0
NotListed code (BadOpcode offset) = listed code ≡ Err offset
NotListed code (BadTarget offset) =
    (instrs : List Instr) × (listed code ≡ Ok instrs) × (first_bad_target instrs ≡ Some offset)
NotListed code Memory = Unit {0}
