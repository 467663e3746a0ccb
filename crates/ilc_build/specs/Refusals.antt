-- When bytes are no bare body.
use Rattle.std.specs.Prelude.{◌≡◌, ◌⊎◌, ℕ, List, Some, None, Ok, Err}
use Rattle.il_code.specs.declared.body.Instr.{Instr}
use Rattle.il_code.specs.Listing.{listed, first_bad_target}
use Rattle.il_code.specs.Tiny.{tiny_body}
use Rattle.ilc_build.specs.Bare.{first_past}
use Rattle.ilc_build.specs.Depths.{IsLeast, first_against, has_operation, is_verified_at}
use Rattle.ilc_build.specs.Typing.{tiny_max_stack}
use Rattle.ilc_build.specs.declared.build.BuildFault.{BuildFault}
use Rattle.ilc_build.specs.declared.build.BuildFault.TheVariants.{BadHeader, BadOpcode, BadTarget, OpcodeOutside}
use Rattle.ilc_build.specs.declared.build.BuildFault.TheVariants.{Unverified, Memory}
use Rattle.ilc_build.specs.declared.depths.Known.{Known}

-- The faults of instructions whose targets are among them, in the order in which they are looked for: control runs
-- past the end of the code; it comes to an instruction without operation; it comes to one that fails on its stack.
abbrev pub FlowGives : List Instr → List Known → BuildFault → Type 0
FlowGives instrs table (BadTarget offset) = first_past instrs table ≡ Some offset
FlowGives instrs table (OpcodeOutside offset) =
    (first_past instrs table ≡ None) × (first_against has_operation instrs table ≡ Some offset)
FlowGives instrs table (Unverified offset) =
    (first_past instrs table ≡ None) × (first_against has_operation instrs table ≡ None)
    × (first_against (is_verified_at tiny_max_stack) instrs table ≡ Some offset)
FlowGives instrs table _ = ⊥

-- what comes of the instructions of the code
abbrev pub InstructionsGive : List ℕ → BuildFault → Type 0
InstructionsGive code fault =
    (instrs : List Instr) × (listed code ≡ Ok instrs) × (first_bad_target instrs ≡ None)
    × (table : List Known) × IsLeast instrs table × FlowGives instrs table fault

-- The faults of code that isn't that of a bare body.
abbrev pub NotBareCode : List ℕ → BuildFault → Type 0
NotBareCode code (BadOpcode offset) = listed code ≡ Err offset
NotBareCode code (BadTarget offset) =
    ((instrs : List Instr) × (listed code ≡ Ok instrs) × (first_bad_target instrs ≡ Some offset))
    ⊎ InstructionsGive code (BadTarget offset)
NotBareCode code (OpcodeOutside offset) = InstructionsGive code (OpcodeOutside offset)
NotBareCode code (Unverified offset) = InstructionsGive code (Unverified offset)
NotBareCode code Memory = Unit {0}
NotBareCode code _ = ⊥

-- the code behind the header has the fault
abbrev pub CodeGives : List ℕ → BuildFault → Type 0
CodeGives bytes fault = (code : List ℕ) × (tiny_body bytes ≡ Ok code) × NotBareCode code fault

-- The faults of bytes that are no bare body. Want of memory may come at any time.
abbrev pub NotBare : List ℕ → BuildFault → Type 0
NotBare bytes (BadHeader offset) = tiny_body bytes ≡ Err offset
NotBare bytes (BadOpcode offset) = CodeGives bytes (BadOpcode offset)
NotBare bytes (BadTarget offset) = CodeGives bytes (BadTarget offset)
NotBare bytes (OpcodeOutside offset) = CodeGives bytes (OpcodeOutside offset)
NotBare bytes (Unverified offset) = CodeGives bytes (Unverified offset)
NotBare bytes Memory = Unit {0}
