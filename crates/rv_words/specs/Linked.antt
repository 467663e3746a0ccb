-- The code of a body where it stands in memory: the addresses that its fixes name are in it.
use Rattle.std.specs.Prelude.{ℕ, zero, suc, ◌+◌, ◌*◌, pos, ◌-ℤ◌, List, [], ◌∷◌, unwrap_or}
use Rattle.num_core.specs.Bits.{low_bits}
use Rattle.num_core.specs.declared.fix.Fix.{Fix}
use Rattle.rv_isa.specs.declared.ins.Ins.{Ins}
use Rattle.lir_core.specs.Program.{WordProgram}
use Rattle.lir_core.specs.declared.body.LirBody.{LirBody}
use Rattle.rt_code.specs.Code.{lower, upper}
use Rattle.rv_gen.specs.Placing.{code_of, fixes_of}

-- how far an address lies from that of an `auipc`, in 32 bits
abbrev pub bits_between : ℕ → ℕ → ℕ
bits_between from to = low_bits 32 (pos to -ℤ pos from)

-- an `auipc` with the upper bits of a distance
abbrev pub with_upper : ℕ → Ins → Ins
with_upper bits (Ins.Auipc rd imm) = Ins.Auipc rd (upper bits)
with_upper bits ins = ins

-- the next instruction with the signed lower bits
abbrev pub with_lower : ℕ → Ins → Ins
with_lower bits (Ins.Addi rd rs1 imm) = Ins.Addi rd rs1 (lower bits)
with_lower bits (Ins.Jalr rd rs1 imm) = Ins.Jalr rd rs1 (lower bits)
with_lower bits ins = ins

-- code with two instructions changed, from a place on
abbrev pub with_both : ℕ → ℕ → List Ins → List Ins
with_both bits zero (first ∷ second ∷ code) = with_upper bits first ∷ with_lower bits second ∷ code
with_both bits (suc at) (ins ∷ code) = ins ∷ with_both bits at code
with_both bits at code = code

-- the address that a fix names
abbrev pub target_of : WordProgram → Fix → ℕ
target_of program fix = unwrap_or (program.address_of fix.kind fix.item) 0

-- code that begins at an address, with the addresses of fixes in it
abbrev pub with_fixes : WordProgram → ℕ → List Fix → List Ins → List Ins
with_fixes program begin [] code = code
with_fixes program begin (fix ∷ fixes) code =
    with_fixes program begin fixes
    (with_both (bits_between (begin + 4 * fix.at) (target_of program fix)) fix.at code)

-- the code of a body that begins at an address
unfoldable pub linked : WordProgram → ℕ → LirBody → List Ins
linked program begin body = with_fixes program begin (fixes_of body) (code_of body)
