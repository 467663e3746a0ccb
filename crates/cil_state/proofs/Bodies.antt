-- What small bodies do, by computing.
use Rattle.std.proofs.Common.{◌≡◌, ◌∙◌, ℕ, zero, suc, ◌+◌, List, [], ◌∷◌, Result, Ok, pos, ap, arith, refl, subst}
use Rattle.std.proofs.Common.{sym}
use Rattle.std.specs.Int.{int_wrap}
use Rattle.num_core.specs.Run.{Ended, Running, Stopped, Streams, one_more}
use Rattle.il_code.specs.Instructions.{opcode_row}
use Rattle.il_code.specs.Listing.{listed}
use Rattle.il_code.specs.Opcodes.{opcodes}
use Rattle.il_code.specs.declared.body.Body.{Body}
use Rattle.il_code.specs.declared.body.Instr.{Instr}
use Rattle.il_code.specs.declared.body.Operand.TheVariants.{Nothing, Number, Target}
use Rattle.il_code.specs.declared.opcode.Op.TheVariants.{Add, BrS, LdcI4S, LdcI4_5, LdcI4_7, Ret, Sub}
use Rattle.cil_state.specs.State.{NoStep}
use Rattle.cil_state.specs.Step.{cil_run, cil_start, cil_step}
use Rattle.cil_state.proofs.Runs.{stopped_stays}

abbrev begun : List ℕ → Streams
begun input = record { input = input; output = []; error = [] }

-- bytes have one reading
one_reading : (r : Result (List Instr) ℕ) (x y : List Instr) → r ≡ Ok x → r ≡ Ok y → x ≡ y
one_reading r x y reads reads' =
    let both : Ok x ≡ Ok y = sym reads ∙ reads' in
    cc

-- `ldc.i4.s 42; ret`
abbrev constant_code : List Instr
constant_code =
    record { at = 0; next = 2; op = LdcI4S; operand = Number (pos 42) }
    ∷ record { at = 2; next = 3; op = Ret; operand = Nothing } ∷ []

constant_reads : listed (0x1F ∷ 42 ∷ 0x2A ∷ []) ≡ Ok constant_code
unfolding opcode_row opcodes
constant_reads = refl

pub constant : (body : Body) (input : List ℕ) → listed (0x1F ∷ 42 ∷ 0x2A ∷ []) ≡ Ok body.code →
    cil_run body input 2 ≡ Ended 42 (begun input)
constant body input reads =
    subst (λ code. cil_run (record body { code = code }) input 2 ≡ Ended 42 (begun input))
    (one_reading (listed (0x1F ∷ 42 ∷ 0x2A ∷ [])) constant_code body.code constant_reads reads) refl

-- `ldc.i4.7; ldc.i4.5; sub; ret`
abbrev difference_code : List Instr
difference_code =
    record { at = 0; next = 1; op = LdcI4_7; operand = Nothing }
    ∷ record { at = 1; next = 2; op = LdcI4_5; operand = Nothing }
    ∷ record { at = 2; next = 3; op = Sub; operand = Nothing }
    ∷ record { at = 3; next = 4; op = Ret; operand = Nothing } ∷ []

difference_reads : listed (0x1D ∷ 0x1B ∷ 0x59 ∷ 0x2A ∷ []) ≡ Ok difference_code
unfolding opcode_row opcodes
difference_reads = refl

pub difference : (body : Body) (input : List ℕ) → listed (0x1D ∷ 0x1B ∷ 0x59 ∷ 0x2A ∷ []) ≡ Ok body.code →
    cil_run body input 4 ≡ Ended 2 (begun input)
unfolding int_wrap
difference body input reads =
    subst (λ code. cil_run (record body { code = code }) input 4 ≡ Ended 2 (begun input))
    (one_reading (listed (0x1D ∷ 0x1B ∷ 0x59 ∷ 0x2A ∷ [])) difference_code body.code difference_reads reads) refl

-- `br.s` to itself
abbrev round_code : List Instr
round_code = record { at = 0; next = 2; op = BrS; operand = Target 0 } ∷ []

round_reads : listed (0x2B ∷ 0xFE ∷ []) ≡ Ok round_code
unfolding opcode_row opcodes
round_reads = refl

round_step : (body : Body) (streams : Streams) → listed (0x2B ∷ 0xFE ∷ []) ≡ Ok body.code →
    cil_step body cil_start streams ≡ Running cil_start streams
round_step body streams reads =
    subst (λ code. cil_step (record body { code = code }) cil_start streams ≡ Running cil_start streams)
    (one_reading (listed (0x2B ∷ 0xFE ∷ [])) round_code body.code round_reads reads) refl

pub round : (body : Body) (input : List ℕ) (n : ℕ) → listed (0x2B ∷ 0xFE ∷ []) ≡ Ok body.code →
    cil_run body input n ≡ Running cil_start (begun input)
round body input zero reads = refl
round body input (suc n) reads =
    ap (one_more (cil_step body)) (round body input n reads) ∙ round_step body (begun input) reads

-- `add; ret`
abbrev lacking_code : List Instr
lacking_code =
    record { at = 0; next = 1; op = Add; operand = Nothing }
    ∷ record { at = 1; next = 2; op = Ret; operand = Nothing } ∷ []

lacking_reads : listed (0x58 ∷ 0x2A ∷ []) ≡ Ok lacking_code
unfolding opcode_row opcodes
lacking_reads = refl

pub lacking : (body : Body) (input : List ℕ) (n : ℕ) → listed (0x58 ∷ 0x2A ∷ []) ≡ Ok body.code →
    cil_run body input (n + 1) ≡ Stopped NoStep (begun input)
lacking body input n reads =
    stopped_stays body input 1 (n + 1) NoStep (begun input) (omega arith)
    (subst (λ code. cil_run (record body { code = code }) input 1 ≡ Stopped NoStep (begun input))
    (one_reading (listed (0x58 ∷ 0x2A ∷ [])) lacking_code body.code lacking_reads reads) refl)
