-- What single instructions do.
use Rattle.std.proofs.Common.{◌≡◌, ◌∙◌, ℕ, List, Some, None, Result, Ok, Err, sym, ap, subst, slice_index, arith}
use Rattle.std.specs.Option.{option_map}
use Rattle.byteorder.specs.Endian.{little_number, little_bytes}
use Rattle.num_core.specs.Run.{Running}
use Rattle.rv_isa.specs.declared.ins.Ins.{Ins}
use Rattle.rv_step.specs.Machine.{MachineState, effect, gives, gives_loaded, loads, stores, goes_on_with, bytes_at}
use Rattle.rv_step.specs.Machine.{with_bytes_at, next_pc}
use Rattle.rv_step.specs.Steps.{Does}
use Rattle.rv_step.specs.declared.trap.Cause.{Cause}
use Rattle.rv_step.specs.declared.trap.Cause.TheVariants.{Store}

-- the instruction under another name
pub same_instruction : (ins ins' : Ins) (m new : MachineState) (result : Result Unit Cause) → ins ≡ ins'
    → Does (effect ins' m) result m new → Does (effect ins m) result m new
same_instruction ins ins' m new result same does = subst (λ i. Does (effect i m) result m new) (sym same) does

-- ---- loads and stores

pub load_done : (m new : MachineState) (rd count at value_now : ℕ) (value : ℕ → ℕ) (bytes : List ℕ)
    (result : Result Unit Cause) → Some bytes ≡ bytes_at (λ s. s.read) at count m.segments
    → value_now ≡ value (little_number count bytes) → Does (gives m rd value_now) result m new
    → Does (loads m rd count at value) result m new
load_done m new rd count at value_now value bytes result read is does =
    let found : Some value_now ≡ option_map (λ bytes. value (little_number count bytes))
    (bytes_at (λ s. s.read) at count m.segments) =
    ap Some is ∙ ap (option_map (λ bytes. value (little_number count bytes))) read in
    subst (λ o. Does (gives_loaded m rd o) result m new) found does

pub first_byte : (bytes : List ℕ) → slice_index bytes 0 ≡ little_number 1 bytes
first_byte bytes = omega arith

pub store_done : (m mid new : MachineState) (count at value : ℕ) (bytes : List ℕ)
    → with_bytes_at (λ s. s.write) at bytes m.segments ≡ Some mid.segments → bytes ≡ little_bytes count value
    → mid.pc ≡ m.pc → mid.registers ≡ m.registers → new ≡ record mid { pc = next_pc mid }
    → Does (stores m count at value) (Ok tt) m new
store_done m mid new count at value bytes written are pc registers on =
    let whole : with_bytes_at (λ s. s.write) at (little_bytes count value) m.segments ≡ Some mid.segments =
    ap (λ b. with_bytes_at (λ s. s.write) at b m.segments) (sym are) ∙ written in
    let behind : record { pc = next_pc m; registers = m.registers; segments = mid.segments } ≡ new = cc in
    record {
      done = λ streams. ap (λ o. goes_on_with m o streams) whole ∙ ap (λ machine. Running machine streams) behind;
      refused = tt;
      same = tt;
    }

pub store_refused : (m new : MachineState) (count at value : ℕ) (bytes : List ℕ)
    → with_bytes_at (λ s. s.write) at bytes m.segments ≡ None → bytes ≡ little_bytes count value → new ≡ m
    → Does (stores m count at value) (Err Store) m new
store_refused m new count at value bytes none are same =
    let whole : with_bytes_at (λ s. s.write) at (little_bytes count value) m.segments ≡ None =
    ap (λ b. with_bytes_at (λ s. s.write) at b m.segments) (sym are) ∙ none in
    record { done = tt; refused = λ streams. ap (λ o. goes_on_with m o streams) whole; same = same }
