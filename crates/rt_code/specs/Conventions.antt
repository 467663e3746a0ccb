-- What programs and the routines of the runtime keep in registers, and where a routine may write.
use Rattle.std.specs.Prelude.{◌≡◌, ℕ, ◌+◌, ◌-◌, ◌*◌, ◌<◌, ◌≤◌, ◌^◌, List, [], ◌∷◌, length, map, replicate, All}
use Rattle.rv_step.specs.Machine.{MachineState, register}
use Rattle.rv_step.specs.Memory.{AreApart, Bytes, MayRead, MayWrite, Writes}
use Rattle.lir_core.specs.Frame.{fixed_bytes, scratch_slots}

-- x1 has the address at which a call goes on behind it
abbrev pub return_address : ℕ
return_address = 1

-- x2 has the address of the innermost frame, or the end of the stack
abbrev pub frame_address : ℕ
frame_address = 2

-- x3 has the address of the root
abbrev pub root_address : ℕ
root_address = 3

-- x10 to x17 have the words that a routine takes, in order, and x10 the one that a routine or a body gives. A body that
-- gives no word gives 0.
abbrev pub passed_word : ℕ
passed_word = 10

-- x26 has the lowest address that a frame may have
abbrev pub lowest_address : ℕ
lowest_address = 26

-- x27 has the address behind what is used of the heap
abbrev pub heap_end : ℕ
heap_end = 27

-- What isn't used of the heap is 0: all bytes from its end on up to the frames.
pub record HasClearHeap (m : MachineState) : Type 0 where
  pub order : register m heap_end ≤ register m lowest_address
  pub zeros : Bytes m (register m heap_end) (replicate (register m lowest_address - register m heap_end) 0)

-- how far behind the begin of a frame the first argument lies: behind the fixed bytes and the scratch slots
abbrev pub first_argument : ℕ
first_argument = fixed_bytes + 8 * scratch_slots

-- what routines keep: these, and x4, x8, x9 and x18 to x25
abbrev pub kept_registers : List ℕ
kept_registers = 1 ∷ 2 ∷ 3 ∷ 4 ∷ 8 ∷ 9 ∷ 18 ∷ 19 ∷ 20 ∷ 21 ∷ 22 ∷ 23 ∷ 24 ∷ 25 ∷ 26 ∷ 27 ∷ []

-- A routine writes only to the last of the fixed bytes of the innermost frame; behind the end of the stack there are
-- as many for it.
abbrev pub scratch_at : ℕ
scratch_at = 96

abbrev pub scratch_bytes : ℕ
scratch_bytes = 32

abbrev pub scratch : MachineState → ℕ
scratch m = register m frame_address + scratch_at

-- The scratch bytes of a frame at an address may be read and written, and code of so many instructions lies elsewhere.
pub record HasScratch (frame address count : ℕ) (m : MachineState) : Type 0 where
  pub fits : frame + scratch_at + scratch_bytes ≤ 2 ^ 64
  pub read : MayRead m (frame + scratch_at) scratch_bytes
  pub write : MayWrite m (frame + scratch_at) scratch_bytes
  pub apart : AreApart (frame + scratch_at) scratch_bytes address (4 * count)

-- the registers that routines keep are as before
abbrev pub KeepsRegisters : MachineState → MachineState → Type 0
KeepsRegisters m new = map (register new) kept_registers ≡ map (register m) kept_registers

-- The memory of `new` is that of `old` but for some of the bytes that a routine may write, from the first of them on.
pub record KeepsMemory (old new : MachineState) : Type 0 where
  pub bytes : List ℕ
  pub few : length bytes ≤ scratch_bytes
  pub small : All (λ byte. byte < 256) bytes
  pub writes : Writes (scratch old) bytes old new
