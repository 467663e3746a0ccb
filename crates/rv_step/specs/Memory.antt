-- Memory as bytes at addresses, whatever segments hold them.
use Rattle.std.specs.Prelude.{◌≡◌, ◌⊎◌, ℕ, ◌+◌, ◌-◌, ◌≤◌, Bool, ◌&&◌, if◌then◌else◌, IsTrue, List, [], ◌∷◌, length}
use Rattle.std.specs.Prelude.{slice_index, Option, Some, None}
use Rattle.std.specs.List.{list_any}
use Rattle.byteorder.specs.Endian.{little_bytes}
use Rattle.rv_step.specs.Machine.{MachineState, covers}
use Rattle.rv_step.specs.Segments.{AreSegments}
use Rattle.rv_step.specs.declared.segment.Segment.{Segment}

-- the byte at an address, where a segment has one
abbrev pub byte_in : List Segment → ℕ → Option ℕ
byte_in [] address = None
byte_in (s ∷ segments) address =
    if covers address 1 s then Some (slice_index s.bytes (address - s.at)) else byte_in segments address

-- these bytes stand at an address and at those behind it
abbrev pub Bytes : MachineState → ℕ → List ℕ → Type 0
Bytes m address [] = Unit {0}
Bytes m address (byte ∷ bytes) = (byte_in m.segments address ≡ Some byte) × Bytes m (address + 1) bytes

-- a number stands in so many bytes from an address on, the lowest first
abbrev pub Number : MachineState → ℕ → ℕ → ℕ → Type 0
Number m address count number = Bytes m address (little_bytes count number)

-- one segment that allows it holds so many addresses from this one on
abbrev pub is_allowed : (Segment → Bool) → List Segment → ℕ → ℕ → Bool
is_allowed allows segments address count = list_any (λ s. allows s && covers address count s) segments

abbrev pub MayRead : MachineState → ℕ → ℕ → Type 0
MayRead m address count = IsTrue (is_allowed (λ s. s.read) m.segments address count)

abbrev pub MayWrite : MachineState → ℕ → ℕ → Type 0
MayWrite m address count = IsTrue (is_allowed (λ s. s.write) m.segments address count)

abbrev pub MayExecute : MachineState → ℕ → ℕ → Type 0
MayExecute m address count = IsTrue (is_allowed (λ s. s.execute) m.segments address count)

-- what may be done with so many addresses from this one on is the same in both memories
pub record AllowsTheSame (old new : MachineState) (address count : ℕ) : Type 0 where
  pub read : is_allowed (λ s. s.read) new.segments address count ≡ is_allowed (λ s. s.read) old.segments address count
  pub write :
      is_allowed (λ s. s.write) new.segments address count ≡ is_allowed (λ s. s.write) old.segments address count
  pub execute :
      is_allowed (λ s. s.execute) new.segments address count ≡ is_allowed (λ s. s.execute) old.segments address count

-- none of `count` addresses from one on is one of `count'` addresses from another on
abbrev pub AreApart : ℕ → ℕ → ℕ → ℕ → Type 0
AreApart address count address' count' = (address + count ≤ address') ⊎ (address' + count' ≤ address)

-- the memory of `new` is that of `old` with these bytes from an address on, and all else in it is as before
pub record Writes (address : ℕ) (bytes : List ℕ) (old new : MachineState) : Type 0 where
  pub written : Bytes new address bytes
  pub kept : (other : ℕ) (others : List ℕ) → AreApart address (length bytes) other (length others)
      → Bytes old other others → Bytes new other others
  pub allows : (other count : ℕ) → AllowsTheSame old new other count
  pub segments : AreSegments new.segments
