-- Where the segments of a machine lie.
use Rattle.std.specs.Prelude.{ℕ, ◌+◌, ◌-◌, ◌^◌, ◌<◌, ◌≤◌, Bool, ◌&&◌, List, length, take, drop, All, AllPairs}
use Rattle.rv_step.specs.Machine.{covers, overwritten}
use Rattle.rv_step.specs.declared.segment.Segment.{Segment}
use Rattle.rv_step.specs.declared.segment.Access.{Access}
use Rattle.rv_step.specs.declared.segment.Access.TheVariants.{Read, Write, Execute}

-- the address is that of a byte of the segment
abbrev pub Holds : ℕ → Segment → Type 0
Holds address s = (s.at ≤ address) × (address < s.at + length s.bytes)

-- no address is in both
abbrev pub AreDisjoint : Segment → Segment → Type 0
AreDisjoint s t = (address : ℕ) → Holds address s → Holds address t → ⊥

-- its addresses don't wrap
abbrev pub DoesNotWrap : Segment → Type 0
DoesNotWrap s = s.at + length s.bytes ≤ 2 ^ 64

-- each address is in at most one segment, and no segment passes the last address
pub record AreSegments (segments : List Segment) : Type 0 where
  pub disjoint : AllPairs AreDisjoint segments
  pub within : All DoesNotWrap segments

-- the segment allows the access
abbrev pub grants : Access → Segment → Bool
grants Read s = s.read
grants Write s = s.write
grants Execute s = s.execute

-- and holds so many bytes from the address on
abbrev pub serves : Access → ℕ → ℕ → Segment → Bool
serves access address count s = grants access s && covers address count s

-- its bytes at so many addresses
abbrev pub part : ℕ → ℕ → Segment → List ℕ
part address count s = take count (drop (address - s.at) s.bytes)

-- the segment with these bytes written from an address on
abbrev pub patched : ℕ → List ℕ → Segment → Segment
patched address bytes s = record s { bytes = overwritten (address - s.at) bytes s.bytes }
