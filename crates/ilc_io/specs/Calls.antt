-- The calls of a store, and the pieces that a whole file is read and written in.
use Rattle.std.specs.Prelude.{◌≡◌, ◌⊎◌, ℕ, ◌+◌, ◌-◌, ◌<◌, ◌≤◌, min, List, [], ◌∷◌, ◌++◌, Option}
use Rattle.std.specs.Option.{option_map}
use Rattle.ilc_io.specs.declared.call.Call.{Call}
use Rattle.ilc_io.specs.declared.call.Call.TheVariants.{Size, Read, Create, Append}

-- the calls, where the store notes them, after one more
abbrev pub noted : Call → Option (List Call) → Option (List Call)
noted call calls = option_map (λ before. before ++ call ∷ []) calls

-- a refused call may be noted or not
abbrev pub MayNote : Call → Option (List Call) → Option (List Call) → Type 0
MayNote call old new = (new ≡ old) ⊎ (new ≡ noted call old)

-- Calls that go through `size` things from the one at `at` on. Each asks for the next `most`, or for all that
-- are left where they are fewer, and is given `count` of them. A call that is given none is the last.
abbrev pub ArePieces : (ℕ → ℕ → Call) → ℕ → ℕ → ℕ → List Call → Type 0
ArePieces ask most size at [] = Unit {0}
ArePieces ask most size at (call ∷ calls) =
    (at < size) × (call ≡ ask at (min most (size - at)))
    × ((count : ℕ) × (count ≤ min most (size - at)) × (count ≡ 0 → calls ≡ [])
    × ArePieces ask most size (at + count) calls)

-- the calls from `old` to `new` go through `size` things from the first on
abbrev pub AreMade : (ℕ → ℕ → Call) → ℕ → ℕ → Option (List Call) → Option (List Call) → Type 0
AreMade ask most size old new =
    (made : List Call) × (new ≡ option_map (λ before. before ++ made) old) × ArePieces ask most size 0 made

-- one call of `size`, and then reads of at most 65,536 bytes each
abbrev pub ReadsInPieces : ℕ → Option (List Call) → Option (List Call) → Type 0
ReadsInPieces size old new = AreMade Read 65536 size (noted Size old) new

-- one call of `create`, and then appends of at most 4,096 bytes each
abbrev pub WritesInPieces : ℕ → Option (List Call) → Option (List Call) → Type 0
WritesInPieces size old new = AreMade (λ _ len. Append len) 4096 size (noted Create old) new
