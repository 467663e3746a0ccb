-- How a program at the word level lies in memory.
use Rattle.std.specs.Prelude.{◌≡◌, ℕ, ◌+◌, ◌<◌, ◌≤◌, true, List, [], ◌∷◌, Some}
use Rattle.num_core.specs.declared.fix.FixKind.TheVariants.{Code}
use Rattle.lir_core.specs.Calls.{lowest}
use Rattle.lir_core.specs.Check.{clauses_are_sound, is_sound}
use Rattle.lir_core.specs.Memory.{Missing}
use Rattle.lir_core.specs.Program.{WordProgram}
use Rattle.lir_core.specs.Slots.{addresses}
use Rattle.lir_core.specs.State.{Frame}
use Rattle.lir_core.specs.declared.body.LirBody.{LirBody}

-- The image, the heap and the frames don't meet, and end below 2 ^ 64; the frames lie right behind the heap. Bodies are
-- sound, and so are their clauses. The code of an item is that of the item which is found at its address.
pub record IsLaidOut (program : WordProgram) : Type 0 where
  pub frames_behind_heap : program.heap_begin + program.heap_bound + program.stack_bound ≡ program.stack_end
  pub below : program.stack_end ≤ addresses
  pub image_apart : (place : ℕ) → program.heap_begin ≤ place → place < program.stack_end
      → program.image place ≡ Missing
  pub image_below : (place : ℕ) → addresses ≤ place → program.image place ≡ Missing
  pub sound : (item : ℕ) (body : LirBody) → program.body_of item ≡ Some body → is_sound body ≡ true
  pub sound_clauses : (item : ℕ) (body : LirBody) → program.body_of item ≡ Some body
      → clauses_are_sound body (program.clauses_of item) ≡ true
  pub found : (item address : ℕ) → program.address_of Code item ≡ Some address
      → (other : ℕ) × (program.item_at address ≡ Some other) × (program.body_of other ≡ program.body_of item)

-- the frames lie one behind the other from an address on up to their end, each with the bytes of its body
abbrev pub AreStacked : WordProgram → ℕ → List Frame → Type 0
AreStacked program address [] = address ≡ program.stack_end
AreStacked program address (frame ∷ frames) =
    (body : LirBody) × (program.body_of frame.item ≡ Some body) × (frame.address ≡ address)
    × AreStacked program (address + body.frame) frames

-- so they do from the innermost on, and take no more than they may
pub record FramesFit (program : WordProgram) (frames : List Frame) : Type 0 where
  pub stacked : AreStacked program (lowest program frames) frames
  pub within : program.stack_end ≤ lowest program frames + program.stack_bound
