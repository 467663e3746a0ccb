-- Which frames the held ones are.
use Rattle.std.proofs.Common.{◌≡◌, ◌∙◌, ℕ, zero, suc, ◌+◌, ◌-◌, ◌/◌, ◌%◌, Bool, true, false, cond}
use Rattle.std.proofs.Common.{List, [], ◌∷◌, map, Option, Some, None, refl, ap, sym, subst, ◌==◌, nat_lt}
use Rattle.std.specs.List.{AllZip}
use Rattle.std.specs.Option.{option_and_then, option_map}
use Rattle.rv_step.specs.Machine.{MachineState}
use Rattle.lir_core.specs.Layout.{AreStacked}
use Rattle.lir_core.specs.Program.{WordProgram}
use Rattle.lir_core.specs.State.{Frame}
use Rattle.lir_core.specs.Tells.{FrameTellsNoMore}
use Rattle.lir_core.specs.declared.body.LirBody.{LirBody}
use Rattle.rv_lines.specs.Frame.{return_at}
use Rattle.rv_words.specs.Placing.{Around, Placing, around_at}
use Rattle.rv_words.specs.Words.{Held, Spot, call_at, caller_of, frame_of, held_from, homes_below, operation_at}
use Rattle.rv_words.specs.Words.{spot_by}
use Rattle.rv_words.specs.Words.{stands_at, waits_at, word_at}
use Rattle.rv_words.proofs.Around.{IsFound, found_at}
use Rattle.rv_words.proofs.Owning.{IsFirst, IsLater, IsOneOf}

-- The frame at the word level that a held one is.
pub record IsHeldAs (program : WordProgram) (frame : Frame) (held : Held) : Type 0 where
  pub item : frame.item ≡ held.spot.item
  pub address : frame.address ≡ held.address
  pub body : program.body_of held.spot.item ≡ Some held.spot.body

abbrev pub HasBody : WordProgram → Option Spot → Type 0
HasBody program spot = (s : Spot) → spot ≡ Some s → program.body_of s.item ≡ Some s.body

-- the body of a spot is that of its item
spot_body : (place : LirBody → ℕ → Option ℕ) (placing : Placing) (address : ℕ)
    → HasBody placing.program (spot_by place placing address)
spot_body place placing address spot told = by (around_at placing address) refl told
  where
    make : Around → ℕ → Spot
    make around p = record { item = around.item; body = around.body; place = p }

    inside : (around : Around) → IsFound placing.program address around → (b : Bool) (o : Option ℕ)
        → cond b (option_map (make around) o) None ≡ Some spot → placing.program.body_of spot.item ≡ Some spot.body
    inside around found false o e = cc
    inside around found true None e = cc
    inside around found true (Some p) e =
        let same : make around p ≡ spot = cc in
        subst (λ s. placing.program.body_of s.item ≡ Some s.body) same found.body

    by : (o : Option Around) → around_at placing address ≡ o
        → option_and_then (λ around. cond ((address - around.begin) % 4 == 0)
        (option_map (λ p. record { item = around.item; body = around.body; place = p })
        (place around.body ((address - around.begin) / 4))) None) o ≡ Some spot
        → placing.program.body_of spot.item ≡ Some spot.body
    by None is e = cc
    by (Some around) is e =
        inside around (found_at placing address around is) ((address - around.begin) % 4 == 0)
        (place around.body ((address - around.begin) / 4)) e

pub standing_body : (placing : Placing) (address : ℕ) → HasBody placing.program (stands_at placing address)
standing_body placing address = spot_body operation_at placing address

if_body : (program : WordProgram) (b : Bool) (spot : Option Spot) → HasBody program spot
    → HasBody program (cond b spot None)
if_body program true spot has = has
if_body program false spot has = λ s e. cc

pub caller_body : (placing : Placing) (m : MachineState) (held : Held) → HasBody placing.program
    (caller_of placing m held)
caller_body placing m held =
    if_body placing.program (nat_lt (held.address + held.spot.body.frame) placing.program.stack_end)
    (waits_at placing (word_at m (held.address + return_at)))
    (spot_body call_at placing (word_at m (held.address + return_at)))

-- frames that are told are held
pub all_held : (n : ℕ) (placing : Placing) (m : MachineState) (spot : Option Spot) (address : ℕ) (homes : List ℕ)
    (frames : List Frame) → HasBody placing.program spot
    → AllZip FrameTellsNoMore frames (map (frame_of m) (held_from n placing m spot address homes))
    → AllZip (IsHeldAs placing.program) frames (held_from n placing m spot address homes)
all_held zero placing m spot address homes [] body told = tt
all_held zero placing m spot address homes (frame ∷ frames) body told = absurd told
all_held (suc n) placing m None address homes [] body told = tt
all_held (suc n) placing m None address homes (frame ∷ frames) body told = absurd told
all_held (suc n) placing m (Some spot) address homes [] body told = absurd told
all_held (suc n) placing m (Some spot) address homes (frame ∷ frames) body told =
    let held : Held = record { spot = spot; address = address; homes = homes } in
    let first : FrameTellsNoMore frame (frame_of m held) = told.0 in (
      record { item = first.item; address = first.address; body = body spot refl },
      all_held n placing m (caller_of placing m held) (address + spot.body.frame) (homes_below m held) frames
          (caller_body placing m held) told.1,
    )

-- ---- each of them is one of the frames

abbrev pub AreOnes : WordProgram → ℕ → List Frame → List Held → Type 0
AreOnes program address frames [] = Unit {0}
AreOnes program address frames (held ∷ others) =
    IsOneOf program held.address held.spot.body address frames × AreOnes program address frames others

pub later_ones : (program : WordProgram) (address : ℕ) (frame : Frame) (frames : List Frame) (first : LirBody)
    → program.body_of frame.item ≡ Some first → (others : List Held)
    → AreOnes program (address + first.frame) frames others → AreOnes program address (frame ∷ frames) others
later_ones program address frame frames first there [] ones = tt
later_ones program address frame frames first there (held ∷ others) ones =
    (IsLater address frame frames first there ones.0, later_ones program address frame frames first there others ones.1)

pub all_ones : (program : WordProgram) (address : ℕ) (frames : List Frame) (others : List Held)
    → AreStacked program address frames → AllZip (IsHeldAs program) frames others → AreOnes program address frames
    others
all_ones program address [] [] stacked held = tt
all_ones program address [] (h ∷ hs) stacked held = absurd held
all_ones program address (frame ∷ frames) [] stacked held = absurd held
all_ones program address (frame ∷ frames) (h ∷ hs) stacked held =
    let first : IsHeldAs program frame h = held.0 in
    let body : LirBody = stacked.0 in
    let there : program.body_of frame.item ≡ Some h.spot.body = ap program.body_of first.item ∙ first.body in
    let at : h.address ≡ address = sym first.address ∙ stacked.2 in (
      subst (λ a. IsOneOf program h.address h.spot.body a (frame ∷ frames)) at (IsFirst frame frames there),
      later_ones program address frame frames body stacked.1 hs
          (all_ones program (address + body.frame) frames hs stacked.3 held.1),
    )
