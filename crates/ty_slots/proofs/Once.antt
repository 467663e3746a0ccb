-- Of a list that keeps the first of each slot no two are the same.
use Rattle.std.proofs.Common.{◌≡◌, Bool, true, false, not, List, [], ◌∷◌, Result, Ok, Err, refl, subst}
use Rattle.std.specs.Prelude.{cond, filter}
use Rattle.ty_load.specs.declared.fault.ResolveFault.{ResolveFault}
use Rattle.ty_terms.specs.declared.names.Slot.{Slot}
use Rattle.ty_load.specs.Tokens.{and_then}
use Rattle.ty_slots.specs.Slots.{AreOthers, IsOther, each_once, same_slot}

other_if : (slot other : Slot) (passes : Bool) (tail : List Slot) → same_slot slot other ≡ false → IsOther slot tail
    → IsOther slot (cond passes (other ∷ tail) tail)
other_if slot other true tail h t = (h, t)
other_if slot other false tail h t = t

-- a part of others are others
kept_others : (slot : Slot) (test : Slot → Bool) (slots : List Slot) → IsOther slot slots
    → IsOther slot (filter test slots)
kept_others slot test [] h = tt
kept_others slot test (other ∷ rest) h =
    other_if slot other (test other) (filter test rest) h.0 (kept_others slot test rest h.1)

others_if : (slot : Slot) (passes : Bool) (tail : List Slot) → IsOther slot tail → AreOthers tail
    → AreOthers (cond passes (slot ∷ tail) tail)
others_if slot true tail h t = (h, t)
others_if slot false tail h t = t

kept : (test : Slot → Bool) (slots : List Slot) → AreOthers slots → AreOthers (filter test slots)
kept test [] h = tt
kept test (slot ∷ rest) h =
    others_if slot (test slot) (filter test rest) (kept_others slot test rest h.0) (kept test rest h.1)

dropped_if : (slot other : Slot) (same : Bool) (tail : List Slot) → same_slot slot other ≡ same → IsOther slot tail
    → IsOther slot (cond (not same) (other ∷ tail) tail)
dropped_if slot other true tail is t = t
dropped_if slot other false tail is t = (is, t)

-- what passes isn't the slot
filtered : (slot : Slot) (slots : List Slot) → IsOther slot (filter (λ other. not (same_slot slot other)) slots)
filtered slot [] = tt
filtered slot (other ∷ rest) =
    dropped_if slot other (same_slot slot other) (filter (λ found. not (same_slot slot found)) rest) refl
    (filtered slot rest)

once : (slots : List Slot) → AreOthers (each_once slots)
once [] = tt
once (slot ∷ rest) =
    (filtered slot (each_once rest), kept (λ other. not (same_slot slot other)) (each_once rest) (once rest))

pub of_walk : (told : Result (List Slot) ResolveFault) (slots : List Slot)
    → and_then told (λ found. Ok (each_once found)) ≡ Ok slots → AreOthers slots
of_walk (Err fault) slots is = absurd (let h : Err fault ≡ Ok slots = is in cc)
of_walk (Ok found) slots is = subst AreOthers (let h : Ok (each_once found) ≡ Ok slots = is in cc) (once found)
