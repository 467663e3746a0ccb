-- Where the program has nothing of its own: in the fixed words of frames, and at the address of a variable.
use Rattle.std.proofs.Common.{◌≡◌, ◌∙◌, ◌⊎◌, inl, inr, ℕ, ◌+◌, ◌-◌, ◌<◌, ◌≤◌, Bool, true, false, not}
use Rattle.std.proofs.Common.{cond, ◌&&◌, ◌||◌, List, [], ◌∷◌, Some, arith, refl, ap, sym, subst}
use Rattle.std.proofs.Common.{nat_lt, nat_le}
use Rattle.std.specs.List.{list_any}
use Rattle.std.proofs.lemmas.Bool.Decides.{nat_tests}
use Rattle.lir_core.specs.Frame.{fixed_bytes}
use Rattle.lir_core.specs.Layout.{AreStacked}
use Rattle.lir_core.specs.Program.{WordProgram}
use Rattle.lir_core.specs.Slots.{addresses, is_of_frame, is_of_slots, is_variable, slot_at}
use Rattle.lir_core.specs.State.{Frame}
use Rattle.lir_core.specs.declared.body.LirBody.{LirBody}
use Rattle.rv_lines.specs.Frame.{slot_place}
use Rattle.rv_words.specs.Stands.{is_of, is_of_body}

lt_true : (x y : ℕ) → x < y → nat_lt x y ≡ true
lt_true x y h = grind (arith, nat_tests)

lt_false : (x y : ℕ) → y ≤ x → nat_lt x y ≡ false
lt_false x y h = grind (arith, nat_tests)

le_false : (x y : ℕ) → y < x → nat_le x y ≡ false
le_false x y h = grind (arith, nat_tests)

and_false : (b : Bool) → (b && false) ≡ false
and_false true = refl
and_false false = refl

-- a place below all addresses isn't a frame's where it isn't among its slots
not_of : (body : LirBody) (address x : ℕ) → x < addresses
    → (x < address + fixed_bytes) ⊎ (address + body.frame ≤ x) → is_of_frame body address x ≡ false
not_of body address x low apart =
    ap (λ b. cond b (is_of_slots body address x && not (is_variable body (slot_at address x)))
    (is_of_slots body address (x - addresses) && is_variable body (slot_at address (x - addresses))))
    (lt_true x addresses low)
    ∙ ap (λ t. t && not (is_variable body (slot_at address x))) (slots apart)
  where
    slots : (x < address + fixed_bytes) ⊎ (address + body.frame ≤ x) → is_of_slots body address x ≡ false
    slots (inl below) = ap (λ t. t && nat_lt x (address + body.frame)) (le_false (address + fixed_bytes) x below)
    slots (inr above) =
        ap (λ t. nat_le (address + fixed_bytes) x && t) (lt_false x (address + body.frame) above)
        ∙ and_false (nat_le (address + fixed_bytes) x)

-- nor where it is that of a variable
not_of_variable : (body : LirBody) (address x : ℕ) → x < addresses → is_variable body (slot_at address x) ≡ true
    → is_of_frame body address x ≡ false
not_of_variable body address x low variable =
    ap (λ b. cond b (is_of_slots body address x && not (is_variable body (slot_at address x)))
    (is_of_slots body address (x - addresses) && is_variable body (slot_at address (x - addresses))))
    (lt_true x addresses low)
    ∙ ap (λ t. is_of_slots body address x && not t) variable ∙ and_false (is_of_slots body address x)

-- the first of some frames, by its body
first_is : (program : WordProgram) (x : ℕ) (frame : Frame) (body : LirBody) (address : ℕ)
    → program.body_of frame.item ≡ Some body → frame.address ≡ address
    → is_of_frame body address x ≡ false → is_of program x frame ≡ false
first_is program x frame body address there at none =
    ap (λ o. is_of_body o frame.address x) there ∙ ap (λ a. is_of_frame body a x) at ∙ none

both_false : (a b : Bool) → a ≡ false → b ≡ false → (a || b) ≡ false
both_false a b e f = ap (λ t. t || b) e ∙ f

-- no frame has a place below all of them
pub none_below : (program : WordProgram) (address : ℕ) (frames : List Frame) (x : ℕ)
    → AreStacked program address frames → x < address → x < addresses → list_any (is_of program x) frames ≡ false
none_below program address [] x stacked less low = refl
none_below program address (frame ∷ frames) x stacked less low =
    let body : LirBody = stacked.0 in
    both_false (is_of program x frame) (list_any (is_of program x) frames)
    (first_is program x frame body address stacked.1 stacked.2 (not_of body address x low (inl (omega (arith, less)))))
    (none_below program (address + body.frame) frames x stacked.3 (omega (arith, less)) low)

-- One of some frames that lie one behind the other.
pub data IsOneOf (program : WordProgram) (at : ℕ) (body : LirBody) : ℕ → List Frame → Type 0 where
  IsFirst : (frame : Frame) (frames : List Frame) → program.body_of frame.item ≡ Some body
      → IsOneOf program at body at (frame ∷ frames)
  IsLater : (address : ℕ) (frame : Frame) (frames : List Frame) (first : LirBody)
      → program.body_of frame.item ≡ Some first → IsOneOf program at body (address + first.frame) frames
      → IsOneOf program at body address (frame ∷ frames)

pub some_body : (a b : LirBody) → Some a ≡ Some b → a ≡ b
some_body a b e = cc

-- it lies at or above the first
pub at_least : (program : WordProgram) (at : ℕ) (body : LirBody) (address : ℕ) (frames : List Frame)
    → IsOneOf program at body address frames → address ≤ at
at_least program at body _ _ (IsFirst frame frames there) = omega arith
at_least program at body _ _ (IsLater address frame frames first there rest) =
    let more : address + first.frame ≤ at = at_least program at body (address + first.frame) frames rest in
    omega (arith, more)

-- So no frame has a place among its fixed bytes, nor that of a variable of it. `other` says that its own frame hasn't.
pub none_of : (program : WordProgram) (at : ℕ) (body : LirBody) (address : ℕ) (frames : List Frame) (x : ℕ)
    → IsOneOf program at body address frames → AreStacked program address frames → at ≤ x → x < at + body.frame
    → x < addresses → is_of_frame body at x ≡ false → list_any (is_of program x) frames ≡ false
none_of program at body _ _ x (IsFirst frame frames there) stacked above below low other =
    let same : body ≡ stacked.0 = some_body body stacked.0 (sym there ∙ stacked.1) in
    let rest : AreStacked program (at + body.frame) frames =
    subst (λ b. AreStacked program (at + b.frame) frames) (sym same) stacked.3 in
    both_false (is_of program x frame) (list_any (is_of program x) frames)
    (first_is program x frame body at there stacked.2 other)
    (none_below program (at + body.frame) frames x rest below low)
none_of program at body _ _ x (IsLater address frame frames first there one) stacked above below low other =
    let same : first ≡ stacked.0 = some_body first stacked.0 (sym there ∙ stacked.1) in
    let rest : AreStacked program (address + first.frame) frames =
    subst (λ b. AreStacked program (address + b.frame) frames) (sym same) stacked.3 in
    let behind : address + first.frame ≤ at = at_least program at body (address + first.frame) frames one in
    both_false (is_of program x frame) (list_any (is_of program x) frames)
    (first_is program x frame first address there stacked.2 (not_of first address x low (inr (omega
    (arith, behind, above)))))
    (none_of program at body (address + first.frame) frames x one rest above below low other)

-- the two cases
pub fixed_other : (body : LirBody) (at x : ℕ) → x < at + fixed_bytes → x < addresses → is_of_frame body at x ≡ false
fixed_other body at x h low = not_of body at x low (inl h)

pub variable_other : (body : LirBody) (at slot x : ℕ) → is_variable body slot ≡ true → at + slot_place slot ≤ x
    → x < at + slot_place slot + 8 → x < addresses → is_of_frame body at x ≡ false
variable_other body at slot x variable low high below =
    let same : slot_at at x ≡ slot = omega (arith, low, high) in
    not_of_variable body at x below (ap (is_variable body) same ∙ variable)
