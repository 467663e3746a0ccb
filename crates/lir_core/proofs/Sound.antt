-- What a test of all operations says of the one at a place, and where the slots of a frame lie.
use Rattle.std.proofs.Common.{◌≡◌, ◌≢◌, ℕ, zero, suc, ◌+◌, ◌*◌, ◌/◌, ◌<◌, ◌≤◌, ◌⊎◌, inl, inr, Bool, true, false}
use Rattle.std.proofs.Common.{◌&&◌, cond, nat_le, nat_lt, length, List, [], ◌∷◌, Some, None, refl, subst, arith}
use Rattle.std.specs.Prelude.{slice_get}
use Rattle.std.specs.List.{list_all}
use Rattle.std.proofs.lemmas.Bool.{cases_order, leb-true}
use Rattle.lir_core.specs.Check.{can_be_addressed, fits, has_short_numbers, is_sound, is_sound_op, lies_in_frame}
use Rattle.lir_core.specs.Check.{marks_are_places, ops_are_sound}
use Rattle.lir_core.specs.Check.{vars_are_slots}
use Rattle.lir_core.specs.Frame.{most_passed}
use Rattle.lir_core.specs.Pieces.{addressed, labels, passed, touched, word}
use Rattle.lir_core.specs.Slots.{addresses, is_variable, place_in_frame}
use Rattle.lir_core.specs.declared.body.LirBody.{LirBody}
use Rattle.lir_core.specs.declared.op.LirOp.{LirOp}

pub first_of : (a b : Bool) → (a && b) ≡ true → a ≡ true
first_of true b both = refl
first_of false b both = both

pub second_of : (a b : Bool) → (a && b) ≡ true → b ≡ true
second_of true b both = both
second_of false b both = cc

at_place : {X : Type 0} (p : X → Bool) (xs : List X) (i : ℕ) (x : X)
    → list_all p xs ≡ true → slice_get xs i ≡ Some x → p x ≡ true
at_place p [] i x all found = cc
at_place p (y ∷ ys) zero x all found =
    let same : y ≡ x = cc in
    subst (λ z. p z ≡ true) same (first_of (p y) (list_all p ys) all)
at_place p (y ∷ ys) (suc i) x all found = at_place p ys i x (second_of (p y) (list_all p ys) all) found

pub operation_at : (body : LirBody) (place : ℕ) (op : LirOp)
    → is_sound body ≡ true → slice_get body.ops place ≡ Some op → is_sound_op body op ≡ true
operation_at body place op sound found =
    let upper = first_of (ops_are_sound body && marks_are_places body) (vars_are_slots body) sound in
    at_place (is_sound_op body) body.ops place op (first_of (ops_are_sound body) (marks_are_places body) upper) found

pub short_at : (body : LirBody) (place : ℕ) (op : LirOp)
    → is_sound body ≡ true → slice_get body.ops place ≡ Some op → has_short_numbers op ≡ true
short_at body place op sound found =
    second_of
    (list_all (fits body) (touched op) && list_all (can_be_addressed body) (addressed op)
    && list_all (λ label. nat_lt label (length body.ops)) (labels op) && nat_le (length (passed op)) most_passed)
    (has_short_numbers op) (operation_at body place op sound found)

-- a place that is given under two tests: the first holds, and the second says which of two it is
placed : (lies beyond : Bool) (n p : ℕ)
    → cond lies (Some (cond beyond (addresses + n) n)) None ≡ Some p
    → (lies ≡ true) × ((p ≡ addresses + n) ⊎ (p ≡ n))
placed true true n p is = (refl, inl cc)
placed true false n p is = (refl, inr cc)
placed false beyond n p is = cc

-- two different words of one area lie apart
in_order : (a b p q begin : ℕ) → (a ≡ b) ⊎ ((a < b) ⊎ (b < a)) → a ≢ b → p ≡ begin + 8 * a → q ≡ begin + 8 * b
    → (p + 8 ≤ q) ⊎ (q + 8 ≤ p)
in_order a b p q begin (inl same) differ first second = absurd (differ same)
in_order a b p q begin (inr (inl lower)) differ first second = inl (omega arith)
in_order a b p q begin (inr (inr higher)) differ first second = inr (omega arith)

-- two words of a frame below all addresses, each of which may lie beyond
apart : (address frame a b p q : ℕ) → address + frame ≤ addresses → a ≢ b
    → 128 + 8 * a + 8 ≤ frame → 128 + 8 * b + 8 ≤ frame
    → (p ≡ addresses + (address + 128 + 8 * a)) ⊎ (p ≡ address + 128 + 8 * a)
    → (q ≡ addresses + (address + 128 + 8 * b)) ⊎ (q ≡ address + 128 + 8 * b)
    → (p + 8 ≤ q) ⊎ (q + 8 ≤ p)
apart address frame a b p q low differ ends ends' (inl x) (inl y) =
    in_order a b p q (addresses + address + 128) (cases_order a b) differ (omega arith) (omega arith)
apart address frame a b p q low differ ends ends' (inr x) (inr y) =
    in_order a b p q (address + 128) (cases_order a b) differ (omega arith) (omega arith)
apart address frame a b p q low differ ends ends' (inl x) (inr y) = inr (omega arith)
apart address frame a b p q low differ ends ends' (inr x) (inl y) = inl (omega arith)

-- the words of two slots lie apart
pub slots_apart : (body : LirBody) (address a b p q : ℕ) → address + body.frame ≤ addresses → a ≢ b
    → place_in_frame body address (word a) ≡ Some p → place_in_frame body address (word b) ≡ Some q
    → (p + 8 ≤ q) ⊎ (q + 8 ≤ p)
slots_apart body address a b p q low differ first second =
    let one = placed (lies_in_frame body.frame (word a)) (is_variable body (8 * a / 8)) (address + 128 + 8 * a) p
    first in
    let other = placed (lies_in_frame body.frame (word b)) (is_variable body (8 * b / 8)) (address + 128 + 8 * b) q
    second in
    let ends : 128 + 8 * a + 8 ≤ body.frame = leb-true (128 + 8 * a + 8) body.frame one.0 in
    let ends' : 128 + 8 * b + 8 ≤ body.frame = leb-true (128 + 8 * b + 8) body.frame other.0 in
    apart address body.frame a b p q low differ ends ends' one.1 other.1
