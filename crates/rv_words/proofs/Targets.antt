-- The labels of operations of sound bodies.
use Rattle.std.proofs.Common.{◌≡◌, ℕ, zero, suc, ◌<◌, ◌≤◌, Bool, true, ◌&&◌, List, [], ◌∷◌, length}
use Rattle.std.proofs.Common.{Some, arith, refl, nat_lt, nat_le}
use Rattle.std.specs.Prelude.{slice_get}
use Rattle.std.specs.List.{list_all}
use Rattle.std.proofs.lemmas.Bool.Decides.{nat_tests}
use Rattle.lir_core.specs.Check.{can_be_addressed, fits, has_short_numbers, is_sound, is_sound_op}
use Rattle.lir_core.specs.Frame.{most_passed}
use Rattle.lir_core.specs.Pieces.{addressed, labels, passed, touched}
use Rattle.lir_core.specs.declared.body.LirBody.{LirBody}
use Rattle.lir_core.specs.declared.op.LirOp.{LirOp}
use Rattle.lir_core.proofs.Sound.{first_of, operation_at, second_of}
use Rattle.rv_gen.specs.Lines.{lines_of}
use Rattle.rv_gen.specs.Placing.{code_of, place_in, places_in}
use Rattle.rv_words.specs.Words.{stops_of}
use Rattle.rv_words.proofs.LinkedCode.{Parts, parts}
use Rattle.rv_words.proofs.Places.{begin_of, begin_within, stop_above, stop_at, stops_rise}
use Rattle.rv_words.proofs.Plain.{of_enters, of_operation}

-- an operation begins at the label
pub record Target (body : LirBody) (label : ℕ) : Type 0 where
  pub to : ℕ
  pub is : place_in (places_in (lines_of body)) label ≡ to
  pub stop : slice_get (stops_of body) label ≡ Some to
  pub some : 0 < to
  pub within : to ≤ length (code_of body)

there_at : (ops : List LirOp) (n : ℕ) → n < length ops → (op : LirOp) × (slice_get ops n ≡ Some op)
there_at [] n h = absurd (omega (arith, h))
there_at (op ∷ ops) zero h = (op, refl)
there_at (op ∷ ops) (suc n) h = there_at ops n (omega (arith, h))

is_below : (a b : ℕ) → nat_lt a b ≡ true → a < b
is_below a b t = grind (arith, nat_tests)

pub target : (body : LirBody) (label : ℕ) → label < length body.ops → Target body label
target body label h =
    let found = there_at body.ops label h in
    let op : LirOp = found.0 in
    let p : Parts body label (lines_of body) op =
    parts body (λ o. (of_operation body o).none) (of_enters body).none label op found.1 in
    let stop = stop_at body label op (of_operation body op) p in
    record {
      to = begin_of body label op p;
      is = stop.1;
      stop = stop.0;
      some = stop_above body label (begin_of body label op p) (stops_rise body (of_operation body)
          (of_enters body)) stop.0;
      within = begin_within body label op p;
    }

-- what a sound operation says of its labels
pub labels_within : (body : LirBody) (place : ℕ) (op : LirOp) → is_sound body ≡ true
    → slice_get body.ops place ≡ Some op → list_all (λ label. nat_lt label (length body.ops)) (labels op) ≡ true
labels_within body place op sound there =
    let all : is_sound_op body op ≡ true = operation_at body place op sound there in
    let a : Bool = list_all (fits body) (touched op) in
    let b : Bool = list_all (can_be_addressed body) (addressed op) in
    let c : Bool = list_all (λ label. nat_lt label (length body.ops)) (labels op) in
    let d : Bool = nat_le (length (passed op)) most_passed in
    let e : Bool = has_short_numbers op in
    second_of (a && b) c (first_of ((a && b) && c) d (first_of (((a && b) && c) && d) e all))

-- the first of them
pub first_label : (body : LirBody) (label : ℕ) (others : List ℕ)
    → list_all (λ l. nat_lt l (length body.ops)) (label ∷ others) ≡ true → Target body label
first_label body label others all =
    target body label
    (is_below label (length body.ops)
    (first_of (nat_lt label (length body.ops)) (list_all (λ l. nat_lt l (length body.ops)) others) all))
