-- Fields laid one behind another: places rise, and each is aligned.
use Rattle.std.proofs.Common.{◌≡◌, ℕ, zero, suc, ◌+◌, ◌%◌, ◌<◌, ◌≤◌, max, arith, refl, List, [], ◌∷◌, ◌++◌}
use Rattle.std.proofs.Common.{length, drop, drop-cons, get_or, slice_get, Some, subst, ap, ◌∙◌}
use Rattle.std.specs.List.{flat_map}
use Rattle.std.specs.Int.{next_multiple_of}
use Rattle.ty_layout.specs.declared.field.Field.{Field}
use Rattle.ty_layout.specs.declared.field.Alignment.TheVariants.{One, Eight}
use Rattle.ty_layout.specs.declared.laid.Laid.{Laid}
use Rattle.ty_layout.specs.Fields.{bytes_of, place_of, places, end_of, alignment_of, AreLaid}
use Rattle.ty_layout.specs.Objects.{object, value_type, parts_places, parts_end}
use Rattle.ty_layout.proofs.Rounding.{reaches, is_multiple}

pub end_reaches : (at : ℕ) (fields : List Field) → at ≤ end_of at fields
end_reaches at [] = omega arith
end_reaches at (field ∷ rest) =
    let r = reaches at field.alignment in
    let e = end_reaches (place_of at field + field.size) rest in
    omega arith

pub parts_reach : (at : ℕ) (parts : List (List Field)) → at ≤ parts_end at parts
parts_reach at [] = omega arith
parts_reach at (part ∷ rest) =
    let e = end_reaches at part in
    let r = reaches (end_of at part) Eight in
    let s = parts_reach (next_multiple_of (end_of at part) 8) rest in
    omega arith

-- each field at a place behind the one before it, the first behind a place, the last in front of an end
abbrev Chain : ℕ → List Field → List ℕ → ℕ → Type 0
Chain at [] [] end = at ≤ end
Chain at [] (p ∷ ps) end = ⊥
Chain at (f ∷ fs) [] end = ⊥
Chain at (f ∷ fs) (p ∷ ps) end = (at ≤ p) × (p % bytes_of f.alignment ≡ 0) × Chain (p + f.size) fs ps end

places_chain : (at : ℕ) (fields : List Field) → Chain at fields (places at fields) (end_of at fields)
places_chain at [] = omega arith
places_chain at (f ∷ fs) =
    (reaches at f.alignment, is_multiple at f.alignment, places_chain (place_of at f + f.size) fs)

lower : (at at' : ℕ) (fs : List Field) (ps : List ℕ) (end : ℕ) → at ≤ at' → Chain at' fs ps end → Chain at fs ps end
lower at at' [] [] end h c = omega arith
lower at at' [] (p ∷ ps) end h c = absurd c
lower at at' (f ∷ fs) [] end h c = absurd c
lower at at' (f ∷ fs) (p ∷ ps) end h c = (omega (arith, c.0), c.1, c.2)

higher : (at : ℕ) (fs : List Field) (ps : List ℕ) (end end' : ℕ) → end ≤ end' → Chain at fs ps end → Chain at fs ps end'
higher at [] [] end end' h c = omega arith
higher at [] (p ∷ ps) end end' h c = absurd c
higher at (f ∷ fs) [] end end' h c = absurd c
higher at (f ∷ fs) (p ∷ ps) end end' h c = (c.0, c.1, higher (p + f.size) fs ps end end' h c.2)

joined : (at mid end : ℕ) (fs gs : List Field) (ps qs : List ℕ) → Chain at fs ps mid → Chain mid gs qs end
    → Chain at (fs ++ gs) (ps ++ qs) end
joined at mid end [] gs [] qs c d = lower at mid gs qs end c d
joined at mid end [] gs (p ∷ ps) qs c d = absurd c
joined at mid end (f ∷ fs) gs [] qs c d = absurd c
joined at mid end (f ∷ fs) gs (p ∷ ps) qs c d = (c.0, c.1, joined (p + f.size) mid end fs gs ps qs c.2 d)

parts_chain : (at : ℕ) (parts : List (List Field))
    → Chain at (flat_map (λ part. part) parts) (parts_places at parts) (parts_end at parts)
parts_chain at [] = omega arith
parts_chain at (part ∷ rest) =
    let behind = next_multiple_of (end_of at part) 8 in
    joined at behind (parts_end behind rest) part (flat_map (λ part. part) rest) (places at part)
    (parts_places behind rest)
    (higher at part (places at part) (end_of at part) behind (reaches (end_of at part) Eight) (places_chain at part))
    (parts_chain behind rest)

-- ---- what a chain says of each field

count_is : (at : ℕ) (fs : List Field) (ps : List ℕ) (end : ℕ) → Chain at fs ps end → length ps ≡ length fs
count_is at [] [] end c = refl
count_is at [] (p ∷ ps) end c = absurd c
count_is at (f ∷ fs) [] end c = absurd c
count_is at (f ∷ fs) (p ∷ ps) end c = ap suc (count_is (p + f.size) fs ps end c.2)

record At (low : ℕ) (f : Field) (p high : ℕ) : Type 0 where
  behind : low ≤ p
  aligned : p % bytes_of f.alignment ≡ 0
  within : p + f.size ≤ high

goes_on : (at : ℕ) (fs : List Field) (ps : List ℕ) (end : ℕ) → Chain at fs ps end → at ≤ end
goes_on at [] [] end c = c
goes_on at [] (p ∷ ps) end c = absurd c
goes_on at (f ∷ fs) [] end c = absurd c
goes_on at (f ∷ fs) (p ∷ ps) end c = let r = goes_on (p + f.size) fs ps end c.2 in omega (arith, c.0)

at_index : (at : ℕ) (fs : List Field) (ps : List ℕ) (end : ℕ) → Chain at fs ps end → (i : ℕ) (f : Field) (p : ℕ)
    → slice_get fs i ≡ Some f → slice_get ps i ≡ Some p → At at f p end
at_index at [] ps end c i f p e e' = cc
at_index at (g ∷ fs) [] end c i f p e e' = absurd c
at_index at (g ∷ fs) (q ∷ ps) end c zero f p e e' =
    let same : g ≡ f = cc in
    let place : q ≡ p = cc in
    let rest = goes_on (q + g.size) fs ps end c.2 in
    let there : At at g q end = record { behind = c.0; aligned = c.1; within = rest } in
    subst (λ h. At at h p end) same (subst (λ r. At at g r end) place there)
at_index at (g ∷ fs) (q ∷ ps) end c (suc i) f p e e' =
    let rest = at_index (q + g.size) fs ps end c.2 i f p e e' in
    record { behind = omega (arith, c.0, rest.behind); aligned = rest.aligned; within = rest.within }

ordered : (at : ℕ) (fs : List Field) (ps : List ℕ) (end : ℕ) → Chain at fs ps end
    → (i j : ℕ) (f g : Field) (p q : ℕ) → slice_get fs i ≡ Some f → slice_get ps i ≡ Some p
    → slice_get fs j ≡ Some g → slice_get ps j ≡ Some q → i < j → p + f.size ≤ q
ordered at [] ps end c i j f g p q e e' k k' h = cc
ordered at (x ∷ fs) [] end c i j f g p q e e' k k' h = absurd c
ordered at (x ∷ fs) (y ∷ ps) end c i zero f g p q e e' k k' h = absurd (omega arith)
ordered at (x ∷ fs) (y ∷ ps) end c zero (suc j) f g p q e e' k k' h =
    let same : x ≡ f = cc in
    let place : y ≡ p = cc in
    let there = at_index (y + x.size) fs ps end c.2 j g q k k' in
    subst (λ z. p + z.size ≤ q) same (subst (λ r. r + x.size ≤ q) place there.behind)
ordered at (x ∷ fs) (y ∷ ps) end c (suc i) (suc j) f g p q e e' k k' h =
    ordered (y + x.size) fs ps end c.2 i j f g p q e e' k k' (omega arith)

laid_by : (at : ℕ) (fs : List Field) (laid : Laid) → Chain at fs laid.places laid.size → AreLaid fs laid
laid_by at fs laid c = record {
  count = count_is at fs laid.places laid.size c;
  in_order = ordered at fs laid.places laid.size c;
  aligned = λ i f p e e'. (at_index at fs laid.places laid.size c i f p e e').aligned;
  within = λ i f p e e'. (at_index at fs laid.places laid.size c i f p e e').within;
}

pub object_laid : (parts : List (List Field)) → AreLaid (flat_map (λ part. part) parts) (object parts)
object_laid parts = laid_by 8 (flat_map (λ part. part) parts) (object parts) (parts_chain 8 parts)

rounds_up : (n a : ℕ) → n ≤ next_multiple_of n a
rounds_up n a = omega arith

pub value_laid : (least : ℕ) (fields : List Field) → AreLaid fields (value_type least fields)
value_laid least fields =
    let whole = max (max (end_of 0 fields) least) 1 in
    let size = next_multiple_of whole (alignment_of fields) in
    let r = rounds_up whole (alignment_of fields) in
    let m : end_of 0 fields ≤ whole = grind arith in
    laid_by 0 fields (value_type least fields)
    (higher 0 fields (places 0 fields) (end_of 0 fields) size (omega arith) (places_chain 0 fields))

-- ---- an end beyond the limit, known at one field or part

abbrev pub no_field : Field
no_field = record { size = 0; alignment = One }

pub passes : (start at i : ℕ) (fields : List Field) → end_of start fields ≡ end_of at (drop i fields)
    → i < length fields → (place : ℕ) → place ≡ place_of at (get_or fields i no_field)
    → 65536 < place + (get_or fields i no_field).size → 65536 < end_of start fields
passes start at i fields e h place is far =
    let field = get_or fields i no_field in
    let behind = place_of at field + field.size in
    let split : end_of start fields ≡ end_of behind (drop (suc i) fields)
    = e ∙ ap (end_of at) (drop-cons fields i no_field h) in
    let reach = end_reaches behind (drop (suc i) fields) in
    omega (arith, split, is)

pub parts_pass : (at i : ℕ) (parts : List (List Field)) (d : List Field)
    → parts_end 8 parts ≡ parts_end at (drop i parts) → i < length parts → 65536 < end_of at (get_or parts i d)
    → 65536 < parts_end 8 parts
parts_pass at i parts d e h far =
    let end = end_of at (get_or parts i d) in
    let behind = next_multiple_of end 8 in
    let split : parts_end 8 parts ≡ parts_end behind (drop (suc i) parts)
    = e ∙ ap (parts_end at) (drop-cons parts i d h) in
    let rounded = reaches end Eight in
    let reach = parts_reach behind (drop (suc i) parts) in
    omega (arith, split)
