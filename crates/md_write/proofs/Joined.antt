-- Parts of lists that were joined, and conditions that hold.
use Rattle.std.proofs.Common.{◌≡◌, ◌∙◌, ℕ, ◌+◌, List, [], ◌∷◌, ◌++◌, length, take, drop, replicate, ap}
use Rattle.std.proofs.Common.{arith, length-append, Bool, true, false, cond, Option, Some, None, Result, Ok, Err, IfOk}
use Rattle.std.proofs.lemmas.List.{length-replicate, take-append-le}
use Rattle.std.proofs.Math.Seq.{drop-append_seam, take-length}
use Rattle.pe_image.specs.declared.fault.PeFault.{PeFault}
use Rattle.pe_image.specs.Conditions.{Condition, first_fault}
use Rattle.md_write.specs.Contents.{padding, padded}

-- what stands behind a front of the list
pub part_behind : (front part behind : List ℕ) (at size : ℕ) → at ≡ length front → size ≡ length part
    → take size (drop at (front ++ (part ++ behind))) ≡ part
part_behind front part behind at size starts has =
    ap (λ n. take size (drop n (front ++ (part ++ behind)))) starts
    ∙ (ap (take size) (drop-append_seam front (part ++ behind))
    ∙ (ap (λ n. take n (part ++ behind)) has
    ∙ (take-append-le (length part) part behind (omega arith) ∙ take-length part)))

-- the same at the end of the list
pub part_at_end : (front part : List ℕ) (at size : ℕ) → at ≡ length front → size ≡ length part
    → take size (drop at (front ++ part)) ≡ part
part_at_end front part at size starts has =
    ap (λ n. take size (drop n (front ++ part))) starts
    ∙ (ap (take size) (drop-append_seam front part) ∙ (ap (λ n. take n part) has ∙ take-length part))

pub length-padded : (multiple : ℕ) (bytes : List ℕ)
    → length (padded multiple bytes) ≡ length bytes + padding multiple (length bytes)
length-padded multiple bytes =
    length-append bytes (replicate (padding multiple (length bytes)) 0)
    ∙ ap (λ n. length bytes + n) (length-replicate (padding multiple (length bytes)) 0)

some≢none : {A : Type 0} (x : A) → Some x ≡ None → ⊥
some≢none x e = cc

one_in : (b : Bool) (fault : PeFault) (front all : Option PeFault) → (front ≡ None → all ≡ None)
    → cond b front (Some fault) ≡ None → cond b all (Some fault) ≡ None
one_in true fault front all behind holds = behind holds
one_in false fault front all behind holds = absurd (some≢none fault holds)

-- conditions that hold, in front of others
pub none_in : (front rest : List Condition) → first_fault front ≡ None → first_fault rest ≡ None
    → first_fault (front ++ rest) ≡ None
none_in [] rest holds others = others
none_in (condition ∷ front) rest holds others =
    one_in condition.0 condition.1 (first_fault front) (first_fault (front ++ rest))
    (λ h. none_in front rest h others) holds

-- what follows from two facts on what a call gave
pub both_ok : {A E : Type 0} (result : Result A E) (P Q R : A → Type 0) → IfOk result P → IfOk result Q
    → ((x : A) → P x → Q x → R x) → IfOk result R
both_ok (Ok x) P Q R p q f = f x p q
both_ok (Err fault) P Q R p q f = tt
