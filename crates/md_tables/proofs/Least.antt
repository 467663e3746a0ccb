-- The least address of a section that is above one, in any order of them.
use Rattle.std.proofs.Common.{◌≡◌, ◌∙◌, ℕ, zero, suc, ◌+◌, ◌*◌, ◌^◌, ◌<◌, ◌≤◌, Bool, true, false, cond, min, nat_le}
use Rattle.std.proofs.Common.{nat_lt}
use Rattle.std.proofs.Common.{◌==◌, ◌&&◌, List, [], ◌∷◌, length, get_or, Option, Some, None, ap, refl, sym, subst}
use Rattle.std.proofs.Common.{arith}
use Rattle.std.specs.Prelude.{All, Contains, slice_get}
use Rattle.std.specs.List.Sorted.{IsPermutation, IsNonDecreasingBy}
use Rattle.std.proofs.lemmas.Bool.{false≢true, ltb-true, ltb-false, leb-true, leb-false, eqb-true, eqb-false, eq-eqb}
use Rattle.std.proofs.lemmas.Bool.{and_parts}
use Rattle.std.proofs.lemmas.List.{get_or_default}
use Rattle.std.proofs.lemmas.List.Elements.{All-nil, All-cons, All-contains, All-weaker, All-from_get_or}
use Rattle.std.proofs.lemmas.List.Elements.{Contains-get_or}
use Rattle.std.proofs.lemmas.List.Sorted.{All-permutation, Contains-permutation}
use Rattle.std.proofs.lemmas.Option.{slice_get-get_or, slice_get_past}
use Rattle.md_tables.specs.declared.data.Held.{Held}
use Rattle.md_tables.specs.Finished.{next_address, least_with, rank_of, own_address}

-- an address of the section is among them
record Has (s m : ℕ) (xs : List Held) : Type 0 where
  one : Held
  among : Contains xs one
  section : one.section ≡ s
  address : one.address ≡ m

-- what the least address of a section above one is
abbrev IsLeast : ℕ → ℕ → List Held → Option ℕ → Type 0
IsLeast s n xs None = All (λ x. x.section ≡ s → x.address ≤ n) xs
IsLeast s n xs (Some m) = Has s m xs × (n < m) × All (λ x. x.section ≡ s → n < x.address → m ≤ x.address) xs

-- two such are one
one_least : (s n : ℕ) (xs : List Held) (a b : Option ℕ) → IsLeast s n xs a → IsLeast s n xs b → a ≡ b
one_least s n xs None None p q = refl
one_least s n xs None (Some m) p q =
    let below : q.0.one.address ≤ n =
    All-contains (λ x. x.section ≡ s → x.address ≤ n) xs q.0.one p q.0.among q.0.section in
    absurd (omega (arith, below, q.1, q.0.address))
one_least s n xs (Some m) None p q =
    let below : p.0.one.address ≤ n =
    All-contains (λ x. x.section ≡ s → x.address ≤ n) xs p.0.one q p.0.among p.0.section in
    absurd (omega (arith, below, p.1, p.0.address))
one_least s n xs (Some l) (Some m) p q =
    let over : n < q.0.one.address = omega (arith, q.1, q.0.address) in
    let left : l ≤ q.0.one.address =
    All-contains (λ x. x.section ≡ s → n < x.address → l ≤ x.address) xs q.0.one p.2 q.0.among q.0.section over in
    let above : n < p.0.one.address = omega (arith, p.1, p.0.address) in
    let right : m ≤ p.0.one.address =
    All-contains (λ x. x.section ≡ s → n < x.address → m ≤ x.address) xs p.0.one q.2 p.0.among p.0.section above in
    let same : l ≡ m = omega (arith, left, right, p.0.address, q.0.address) in
    ap Some same

-- in another order
permuted : (s n : ℕ) (xs ys : List Held) (o : Option ℕ) → IsPermutation xs ys → IsLeast s n xs o → IsLeast s n ys o
permuted s n xs ys None p h = All-permutation (λ x. x.section ≡ s → x.address ≤ n) xs ys p h
permuted s n xs ys (Some m) p h = (
  record {
    one = h.0.one;
    among = Contains-permutation xs ys h.0.one p h.0.among;
    section = h.0.section;
    address = h.0.address;
  },
  h.1,
  All-permutation (λ x. x.section ≡ s → n < x.address → m ≤ x.address) xs ys p h.2,
)

-- ---- what the definition gives is such an address

head_of : (s : ℕ) (x : Held) (rest : List Held) → x.section ≡ s → Has s x.address (x ∷ rest)
head_of s x rest e = record { one = x; among = (0, omega arith, refl); section = e; address = refl }

behind : (s m : ℕ) (x : Held) (rest : List Held) → Has s m rest → Has s m (x ∷ rest)
behind s m x rest h =
    record {
      one = h.one;
      among = (suc h.among.0, omega (arith, h.among.1), h.among.2);
      section = h.section;
      address = h.address;
    }

least_of_two : (b : Bool) (s n m : ℕ) (x : Held) (rest : List Held) → nat_le x.address m ≡ b → x.section ≡ s
    → n < x.address → IsLeast s n rest (Some m) → IsLeast s n (x ∷ rest) (Some (min x.address m))
least_of_two true s n m x rest e here above h =
    let low : x.address ≤ m = leb-true _ _ e in
    let same : x.address ≡ min x.address m = omega (arith, low) in
    let is : IsLeast s n (x ∷ rest) (Some x.address) = (
      head_of s x rest here,
      above,
      All-cons (λ y. y.section ≡ s → n < y.address → x.address ≤ y.address) x rest (λ _ _. omega arith)
          (All-weaker (λ y. y.section ≡ s → n < y.address → m ≤ y.address)
          (λ y. y.section ≡ s → n < y.address → x.address ≤ y.address)
          (λ y more own over. let far : m ≤ y.address = more own over in omega (arith, far, low)) rest h.2),
    ) in
    subst (λ l. IsLeast s n (x ∷ rest) (Some l)) same is
least_of_two false s n m x rest e here above h =
    let high : m < x.address = leb-false _ _ e in
    let same : m ≡ min x.address m = omega (arith, high) in
    let is : IsLeast s n (x ∷ rest) (Some m) = (
      behind s m x rest h.0,
      h.1,
      All-cons (λ y. y.section ≡ s → n < y.address → m ≤ y.address) x rest (λ _ _. omega (arith, high)) h.2,
    ) in
    subst (λ l. IsLeast s n (x ∷ rest) (Some l)) same is

-- one that isn't above, or lies in another section
low_by : (same over : Bool) → (same && over) ≡ false → same ≡ true → over ≡ false
low_by true over h e = h
low_by false over h e = absurd (false≢true e)

low : (s n : ℕ) (x : Held) → (x.section == s && nat_lt n x.address) ≡ false → x.section ≡ s → x.address ≤ n
low s n x h e = ltb-false _ _ (low_by (x.section == s) (nat_lt n x.address) h (eq-eqb _ _ e))

least_cons : (b : Bool) (s n : ℕ) (x : Held) (rest : List Held) (o : Option ℕ)
    → (x.section == s && nat_lt n x.address) ≡ b → IsLeast s n rest o
    → IsLeast s n (x ∷ rest) (cond b (least_with x.address o) o)
least_cons false s n x rest None e h = All-cons (λ y. y.section ≡ s → y.address ≤ n) x rest (low s n x e) h
least_cons false s n x rest (Some m) e h = (
  behind s m x rest h.0,
  h.1,
  All-cons (λ y. y.section ≡ s → n < y.address → m ≤ y.address) x rest
      (λ own above. let below : x.address ≤ n = low s n x e own in absurd (omega (arith, below, above))) h.2,
)
least_cons true s n x rest None e h =
    let is = and_parts (x.section == s) (nat_lt n x.address) e in (
      head_of s x rest (eqb-true _ _ is.0),
      ltb-true _ _ is.1,
      All-cons (λ y. y.section ≡ s → n < y.address → x.address ≤ y.address) x rest (λ _ _. omega arith)
          (All-weaker (λ y. y.section ≡ s → y.address ≤ n)
          (λ y. y.section ≡ s → n < y.address → x.address ≤ y.address)
          (λ y below own above. let under : y.address ≤ n = below own in absurd (omega (arith, under, above))) rest h),
    )
least_cons true s n x rest (Some m) e h =
    let is = and_parts (x.section == s) (nat_lt n x.address) e in
    least_of_two (nat_le x.address m) s n m x rest refl (eqb-true _ _ is.0) (ltb-true _ _ is.1) h

least_is : (s n : ℕ) (xs : List Held) → IsLeast s n xs (next_address s n xs)
least_is s n [] = All-nil (λ x. x.section ≡ s → x.address ≤ n)
least_is s n (x ∷ rest) =
    least_cons (x.section == s && nat_lt n x.address) s n x rest (next_address s n rest) refl (least_is s n rest)

-- in any order of the addresses it is the same
pub least_permuted : (s n : ℕ) (xs ys : List Held) → IsPermutation xs ys → next_address s n ys ≡ next_address s n xs
least_permuted s n xs ys p =
    one_least s n ys (next_address s n ys) (next_address s n xs) (least_is s n ys)
    (permuted s n xs ys (next_address s n xs) p (least_is s n xs))

-- ---- in rising order it stands behind those that are no greater

-- addresses of sections, each below 2^32, in rising order, parted at a place
record Parted (s n k : ℕ) (ys : List Held) : Type 0 where
  rising : IsNonDecreasingBy rank_of ys
  few : All (λ x. x.address < 2 ^ 32) ys
  below : (i : ℕ) (d : Held) → i < k → rank_of (get_or ys i d) ≤ s * 0x1_0000_0000 + n
  above : (i : ℕ) (d : Held) → k ≤ i → i < length ys → s * 0x1_0000_0000 + n < rank_of (get_or ys i d)

none : Held
none = record { section = 0; address = 0 }

-- of one section, addresses stand as their ranks do
no_more : (s n : ℕ) (x : Held) → rank_of x ≤ s * 0x1_0000_0000 + n → x.section ≡ s → x.address ≤ n
no_more s n x h e =
    let same : x.section * 0x1_0000_0000 ≡ s * 0x1_0000_0000 = ap (λ k. k * 0x1_0000_0000) e in omega (arith, h, same)

more : (s n : ℕ) (x : Held) → s * 0x1_0000_0000 + n < rank_of x → x.section ≡ s → n < x.address
more s n x h e =
    let same : x.section * 0x1_0000_0000 ≡ s * 0x1_0000_0000 = ap (λ k. k * 0x1_0000_0000) e in omega (arith, h, same)

-- one between two of a section is of it
between : (s n : ℕ) (y x : Held) → y.address < 2 ^ 32 → x.address < 2 ^ 32 → s * 0x1_0000_0000 + n < rank_of y
    → rank_of y ≤ rank_of x → x.section ≡ s → y.section ≡ s
between s n y x low high over under e = omega (arith, low, high, over, under, e)

each : (b : Bool) (s n k i : ℕ) (ys : List Held) (d : Held) → nat_lt i k ≡ b → Parted s n k ys
    → (k ≤ i → (get_or ys i d).section ≡ s → ⊥) → (get_or ys i d).section ≡ s → (get_or ys i d).address ≤ n
each true s n k i ys d e p h own = no_more s n (get_or ys i d) (p.below i d (ltb-true _ _ e)) own
each false s n k i ys d e p h own = absurd (h (ltb-false _ _ e) own)

later : (b : Bool) (s n k i : ℕ) (ys : List Held) (d : Held) → nat_lt i k ≡ b → Parted s n k ys → i < length ys
    → (get_or ys k d).section ≡ s → (get_or ys i d).section ≡ s → n < (get_or ys i d).address
    → (get_or ys k d).address ≤ (get_or ys i d).address
later true s n k i ys d e p inside here own over =
    let low : (get_or ys i d).address ≤ n = no_more s n (get_or ys i d) (p.below i d (ltb-true _ _ e)) own in
    absurd (omega (arith, low, over))
later false s n k i ys d e p inside here own over =
    let up : rank_of (get_or ys k d) ≤ rank_of (get_or ys i d) = p.rising k i d (ltb-false _ _ e) inside in
    let same : (get_or ys k d).section * 0x1_0000_0000 ≡ (get_or ys i d).section * 0x1_0000_0000 =
    ap (λ m. m * 0x1_0000_0000) (here ∙ sym own) in
    omega (arith, up, same)

found_by : (b : Bool) (s n k : ℕ) (ys : List Held) (d : Held) → ((get_or ys k d).section == s) ≡ b → k < length ys
    → Parted s n k ys → IsLeast s n ys (cond b (Some (get_or ys k d).address) None)
found_by true s n k ys d e inside p =
    let y : Held = get_or ys k d in
    let own : y.section ≡ s = eqb-true _ _ e in (
      record { one = y; among = Contains-get_or ys k d inside; section = own; address = refl },
      more s n y (p.above k d (omega arith) inside) own,
      All-from_get_or (λ x. x.section ≡ s → n < x.address → y.address ≤ x.address) ys d
          (λ i less. later (nat_lt i k) s n k i ys d refl p less own),
    )
found_by false s n k ys d e inside p =
    let y : Held = get_or ys k d in
    All-from_get_or (λ x. x.section ≡ s → x.address ≤ n) ys d
    (λ i less. each (nat_lt i k) s n k i ys d refl p
    (λ over own.
    eqb-false _ _ e
    (between s n y (get_or ys i d) (p.few k d inside) (p.few i d less) (p.above k d (omega arith) inside)
    (p.rising k i d over less) own)))

rising_by : (b : Bool) (s n k : ℕ) (ys : List Held) → nat_lt k (length ys) ≡ b → Parted s n k ys
    → IsLeast s n ys (own_address s (slice_get ys k))
rising_by true s n k ys e p =
    let inside : k < length ys = ltb-true _ _ e in
    subst (λ o. IsLeast s n ys (own_address s o)) (sym (slice_get-get_or ys k none inside))
    (found_by ((get_or ys k none).section == s) s n k ys none refl inside p)
rising_by false s n k ys e p =
    let outside : length ys ≤ k = ltb-false _ _ e in
    subst (λ o. IsLeast s n ys (own_address s o)) (sym (slice_get_past ys k outside))
    (All-from_get_or (λ x. x.section ≡ s → x.address ≤ n) ys none
    (λ i less. no_more s n (get_or ys i none) (p.below i none (omega (arith, less, outside)))))

pub least_rising : (s n k : ℕ) (ys : List Held) → IsNonDecreasingBy rank_of ys → All (λ x. x.address < 2 ^ 32) ys
    → ((i : ℕ) (d : Held) → i < k → rank_of (get_or ys i d) ≤ s * 0x1_0000_0000 + n)
    → ((i : ℕ) (d : Held) → k ≤ i → i < length ys → s * 0x1_0000_0000 + n < rank_of (get_or ys i d))
    → own_address s (slice_get ys k) ≡ next_address s n ys
least_rising s n k ys rising few below above =
    one_least s n ys (own_address s (slice_get ys k)) (next_address s n ys)
    (rising_by (nat_lt k (length ys)) s n k ys refl
    (record { rising = rising; few = few; below = below; above = above })) (least_is s n ys)

-- ---- one address more

more_by : (b : Bool) (held : List Held) (i k : ℕ) (e d : Held) → nat_lt k i ≡ b → i < length held
    → ((k : ℕ) (d : Held) → k < i → (get_or held k d).address < 2 ^ 32) → (get_or held i e).address < 2 ^ 32
    → k < i + 1 → (get_or held k d).address < 2 ^ 32
more_by true held i k e d is inside before here less = before k d (ltb-true _ _ is)
more_by false held i k e d is inside before here less =
    let over : i ≤ k = ltb-false _ _ is in
    let same : i ≡ k = omega (arith, over, less) in
    subst (λ (one : Held). one.address < 2 ^ 32)
    (get_or_default held i e d inside ∙ ap (λ n. get_or held n d) same) here

pub one_more : (held : List Held) (i : ℕ) (e : Held) → i < length held
    → ((k : ℕ) (d : Held) → k < i → (get_or held k d).address < 2 ^ 32) → (get_or held i e).address < 2 ^ 32
    → (k : ℕ) (d : Held) → k < i + 1 → (get_or held k d).address < 2 ^ 32
one_more held i e inside before here k d less = more_by (nat_lt k i) held i k e d refl inside before here less
