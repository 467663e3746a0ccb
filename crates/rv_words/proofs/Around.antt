-- What the map says, and where the pc is where a machine stands at an operation.
use Rattle.std.proofs.Common.{◌≡◌, ◌∙◌, ℕ, zero, suc, ◌+◌, ◌-◌, ◌*◌, ◌/◌, ◌%◌, ◌<◌, Bool, true, false, not, cond}
use Rattle.std.proofs.Common.{List, [], ◌∷◌, length, Option, Some, None, arith, refl, ap, sym, subst, ◌==◌, nat_lt}
use Rattle.std.specs.Prelude.{slice_get}
use Rattle.std.specs.List.{position, position_or_len}
use Rattle.std.specs.Option.{option_and_then, option_map}
use Rattle.std.proofs.lemmas.Bool.Decides.{nat_tests}
use Rattle.lir_core.specs.Program.{WordProgram}
use Rattle.lir_core.specs.declared.body.LirBody.{LirBody}
use Rattle.rv_words.specs.Placing.{Around, Placing, around_among, around_at, body_at, has_around, is_around}
use Rattle.rv_words.specs.Words.{Spot, operation_at, stands_at, stops_of}

-- what is found around an address is a body whose code begins there
pub record IsFound (program : WordProgram) (address : ℕ) (around : Around) : Type 0 where
  pub item : program.item_at around.begin ≡ Some around.item
  pub body : program.body_of around.item ≡ Some around.body
  pub within : is_around around address ≡ true

body_told : (program : WordProgram) (begin : ℕ) (around : Around) → body_at program begin ≡ Some around
    → (program.item_at around.begin ≡ Some around.item) × (program.body_of around.item ≡ Some around.body)
body_told program begin around e = by (program.item_at begin) refl e
  where
    make : ℕ → LirBody → Around
    make item body = record { begin = begin; item = item; body = body }

    by_body : (item : ℕ) → program.item_at begin ≡ Some item → (o : Option LirBody) → program.body_of item ≡ o
        → option_map (λ body. make item body) o ≡ Some around
        → (program.item_at around.begin ≡ Some around.item) × (program.body_of around.item ≡ Some around.body)
    by_body item is None is' e = cc
    by_body item is (Some body) is' e =
        let same : make item body ≡ around = cc in
        subst (λ a. (program.item_at a.begin ≡ Some a.item) × (program.body_of a.item ≡ Some a.body)) same (is, is')

    by : (o : Option ℕ) → program.item_at begin ≡ o
        → option_and_then (λ item. option_map (λ body. make item body) (program.body_of item)) o ≡ Some around
        → (program.item_at around.begin ≡ Some around.item) × (program.body_of around.item ≡ Some around.body)
    by None is e = cc
    by (Some item) is e = by_body item is (program.body_of item) refl e

found_among : (program : WordProgram) (begins : List ℕ) (address : ℕ) (around : Around)
    → around_among program begins address ≡ Some around → IsFound program address around
found_among program [] address around e = cc
found_among program (begin ∷ begins) address around e =
    by (λ rest. found_among program begins address around rest) (body_at program begin) refl e
  where
    Rest : Type 0
    Rest = around_among program begins address ≡ Some around → IsFound program address around

    found : Rest → (a : Around) → body_at program begin ≡ Some a → (b : Bool) → is_around a address ≡ b
        → cond b (Some a) (around_among program begins address) ≡ Some around → IsFound program address around
    found more a is true inside e =
        let same : a ≡ around = cc in
        let told = body_told program begin a is in
        subst (IsFound program address) same (record { item = told.0; body = told.1; within = inside })
    found more a is false outside e = more e

    by : Rest → (o : Option Around) → body_at program begin ≡ o
        → cond (has_around o address) o (around_among program begins address) ≡ Some around
        → IsFound program address around
    by more None is e = more e
    by more (Some a) is e = found more a is (is_around a address) refl e

pub found_at : (placing : Placing) (address : ℕ) (around : Around) → around_at placing address ≡ Some around
    → IsFound placing.program address around
found_at placing address around e = found_among placing.program placing.begins address around e

-- ---- the pc at an operation

-- a number that stands first at a place stands there
first_there : (xs : List ℕ) (k n : ℕ) → position_or_len (λ stop. stop == k) xs ≡ n → n < length xs
    → slice_get xs n ≡ Some k
first_there [] k n e h = absurd (omega (arith, h))
first_there (x ∷ xs) k n e h = by (λ m e' h'. first_there xs k m e' h') (x == k) refl e
  where
    equal : x == k ≡ true → x ≡ k
    equal t = grind (arith, nat_tests)

    Rest : Type 0
    Rest = (m : ℕ) → position_or_len (λ stop. stop == k) xs ≡ m → m < length xs → slice_get xs m ≡ Some k

    more : Rest → (m : ℕ) → m ≡ n → 1 + position_or_len (λ stop. stop == k) xs ≡ m → slice_get (x ∷ xs) m ≡ Some k
    more rest zero same e' = absurd (omega (arith, e'))
    more rest (suc m) same e' = rest m (omega (arith, e')) (omega (arith, same, h))

    by : Rest → (b : Bool) → x == k ≡ b → cond (not b) (1 + position_or_len (λ stop. stop == k) xs) 0 ≡ n
        → slice_get (x ∷ xs) n ≡ Some k
    by rest true t e' = subst (λ i. slice_get (x ∷ xs) i ≡ Some k) e' (ap Some (equal t))
    by rest false t e' = more rest n refl e'

position_there : (xs : List ℕ) (k n : ℕ) → position (λ stop. stop == k) xs ≡ Some n → slice_get xs n ≡ Some k
position_there xs k n e = by (nat_lt (position_or_len (λ stop. stop == k) xs) (length xs)) refl e
  where
    less : (i : ℕ) → nat_lt i (length xs) ≡ true → i < length xs
    less i t = grind (arith, nat_tests)

    by : (b : Bool) → nat_lt (position_or_len (λ stop. stop == k) xs) (length xs) ≡ b
        → cond b (Some (position_or_len (λ stop. stop == k) xs)) None ≡ Some n → slice_get xs n ≡ Some k
    by true t e =
        let same : position_or_len (λ stop. stop == k) xs ≡ n = cc in
        first_there xs k n same (subst (λ i. i < length xs) same (less (position_or_len (λ stop. stop == k) xs) t))
    by false t e = cc

-- A spot that the map tells: the address is so many instructions behind the begin, and the operation begins there.
pub record IsSpot (begin item : ℕ) (body : LirBody) (address : ℕ) (spot : Spot) : Type 0 where
  pub k : ℕ
  pub there : address ≡ begin + 4 * k
  pub stop : slice_get (stops_of body) spot.place ≡ Some k
  pub item_is : spot.item ≡ item
  pub body_is : spot.body ≡ body

pub spot_told : (placing : Placing) (begin item address : ℕ) (body : LirBody) (spot : Spot) → begin < address
    → around_at placing address ≡ Some (record { begin = begin; item = item; body = body })
    → stands_at placing address ≡ Some spot → IsSpot begin item body address spot
spot_told placing begin item address body spot above around told = by ((address - begin) % 4 == 0) refl whole
  where
    make : ℕ → Spot
    make p = record { item = item; body = body; place = p }

    whole : cond ((address - begin) % 4 == 0) (option_map make (operation_at body ((address - begin) / 4))) None
        ≡ Some spot
    whole = ap (option_and_then
        (λ around. cond ((address - around.begin) % 4 == 0)
        (option_map (λ p. record { item = around.item; body = around.body; place = p })
        (operation_at around.body ((address - around.begin) / 4))) None)) (sym around) ∙ told

    multiple : (address - begin) % 4 == 0 ≡ true → (address - begin) % 4 ≡ 0
    multiple t = grind (arith, nat_tests)

    place_of : (o : Option ℕ) → operation_at body ((address - begin) / 4) ≡ o → (address - begin) % 4 ≡ 0
        → option_map make o ≡ Some spot → IsSpot begin item body address spot
    place_of None is even e = cc
    place_of (Some p) is even e =
        let same : make p ≡ spot = cc in
        let stop : slice_get (stops_of body) p ≡ Some ((address - begin) / 4) =
        position_there (stops_of body) ((address - begin) / 4) p is in
        subst (IsSpot begin item body address) same (record {
          k = (address - begin) / 4;
          there = omega (arith, above, even);
          stop = stop;
          item_is = refl;
          body_is = refl;
        })

    by : (b : Bool) → (address - begin) % 4 == 0 ≡ b
        → cond b (option_map make (operation_at body ((address - begin) / 4))) None ≡ Some spot
        → IsSpot begin item body address spot
    by true t e = place_of (operation_at body ((address - begin) / 4)) refl (multiple t) e
    by false t e = cc
