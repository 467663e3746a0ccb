-- Readings that are told by the bytes that they take, and stop where nothing can be read; one behind another, and by
-- the first byte.
use Rattle.std.proofs.Common.{◌≡◌, ◌∙◌, ◌++◌, ◌∷◌, ◌+◌, ◌⊎◌, [], ℕ, List, length, Ok, Err, Bool, true, false, cond}
use Rattle.std.proofs.Common.{IsTrue, refl, ap, sym, subst, inl, inr, append_assoc, append-nil, add-one, ◌<◌}
use Rattle.std.proofs.Common.{Some, arith, length-append}
use Rattle.ty_terms.specs.declared.ty.Primitive.{Primitive}
use Rattle.md_sigs.specs.Elements.{Reading, and_then, by_first_byte, is_outside, primitive_of}
use Rattle.md_sigs.specs.Refusal.{Begins, IsElementOutside}
use Rattle.md_sigs.specs.Reading.{IsStoppedBetween}
use Rattle.md_sigs.specs.declared.element.Stop.{Stop}
use Rattle.md_sigs.proofs.Languages.{Leads, stopped_so, stopped_behind}

-- the bytes are read, all of them; something is read in front of them
abbrev pub Closed : {A : Type 0} → (List ℕ → Reading A) → List ℕ → Type 0
Closed {A = A} r bytes = (a : A) × (r bytes ≡ Ok (a, []))

abbrev pub Open : {A : Type 0} → (List ℕ → Reading A) → List ℕ → Type 0
Open {A = A} r bytes = (x : A × List ℕ) × (r bytes ≡ Ok x)

-- the bytes that were taken, behind which the same is read whatever follows
pub record Taken {A : Type 0} (r : List ℕ → Reading A) (bytes rest : List ℕ) (a : A) : Type 0 where
  pub seen : List ℕ
  pub joined : bytes ≡ seen ++ rest
  pub again : (more : List ℕ) → r (seen ++ more) ≡ Ok (a, more)

abbrev pub Stops : {A : Type 0} → (List ℕ → Reading A) → List ℕ → Stop → Type 0
Stops r = IsStoppedBetween (Closed r) (Open r)

pub record IsReader {A : Type 0} (r : List ℕ → Reading A) : Type 0 where
  pub taken : (bytes rest : List ℕ) (a : A) → r bytes ≡ Ok (a, rest) → Taken r bytes rest a
  pub stops : (bytes : List ℕ) (stop : Stop) → r bytes ≡ Err stop → Stops r bytes stop
  pub some : Begins (Closed r) []

-- a reading that gave something, and one that stopped
abbrev pub done : {A : Type 0} → A × List ℕ → Reading A
done x = Ok x

abbrev pub halt : {A : Type 0} → Stop → Reading A
halt stop = Err stop

pub ok_is_no_err : {A : Type 0} {x : A × List ℕ} {stop : Stop} → done x ≡ Err stop → ⊥
ok_is_no_err h = cc

pub stop_of : {A : Type 0} {s t : Stop} → halt {A = A} s ≡ Err t → s ≡ t
stop_of h = cc

pub u8 : primitive_of 0x0B ≡ Some Primitive.U8
unfolding primitive_of
u8 = refl

pub pair_of : {A : Type 0} {x y : A × List ℕ} → done x ≡ Ok y → x ≡ y
pair_of h = cc

pub value_of : {A : Type 0} (a b : A) (s t : List ℕ) → done (a, s) ≡ Ok (b, t) → a ≡ b
value_of {A = A} a b s t h = ap (λ (x : A × List ℕ). x.0) (pair_of h)

pub rest_of : {A : Type 0} (a b : A) (s t : List ℕ) → done (a, s) ≡ Ok (b, t) → s ≡ t
rest_of {A = A} a b s t h = ap (λ (x : A × List ℕ). x.1) (pair_of h)

-- ---- a value that takes no bytes

pub is_reader-value : {A : Type 0} (a : A) → IsReader (λ bytes. Ok (a, bytes))
is_reader-value {A = A} a = record {
  taken =
      λ bytes rest b h. record {
        seen = [];
        joined = rest_of a b bytes rest h;
        again = λ more. ap (λ (x : A). Ok (x, more)) (value_of a b bytes rest h);
      };
  stops = λ bytes stop h. absurd (ok_is_no_err h);
  some = ([], (a, refl));
}

-- ---- one reading behind another

module _ {A B : Type 0} (r : List ℕ → Reading A) (s : A → List ℕ → Reading B) where
  then_ok : (x : Reading A) (y : B × List ℕ) → and_then x s ≡ Ok y
      → (v : A × List ℕ) × (x ≡ Ok v) × (s v.0 v.1 ≡ Ok y)
  then_ok (Ok v) y h = (v, refl, h)
  then_ok (Err stop) y h = absurd (ok_is_no_err (sym h))

  then_err : (x : Reading A) (stop : Stop) → and_then x s ≡ Err stop
      → (x ≡ Err stop) ⊎ ((v : A × List ℕ) × (x ≡ Ok v) × (s v.0 v.1 ≡ Err stop))
  then_err (Ok v) stop h = inr (v, refl, h)
  then_err (Err e) stop h = inl (h_of h)
    where
      h_of : halt {A = B} e ≡ Err stop → halt {A = A} e ≡ Err stop
      h_of h = cc

  module _ (first : IsReader r) (second : (a : A) → IsReader (s a)) where
    again_both : (seen₁ seen₂ more : List ℕ) (a : A) (b : B)
        → ((more : List ℕ) → r (seen₁ ++ more) ≡ Ok (a, more)) → ((more : List ℕ) → s a (seen₂ ++ more) ≡ Ok (b, more))
        → and_then (r ((seen₁ ++ seen₂) ++ more)) s ≡ Ok (b, more)
    again_both seen₁ seen₂ more a b f g =
        ap (λ bytes. and_then (r bytes) s) (append_assoc seen₁ seen₂ more)
        ∙ ap (λ x. and_then x s) (f (seen₂ ++ more)) ∙ g more

    taken_both : (bytes rest : List ℕ) (b : B) → and_then (r bytes) s ≡ Ok (b, rest)
        → Taken (λ bytes. and_then (r bytes) s) bytes rest b
    taken_both bytes rest b h =
        let v : (v : A × List ℕ) × (r bytes ≡ Ok v) × (s v.0 v.1 ≡ Ok (b, rest)) = then_ok (r bytes) (b, rest) h in
        let t : Taken r bytes v.0.1 v.0.0 = first.taken bytes v.0.1 v.0.0 v.1 in
        let u : Taken (s v.0.0) v.0.1 rest b = (second v.0.0).taken v.0.1 rest b v.2 in
        record {
          seen = t.seen ++ u.seen;
          joined = t.joined ∙ ap (λ l. t.seen ++ l) u.joined ∙ sym (append_assoc t.seen u.seen rest);
          again = λ more. again_both t.seen u.seen more v.0.0 b t.again u.again;
        }

    -- what begins a first reading begins both
    begins_both : (bytes : List ℕ) → Begins (Closed r) bytes → Begins (Closed (λ bytes. and_then (r bytes) s)) bytes
    begins_both bytes b =
        let a : A = b.1.0 in
        let t : Taken r (bytes ++ b.0) [] a = first.taken (bytes ++ b.0) [] a b.1.1 in
        let more : List ℕ = (second a).some.0 in
        let same : bytes ++ (b.0 ++ more) ≡ t.seen ++ more =
        sym (append_assoc bytes b.0 more) ∙ ap (λ l. l ++ more) (t.joined ∙ append-nil t.seen) in (
          b.0 ++ more,
          (
            (second a).some.1.0,
            ap (λ l. and_then (r l) s) same ∙ ap (λ x. and_then x s) (t.again more)
                ∙ (second a).some.1.1,
          ),
        )

    open_first : (bytes : List ℕ) → Open (λ bytes. and_then (r bytes) s) bytes → Open r bytes
    open_first bytes o =
        let v : (v : A × List ℕ) × (r bytes ≡ Ok v) × (s v.0 v.1 ≡ Ok o.0) = then_ok (r bytes) o.0 o.1 in
        (v.0, v.1)

    leads_second : (bytes rest : List ℕ) (a : A) → r bytes ≡ Ok (a, rest)
        → Leads (Closed (λ bytes. and_then (r bytes) s)) (Open (λ bytes. and_then (r bytes) s)) (Closed (s a))
        (Open (s a))
        bytes rest
    leads_second bytes rest a h =
        let t : Taken r bytes rest a = first.taken bytes rest a h in
        record {
          seen = t.seen;
          joined = t.joined;
          there = λ more c. (c.0, ap (λ x. and_then x s) (t.again more) ∙ c.1);
          back = λ more o. (o.0, sym (ap (λ x. and_then x s) (t.again more)) ∙ o.1);
        }

    stops_both : (bytes : List ℕ) (stop : Stop) → and_then (r bytes) s ≡ Err stop
        → Stops (λ bytes. and_then (r bytes) s) bytes stop
    stops_both bytes stop h = by (then_err (r bytes) stop h)
      where
        by : (r bytes ≡ Err stop) ⊎ ((v : A × List ℕ) × (r bytes ≡ Ok v) × (s v.0 v.1 ≡ Err stop))
            → Stops (λ bytes. and_then (r bytes) s) bytes stop
        by (inl e) =
            stopped_so (Closed r) (Open r) (Closed (λ bytes. and_then (r bytes) s))
            (Open (λ bytes. and_then (r bytes) s)) begins_both open_first bytes stop (first.stops bytes stop e)
        by (inr v) =
            stopped_behind (Closed (λ bytes. and_then (r bytes) s)) (Open (λ bytes. and_then (r bytes) s))
            (Closed (s v.0.0)) (Open (s v.0.0)) bytes v.0.1 (leads_second bytes v.0.1 v.0.0 v.1) stop
            ((second v.0.0).stops v.0.1 stop v.2)

    pub is_reader-then : IsReader (λ bytes. and_then (r bytes) s)
    is_reader-then = record {
      taken = taken_both;
      stops = stops_both;
      some = begins_both [] first.some;
    }

-- ---- a reading by the first byte

-- What is known of a first byte: the rest is read by a reader, it can't stand here, or it is an element type outside.
pub data Byte {A : Type 0} (whole : List ℕ → Reading A) (x : ℕ) (behind : List ℕ → Reading A) : Type 0 where
  GoesOn : IsReader behind → Byte whole x behind
  Bad : ((rest : List ℕ) → behind rest ≡ Err (Stop.Bad (length rest + 1)))
      → (IsTrue (is_outside x) → (rest : List ℕ) → Open whole (0x0B ∷ rest) → ⊥)
      → (x ≡ 0x10 → (rest : List ℕ) → Open whole (0x01 ∷ rest) → ⊥) → Byte whole x behind
  Outside : ((rest : List ℕ) → behind rest ≡ Err (Stop.Outside x)) → IsElementOutside (Closed whole) [] x
      → Byte whole x behind

-- by a test of the byte
pub byte-if : {A : Type 0} (whole : List ℕ → Reading A) (x : ℕ) (b : Bool) (r s : List ℕ → Reading A) → IsReader r
    → Byte whole x s → Byte whole x (λ rest. cond b (r rest) (s rest))
byte-if whole x true r s is byte = GoesOn is
byte-if whole x false r s is byte = byte

module _ {A : Type 0} (f : ℕ → List ℕ → Reading A) (kinds : (x : ℕ) → Byte (by_first_byte f) x (f x))
    (some : Begins (Closed (by_first_byte f)) []) where
  taken_by_byte : (bytes rest : List ℕ) (a : A) → by_first_byte f bytes ≡ Ok (a, rest)
      → Taken (by_first_byte f) bytes rest a
  taken_by_byte [] rest a h = absurd (ok_is_no_err (sym h))
  taken_by_byte (x ∷ bytes) rest a h = by (kinds x)
    where
      by : Byte (by_first_byte f) x (f x) → Taken (by_first_byte f) (x ∷ bytes) rest a
      by (GoesOn is) =
          let t : Taken (f x) bytes rest a = is.taken bytes rest a h in
          record { seen = x ∷ t.seen; joined = ap (λ l. x ∷ l) t.joined; again = t.again }
      by (Bad is _ _) = absurd (ok_is_no_err (sym h ∙ is bytes))
      by (Outside is _) = absurd (ok_is_no_err (sym h ∙ is bytes))

  -- nothing that begins with a byte is read where it can't stand
  no_such : (x : ℕ) (stop : List ℕ → Stop) → ((rest : List ℕ) → f x rest ≡ Err (stop rest))
      → Begins (Open (by_first_byte f)) (x ∷ []) → ⊥
  no_such x stop is b = ok_is_no_err (sym b.1.1 ∙ is b.0)

  leads_on_byte : (x : ℕ) (rest : List ℕ)
      → Leads (Closed (by_first_byte f)) (Open (by_first_byte f)) (Closed (f x)) (Open (f x)) (x ∷ rest) rest
  leads_on_byte x rest = record { seen = x ∷ []; joined = refl; there = λ more c. c; back = λ more o. o }

  not_outside : (x : ℕ) → (IsTrue (is_outside x) → (rest : List ℕ) → Open (by_first_byte f) (0x0B ∷ rest) → ⊥)
      → (x ≡ 0x10 → (rest : List ℕ) → Open (by_first_byte f) (0x01 ∷ rest) → ⊥)
      → IsElementOutside (Open (by_first_byte f)) [] x → ⊥
  not_outside x no_type no_void (inl o) =
      let b : Begins (Open (by_first_byte f)) (0x0B ∷ []) = o.1 0x0B Primitive.U8 u8 in no_type o.0 b.0 b.1
  not_outside x no_type no_void (inr o) = no_void o.0 o.1.0 o.1.1

  stops_by_byte : (bytes : List ℕ) (stop : Stop) → by_first_byte f bytes ≡ Err stop → Stops (by_first_byte f) bytes stop
  stops_by_byte [] stop h =
      subst (Stops (by_first_byte f) []) (stop_of h) (record {
        seen = [];
        left = [];
        joined = refl;
        begun = some;
        ended = λ o. ok_is_no_err (sym o.1);
        by = (refl, λ o. o);
      })
  stops_by_byte (x ∷ rest) stop h = by (kinds x)
    where
      by : Byte (by_first_byte f) x (f x) → Stops (by_first_byte f) (x ∷ rest) stop
      by (GoesOn is) =
          stopped_behind (Closed (by_first_byte f)) (Open (by_first_byte f)) (Closed (f x)) (Open (f x)) (x ∷ rest) rest
          (leads_on_byte x rest) stop (is.stops rest stop h)
      by (Bad is no_type no_void) =
          subst (Stops (by_first_byte f) (x ∷ rest)) (stop_of (sym (is rest) ∙ h)) (record {
            seen = [];
            left = x ∷ rest;
            joined = refl;
            begun = some;
            ended = no_such x (λ rest. Stop.Bad (length rest + 1)) is;
            by = (add-one (length rest), not_outside x no_type no_void);
          })
      by (Outside is o) =
          subst (Stops (by_first_byte f) (x ∷ rest)) (stop_of (sym (is rest) ∙ h)) (record {
            seen = [];
            left = x ∷ rest;
            joined = refl;
            begun = some;
            ended = no_such x (λ rest. Stop.Outside x) is;
            by = (rest, refl, o);
          })

  pub is_reader-by_first_byte : IsReader (by_first_byte f)
  is_reader-by_first_byte = record { taken = taken_by_byte; stops = stops_by_byte; some = some }

-- bytes that were read are fewer behind it, where nothing is read of no bytes
pub shorter : {A : Type 0} (r : List ℕ → Reading A) (bytes rest : List ℕ) (a : A) → Taken r bytes rest a
    → (Open r [] → ⊥) → length rest < length bytes
shorter r bytes rest a t nothing = by t.seen t.joined t.again
  where
    by : (seen : List ℕ) → bytes ≡ seen ++ rest → ((more : List ℕ) → r (seen ++ more) ≡ Ok (a, more))
        → length rest < length bytes
    by [] joined again = absurd (nothing ((a, []), again []))
    by (x ∷ seen) joined again = omega (arith, ap length joined, length-append (x ∷ seen) rest)
