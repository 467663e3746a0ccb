-- Compressed numbers and indexes, byte by byte.
use Rattle.std.proofs.Common.{◌≡◌, ◌∙◌, ◌++◌, ◌∷◌, ◌+◌, ◌%◌, ◌^◌, ◌<◌, ◌≤◌, ◌⊎◌, [], ℕ, List, length, Ok, Err}
use Rattle.std.proofs.Common.{cond, IsTrue, refl, ap, sym, subst, inl, inr, arith, add-one}
use Rattle.std.proofs.Common.{append_assoc, append-nil, lt-ltb, le-ltb, eq-eqb, ne_eqb}
use Rattle.std.proofs.lemmas.Bool.{cases_lt, cases_eq}
use Rattle.byteorder.specs.Endian.{big_number}
use Rattle.ty_terms.specs.declared.ty.Primitive.{Primitive}
use Rattle.md_sigs.specs.Elements.{Reading, and_then, index_at, is_outside, number_at, outside, tagged}
use Rattle.md_sigs.specs.Refusal.{Begins, IsElementOutside}
use Rattle.md_sigs.specs.declared.element.Stop.{Stop}
use Rattle.md_sigs.proofs.Readers.{done, Closed, Open, Taken, Stops, IsReader, ok_is_no_err, value_of, rest_of, stop_of}
use Rattle.md_sigs.proofs.Readers.{u8}

abbrev two : ℕ → ℕ → ℕ
two x y = big_number 2 (x ∷ y ∷ []) % 2 ^ 14

abbrev four : ℕ → ℕ → ℕ → ℕ → ℕ
four x y z w = big_number 4 (x ∷ y ∷ z ∷ w ∷ []) % 2 ^ 29

-- ---- what the bytes of each form are read as

reads_one : (x : ℕ) (rest : List ℕ) → x < 0x80 → number_at (x ∷ rest) ≡ Ok (x, rest)
reads_one x rest h = rw (lt-ltb x 0x80 h) refl

reads_two : (x y : ℕ) (rest : List ℕ) → 0x80 ≤ x → x < 0xC0 → number_at (x ∷ y ∷ rest) ≡ Ok (two x y, rest)
reads_two x y rest low high =
    rw (le-ltb x 0x80 low, lt-ltb x 0xC0 high, le-ltb (length (x ∷ y ∷ rest)) 2 (omega arith)) refl

reads_four : (x y z w : ℕ) (rest : List ℕ) → 0xC0 ≤ x → x < 0xE0
    → number_at (x ∷ y ∷ z ∷ w ∷ rest) ≡ Ok (four x y z w, rest)
reads_four x y z w rest low high =
    let not_one : 0x80 ≤ x = omega arith in
    rw (
      le-ltb x 0x80 not_one,
      le-ltb x 0xC0 low,
      lt-ltb x 0xE0 high,
      le-ltb (length (x ∷ y ∷ z ∷ w ∷ rest)) 4 (omega arith),
    ) refl

reads_none : (x : ℕ) (rest : List ℕ) → 0xE0 ≤ x → number_at (x ∷ rest) ≡ Err (Stop.Bad (length rest + 1))
reads_none x rest high =
    let not_one : 0x80 ≤ x = omega arith in
    let not_two : 0xC0 ≤ x = omega arith in
    rw (le-ltb x 0x80 not_one, le-ltb x 0xC0 not_two, le-ltb x 0xE0 high, le-ltb x 0xE0 high) refl

-- ---- the beginning of a number that isn't whole

pub data Part : List ℕ → Type 0 where
  Nothing : Part []
  OneOfTwo : (x : ℕ) → 0x80 ≤ x → x < 0xC0 → Part (x ∷ [])
  OneOfFour : (x : ℕ) → 0xC0 ≤ x → x < 0xE0 → Part (x ∷ [])
  TwoOfFour : (x y : ℕ) → 0xC0 ≤ x → x < 0xE0 → Part (x ∷ y ∷ [])
  ThreeOfFour : (x y z : ℕ) → 0xC0 ≤ x → x < 0xE0 → Part (x ∷ y ∷ z ∷ [])

cut_two : (x : ℕ) → 0x80 ≤ x → x < 0xC0 → number_at (x ∷ []) ≡ Err (Stop.Bad 0)
cut_two x low high =
    let below : x < 0xE0 = omega arith in
    rw (le-ltb x 0x80 low, lt-ltb x 0xC0 high, lt-ltb x 0xE0 below) refl

cut_four : (x : ℕ) (rest : List ℕ) → 0xC0 ≤ x → x < 0xE0 → length rest < 3
    → number_at (x ∷ rest) ≡ Err (Stop.Bad 0)
cut_four x rest low high few =
    let not_one : 0x80 ≤ x = omega arith in
    let short : length (x ∷ rest) < 4 = omega arith in
    rw (
      le-ltb x 0x80 not_one,
      le-ltb x 0xC0 low,
      lt-ltb x 0xE0 high,
      lt-ltb (length (x ∷ rest)) 4 short,
      lt-ltb x 0xE0 high,
    ) refl

reads_part : (bytes : List ℕ) → Part bytes → number_at bytes ≡ Err (Stop.Bad 0)
reads_part _ Nothing = refl
reads_part _ (OneOfTwo x low high) = cut_two x low high
reads_part _ (OneOfFour x low high) = cut_four x [] low high (omega arith)
reads_part _ (TwoOfFour x y low high) = cut_four x (y ∷ []) low high (omega arith)
reads_part _ (ThreeOfFour x y z low high) = cut_four x (y ∷ z ∷ []) low high (omega arith)

-- it goes on to a number that is a multiple of 4
pub record Completed (bytes : List ℕ) : Type 0 where
  pub more : List ℕ
  pub n : ℕ
  pub tag : n % 4 ≡ 0
  pub reads : (rest : List ℕ) → number_at (bytes ++ (more ++ rest)) ≡ Ok (n, rest)

tag_of_two : (x y : ℕ) → two x y % 4 ≡ y % 4
tag_of_two x y = omega arith

tag_of_four : (x y z w : ℕ) → four x y z w % 4 ≡ w % 4
tag_of_four x y z w = omega arith

completed : (bytes : List ℕ) → Part bytes → Completed bytes
completed _ Nothing = record { more = 0 ∷ []; n = 0; tag = refl; reads = λ rest. refl }
completed _ (OneOfTwo x low high) = record {
  more = 0 ∷ [];
  n = two x 0;
  tag = tag_of_two x 0;
  reads = λ rest. reads_two x 0 rest low high;
}
completed _ (OneOfFour x low high) = record {
  more = 0 ∷ 0 ∷ 0 ∷ [];
  n = four x 0 0 0;
  tag = tag_of_four x 0 0 0;
  reads = λ rest. reads_four x 0 0 0 rest low high;
}
completed _ (TwoOfFour x y low high) = record {
  more = 0 ∷ 0 ∷ [];
  n = four x y 0 0;
  tag = tag_of_four x y 0 0;
  reads = λ rest. reads_four x y 0 0 rest low high;
}
completed _ (ThreeOfFour x y z low high) = record {
  more = 0 ∷ [];
  n = four x y z 0;
  tag = tag_of_four x y z 0;
  reads = λ rest. reads_four x y z 0 rest low high;
}

-- ---- all bytes: those that begin with a number, parts of one, and those that begin with none

-- A number is a part and its last byte, whose value gives the number's tag whatever it is, within the form.
pub record Number (bytes : List ℕ) : Type 0 where
  pub part : List ℕ
  pub is_part : Part part
  pub last : ℕ
  pub rest : List ℕ
  pub joined : bytes ≡ part ++ last ∷ rest
  pub value : ℕ → ℕ
  pub tag : (x : ℕ) → value x % 4 ≡ x % 4
  pub reads : (more : List ℕ) → number_at (part ++ last ∷ more) ≡ Ok (value last, more)
  pub eleven : (more : List ℕ) → number_at (part ++ 0x0B ∷ more) ≡ Ok (value 0x0B, more)

pub data View : List ℕ → Type 0 where
  Whole : (bytes : List ℕ) → Number bytes → View bytes
  Cut : (bytes : List ℕ) → Part bytes → View bytes
  Wrong : (x : ℕ) (rest : List ℕ) → 0xE0 ≤ x → View (x ∷ rest)

view_one : (x : ℕ) (rest : List ℕ) → x < 0x80 → View (x ∷ rest)
view_one x rest h = Whole (x ∷ rest) (record {
  part = [];
  is_part = Nothing;
  last = x;
  rest = rest;
  joined = refl;
  value = λ y. y;
  tag = λ y. refl;
  reads = λ more. reads_one x more h;
  eleven = λ more. refl;
})

view_two : (x : ℕ) (rest : List ℕ) → 0x80 ≤ x → x < 0xC0 → View (x ∷ rest)
view_two x [] low high = Cut (x ∷ []) (OneOfTwo x low high)
view_two x (y ∷ rest) low high = Whole (x ∷ y ∷ rest) (record {
  part = x ∷ [];
  is_part = OneOfTwo x low high;
  last = y;
  rest = rest;
  joined = refl;
  value = two x;
  tag = tag_of_two x;
  reads = λ more. reads_two x y more low high;
  eleven = λ more. reads_two x 0x0B more low high;
})

view_four : (x : ℕ) (rest : List ℕ) → 0xC0 ≤ x → x < 0xE0 → View (x ∷ rest)
view_four x [] low high = Cut (x ∷ []) (OneOfFour x low high)
view_four x (y ∷ []) low high = Cut (x ∷ y ∷ []) (TwoOfFour x y low high)
view_four x (y ∷ z ∷ []) low high = Cut (x ∷ y ∷ z ∷ []) (ThreeOfFour x y z low high)
view_four x (y ∷ z ∷ w ∷ rest) low high = Whole (x ∷ y ∷ z ∷ w ∷ rest) (record {
  part = x ∷ y ∷ z ∷ [];
  is_part = ThreeOfFour x y z low high;
  last = w;
  rest = rest;
  joined = refl;
  value = four x y z;
  tag = tag_of_four x y z;
  reads = λ more. reads_four x y z w more low high;
  eleven = λ more. reads_four x y z 0x0B more low high;
})

view : (bytes : List ℕ) → View bytes
view [] = Cut [] Nothing
view (x ∷ rest) = one (cases_lt x 0x80)
  where
    three : 0xC0 ≤ x → (x < 0xE0) ⊎ (0xE0 ≤ x) → View (x ∷ rest)
    three low (inl high) = view_four x rest low high
    three low (inr high) = Wrong x rest high

    second : 0x80 ≤ x → (x < 0xC0) ⊎ (0xC0 ≤ x) → View (x ∷ rest)
    second low (inl high) = view_two x rest low high
    second low (inr high) = three high (cases_lt x 0xE0)

    one : (x < 0x80) ⊎ (0x80 ≤ x) → View (x ∷ rest)
    one (inl h) = view_one x rest h
    one (inr h) = second h (cases_lt x 0xC0)

-- ---- numbers as a reader

-- an element type outside is no byte from 224 on
small_outside : (x : ℕ) → 0xE0 ≤ x → IsTrue (is_outside x) → ⊥
unfolding is_outside outside
small_outside x high o = grind arith

zero_begins : Begins (Closed number_at) []
zero_begins = (0 ∷ [], (0, refl))

-- nothing is read behind a first byte from 224 on
none_begins : {A : Type 0} (next : ℕ → List ℕ → Reading A) (x : ℕ) → 0xE0 ≤ x
    → Begins (Open (λ bytes. and_then (number_at bytes) next)) (x ∷ []) → ⊥
none_begins next x high b =
    ok_is_no_err (sym b.1.1 ∙ ap (λ n. and_then n next) (reads_none x b.0 high))

wrong_not_outside : (Language : List ℕ → Type 0) (x : ℕ) → 0xE0 ≤ x → IsElementOutside Language [] x → ⊥
wrong_not_outside Language x high (inl o) = small_outside x high o.0
wrong_not_outside Language x high (inr o) = omega arith

number_taken : (bytes rest : List ℕ) (n : ℕ) → number_at bytes ≡ Ok (n, rest) → Taken number_at bytes rest n
number_taken bytes rest n h = by bytes (view bytes) h
  where
    by : (bytes : List ℕ) → View bytes → number_at bytes ≡ Ok (n, rest) → Taken number_at bytes rest n
    by _ (Whole bytes v) h =
        let here : done (v.value v.last, v.rest) ≡ Ok (n, rest) =
        sym (v.reads v.rest) ∙ ap number_at (sym v.joined) ∙ h in
        record {
          seen = v.part ++ v.last ∷ [];
          joined =
              v.joined ∙ ap (λ l. v.part ++ v.last ∷ l) (rest_of (v.value v.last) n v.rest rest here)
              ∙ sym (append_assoc v.part (v.last ∷ []) rest);
          again =
              λ more. ap number_at (append_assoc v.part (v.last ∷ []) more) ∙ v.reads more
              ∙ ap (λ (m : ℕ). Ok (m, more)) (value_of (v.value v.last) n v.rest rest here);
        }
    by _ (Cut bytes part) h = absurd (ok_is_no_err (sym h ∙ reads_part bytes part))
    by _ (Wrong x rest' high) h = absurd (ok_is_no_err (sym h ∙ reads_none x rest' high))

number_stops : (bytes : List ℕ) (stop : Stop) → number_at bytes ≡ Err stop → Stops number_at bytes stop
number_stops bytes stop h = by bytes (view bytes) h
  where
    by : (bytes : List ℕ) → View bytes → number_at bytes ≡ Err stop → Stops number_at bytes stop
    by _ (Whole bytes v) h = absurd (ok_is_no_err (sym (v.reads v.rest) ∙ ap number_at (sym v.joined) ∙ h))
    by _ (Cut bytes part) h =
        let whole : Completed bytes = completed bytes part in
        subst (Stops number_at bytes) (stop_of (sym (reads_part bytes part) ∙ h)) (record {
          seen = bytes;
          left = [];
          joined = sym (append-nil bytes);
          begun =
              (whole.more, (whole.n, ap (λ l. number_at (bytes ++ l)) (sym (append-nil whole.more)) ∙ whole.reads []));
          ended = λ o. ok_is_no_err (sym o.1 ∙ reads_part bytes part);
          by = (refl, λ o. o);
        })
    by _ (Wrong x rest high) h =
        subst (Stops number_at (x ∷ rest)) (stop_of (sym (reads_none x rest high) ∙ h)) (record {
          seen = [];
          left = x ∷ rest;
          joined = refl;
          begun = zero_begins;
          ended = λ b. ok_is_no_err (sym b.1.1 ∙ reads_none x b.0 high);
          by = (add-one (length rest), wrong_not_outside (Open number_at) x high);
        })

pub is_reader-number : IsReader number_at
is_reader-number = record { taken = number_taken; stops = number_stops; some = zero_begins }

-- ---- indexes as a reader

pub index_of : (bytes rest : List ℕ) (n : ℕ) → number_at bytes ≡ Ok (n, rest) → (n % 4 ≡ 3 → ⊥)
    → index_at bytes ≡ Ok (n, rest)
index_of bytes rest n h never =
    ap (λ x. and_then x tagged) h
    ∙ ap (λ b. cond b (Err (Stop.Bad (length rest + 1))) (Ok (n, rest))) (ne_eqb (n % 4) 3 never)

no_index_of : (bytes rest : List ℕ) (n : ℕ) → number_at bytes ≡ Ok (n, rest) → n % 4 ≡ 3
    → index_at bytes ≡ Err (Stop.Bad (length rest + 1))
no_index_of bytes rest n h is =
    ap (λ x. and_then x tagged) h
    ∙ ap (λ b. cond b (Err (Stop.Bad (length rest + 1))) (Ok (n, rest))) (eq-eqb (n % 4) 3 is)

index_begins : (bytes : List ℕ) → Part bytes → Begins (Closed index_at) bytes
index_begins bytes part =
    let whole : Completed bytes = completed bytes part in (
      whole.more,
      (
        whole.n,
        index_of (bytes ++ whole.more) [] whole.n
            (ap (λ l. number_at (bytes ++ l)) (sym (append-nil whole.more)) ∙ whole.reads [])
            (omega (arith, whole.tag)),
      ),
    )

index_taken : (bytes rest : List ℕ) (n : ℕ) → index_at bytes ≡ Ok (n, rest) → Taken index_at bytes rest n
index_taken bytes rest n h = by bytes (view bytes) h
  where
    by : (bytes : List ℕ) → View bytes → index_at bytes ≡ Ok (n, rest) → Taken index_at bytes rest n
    by _ (Whole bytes v) h = tag (cases_eq (v.value v.last % 4) 3)
      where
        here : number_at bytes ≡ Ok (v.value v.last, v.rest)
        here = ap number_at v.joined ∙ v.reads v.rest

        tag : (v.value v.last % 4 ≡ 3) ⊎ (v.value v.last % 4 ≡ 3 → ⊥) → Taken index_at bytes rest n
        tag (inl is) = absurd (ok_is_no_err (sym h ∙ no_index_of bytes v.rest (v.value v.last) here is))
        tag (inr never) =
            let same : done (v.value v.last, v.rest) ≡ Ok (n, rest) =
            sym (index_of bytes v.rest (v.value v.last) here never) ∙ h in
            record {
              seen = v.part ++ v.last ∷ [];
              joined =
                  v.joined ∙ ap (λ l. v.part ++ v.last ∷ l) (rest_of (v.value v.last) n v.rest rest same)
                  ∙ sym (append_assoc v.part (v.last ∷ []) rest);
              again =
                  λ more. ap index_at (append_assoc v.part (v.last ∷ []) more)
                  ∙ index_of (v.part ++ v.last ∷ more) more (v.value v.last) (v.reads more) never
                  ∙ ap (λ (m : ℕ). Ok (m, more)) (value_of (v.value v.last) n v.rest rest same);
            }
    by _ (Cut bytes part) h = absurd (ok_is_no_err (sym h ∙ ap (λ x. and_then x tagged) (reads_part bytes part)))
    by _ (Wrong x rest' high) h =
        absurd (ok_is_no_err (sym h ∙ ap (λ x. and_then x tagged) (reads_none x rest' high)))

-- where the last byte of a number has the tag 3, a type alone has it there too
tag_not_outside : (bytes : List ℕ) (v : Number bytes) → v.value v.last % 4 ≡ 3
    → IsElementOutside (Open index_at) v.part v.last → ⊥
tag_not_outside bytes v is (inl o) =
    let b : Begins (Open index_at) (v.part ++ 0x0B ∷ []) = o.1 0x0B Primitive.U8 u8 in
    ok_is_no_err (sym b.1.1 ∙ ap index_at (append_assoc v.part (0x0B ∷ []) b.0)
    ∙ no_index_of (v.part ++ 0x0B ∷ b.0) b.0 (v.value 0x0B) (v.eleven b.0) (v.tag 0x0B))
tag_not_outside bytes v is (inr o) = omega (arith, v.tag v.last, o.0)

index_stops : (bytes : List ℕ) (stop : Stop) → index_at bytes ≡ Err stop → Stops index_at bytes stop
index_stops bytes stop h = by bytes (view bytes) h
  where
    by : (bytes : List ℕ) → View bytes → index_at bytes ≡ Err stop → Stops index_at bytes stop
    by _ (Whole bytes v) h = tag (cases_eq (v.value v.last % 4) 3)
      where
        here : number_at bytes ≡ Ok (v.value v.last, v.rest)
        here = ap number_at v.joined ∙ v.reads v.rest

        tag : (v.value v.last % 4 ≡ 3) ⊎ (v.value v.last % 4 ≡ 3 → ⊥) → Stops index_at bytes stop
        tag (inl is) =
            subst (Stops index_at bytes) (stop_of (sym (no_index_of bytes v.rest (v.value v.last) here is) ∙ h))
            (record {
              seen = v.part;
              left = v.last ∷ v.rest;
              joined = v.joined;
              begun = index_begins v.part v.is_part;
              ended =
                  λ b. ok_is_no_err (sym b.1.1 ∙ ap index_at (append_assoc v.part (v.last ∷ []) b.0)
                  ∙ no_index_of (v.part ++ v.last ∷ b.0) b.0 (v.value v.last) (v.reads b.0) is);
              by = (add-one (length v.rest), tag_not_outside bytes v is);
            })
        tag (inr never) = absurd (ok_is_no_err (sym (index_of bytes v.rest (v.value v.last) here never) ∙ h))
    by _ (Cut bytes part) h =
        subst (Stops index_at bytes) (stop_of (sym (ap (λ x. and_then x tagged) (reads_part bytes part)) ∙ h)) (record {
          seen = bytes;
          left = [];
          joined = sym (append-nil bytes);
          begun = index_begins bytes part;
          ended = λ o. ok_is_no_err (sym o.1 ∙ ap (λ x. and_then x tagged) (reads_part bytes part));
          by = (refl, λ o. o);
        })
    by _ (Wrong x rest high) h =
        subst (Stops index_at (x ∷ rest)) (stop_of (sym (ap (λ x. and_then x tagged) (reads_none x rest high)) ∙ h))
        (record {
          seen = [];
          left = x ∷ rest;
          joined = refl;
          begun = index_begins [] Nothing;
          ended = none_begins tagged x high;
          by = (add-one (length rest), wrong_not_outside (Open index_at) x high);
        })

pub is_reader-index : IsReader index_at
is_reader-index = record { taken = index_taken; stops = index_stops; some = index_begins [] Nothing }
