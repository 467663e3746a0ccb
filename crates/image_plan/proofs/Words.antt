-- Code with the addresses of its fixes, word by word, and in memory.
use Rattle.std.proofs.Common.{◌≡◌, ◌∙◌, ◌⊎◌, inl, inr, ℕ, zero, suc, ◌+◌, ◌*◌, ◌%◌, ◌^◌, ◌<◌, ◌≤◌, Bool, true}
use Rattle.std.proofs.Common.{false, ◌&&◌, ◌||◌, List, [], ◌∷◌, ◌++◌, length, map, take, drop, Option, Some, None}
use Rattle.std.proofs.Common.{slice_get, slice_index, unwrap_or, is_some, pos, ap, sym, subst, arith, refl, nat_le}
use Rattle.std.proofs.Common.{nat_lt}
use Rattle.std.proofs.Common.{true≢false}
use Rattle.std.specs.List.{list_all, list_any}
use Rattle.std.proofs.lemmas.Bool.{and_from, and_left, and_right, cases_lt, eqb-true, le-leb, le-ltb, leb-true, lt-leb}
use Rattle.std.proofs.lemmas.Bool.{lt-ltb, ltb-true, or_cases, or_from, or_parts}
use Rattle.byteorder.specs.Endian.{little_bytes}
use Rattle.num_core.specs.declared.fix.Fix.{Fix}
use Rattle.rv_isa.specs.Parts.{parts_of}
use Rattle.rv_step.specs.Machine.{MachineState}
use Rattle.rv_step.specs.Memory.{Bytes, Number}
use Rattle.rv_step.proofs.Addresses.{split}
use Rattle.rt_code.specs.Code.{upper}
use Rattle.image_plan.specs.Conditions.{are_apart, are_found, is_apart, is_auipc}
use Rattle.image_plan.specs.Loaded.{HasCode, changes}
use Rattle.image_plan.specs.Places.{address_of, begins, code_size}
use Rattle.image_plan.specs.Written.{Finds, bits_between, bytes_of, code_bytes, target, with_address, with_addresses}
use Rattle.image_plan.specs.Written.{with_both, with_lower, with_upper}
use Rattle.image_plan.specs.declared.pieces.CodePiece.{CodePiece}
use Rattle.image_plan.specs.declared.pieces.Pieces.{Pieces}
use Rattle.image_plan.proofs.Leading.{auipc_is, first_kept, leads, near, second_kept}
use Rattle.image_plan.proofs.Lengths.{address_length, addresses_length, behind_both, front_both, words_length}
use Rattle.image_plan.proofs.Listed.{all_at}

-- ---- one fix

before_one : (k at : ℕ) → suc k < suc at → k < at
before_one k at h = omega (arith, h)

behind_one : (k at : ℕ) → suc at + 1 < suc k → at + 1 < k
behind_one k at h = omega (arith, h)

one_less : (k at : ℕ) → (suc k < suc at) ⊎ (suc at + 1 < suc k) → (k < at) ⊎ (at + 1 < k)
one_less k at (inl h) = inl (before_one k at h)
one_less k at (inr h) = inr (behind_one k at h)

abbrev fixed_words : ℕ → ℕ → List ℕ → List ℕ
fixed_words bits at words = take at words ++ with_both bits (drop at words)

-- words elsewhere are as they were
elsewhere : (bits at : ℕ) (words : List ℕ) (k : ℕ) → (k < at) ⊎ (at + 1 < k)
    → slice_index (fixed_words bits at words) k ≡ slice_index words k
elsewhere bits zero [] k apart = refl
elsewhere bits zero (first ∷ []) k apart = refl
elsewhere bits zero (first ∷ second ∷ words) zero (inl h) = absurd (omega (arith, h))
elsewhere bits zero (first ∷ second ∷ words) zero (inr h) = absurd (omega (arith, h))
elsewhere bits zero (first ∷ second ∷ words) (suc zero) (inl h) = absurd (omega (arith, h))
elsewhere bits zero (first ∷ second ∷ words) (suc zero) (inr h) = absurd (omega (arith, h))
elsewhere bits zero (first ∷ second ∷ words) (suc (suc k)) apart = refl
elsewhere bits (suc at) [] k apart = refl
elsewhere bits (suc at) (word ∷ words) zero apart = refl
elsewhere bits (suc at) (word ∷ words) (suc k) apart = elsewhere bits at words k (one_less k at apart)

-- and the two have it
first_here : (bits at : ℕ) (words : List ℕ) → at + 1 < length words
    → slice_index (fixed_words bits at words) at ≡ with_upper bits (slice_index words at)
first_here bits zero [] h = absurd (omega (arith, h))
first_here bits zero (first ∷ []) h = absurd (omega (arith, h))
first_here bits zero (first ∷ second ∷ words) h = refl
first_here bits (suc at) [] h = absurd (omega (arith, h))
first_here bits (suc at) (word ∷ words) h = first_here bits at words (omega (arith, h))

second_here : (bits at : ℕ) (words : List ℕ) → at + 1 < length words
    → slice_index (fixed_words bits at words) (suc at) ≡ with_lower bits (slice_index words (suc at))
second_here bits zero [] h = absurd (omega (arith, h))
second_here bits zero (first ∷ []) h = absurd (omega (arith, h))
second_here bits zero (first ∷ second ∷ words) h = refl
second_here bits (suc at) [] h = absurd (omega (arith, h))
second_here bits (suc at) (word ∷ words) h = second_here bits at words (omega (arith, h))

-- ---- several

-- what a fix doesn't change lies in front of it or behind it
apart_by : (at k : ℕ) → nat_le at k && nat_lt k (at + 2) ≡ false → (k < at) ⊎ (at + 1 < k)
apart_by at k h = elim (cases_lt k at) [
  | inl less ↦ inl less
  | inr more ↦ elim (cases_lt k (at + 2)) [
    | inl inside ↦ absurd (true≢false (sym (both at k more inside) ∙ h))
    | inr behind ↦ inr (omega (arith, behind))
  ]
]
  where
    both : (a n : ℕ) → a ≤ n → n < a + 2 → nat_le a n && nat_lt n (a + 2) ≡ true
    both a n low high = and_from (nat_le a n) (nat_lt n (a + 2)) (le-leb a n low) (lt-ltb n (a + 2) high)

kept_word : (find : Finds) (begin : ℕ) (fixes : List Fix) (words : List ℕ) (k : ℕ)
    → list_any (changes 2 k) fixes ≡ false
    → slice_index (with_addresses find begin fixes words) k ≡ slice_index words k
kept_word find begin [] words k h = refl
kept_word find begin (fix ∷ fixes) words k h =
    let none = or_parts (changes 2 k fix) (list_any (changes 2 k) fixes) h in
    kept_word find begin fixes (with_address find begin fix words) k none.1
    ∙ elsewhere (bits_between (begin + 4 * fix.at) (target find fix)) fix.at words k (apart_by fix.at k none.0)

-- a fix that is apart from others isn't changed by them
not_changed : (fix other : Fix) (j : ℕ) → j < 2 → nat_le (fix.at + 2) other.at || nat_le (other.at + 2) fix.at ≡ true
    → nat_le other.at (fix.at + j) && nat_lt (fix.at + j) (other.at + 2) ≡ false
not_changed fix other j h e =
    elim (or_cases (nat_le (fix.at + 2) other.at) (nat_le (other.at + 2) fix.at) e) [
      | inl before ↦
          let low : fix.at + 2 ≤ other.at = leb-true (fix.at + 2) other.at before in
          and_left (nat_le other.at (fix.at + j)) (nat_lt (fix.at + j) (other.at + 2))
          (lt-leb other.at (fix.at + j) (omega (arith, low, h)))
      | inr behind ↦
          let high : other.at + 2 ≤ fix.at = leb-true (other.at + 2) fix.at behind in
          and_right (nat_le other.at (fix.at + j)) (nat_lt (fix.at + j) (other.at + 2))
          (le-ltb (fix.at + j) (other.at + 2) (omega (arith, high)))
    ]

none_changes : (fix : Fix) (others : List Fix) (j : ℕ) → j < 2 → list_all (is_apart 2 fix) others ≡ true
    → list_any (changes 2 (fix.at + j)) others ≡ false
none_changes fix [] j h e = refl
none_changes fix (other ∷ others) j h e =
    or_from (changes 2 (fix.at + j) other) (list_any (changes 2 (fix.at + j)) others)
    (not_changed fix other j h (front_both (is_apart 2 fix other) (list_all (is_apart 2 fix) others) e))
    (none_changes fix others j h (behind_both (is_apart 2 fix other) (list_all (is_apart 2 fix) others) e))

-- so a word of one is none of the other's
either : (a b : Fix) (j n : ℕ) → j < 2 → nat_le (a.at + 2) b.at || nat_le (b.at + 2) a.at ≡ true → n ≡ b.at + j
    → (n < a.at) ⊎ (a.at + 1 < n)
either a b j n h e is =
    elim (or_cases (nat_le (a.at + 2) b.at) (nat_le (b.at + 2) a.at) e) [
      | inl before ↦
          let low : a.at + 2 ≤ b.at = leb-true (a.at + 2) b.at before in
          inr (omega (arith, low, is))
      | inr behind ↦
          let high : b.at + 2 ≤ a.at = leb-true (b.at + 2) a.at behind in
          inl (omega (arith, high, is, h))
    ]

-- the two words of each fix have its address
pub record HasAddress (find : Finds) (begin : ℕ) (fix : Fix) (words new : List ℕ) : Type 0 where
  pub first : slice_index new fix.at
      ≡ with_upper (bits_between (begin + 4 * fix.at) (target find fix)) (slice_index words fix.at)
  pub second : slice_index new (suc fix.at)
      ≡ with_lower (bits_between (begin + 4 * fix.at) (target find fix)) (slice_index words (suc fix.at))

address_there : (find : Finds) (begin : ℕ) (fixes : List Fix) (words : List ℕ) (i : ℕ) (fix : Fix)
    → are_apart 2 fixes ≡ true → list_all (λ (f : Fix). nat_lt (f.at + 1) (length words)) fixes ≡ true
    → slice_get fixes i ≡ Some fix → HasAddress find begin fix words (with_addresses find begin fixes words)
address_there find begin [] words i fix apart fits e = cc
address_there find begin (x ∷ fixes) words zero fix apart fits e =
    let same : x ≡ fix = cc in
    let others : list_all (is_apart 2 x) fixes ≡ true =
    front_both (list_all (is_apart 2 x) fixes) (are_apart 2 fixes) apart in
    let within : x.at + 1 < length words =
    ltb-true (x.at + 1) (length words)
    (front_both (nat_lt (x.at + 1) (length words))
    (list_all (λ (f : Fix). nat_lt (f.at + 1) (length words)) fixes) fits)
    in
    let bits : ℕ = bits_between (begin + 4 * x.at) (target find x) in
    let here : x.at + 0 ≡ x.at = omega arith in
    let next : x.at + 1 ≡ suc x.at = omega arith in
    let new : List ℕ = with_address find begin x words in
    let first : slice_index (with_addresses find begin fixes new) x.at ≡ slice_index new x.at =
    kept_word find begin fixes new x.at
    (subst (λ n. list_any (changes 2 n) fixes ≡ false) here (none_changes x fixes 0 (omega arith) others)) in
    let second : slice_index (with_addresses find begin fixes new) (suc x.at) ≡ slice_index new (suc x.at) =
    kept_word find begin fixes new (suc x.at)
    (subst (λ n. list_any (changes 2 n) fixes ≡ false) next (none_changes x fixes 1 (omega arith) others)) in
    subst (λ (f : Fix). HasAddress find begin f words (with_addresses find begin (x ∷ fixes) words)) same
    (record {
      first = first ∙ first_here bits x.at words within;
      second = second ∙ second_here bits x.at words within;
    })
address_there find begin (x ∷ fixes) words (suc i) fix apart fits e =
    let new : List ℕ = with_address find begin x words in
    let bits : ℕ = bits_between (begin + 4 * x.at) (target find x) in
    let size : length new ≡ length words = address_length find begin x words in
    let test : Bool = list_all (is_apart 2 x) fixes in
    let away : is_apart 2 x fix ≡ true =
    all_at (is_apart 2 x) fixes i fix (front_both test (are_apart 2 fixes) apart) e in
    let left : list_all (λ (f : Fix). nat_lt (f.at + 1) (length words)) fixes ≡ true =
    behind_both (nat_lt (x.at + 1) (length words)) (list_all (λ (f : Fix). nat_lt (f.at + 1) (length words)) fixes) fits
    in
    let rest : HasAddress find begin fix new (with_addresses find begin fixes new) =
    address_there find begin fixes new i fix (behind_both test (are_apart 2 fixes) apart)
    (subst (λ n. list_all (λ (f : Fix). nat_lt (f.at + 1) n) fixes ≡ true) (sym size) left) e in
    let before : slice_index new fix.at ≡ slice_index words fix.at =
    elsewhere bits x.at words fix.at (either x fix 0 fix.at (omega arith) away (omega arith)) in
    let before' : slice_index new (suc fix.at) ≡ slice_index words (suc fix.at) =
    elsewhere bits x.at words (suc fix.at) (either x fix 1 (suc fix.at) (omega arith) away (omega arith)) in
    let own : ℕ = bits_between (begin + 4 * fix.at) (target find fix) in
    record {
      first = rest.first ∙ ap (with_upper own) before;
      second = rest.second ∙ ap (with_lower own) before';
    }

-- ---- in memory

pub word_in : (m : MachineState) (at : ℕ) (words : List ℕ) (k : ℕ) → k < length words → Bytes m at (bytes_of words)
    → Number m (at + 4 * k) 4 (slice_index words k)
word_in m at [] k h bytes = absurd (omega (arith, h))
word_in m at (word ∷ words) zero h bytes =
    let here : at ≡ at + 4 * 0 = omega arith in
    subst (λ a. Number m a 4 word) here (split m at (little_bytes 4 word) (bytes_of words) bytes).0
word_in m at (word ∷ words) (suc k) h bytes =
    let next : at + 4 + 4 * k ≡ at + 4 * suc k = omega arith in
    subst (λ a. Number m a 4 (slice_index words k)) next
    (word_in m (at + 4) words k (omega (arith, h)) (split m at (little_bytes 4 word) (bytes_of words) bytes).1)

-- each body's code, where it begins
pub code_there : (m : MachineState) (find : Finds) (at k begin : ℕ) (pieces : List CodePiece) (piece : CodePiece)
    → slice_get pieces k ≡ Some piece → slice_get (begins at (map code_size pieces)) k ≡ Some begin
    → Bytes m at (code_bytes find at pieces)
    → Bytes m begin (bytes_of (with_addresses find begin piece.code.fixes piece.code.words))
code_there m find at k begin [] piece e e' bytes = cc
code_there m find at zero begin (p ∷ pieces) piece e e' bytes =
    let same : p ≡ piece = cc in
    let here : at ≡ begin = cc in
    let both = split m at (bytes_of (with_addresses find at p.code.fixes p.code.words))
    (code_bytes find (at + code_size p) pieces) bytes in
    subst (λ a. Bytes m a (bytes_of (with_addresses find a piece.code.fixes piece.code.words))) here
    (subst (λ (q : CodePiece). Bytes m at (bytes_of (with_addresses find at q.code.fixes q.code.words))) same both.0)
code_there m find at (suc k) begin (p ∷ pieces) piece e e' bytes =
    let own : List ℕ = with_addresses find at p.code.fixes p.code.words in
    let rest : List ℕ = code_bytes find (at + code_size p) pieces in
    let size : at + length (bytes_of own) ≡ at + code_size p =
    ap (λ n. at + n) (words_length own ∙ ap (λ n. 4 * n) (addresses_length find at p.code.fixes p.code.words)) in
    let both = split m at (bytes_of own) rest bytes in
    code_there m find (at + code_size p) k begin pieces piece e e' (subst (λ n. Bytes m n rest) size both.1)

-- what is found, if something is
pub found_by : (o : Option ℕ) → is_some o ≡ true → (address : ℕ) × (o ≡ Some address)
found_by None h = absurd (true≢false (sym h))
found_by (Some address) h = (address, refl)

-- A piece of code, where all that its fixes name and all of itself lie near.
pub has_code : (m : MachineState) (pieces : Pieces) (begin : ℕ) (piece : CodePiece)
    → list_all (λ (f : Fix). nat_lt (f.at + 1) (length piece.code.words)) piece.code.fixes ≡ true
    → are_found (address_of pieces) piece.code.fixes ≡ true
    → list_all (λ (f : Fix). is_auipc (slice_index piece.code.words f.at)) piece.code.fixes ≡ true
    → are_apart 2 piece.code.fixes ≡ true → begin + 4 * length piece.code.words < near
    → ((f : Fix) (address : ℕ) → address_of pieces f.kind f.item ≡ Some address → address < near)
    → Bytes m begin (bytes_of (with_addresses (address_of pieces) begin piece.code.fixes piece.code.words))
    → HasCode pieces begin piece m
has_code m pieces begin piece fits found auipc apart low lows bytes =
    let find : Finds = address_of pieces in
    let words : List ℕ = piece.code.words in
    let fixes : List Fix = piece.code.fixes in
    let new : List ℕ = with_addresses find begin fixes words in
    let size : length new ≡ length words = addresses_length find begin fixes words in
    record {
      kept = λ k h none.
          subst (Number m (begin + 4 * k) 4) (kept_word find begin fixes words k none)
          (word_in m begin new k (omega (arith, h, size)) bytes);
      fixed = λ i fix e.
          let some = found_by (find fix.kind fix.item)
          (all_at (λ (f : Fix). is_some (find f.kind f.item)) fixes i fix found e) in
          let to : ℕ = some.0 in
          let from : ℕ = begin + 4 * fix.at in
          let bits : ℕ = bits_between from (target find fix) in
          let is : target find fix ≡ to = ap (λ (o : Option ℕ). unwrap_or o 0) some.1 in
          let within : fix.at + 1 < length words =
          ltb-true (fix.at + 1) (length words)
          (all_at (λ (f : Fix). nat_lt (f.at + 1) (length words)) fixes i fix fits e) in
          let opcode : slice_index words fix.at % 128 ≡ 23 =
          eqb-true (slice_index words fix.at % 128) 23
          (all_at (λ (f : Fix). is_auipc (slice_index words f.at)) fixes i fix auipc e) in
          let has : HasAddress find begin fix words new = address_there find begin fixes words i fix apart fits e in
          let next : begin + 4 * suc fix.at ≡ from + 4 = omega arith in
          let behind : suc fix.at ≡ fix.at + 1 = omega arith in (
            to,
            some.1,
            record {
              first = with_upper bits (slice_index words fix.at);
              second = with_lower bits (slice_index words (suc fix.at));
              first_there = subst (Number m from 4) has.first
                  (word_in m begin new fix.at (omega (arith, within, size)) bytes);
              second_there = subst (λ a. Number m a 4 (with_lower bits (slice_index words (suc fix.at)))) next
                  (subst (Number m (begin + 4 * suc fix.at) 4) has.second
                  (word_in m begin new (suc fix.at) (omega (arith, within, size)) bytes));
              register = (parts_of (with_upper bits (slice_index words fix.at))).rd;
              upper = upper bits;
              is_auipc = auipc_is bits (slice_index words fix.at) opcode;
              sum = leads from (target find fix) (slice_index words (suc fix.at)) (omega (arith, within, low))
                  (subst (λ n. n < near) (sym is) (lows fix to some.1))
                  ∙ ap pos is;
              first_kept = first_kept bits (slice_index words fix.at);
              second_kept = second_kept bits (slice_index words (suc fix.at))
                  ∙ ap (λ n. slice_index words n % 2 ^ 20) behind;
            },
          );
    }
