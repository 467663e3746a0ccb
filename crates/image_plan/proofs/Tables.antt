-- Tables with the addresses of their fixes, byte by byte, and in memory.
use Rattle.std.proofs.Common.{◌≡◌, ◌∙◌, ◌⊎◌, inl, inr, ℕ, zero, suc, ◌+◌, ◌-◌, ◌<◌, ◌≤◌, Bool, true, false, ◌&&◌, ◌||◌}
use Rattle.std.proofs.Common.{List, [], ◌∷◌, ◌++◌, length, map, take, drop, Option, Some, slice_get, slice_index}
use Rattle.std.proofs.Common.{unwrap_or}
use Rattle.std.proofs.Common.{is_some, ap, sym, subst, arith, refl, nat_le, nat_lt, length-append, length-take, get_or}
use Rattle.std.proofs.Common.{true≢false}
use Rattle.std.specs.List.{list_all, list_any}
use Rattle.std.proofs.lemmas.Bool.{and_from, and_left, and_right, cases_lt, le-leb, le-ltb, leb-true, lt-leb, lt-ltb}
use Rattle.std.proofs.lemmas.Bool.{or_cases, or_from, or_parts}
use Rattle.std.proofs.lemmas.List.{get_or_append_left, get_or-append_right, get_or-drop, get_or-take, length-replicate}
use Rattle.byteorder.specs.Endian.{little_bytes}
use Rattle.num_core.specs.declared.fix.Fix.{Fix}
use Rattle.rv_step.specs.Machine.{MachineState, overwritten}
use Rattle.rv_step.specs.Memory.{Bytes, Number}
use Rattle.rv_step.proofs.Addresses.{at_each, from_each, split}
use Rattle.image_plan.specs.Conditions.{are_apart, are_found, is_apart}
use Rattle.image_plan.specs.Loaded.{HasTable, changes}
use Rattle.image_plan.specs.Places.{address_of, begins, table_size}
use Rattle.image_plan.specs.Planned.{table_fixes_fit}
use Rattle.image_plan.specs.Written.{Finds, padding, table_bytes, target, with_number, with_numbers}
use Rattle.image_plan.specs.declared.pieces.Pieces.{Pieces}
use Rattle.image_plan.specs.declared.pieces.TablePiece.{TablePiece}
use Rattle.image_plan.proofs.Lengths.{behind_both, front_both, number_length, numbers_length}
use Rattle.image_plan.proofs.Tiling.{within_word}
use Rattle.image_plan.proofs.Listed.{all_at}
use Rattle.image_plan.proofs.Words.{found_by}

-- ---- bytes in the place of others

index_before : (from : ℕ) (new old : List ℕ) (i : ℕ) → from + length new ≤ length old → i < from
    → slice_index (overwritten from new old) i ≡ slice_index old i
index_before from new old i room lt =
    let size : length (take from old) ≡ from = omega (arith, length-take from old, room) in
    get_or_append_left (take from old ++ new) (drop (from + length new) old) 0 i
    (omega (arith, size, length-append (take from old) new, lt))
    ∙ get_or_append_left (take from old) new 0 i (omega (arith, size, lt)) ∙ get_or-take from old i 0 lt

index_inside : (from : ℕ) (new old : List ℕ) (i : ℕ) → from + length new ≤ length old → from ≤ i
    → i < from + length new → slice_index (overwritten from new old) i ≡ slice_index new (i - from)
index_inside from new old i room low high =
    let size : length (take from old) ≡ from = omega (arith, length-take from old, room) in
    get_or_append_left (take from old ++ new) (drop (from + length new) old) 0 i
    (omega (arith, size, length-append (take from old) new, high))
    ∙ get_or-append_right (take from old) new from i 0 size low

index_behind : (from : ℕ) (new old : List ℕ) (i : ℕ) → from + length new ≤ length old → from + length new ≤ i
    → slice_index (overwritten from new old) i ≡ slice_index old i
index_behind from new old i room low =
    let size : length (take from old ++ new) ≡ from + length new =
    omega (arith, length-take from old, length-append (take from old) new, room) in
    let sum : from + length new + (i - (from + length new)) ≡ i = omega (arith, low) in
    get_or-append_right (take from old ++ new) (drop (from + length new) old) (from + length new) i 0 size low
    ∙ get_or-drop (from + length new) old (i - (from + length new)) 0 ∙ ap (λ k. get_or old k 0) sum

-- ---- one fix

elsewhere : (find : Finds) (fix : Fix) (bytes : List ℕ) (k : ℕ) → fix.at + 8 ≤ length bytes
    → (k < fix.at) ⊎ (fix.at + 8 ≤ k) → slice_index (with_number find fix bytes) k ≡ slice_index bytes k
elsewhere find fix bytes k room (inl less) = index_before fix.at (little_bytes 8 (target find fix)) bytes k room less
elsewhere find fix bytes k room (inr more) = index_behind fix.at (little_bytes 8 (target find fix)) bytes k room more

inside : (find : Finds) (fix : Fix) (bytes : List ℕ) (j : ℕ) → fix.at + 8 ≤ length bytes → j < 8
    → slice_index (with_number find fix bytes) (fix.at + j) ≡ slice_index (little_bytes 8 (target find fix)) j
inside find fix bytes j room h =
    let less : fix.at + j - fix.at ≡ j = omega arith in
    index_inside fix.at (little_bytes 8 (target find fix)) bytes (fix.at + j) room (omega arith) (omega (arith, h))
    ∙ ap (slice_index (little_bytes 8 (target find fix))) less

-- ---- several

apart_by : (at k : ℕ) → nat_le at k && nat_lt k (at + 8) ≡ false → (k < at) ⊎ (at + 8 ≤ k)
apart_by at k h = elim (cases_lt k at) [
  | inl less ↦ inl less
  | inr more ↦ elim (cases_lt k (at + 8)) [
    | inl within ↦ absurd (true≢false (sym (both at k more within) ∙ h))
    | inr behind ↦ inr behind
  ]
]
  where
    both : (a n : ℕ) → a ≤ n → n < a + 8 → nat_le a n && nat_lt n (a + 8) ≡ true
    both a n low high = and_from (nat_le a n) (nat_lt n (a + 8)) (le-leb a n low) (lt-ltb n (a + 8) high)

kept_byte : (find : Finds) (fixes : List Fix) (bytes : List ℕ) (k : ℕ)
    → list_all (λ (f : Fix). nat_le (f.at + 8) (length bytes)) fixes ≡ true → list_any (changes 8 k) fixes ≡ false
    → slice_index (with_numbers find fixes bytes) k ≡ slice_index bytes k
kept_byte find [] bytes k fits h = refl
kept_byte find (fix ∷ fixes) bytes k fits h =
    let left : Bool = list_all (λ (f : Fix). nat_le (f.at + 8) (length bytes)) fixes in
    let none = or_parts (changes 8 k fix) (list_any (changes 8 k) fixes) h in
    let room : fix.at + 8 ≤ length bytes =
    leb-true (fix.at + 8) (length bytes) (front_both (nat_le (fix.at + 8) (length bytes)) left fits) in
    kept_byte find fixes (with_number find fix bytes) k
    (subst (λ n. list_all (λ (f : Fix). nat_le (f.at + 8) n) fixes ≡ true) (sym (number_length find fix bytes room))
    (behind_both (nat_le (fix.at + 8) (length bytes)) left fits)) none.1
    ∙ elsewhere find fix bytes k room (apart_by fix.at k none.0)

not_changed : (fix other : Fix) (j : ℕ) → j < 8 → nat_le (fix.at + 8) other.at || nat_le (other.at + 8) fix.at ≡ true
    → nat_le other.at (fix.at + j) && nat_lt (fix.at + j) (other.at + 8) ≡ false
not_changed fix other j h e =
    elim (or_cases (nat_le (fix.at + 8) other.at) (nat_le (other.at + 8) fix.at) e) [
      | inl before ↦
          let low : fix.at + 8 ≤ other.at = leb-true (fix.at + 8) other.at before in
          and_left (nat_le other.at (fix.at + j)) (nat_lt (fix.at + j) (other.at + 8))
          (lt-leb other.at (fix.at + j) (omega (arith, low, h)))
      | inr behind ↦
          let high : other.at + 8 ≤ fix.at = leb-true (other.at + 8) fix.at behind in
          and_right (nat_le other.at (fix.at + j)) (nat_lt (fix.at + j) (other.at + 8))
          (le-ltb (fix.at + j) (other.at + 8) (omega (arith, high)))
    ]

none_changes : (fix : Fix) (others : List Fix) (j : ℕ) → j < 8 → list_all (is_apart 8 fix) others ≡ true
    → list_any (changes 8 (fix.at + j)) others ≡ false
none_changes fix [] j h e = refl
none_changes fix (other ∷ others) j h e =
    or_from (changes 8 (fix.at + j) other) (list_any (changes 8 (fix.at + j)) others)
    (not_changed fix other j h (front_both (is_apart 8 fix other) (list_all (is_apart 8 fix) others) e))
    (none_changes fix others j h (behind_both (is_apart 8 fix other) (list_all (is_apart 8 fix) others) e))

-- each byte of a number that a fix puts
address_there : (find : Finds) (fixes : List Fix) (bytes : List ℕ) (i : ℕ) (fix : Fix) (j : ℕ) → j < 8
    → are_apart 8 fixes ≡ true → list_all (λ (f : Fix). nat_le (f.at + 8) (length bytes)) fixes ≡ true
    → slice_get fixes i ≡ Some fix
    → slice_index (with_numbers find fixes bytes) (fix.at + j) ≡ slice_index (little_bytes 8 (target find fix)) j
address_there find [] bytes i fix j h apart fits e = cc
address_there find (x ∷ fixes) bytes zero fix j h apart fits e =
    let same : x ≡ fix = cc in
    let left : Bool = list_all (λ (f : Fix). nat_le (f.at + 8) (length bytes)) fixes in
    let room : x.at + 8 ≤ length bytes =
    leb-true (x.at + 8) (length bytes) (front_both (nat_le (x.at + 8) (length bytes)) left fits) in
    let new : List ℕ = with_number find x bytes in
    let fits' : list_all (λ (f : Fix). nat_le (f.at + 8) (length new)) fixes ≡ true =
    subst (λ n. list_all (λ (f : Fix). nat_le (f.at + 8) n) fixes ≡ true) (sym (number_length find x bytes room))
    (behind_both (nat_le (x.at + 8) (length bytes)) left fits) in
    let others : list_all (is_apart 8 x) fixes ≡ true =
    front_both (list_all (is_apart 8 x) fixes) (are_apart 8 fixes) apart in
    let here : slice_index (with_numbers find fixes new) (x.at + j) ≡ slice_index (little_bytes 8 (target find x)) j =
    kept_byte find fixes new (x.at + j) fits' (none_changes x fixes j h others) ∙ inside find x bytes j room h in
    subst (λ (f : Fix). slice_index (with_numbers find fixes new) (f.at + j)
    ≡ slice_index (little_bytes 8 (target find f)) j) same here
address_there find (x ∷ fixes) bytes (suc i) fix j h apart fits e =
    let left : Bool = list_all (λ (f : Fix). nat_le (f.at + 8) (length bytes)) fixes in
    let room : x.at + 8 ≤ length bytes =
    leb-true (x.at + 8) (length bytes) (front_both (nat_le (x.at + 8) (length bytes)) left fits) in
    let new : List ℕ = with_number find x bytes in
    address_there find fixes new i fix j h
    (behind_both (list_all (is_apart 8 x) fixes) (are_apart 8 fixes) apart)
    (subst (λ n. list_all (λ (f : Fix). nat_le (f.at + 8) n) fixes ≡ true) (sym (number_length find x bytes room))
    (behind_both (nat_le (x.at + 8) (length bytes)) left fits)) e

-- ---- in memory

-- each table, where it begins
pub table_there : (m : MachineState) (find : Finds) (at k begin : ℕ) (tables : List TablePiece) (table : TablePiece)
    → list_all table_fixes_fit tables ≡ true → slice_get tables k ≡ Some table
    → slice_get (begins at (map table_size tables)) k ≡ Some begin → Bytes m at (table_bytes find tables)
    → Bytes m begin (with_numbers find table.fixes table.bytes ++ padding table.bytes)
table_there m find at k begin [] table fits e e' bytes = cc
table_there m find at zero begin (t ∷ tables) table fits e e' bytes =
    let same : t ≡ table = cc in
    let here : at ≡ begin = cc in
    let both = split m at (with_numbers find t.fixes t.bytes ++ padding t.bytes) (table_bytes find tables) bytes in
    subst (λ a. Bytes m a (with_numbers find table.fixes table.bytes ++ padding table.bytes)) here
    (subst (λ (q : TablePiece). Bytes m at (with_numbers find q.fixes q.bytes ++ padding q.bytes)) same both.0)
table_there m find at (suc k) begin (t ∷ tables) table fits e e' bytes =
    let own : List ℕ = with_numbers find t.fixes t.bytes in
    let zeros : List ℕ = padding t.bytes in
    let rest : List ℕ = table_bytes find tables in
    let size : length own ≡ length t.bytes =
    numbers_length find t.fixes t.bytes (front_both (table_fixes_fit t) (list_all table_fixes_fit tables) fits) in
    let fill : length zeros ≡ table_size t - length t.bytes = length-replicate (table_size t - length t.bytes) 0 in
    let whole : length t.bytes ≤ table_size t = within_word (length t.bytes) in
    let next : at + length (own ++ zeros) ≡ at + table_size t =
    omega (arith, length-append own zeros, size, fill, whole) in
    let both = split m at (own ++ zeros) rest bytes in
    table_there m find (at + table_size t) k begin tables table
    (behind_both (table_fixes_fit t) (list_all table_fixes_fit tables) fits) e e'
    (subst (λ n. Bytes m n rest) next both.1)

pub has_table : (m : MachineState) (pieces : Pieces) (begin : ℕ) (table : TablePiece) → table_fixes_fit table ≡ true
    → are_found (address_of pieces) table.fixes ≡ true → are_apart 8 table.fixes ≡ true
    → Bytes m begin (with_numbers (address_of pieces) table.fixes table.bytes ++ padding table.bytes)
    → HasTable pieces begin table m
has_table m pieces begin table fits found apart bytes =
    let find : Finds = address_of pieces in
    let fixes : List Fix = table.fixes in
    let new : List ℕ = with_numbers find fixes table.bytes in
    let size : length new ≡ length table.bytes = numbers_length find fixes table.bytes fits in
    let both = split m begin new (padding table.bytes) bytes in
    record {
      kept = λ k h none.
          let less : begin + k - begin ≡ k = omega arith in
          at_each m begin new both.0 (begin + k) (omega arith) (omega (arith, h, size))
          ∙ ap (λ n. Some (slice_index new n)) less
          ∙ ap Some (kept_byte find fixes table.bytes k fits none);
      fixed = λ i fix e.
          let some = found_by (find fix.kind fix.item)
          (all_at (λ (f : Fix). is_some (find f.kind f.item)) fixes i fix found e) in
          let to : ℕ = some.0 in
          let is : target find fix ≡ to = ap (λ (o : Option ℕ). unwrap_or o 0) some.1 in
          let room : fix.at + 8 ≤ length table.bytes =
          leb-true (fix.at + 8) (length table.bytes)
          (all_at (λ (f : Fix). nat_le (f.at + 8) (length table.bytes)) fixes i fix fits e) in
          let there : Number m (begin + fix.at) 8 (target find fix) =
          from_each m (begin + fix.at) (little_bytes 8 (target find fix))
          (λ x low high.
          let j : ℕ = x - (begin + fix.at) in
          let few : j < 8 = omega (arith, low, high) in
          let place : x - begin ≡ fix.at + j = omega (arith, low) in
          at_each m begin new both.0 x (omega (arith, low)) (omega (arith, low, high, room, size))
          ∙ ap (λ n. Some (slice_index new n)) place
          ∙ ap Some (address_there find fixes table.bytes i fix j few apart fits e)) in
          (to, some.1, subst (Number m (begin + fix.at) 8) is there);
      behind = subst (λ n. Bytes m (begin + n) (padding table.bytes)) size both.1;
    }
