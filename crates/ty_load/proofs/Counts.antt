-- Rows that are counted: one more, and that there are few.
use Rattle.std.proofs.Common.{◌≡◌, ◌∙◌, ◌+◌, ◌<◌, ℕ, Bool, true, false, cond, List, length, take, get_or, count_by}
use Rattle.std.proofs.Common.{◌^◌, ◌&&◌, nat_lt, refl, ap, sym, arith}
use borrow.Author.Tests.{ltb-true}
use Rattle.std.proofs.lemmas.List.Sums.{count_by_more_yes, count_by_more_no}
use Rattle.md_tables.specs.declared.module.Table.{Table}
use Rattle.ty_names.specs.Modules.{row_count}
use Rattle.ty_names.specs.Definitions.{type_count}
use Rattle.ty_load.specs.Counting.{has_numbers}
use Rattle.ty_load.proofs.Keys.{both}

pub count_more : {A : Type 0} (p : A → Bool) (xs : List A) (i : ℕ) (x : A) → i < length xs → x ≡ get_or xs i x
    → count_by p (take (i + 1) xs) ≡ count_by p (take i xs) + cond (p x) 1 0
count_more {A = A} p xs i x h is = by (p x) refl
  where
    by : (b : Bool) → p x ≡ b → count_by p (take (i + 1) xs) ≡ count_by p (take i xs) + cond b 1 0
    by true e = count_by_more_yes p xs i x h (ap p (sym is) ∙ e)
    by false e = count_by_more_no p xs i x h (ap p (sym is) ∙ e) ∙ omega arith

pub record AreFew (tables : List Table) : Type 0 where
  pub types : type_count tables < 2 ^ 32
  pub parameters : row_count tables 0x2A < 2 ^ 32
  pub fields : row_count tables 0x04 < 2 ^ 32
  pub methods : row_count tables 0x06 < 2 ^ 32

pub few : (tables : List Table) → has_numbers tables ≡ true → AreFew tables
few tables h =
    let types : Bool = nat_lt (type_count tables) (2 ^ 32) in
    let parameters : Bool = nat_lt (row_count tables 0x2A) (2 ^ 32) in
    let fields : Bool = nat_lt (row_count tables 0x04) (2 ^ 32) in
    let methods : Bool = nat_lt (row_count tables 0x06) (2 ^ 32) in
    let last : (types && parameters && fields ≡ true) × (methods ≡ true) =
    both (types && parameters && fields) methods h in
    let third : (types && parameters ≡ true) × (fields ≡ true) = both (types && parameters) fields last.0 in
    let first : (types ≡ true) × (parameters ≡ true) = both types parameters third.0 in
    record {
      types = ltb-true (type_count tables) (2 ^ 32) first.0;
      parameters = ltb-true (row_count tables 0x2A) (2 ^ 32) first.1;
      fields = ltb-true (row_count tables 0x04) (2 ^ 32) third.1;
      methods = ltb-true (row_count tables 0x06) (2 ^ 32) last.1;
    }

pub sized : (tables : List Table) → has_numbers tables ≡ true
    → (type_count tables < 2 ^ 32) × (row_count tables 0x2A < 2 ^ 32)
sized tables h = ((few tables h).types, (few tables h).parameters)
