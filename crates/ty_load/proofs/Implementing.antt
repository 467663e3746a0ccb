-- Interfaces by the types that name them: one more, and all of so many rows.
use Rattle.std.proofs.Common.{◌≡◌, ◌∙◌, ◌+◌, ◌<◌, ◌++◌, ◌∷◌, [], ℕ, Bool, true, false, cond, List, Vec, Some}
use Rattle.std.proofs.Common.{Global, refl, ap, sym, map, filter, take, get_or, length, nat_eq, eqb-true, slice_get}
use Rattle.std.proofs.Common.{append-nil}
use Rattle.std.proofs.lemmas.List.{map-append}
use Rattle.std.proofs.lemmas.List.Elements.{filter_more}
use Rattle.std.specs.Map.{lookup}
use Rattle.md_tables.specs.declared.module.TableRow.{TableRow}
use Rattle.ty_names.specs.declared.cells.RowOf.{RowOf}
use Rattle.ty_names.specs.Modules.{index_of, coded_of}
use Rattle.ty_load.specs.Implements.{TellImplemented, TellInterface, implemented_in, indexes_in, is_implemented_by}
use Rattle.ty_load.specs.Implements.{items_or_none, named_interface}

abbrev pub Entries : Type 0
Entries = List (ℕ × Vec RowOf Global)

pub one_noted : (row : ℕ) (index : RowOf) (old mid new : Entries) (taken pushed : Vec RowOf Global)
    → taken.items ≡ indexes_in old row → pushed.items ≡ taken.items ++ index ∷ []
    → ((other : ℕ) → nat_eq row other ≡ false → indexes_in mid other ≡ indexes_in old other)
    → ((other : ℕ) → lookup (nat_eq other) new ≡ cond (nat_eq row other) (Some pushed) (lookup (nat_eq other) mid))
    → TellInterface row index old new
one_noted row index old mid new taken pushed is more others updates =
    λ other. ap items_or_none (updates other) ∙ by other (nat_eq row other) refl
  where
    by : (other : ℕ) (b : Bool) → nat_eq row other ≡ b
        → items_or_none (cond b (Some pushed) (lookup (nat_eq other) mid))
        ≡ cond b (indexes_in old other ++ index ∷ []) (indexes_in old other)
    by other true h = more ∙ ap (λ (l : List RowOf). l ++ index ∷ []) (is ∙ ap (indexes_in old) (eqb-true row other h))
    by other false h = others other h

-- the interfaces of a type in one row more
implemented_more : (given : List TableRow) (at : ℕ) (x : TableRow) (other : ℕ) → at < length given
    → x ≡ get_or given at x
    → implemented_in (take (at + 1) given) other
    ≡ cond (is_implemented_by other x) (implemented_in (take at given) other ++ named_interface x ∷ [])
    (implemented_in (take at given) other)
implemented_more given at x other h is =
    ap (map named_interface) (filter_more (is_implemented_by other) given at x h)
    ∙ map-append named_interface (filter (is_implemented_by other) (take at given))
    (cond (is_implemented_by other (get_or given at x)) (get_or given at x ∷ []) [])
    ∙ ap (λ (y : TableRow). implemented_in (take at given) other
    ++ map named_interface (cond (is_implemented_by other y) (y ∷ []) [])) (sym is)
    ∙ by (is_implemented_by other x)
  where
    by : (b : Bool) → implemented_in (take at given) other ++ map named_interface (cond b (x ∷ []) [])
        ≡ cond b (implemented_in (take at given) other ++ named_interface x ∷ []) (implemented_in (take at given) other)
    by true = refl
    by false = append-nil (implemented_in (take at given) other)

pub one_row_more : (given : List TableRow) (at : ℕ) (x : TableRow) (row : ℕ) (index : RowOf) (old new : Entries)
    → at < length given → x ≡ get_or given at x → row ≡ index_of (slice_get x.cells 0)
    → index ≡ coded_of (slice_get x.cells 1) → TellInterface row index old new → TellImplemented (take at given) old
    → TellImplemented (take (at + 1) given) new
one_row_more given at x row index old new h is same_row same_index one so_far =
    λ other. one other
    ∙ (λ i. cond (nat_eq (same_row i) other) (so_far other i ++ same_index i ∷ []) (so_far other i))
    ∙ sym (implemented_more given at x other h is)
