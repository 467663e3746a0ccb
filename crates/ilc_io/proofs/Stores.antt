-- What follows from one change of a store after another.
use Rattle.std.proofs.Common.{◌≡◌, ℕ, ◌+◌, ◌≤◌, List, [], ◌++◌, length, take, drop, Bool, true, false, cond, Option}
use Rattle.std.proofs.Common.{Some, None, unwrap_or, refl, sym, ap, ◌∙◌}
use Rattle.std.specs.Option.{option_map}
use Rattle.std.specs.Ordering.{nat_cmp, eq_by_cmp}
use Rattle.std.specs.Cmp.{eq_by_cmp_equiv}
use Rattle.std.specs.Cmp.Lexicographic.{slice_cmp, nat_list_cmp_total}
use Rattle.std.specs.FinMap.{get, get-insert, same_map, slice_cmp-IsAntisymmetric, nat_cmp-IsAntisymmetric}
use Rattle.ilc_io.specs.Store.{Store, stored, appended}
use Rattle.ilc_io.proofs.Pieces.{take_next_piece}

same_name : (name : List ℕ) → eq_by_cmp (slice_cmp nat_cmp) name name ≡ true
same_name name = (eq_by_cmp_equiv nat_list_cmp_total).refl name

-- what was stored is there
pub get-stored : (name bytes : List ℕ) (store : Store) → get (stored name bytes store) name ≡ Some bytes
get-stored name bytes store =
    get-insert nat_list_cmp_total store name bytes name
    ∙ ap (λ b. cond b (Some bytes) (get store name)) (same_name name)

same_choice : {X : Type 0} (b : Bool) (x y z : X) → cond b x (cond b y z) ≡ cond b x z
same_choice true x y z = refl
same_choice false x y z = refl

-- the later file of a name replaces the earlier one
pub stored-stored :
    (name early late : List ℕ) (store : Store) → stored name late (stored name early store) ≡ stored name late store
stored-stored name early late store =
    same_map nat_list_cmp_total (slice_cmp-IsAntisymmetric nat_cmp-IsAntisymmetric) _ _ (λ q.
    get-insert nat_list_cmp_total (stored name early store) name late q
    ∙ ap (cond (eq_by_cmp (slice_cmp nat_cmp) q name) (Some late)) (get-insert nat_list_cmp_total store name early q)
    ∙ same_choice (eq_by_cmp (slice_cmp nat_cmp) q name) (Some late) (Some early) (get store q)
    ∙ sym (get-insert nat_list_cmp_total store name late q))

-- a piece added to what was stored
pub appended-stored :
    (name bytes piece : List ℕ) (store : Store) →
    appended name piece (stored name bytes store) ≡ stored name (bytes ++ piece) store
appended-stored name bytes piece store =
    ap (λ o. stored name (unwrap_or o [] ++ piece) (stored name bytes store)) (get-stored name bytes store)
    ∙ stored-stored name bytes (bytes ++ piece) store

-- the same of a store that may tell nothing
pub told-appended :
    (name bytes piece : List ℕ) (old : Option Store) →
    option_map (appended name piece) (option_map (stored name bytes) old)
    ≡ option_map (stored name (bytes ++ piece)) old
told-appended name bytes piece None = refl
told-appended name bytes piece (Some store) = ap Some (appended-stored name bytes piece store)

-- the next bytes of a piece added to the first ones of the whole
pub next_stored :
    (name bytes : List ℕ) (at len count : ℕ) (old mid new : Option Store) →
    mid ≡ option_map (stored name (take at bytes)) old →
    new ≡ option_map (appended name (take count (take len (drop at bytes)))) mid →
    count ≤ length (take len (drop at bytes)) → new ≡ option_map (stored name (take (at + count) bytes)) old
next_stored name bytes at len count old mid new before added within =
    added
    ∙ ap (option_map (appended name (take count (take len (drop at bytes))))) before
    ∙ told-appended name (take at bytes) (take count (take len (drop at bytes))) old
    ∙ ap (λ xs. option_map (stored name xs) old) (take_next_piece at len count bytes within)
