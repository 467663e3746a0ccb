-- A map with texts as keys, seen as the files of a store.
use Rattle.std.proofs.Common.{◌≡◌, ℕ, List, [], ◌∷◌, cond, Some, None, unwrap_or, map, ◌++◌, String, Ordering, Less}
use Rattle.std.proofs.Common.{Equal, Greater, refl, sym, ap, ◌∙◌}
use Rattle.std.specs.Ordering.{nat_cmp, eq_by_cmp, is_eq}
use Rattle.std.specs.Cmp.{eq_by_cmp_equiv}
use Rattle.std.specs.Cmp.Lexicographic.{slice_cmp, nat_list_cmp_total}
use Rattle.std.specs.Global.{Global}
use Rattle.std.specs.Str.{bytes_eq}
use Rattle.std.specs.String.{string_bytes, string_cmp}
use Rattle.std.specs.BTreeMap.{BTreeMap, is_at, get_by_text, UpdatesBy}
use Rattle.std.specs.FinMap.{get, find, get-insert, get-from_entries, get_tied, same_map, slice_cmp-IsAntisymmetric}
use Rattle.std.specs.FinMap.{nat_cmp-IsAntisymmetric}
use Rattle.std.specs.Map.{lookup}
use Rattle.std.proofs.lemmas.Map.Text.{btree_map_updates_text, is_eq-slice_cmp}
use Rattle.ilc_io.specs.Mem.{files_of}
use Rattle.ilc_io.specs.Store.{Store, stored, appended}

find_text :
    (es : List (String Global × List ℕ)) (name : List ℕ) →
    find (slice_cmp nat_cmp) name (map (λ e. (string_bytes e.0, e.1)) es)
    ≡ lookup (is_at (λ k. slice_cmp nat_cmp name (string_bytes k))) es
find_text [] name = refl
find_text (e ∷ es) name = ap (cond (is_eq (slice_cmp nat_cmp name (string_bytes e.0))) (Some e.1)) (find_text es name)

-- what a name has in the files
pub get-files_of : (m : BTreeMap (String Global) (List ℕ)) (name : List ℕ) → get (files_of m) name ≡ get_by_text m name
get-files_of m name = get-from_entries nat_list_cmp_total _ name ∙ find_text m.entries name

turned : (a b : List ℕ) → eq_by_cmp (slice_cmp nat_cmp) a b ≡ bytes_eq b a
turned a b = (eq_by_cmp_equiv nat_list_cmp_total).symm a b ∙ is_eq-slice_cmp b a

-- the files after a name was given bytes
pub files_of-updates :
    (m n : BTreeMap (String Global) (List ℕ)) (name bytes : List ℕ) →
    UpdatesBy string_cmp (λ k. slice_cmp nat_cmp name (string_bytes k)) m n (Some bytes) →
    files_of n ≡ stored name bytes (files_of m)
files_of-updates m n name bytes h =
    same_map nat_list_cmp_total (slice_cmp-IsAntisymmetric nat_cmp-IsAntisymmetric) _ _ (λ q.
    get-files_of n q
    ∙ btree_map_updates_text name m n (Some bytes) h q
    ∙ ap (λ b. cond b (Some bytes) (get_by_text m q)) (sym (turned q name))
    ∙ sym (get-insert nat_list_cmp_total (files_of m) name bytes q
    ∙ ap (cond (eq_by_cmp (slice_cmp nat_cmp) q name) (Some bytes)) (get-files_of m q)))

-- to give a name the bytes that it has changes nothing
pub stored-same : (name bytes : List ℕ) (store : Store) → get store name ≡ Some bytes → stored name bytes store ≡ store
stored-same name bytes store has =
    same_map nat_list_cmp_total (slice_cmp-IsAntisymmetric nat_cmp-IsAntisymmetric) _ _ (λ q.
    get-insert nat_list_cmp_total store name bytes q ∙ same_at q (slice_cmp nat_cmp q name) refl)
  where
    same_at :
        (q : List ℕ) (r : Ordering) → slice_cmp nat_cmp q name ≡ r →
        cond (is_eq r) (Some bytes) (get store q) ≡ get store q
    same_at q Less e = refl
    same_at q Equal e = sym has ∙ get_tied nat_list_cmp_total store q name e
    same_at q Greater e = refl

-- a piece added to the bytes that a name has
pub appended-some :
    (name bytes piece : List ℕ) (store : Store) → get store name ≡ Some bytes →
    stored name (bytes ++ piece) store ≡ appended name piece store
appended-some name bytes piece store has = ap (λ o. stored name (unwrap_or o [] ++ piece) store) (sym has)

-- a piece that begins a file
pub appended-none :
    (name piece : List ℕ) (store : Store) → get store name ≡ None →
    stored name piece store ≡ appended name piece store
appended-none name piece store none = ap (λ o. stored name (unwrap_or o [] ++ piece) store) (sym none)
