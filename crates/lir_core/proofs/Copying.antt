-- What is copied and written where one memory tells no more than another.
use Rattle.std.proofs.Common.{◌≡◌, ℕ, suc, Bool, true, false, ◌&&◌, ◌==◌, cond, List, [], ◌∷◌, length}
use Rattle.std.proofs.Common.{Some, None, refl, ap, subst}
use Rattle.std.specs.List.{AllZip, list_all}
use Rattle.lir_core.specs.Memory.{Byte, Cell, FlatMemory, Missing, Unwritten, cells_from, copied, is_own, overwritten}
use Rattle.lir_core.specs.Memory.{with_cells}
use Rattle.lir_core.specs.Tells.{CellTellsNoMore, MemoryTellsNoMore}
use Rattle.lir_core.proofs.Sound.{first_of, second_of}
use Rattle.lir_core.proofs.Telling.{all_from}

own_more : (cell other : Cell) → CellTellsNoMore cell other → is_own cell ≡ true → is_own other ≡ true
own_more Missing other more own = cc
own_more Unwritten other more own = more
own_more (Byte b) other more own = rw more refl

both_of : (a b : Bool) → a ≡ true → b ≡ true → (a && b) ≡ true
both_of true b first second = second
both_of false b first second = cc

all_own : (xs ys : List Cell) → AllZip CellTellsNoMore xs ys → list_all is_own xs ≡ true → list_all is_own ys ≡ true
all_own [] [] more own = refl
all_own [] (y ∷ ys) more own = absurd more
all_own (x ∷ xs) [] more own = absurd more
all_own (x ∷ xs) (y ∷ ys) more own =
    both_of (is_own y) (list_all is_own ys)
    (own_more x y more.0 (first_of (is_own x) (list_all is_own xs) own))
    (all_own xs ys more.1 (second_of (is_own x) (list_all is_own xs) own))

same_length : (xs ys : List Cell) → AllZip CellTellsNoMore xs ys → length xs ≡ length ys
same_length [] [] more = refl
same_length [] (y ∷ ys) more = absurd more
same_length (x ∷ xs) [] more = absurd more
same_length (x ∷ xs) (y ∷ ys) more = ap suc (same_length xs ys more.1)

-- what is given under a test
given_if : {X : Type 0} (b : Bool) (x y : X) → cond b (Some x) None ≡ Some y → (b ≡ true) × (x ≡ y)
given_if true x y e = (refl, cc)
given_if false x y e = cc

gives_if : {X : Type 0} (b : Bool) (x : X) → b ≡ true → cond b (Some x) None ≡ Some x
gives_if true x e = refl
gives_if false x e = cc

-- what is copied in the one is copied in the other, which may tell more of it
pub same_copy : (m m' : FlatMemory) (place count : ℕ) (cells : List Cell) → MemoryTellsNoMore m m'
    → copied m place count ≡ Some cells
    → (others : List Cell) × (copied m' place count ≡ Some others) × AllZip CellTellsNoMore cells others
same_copy m m' place count cells more is =
    let xs : List Cell = cells_from m place count in
    let ys : List Cell = cells_from m' place count in
    let zip : AllZip CellTellsNoMore xs ys = all_from m m' more place count in
    let one = given_if (list_all is_own xs) xs cells is in (
      ys,
      gives_if (list_all is_own ys) ys (all_own xs ys zip one.0),
      subst (λ zs. AllZip CellTellsNoMore zs ys) one.1 zip,
    )

under_test : (b : Bool) (x y a c : Cell) → CellTellsNoMore x y → CellTellsNoMore a c
    → CellTellsNoMore (cond b x a) (cond b y c)
under_test true x y a c here there = here
under_test false x y a c here there = there

over : (m m' : FlatMemory) → MemoryTellsNoMore m m' → (place : ℕ) (xs ys : List Cell) → AllZip CellTellsNoMore xs ys
    → MemoryTellsNoMore (overwritten m place xs) (overwritten m' place ys)
over m m' more place [] [] zip k = more k
over m m' more place [] (y ∷ ys) zip k = absurd zip
over m m' more place (x ∷ xs) [] zip k = absurd zip
over m m' more place (x ∷ xs) (y ∷ ys) zip k =
    under_test (k == place) x y (overwritten m (suc place) xs k) (overwritten m' (suc place) ys k) zip.0
    (over m m' more (suc place) xs ys zip.1 k)

-- what can be written in the one can be in the other, and then the one tells no more than the other
pub same_write : (m m' new : FlatMemory) (place : ℕ) (cells others : List Cell) → MemoryTellsNoMore m m'
    → AllZip CellTellsNoMore cells others → with_cells m place cells ≡ Some new
    → (new' : FlatMemory) × (with_cells m' place others ≡ Some new') × MemoryTellsNoMore new new'
same_write m m' new place cells others more zip is =
    let size : length cells ≡ length others = same_length cells others zip in
    let xs : List Cell = cells_from m place (length cells) in
    let ys : List Cell = cells_from m' place (length others) in
    let there : AllZip CellTellsNoMore xs ys =
    subst (λ n. AllZip CellTellsNoMore xs (cells_from m' place n)) size (all_from m m' more place (length cells)) in
    let one = given_if (list_all is_own xs) (overwritten m place cells) new is in (
      overwritten m' place others,
      gives_if (list_all is_own ys) (overwritten m' place others) (all_own xs ys there one.0),
      subst (λ n. MemoryTellsNoMore n (overwritten m' place others)) one.1 (over m m' more place cells others zip),
    )
