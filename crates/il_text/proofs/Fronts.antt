-- Items in front of those that are read.
use Rattle.std.proofs.Common.{◌≡◌, ◌∙◌, ℕ, suc, ◌+◌, ◌-◌, ◌<◌, List, [], ◌∷◌, ◌++◌, Result, Ok, Err}
use Rattle.std.proofs.Common.{refl, ap, sym, arith, append_assoc, inl, inr}
use Rattle.std.proofs.lemmas.List.{append-nil}
use Rattle.md_rows.specs.declared.schema.Column.{Column}
use Rattle.il_text.specs.declared.fault.IlTextFault.{IlTextFault}
use Rattle.il_text.specs.declared.draft.DraftCell.{DraftCell}
use Rattle.il_text.specs.Lines.{LineParts}
use Rattle.il_text.specs.Reading.{in_front, cell_in, cells_from, distance_to, distances_from, read, ◌>>=◌, Refuses}

pub nothing_in_front : {A : Type 0} (r : Result (List A) IlTextFault) → in_front [] r ≡ r
nothing_in_front (Ok items) = refl
nothing_in_front (Err fault) = refl

-- one item in front
pub one_in_front : {A : Type 0} (item : A) (r : Result (List A) IlTextFault)
    → in_front (item ∷ []) r ≡ (r >>= (λ items. Ok (item ∷ items)))
one_in_front item (Ok items) = refl
one_in_front item (Err fault) = refl

-- some items in front of those in front
pub more_in_front : {A : Type 0} (done items : List A) (r : Result (List A) IlTextFault)
    → in_front done (r >>= (λ rest. Ok (items ++ rest))) ≡ in_front (done ++ items) r
more_in_front done items (Ok rest) = ap Ok (sym (append_assoc done items rest))
more_in_front done items (Err fault) = refl

-- ---- cells

pub cell_on : (line : LineParts) (index : ℕ) (columns rest : List Column) (column : Column) (done : List DraftCell)
    (cell : DraftCell) (all : Result (List DraftCell) IlTextFault) → columns ≡ column ∷ rest
    → cell_in line index column ≡ Ok cell → all ≡ in_front done (cells_from line index columns)
    → all ≡ in_front (done ++ cell ∷ []) (cells_from line (index + 1) rest)
cell_on line index columns rest column done cell all first is so_far =
    so_far
    ∙ ap (λ cs. in_front done (cells_from line index cs)) first
    ∙ ap (λ c. in_front done (c >>= (λ one. cells_from line (index + 1) rest >>= (λ cells. Ok (one ∷ cells))))) is
    ∙ more_in_front done (cell ∷ []) (cells_from line (index + 1) rest)

pub cell_bad : (line : LineParts) (index : ℕ) (columns rest : List Column) (column : Column) (done : List DraftCell)
    (fault : IlTextFault) (all : Result (List DraftCell) IlTextFault) → columns ≡ column ∷ rest
    → Refuses (cell_in line index column) fault → all ≡ in_front done (cells_from line index columns)
    → Refuses all fault
cell_bad line index columns rest column done fault all first (inl none) so_far = inl none
cell_bad line index columns rest column done fault all first (inr bad) so_far =
    inr (so_far
    ∙ ap (λ cs. in_front done (cells_from line index cs)) first
    ∙ ap (λ c. in_front done (c >>= (λ one. cells_from line (index + 1) rest >>= (λ cells. Ok (one ∷ cells))))) bad)

pub cells_done : (line : LineParts) (index : ℕ) (columns : List Column) (done : List DraftCell)
    (all : Result (List DraftCell) IlTextFault) → columns ≡ [] → all ≡ in_front done (cells_from line index columns)
    → all ≡ Ok done
cells_done line index columns done all none so_far =
    so_far ∙ ap (λ cs. in_front done (cells_from line index cs)) none ∙ ap Ok (append-nil done)

-- ---- targets

pub target_on : (line : LineParts) (next count index : ℕ) (done target : List ℕ) (all : Result (List ℕ) IlTextFault)
    → index < count → read (distance_to 4 next) line (index + 2) ≡ Ok target
    → all ≡ in_front done (distances_from line next (count - index) (index + 2))
    → all ≡ in_front (done ++ target) (distances_from line next (count - (index + 1)) (index + 1 + 2))
target_on line next count index done target all inside is so_far =
    let left : count - index ≡ suc (count - (index + 1)) = omega arith in
    let behind : index + 2 + 1 ≡ index + 1 + 2 = omega arith in
    let rest : Result (List ℕ) IlTextFault = distances_from line next (count - (index + 1)) (index + 2 + 1) in
    so_far
    ∙ ap (λ n. in_front done (distances_from line next n (index + 2))) left
    ∙ ap (λ r. in_front done (r >>= (λ one. rest >>= (λ more. Ok (one ++ more))))) is
    ∙ more_in_front done target rest
    ∙ ap (λ n. in_front (done ++ target) (distances_from line next (count - (index + 1)) n)) behind

pub target_bad : (line : LineParts) (next count index : ℕ) (done : List ℕ) (fault : IlTextFault)
    (all : Result (List ℕ) IlTextFault) → index < count
    → Refuses (read (distance_to 4 next) line (index + 2)) fault
    → all ≡ in_front done (distances_from line next (count - index) (index + 2)) → Refuses all fault
target_bad line next count index done fault all inside (inl none) so_far = inl none
target_bad line next count index done fault all inside (inr bad) so_far =
    let left : count - index ≡ suc (count - (index + 1)) = omega arith in
    let rest : Result (List ℕ) IlTextFault = distances_from line next (count - (index + 1)) (index + 2 + 1) in
    inr (so_far
    ∙ ap (λ n. in_front done (distances_from line next n (index + 2))) left
    ∙ ap (λ r. in_front done (r >>= (λ one. rest >>= (λ more. Ok (one ++ more))))) bad)

pub targets_done : (line : LineParts) (next count index : ℕ) (done : List ℕ) (all : Result (List ℕ) IlTextFault)
    → index ≡ count → all ≡ in_front done (distances_from line next (count - index) (index + 2)) → all ≡ Ok done
targets_done line next count index done all end so_far =
    let none : count - index ≡ 0 = omega arith in
    so_far
    ∙ ap (λ n. in_front done (distances_from line next n (index + 2))) none
    ∙ ap Ok (append-nil done)

-- what is read behind items in front
pub front_read : {A : Type 0} (front : List A) (r : Result (List A) IlTextFault) (all : List A)
    (e : Result (Unit {0}) IlTextFault) → in_front front r ≡ Ok all → e ≡ Ok tt
    → (r >>= (λ rest. e >>= (λ done. Ok (front ++ rest)))) ≡ Ok all
front_read front (Ok rest) all e h done = ap (λ d. d >>= (λ u. Ok (front ++ rest))) done ∙ h
front_read front (Err fault) all e h done = cc

pub front_bad : {A : Type 0} (front : List A) (r : Result (List A) IlTextFault) (fault : IlTextFault)
    (e : Result (Unit {0}) IlTextFault) → Refuses (in_front front r) fault
    → Refuses (r >>= (λ rest. e >>= (λ done. Ok (front ++ rest)))) fault
front_bad front r fault e (inl none) = inl none
front_bad front (Ok rest) fault e (inr bad) = cc
front_bad front (Err other) fault e (inr bad) = inr bad

pub front_more : {A : Type 0} (front : List A) (r : Result (List A) IlTextFault) (all : List A) (fault : IlTextFault)
    (e : Result (Unit {0}) IlTextFault) → in_front front r ≡ Ok all → Refuses e fault
    → Refuses (r >>= (λ rest. e >>= (λ done. Ok (front ++ rest)))) fault
front_more front r all fault e h (inl none) = inl none
front_more front (Ok rest) all fault e h (inr bad) = inr (ap (λ d. d >>= (λ u. Ok (front ++ rest))) bad)
front_more front (Err other) all fault e h (inr bad) = cc
