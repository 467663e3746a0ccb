-- What holds of each piece that a call touches, part by part.
use Rattle.std.proofs.Common.{◌≡◌, ℕ, Bool, ◌&&◌, List, ◌++◌, map}
use Rattle.std.specs.List.{list_all}
use Rattle.std.proofs.lemmas.List.Folds.{list_all-append, list_all-map}
use Rattle.lir_core.specs.Pieces.{of_argument, word}
use Rattle.lir_core.specs.declared.op.Argument.{Argument}
use Rattle.lir_core.specs.declared.soundness.Piece.{Piece}

pub of_given : (f : Piece → Bool) (dictionary : List Piece) (arguments : List Argument)
    → list_all f (dictionary ++ map of_argument arguments)
    ≡ (list_all f dictionary && list_all (λ a. f (of_argument a)) arguments)
of_given f dictionary arguments = simp (list_all-append, list_all-map)

pub of_two : (f : Piece → Bool) (callee others : List Piece)
    → list_all f (callee ++ others) ≡ (list_all f callee && list_all f others)
of_two f callee others = simp list_all-append

pub of_routine : (f : Piece → Bool) (gives : List Piece) (arguments : List ℕ)
    → list_all f (gives ++ map word arguments) ≡ (list_all f gives && list_all (λ slot. f (word slot)) arguments)
of_routine f gives arguments = simp (list_all-append, list_all-map)
