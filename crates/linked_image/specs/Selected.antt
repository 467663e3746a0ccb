-- Bodies, each with the code that was selected for it.
use Rattle.std.specs.Prelude.{◌≡◌, true, List, [], ◌∷◌, All}
use Rattle.std.specs.List.{list_all}
use Rattle.rv_isa.specs.Instructions.{IsLegal}
use Rattle.lir_core.specs.Check.{is_sound}
use Rattle.lir_core.specs.declared.body.LirBody.{LirBody}
use Rattle.rv_gen.specs.Placing.{code_of, fixes_of, map_of, words_of}
use Rattle.rv_gen.specs.declared.selection.Code.{Code}
use Rattle.image_plan.specs.Conditions.{are_apart, begins_with_auipc, map_fits}
use Rattle.image_plan.specs.Planned.{code_fixes_fit}
use Rattle.image_plan.specs.declared.pieces.CodePiece.{CodePiece}

-- the code is what selection gives for the sound body
pub record IsSelected (body : LirBody) (code : Code) : Type 0 where
  pub sound : is_sound body ≡ true
  pub words : code.words ≡ words_of body
  pub fixes : code.fixes ≡ fixes_of body
  pub map : code.map ≡ map_of body
  pub legal : All IsLegal (code_of body)

-- each piece has the code of the body at its place
abbrev pub AreSelected : List LirBody → List CodePiece → Type 0
AreSelected [] [] = Unit {0}
AreSelected [] (piece ∷ pieces) = ⊥
AreSelected (body ∷ bodies) [] = ⊥
AreSelected (body ∷ bodies) (piece ∷ pieces) = IsSelected body piece.code × AreSelected bodies pieces

-- What placing asks of pieces of code, but that what their fixes name has addresses: what a fix changes lies in its
-- piece and begins with an `auipc`, no two fixes change the same, and each place in a map is one of a word.
pub record SuitsPlacing (pieces : List CodePiece) : Type 0 where
  pub fits : list_all code_fixes_fit pieces ≡ true
  pub begins : list_all begins_with_auipc pieces ≡ true
  pub apart : list_all (λ (piece : CodePiece). are_apart 2 piece.code.fixes) pieces ≡ true
  pub maps : list_all map_fits pieces ≡ true
