-- What is known of the segments once they were measured.
use Rattle.std.specs.Prelude.{◌≡◌, ◌<◌, ◌^◌}
use Rattle.image_plan.specs.Places.{code_at, tables_at, tables_end, text_end}
use Rattle.image_plan.specs.declared.ends.Ends.{Ends}
use Rattle.image_plan.specs.declared.pieces.Pieces.{Pieces}

-- where code and tables begin and end, below 2 ^ 32
pub record HasEnds (pieces : Pieces) (ends : Ends) : Type 0 where
  pub code_at : ends.code_at ≡ code_at
  pub text : ends.text ≡ text_end pieces
  pub tables_at : ends.tables_at ≡ tables_at pieces
  pub tables : ends.tables ≡ tables_end pieces
  pub text_below : ends.text < 2 ^ 32
  pub below : ends.tables < 2 ^ 32
