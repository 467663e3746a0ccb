use Rattle.std.proofs.Common.{refl}
use Rattle.std.specs.Fmt.{digits}
use Rattle.hex.specs.Hex.{decode_pairs}
use Rattle.md_rows.specs.Fits.{held_tables}
use Rattle.md_rows.specs.Tables.{tables}
use Rattle.il_text.specs.Assembling.{assembled}
use Rattle.il_text.specs.Reading.{read_text}
use Rattle.il_text.proofs.laws.small_texts.Goals as goal

pub returns-clause-empty : goal.returns-clause-empty
unfolding assembled read_text held_tables tables decode_pairs digits
returns-clause-empty c = refl

pub returns-clause-dropped : goal.returns-clause-dropped
unfolding assembled read_text held_tables tables decode_pairs digits
returns-clause-dropped c = refl

pub returns-clause-no_entry : goal.returns-clause-no_entry
unfolding assembled read_text
returns-clause-no_entry c = refl

pub returns-clause-no_table : goal.returns-clause-no_table
unfolding assembled read_text tables decode_pairs digits
returns-clause-no_table c = refl

pub returns-clause-no_user : goal.returns-clause-no_user
unfolding assembled read_text digits
returns-clause-no_user c = refl

pub returns-clause-no_end : goal.returns-clause-no_end
unfolding assembled read_text decode_pairs digits
returns-clause-no_end c = refl

pub returns-clause-no_number : goal.returns-clause-no_number
unfolding assembled read_text
returns-clause-no_number c = refl

pub returns-clause-zero : goal.returns-clause-zero
unfolding assembled read_text digits
returns-clause-zero c = refl
