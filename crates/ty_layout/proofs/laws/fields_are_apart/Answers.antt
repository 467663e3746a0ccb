use Rattle.ty_layout.proofs.Laying.{object_laid, value_laid}
use Rattle.ty_layout.proofs.laws.fields_are_apart.Goals as goal

pub returns-clause-object : goal.returns-clause-object
returns-clause-object c = object_laid

pub returns-clause-value_type : goal.returns-clause-value_type
returns-clause-value_type c = value_laid
