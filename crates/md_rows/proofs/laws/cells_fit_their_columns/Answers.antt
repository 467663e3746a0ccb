use Rattle.md_rows.proofs.Fitting.{fit_their_columns}
use Rattle.md_rows.proofs.laws.cells_fit_their_columns.Goals as goal

pub returns : goal.returns
returns c = fit_their_columns
