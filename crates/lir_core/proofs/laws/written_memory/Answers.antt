use Rattle.lir_core.proofs.MemoryLaws.{cells_from-elsewhere, cells_from-overwritten, number_in-overwritten}
use Rattle.lir_core.proofs.laws.written_memory.Goals as goal

pub returns-clause-read_back : goal.returns-clause-read_back
returns-clause-read_back c = number_in-overwritten

pub returns-clause-written : goal.returns-clause-written
returns-clause-written c = cells_from-overwritten

pub returns-clause-elsewhere : goal.returns-clause-elsewhere
returns-clause-elsewhere c = λ memory place other count cells. cells_from-elsewhere memory place cells other count
