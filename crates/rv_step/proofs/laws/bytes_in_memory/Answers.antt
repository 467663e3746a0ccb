use Rattle.rv_step.proofs.Addresses.{one_reading, split, joined, read_bytes, readable, allowed_within}
use Rattle.rv_step.proofs.AddressLaws.{loads_by, loads_number, not_loaded, stored, not_stored, fetched_by, written_by}
use Rattle.rv_step.proofs.AddressLaws.{reads_by}
use Rattle.rv_step.proofs.KeptSegments.{step_keeps}
use Rattle.rv_step.proofs.laws.bytes_in_memory.Goals as goal

pub returns-clause-one : goal.returns-clause-one
returns-clause-one c = one_reading

pub returns-clause-parts : goal.returns-clause-parts
returns-clause-parts c = λ m address xs ys.
    (λ there. split m address xs ys there, λ both. joined m address xs ys both.0 both.1)

pub returns-clause-there : goal.returns-clause-there
returns-clause-there c = λ m address count segments may.
    let found = readable (λ s. s.read) address count m.segments may in
    (found.0, found.2, read_bytes (λ s. s.read) m address count found.0 segments found.1 found.2)

pub returns-clause-within : goal.returns-clause-within
returns-clause-within c = λ m address count first some low high. (
  allowed_within (λ s. s.read) address count first some m.segments low high,
  allowed_within (λ s. s.write) address count first some m.segments low high,
  allowed_within (λ s. s.execute) address count first some m.segments low high,
)

pub returns-clause-kept : goal.returns-clause-kept
returns-clause-kept c = λ m new streams streams' e.
    let kept = step_keeps m new streams streams' e in (kept.apart, kept.allows)

pub returns-clause-loaded : goal.returns-clause-loaded
returns-clause-loaded c = loads_by

pub returns-clause-number : goal.returns-clause-number
returns-clause-number c = loads_number

pub returns-clause-not_loaded : goal.returns-clause-not_loaded
returns-clause-not_loaded c = not_loaded

pub returns-clause-stored : goal.returns-clause-stored
returns-clause-stored c = stored

pub returns-clause-not_stored : goal.returns-clause-not_stored
returns-clause-not_stored c = not_stored

pub returns-clause-fetched : goal.returns-clause-fetched
returns-clause-fetched c = fetched_by

pub returns-clause-written : goal.returns-clause-written
returns-clause-written c = written_by

pub returns-clause-read : goal.returns-clause-read
returns-clause-read c = reads_by
