-- What is known of the files of the system.
use Rattle.std.specs.Prelude.{ℕ}
use Rattle.ilc_io.specs.Count.{next_count}
use Rattle.ilc_io.specs.Store.{Asked}

-- what `size` was asked for and answered, and how many calls have failed
pub record HostStore : Type 0 where
  pub asked : Asked
  pub read_faults : ℕ
  pub write_faults : ℕ

-- after one more failed call of `size` or `read`, of which the count stays at its last value
abbrev pub with_read_fault : HostStore → HostStore
with_read_fault store = record store { read_faults = next_count store.read_faults }

-- the same of `create` or `append`
abbrev pub with_write_fault : HostStore → HostStore
with_write_fault store = record store { write_faults = next_count store.write_faults }
