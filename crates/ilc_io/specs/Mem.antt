-- What the stores, sources and sinks in memory are.
use Rattle.std.specs.Prelude.{ℕ, List, [], ◌∷◌, ◌++◌, length, Contains, map, String, refl}
use Rattle.std.specs.Coded.{Coded, code_by, coded×, coded_ℕ, coded_list, coded_option}
use Rattle.std.specs.Global.{Global}
use Rattle.std.specs.String.{string_bytes}
use Rattle.std.specs.BTreeMap.{BTreeMap}
use Rattle.std.specs.FinMap.{from_entries, code as files_code}
use Rattle.ilc_io.specs.declared.call.Call.{Call}
use Rattle.ilc_io.specs.Count.{next_count}
use Rattle.ilc_io.specs.Store.{Store, Asked}

-- the files that a map from names to bytes has
abbrev pub files_of : BTreeMap (String Global) (List ℕ) → Store
files_of m = from_entries (map (λ e. (string_bytes e.0, e.1)) m.entries)

-- A store in memory: its files, what `size` was asked for and answered, the calls so far, the numbers of the
-- calls that are to fail, and how many calls have failed.
pub record MemStore : Type 0 where
  pub files : Store
  pub asked : Asked
  pub calls : List Call
  pub failing : List ℕ
  pub read_faults : ℕ
  pub write_faults : ℕ

-- the number of the next call is among those that are to fail
abbrev pub NextFails : MemStore → Type 0
NextFails store = Contains store.failing (length store.calls)

-- the store after one more call
abbrev pub with_call : Call → MemStore → MemStore
with_call call store = record store { calls = store.calls ++ call ∷ [] }

-- the store after one more failed call of `size` or `read`, of which the count stays at its last value
abbrev pub with_read_fault : MemStore → MemStore
with_read_fault store = record store { read_faults = next_count store.read_faults }

-- the same of `create` or `append`
abbrev pub with_write_fault : MemStore → MemStore
with_write_fault store = record store { write_faults = next_count store.write_faults }

-- A source or a sink in memory: the bytes that are left or were written, how many calls came, the numbers of the
-- calls that are to fail, how many have failed, and how many of these had no memory for what was to be written.
pub record MemStream : Type 0 where
  pub bytes : List ℕ
  pub calls : ℕ
  pub failing : List ℕ
  pub faults : ℕ
  pub refused : ℕ

-- the number of the next call is among those that are to fail
abbrev pub NextOfStreamFails : MemStream → Type 0
NextOfStreamFails stream = Contains stream.failing stream.calls

-- the stream after one more call, which leaves these bytes
abbrev pub with_bytes : List ℕ → MemStream → MemStream
with_bytes bytes stream = record stream { bytes = bytes; calls = next_count stream.calls }

-- the stream after one more call, which failed
abbrev pub with_fault : MemStream → MemStream
with_fault stream = record stream { calls = next_count stream.calls; faults = next_count stream.faults }

-- the stream after one more call, which had no memory
abbrev pub without_memory : MemStream → MemStream
without_memory stream = record (with_fault stream) { refused = next_count stream.refused }

-- a store in memory is stored as its parts
abbrev pub mem_store_code : Coded Call → Coded MemStore
mem_store_code coded_call =
    code_by (Store × (Asked × (List Call × (List ℕ × (ℕ × ℕ)))))
    (coded× (files_code (coded_list coded_ℕ) (coded_list coded_ℕ))
    (coded× (coded_list (coded× (coded_list coded_ℕ) (coded_option coded_ℕ)))
    (coded× (coded_list coded_call) (coded× (coded_list coded_ℕ) (coded× coded_ℕ coded_ℕ)))))
    (λ s. (s.files, (s.asked, (s.calls, (s.failing, (s.read_faults, s.write_faults))))))
    (λ p. record {
      files = p.0;
      asked = p.1.0;
      calls = p.1.1.0;
      failing = p.1.1.1.0;
      read_faults = p.1.1.1.1.0;
      write_faults = p.1.1.1.1.1;
    })
    (λ _. refl)
