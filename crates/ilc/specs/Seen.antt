-- What is seen of the outside at a moment.
use Rattle.std.specs.Prelude.{ℕ, List, Option}
use Rattle.num_core.specs.Run.{Outside}
use Rattle.ilc_io.specs.Store.{Store, Asked}
use Rattle.ilc_io.specs.declared.call.Call.{Call}

-- A store of files: its files, where it tells them, what `size` was asked and has answered, the calls that were made,
-- where it notes them, and its counts of faults.
pub record StoreSeen : Type 0 where
  pub told : Option Store
  pub asked : Asked
  pub calls : Option (List Call)
  pub read_faults : ℕ
  pub write_faults : ℕ

abbrev pub store_seen : Option Store → Asked → Option (List Call) → ℕ → ℕ → StoreSeen
store_seen told asked calls read_faults write_faults =
    record { told = told; asked = asked; calls = calls; read_faults = read_faults; write_faults = write_faults }

-- the streams: what they tell, and their counts of faults
pub record StreamsSeen : Type 0 where
  pub outside : Outside
  pub input_faults : ℕ
  pub output_faults : ℕ
  pub error_faults : ℕ

abbrev pub streams_seen : Option (List ℕ) → Option (List ℕ) → Option (List ℕ) → ℕ → ℕ → ℕ → StreamsSeen
streams_seen rest output error input_faults output_faults error_faults =
    record {
      outside = record { rest = rest; output = output; error = error };
      input_faults = input_faults;
      output_faults = output_faults;
      error_faults = error_faults;
    }
