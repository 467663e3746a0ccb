use Rattle.std.proofs.Common.{◌≡◌, ◌-◌, ◌≤◌, length, take}
use Rattle.std.specs.Option.{option_map}
use Rattle.ilc_io.specs.declared.call.Call.TheVariants.{Append, Create}
use Rattle.ilc_io.proofs.Progress.{Reaches}
use Rattle.ilc_io.specs.Calls.{noted}
use Rattle.ilc_io.specs.declared.whole.TheConstants.{WRITE_PIECE}
use Rattle.ilc_io.specs.Store.{stored}
use Rattle.ilc_io.proofs.whole.write_file.Given as goal

abbrev pub invariant-loop-written : goal.invariant-loop-written
invariant-loop-written g l =
    let files = g.F.Files in
    record {
      within : l.written ≤ length l.bytes;
      files_so_far : files.told l.files ≡ option_map (stored l.name (take l.written l.bytes)) (files.told l.fn.files);
      pieces :
          Reaches (λ _ len. Append len) WRITE_PIECE (length l.bytes) l.written
          (noted Create (files.calls l.fn.files)) (files.calls l.files);
      same_asked : files.asked l.files ≡ files.asked l.fn.files;
      read_faults : files.read_faults l.files ≡ files.read_faults l.fn.files;
      write_faults : files.write_faults l.files ≡ files.write_faults l.fn.files;
    }

abbrev pub decreases-loop-written : goal.decreases-loop-written
decreases-loop-written g l = length l.bytes - l.written
