use Rattle.std.proofs.Common.{◌≡◌, ◌-◌, ◌≤◌, length, take, Some, vec_len}
use Rattle.ilc_io.specs.declared.whole.TheConstants.{READ_PIECE}
use Rattle.ilc_io.specs.declared.call.Call.TheVariants.{Read}
use Rattle.ilc_io.proofs.Progress.{Reaches}
use Rattle.ilc_io.specs.Store.{Store, content}
use Rattle.ilc_io.proofs.whole.read_content.Given as goal

abbrev pub invariant-loop-bytes : goal.invariant-loop-bytes
invariant-loop-bytes g l =
    let files = g.F.Files in
    record {
      room : vec_len l.buffer ≡ READ_PIECE;
      within : length l.bytes ≤ l.size;
      content_so_far : (store : Store) → files.told l.fn.files ≡ Some store →
          l.bytes ≡ take (length l.bytes) (content store l.name);
      same_files : files.told l.files ≡ files.told l.fn.files;
      pieces : Reaches Read READ_PIECE l.size (length l.bytes) (files.calls l.fn.files) (files.calls l.files);
      same_asked : files.asked l.files ≡ files.asked l.fn.files;
      read_faults : files.read_faults l.files ≡ files.read_faults l.fn.files;
      write_faults : files.write_faults l.files ≡ files.write_faults l.fn.files;
    }

abbrev pub decreases-loop-bytes : goal.decreases-loop-bytes
decreases-loop-bytes g l = l.size - length l.bytes
