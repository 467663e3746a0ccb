use Rattle.std.proofs.Common.{◌≡◌, ap, Err}
use Rattle.ilc_io.specs.declared.fault.FileFault.TheVariants.{Missing, TooLong}
use Rattle.ilc.specs.Seen.{StoreSeen, store_seen}
use Rattle.ilc.proofs.NotRead.{not_read}
use Rattle.ilc.proofs.perform.read.Goals as goal

pub returns-in-Ok-clause-read : goal.returns-in-Ok-clause-read
returns-in-Ok-clause-read g c =
    record {
      content = c.in-Ok.ensures.content;
      size = c.in-Ok.ensures.asked.0;
      asked = c.in-Ok.ensures.asked.1;
      whole = c.in-Ok.ensures.asked.2;
      within = c.in-Ok.ensures.asked.3;
      pieces = c.in-Ok.ensures.pieces c.in-Ok.ensures.asked.0 c.in-Ok.ensures.asked.1 c.in-Ok.ensures.asked.3;
    }

pub returns-in-Err-clause-not_read : goal.returns-in-Err-clause-not_read
returns-in-Err-clause-not_read g c stages =
    let files = g.F.Files in
    let before : StoreSeen = store_seen (files.told c.args.files.now) (files.asked c.args.files.now)
    (files.calls c.args.files.now) (files.read_faults c.args.files.now) (files.write_faults c.args.files.now) in
    let now : StoreSeen = store_seen (files.told c.read_file.new.files) (files.asked c.read_file.new.files)
    (files.calls c.read_file.new.files) (files.read_faults c.read_file.new.files)
    (files.write_faults c.read_file.new.files) in
    let known = c.in-Err.ensures in
    not_read stages c.args.name.now c.args.limit before now c.in-Err.fault c.read_outcome.result
    (record {
      no_file = λ store told e. known.no_file store told (ap Err e);
      long_file = λ store size told e. known.long_file store size told (ap Err e);
      missing = (
        λ e. known.missing.0 (ap Err e),
        λ asked. let h : Err c.in-Err.fault ≡ Err Missing = known.missing.1
            asked in cc,
      );
      too_long = λ size. (
        λ e. (known.too_long size).0 (ap Err e),
        λ h. let e : Err c.in-Err.fault ≡ Err
            (TooLong size) = (known.too_long size).1 h in cc,
      );
      asked_once = known.asked_once;
      pieces = known.pieces;
      missing_calls = λ e. known.missing_reads_nothing (ap Err e);
      long_calls = λ size e. known.too_long_reads_nothing size (ap Err e);
      size_refused = known.size_refused;
      counted = λ e. known.counted (ap Err e);
    }) c.read_outcome.ensures
