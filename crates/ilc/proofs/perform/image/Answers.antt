use Rattle.std.proofs.Common.{subst}
use Rattle.il_text.specs.Assembling.{assembled}
use Rattle.il_text.specs.Reading.{Refuses}
use Rattle.ilc.specs.Cause.{IsImageOf, file_limit}
use Rattle.ilc.specs.Seen.{StoreSeen, store_seen}
use Rattle.ilc.specs.Stages.{text_stages}
use Rattle.ilc.proofs.NotRead.{refused_or_memory, refused_text_is_told}
use Rattle.ilc.proofs.perform.image.Goals as goal

pub returns-in-Ok-image_meant-clause-made : goal.returns-in-Ok-image_meant-clause-made
returns-in-Ok-image_meant-clause-made g c =
    record {
      bytes = c.in-Ok.text;
      read = c.in-Ok.ensures.read;
      makes = subst (λ text. IsImageOf text c.in-Ok-image_meant.image) c.as_slice.ensures
          c.in-Ok-image_meant.ensures.made;
      same_files = c.read.ensures.same_files;
      write_faults = c.read.ensures.same_write_faults;
    }

pub returns-clause-refused : goal.returns-clause-refused
returns-clause-refused g c =
    let files = g.F.Files in
    let before : StoreSeen = store_seen (files.told c.args.files.now) (files.asked c.args.files.now)
    (files.calls c.args.files.now) (files.read_faults c.args.files.now) (files.write_faults c.args.files.now) in
    let now : StoreSeen = store_seen (files.told c.read.new.files) (files.asked c.read.new.files)
    (files.calls c.read.new.files) (files.read_faults c.read.new.files) (files.write_faults c.read.new.files) in
    refused_or_memory text_stages c.args.file.now file_limit c.in-Ok.text before now c.text_outcome.result
    c.in-Ok.ensures.read
    (refused_text_is_told c.in-Ok.text c.args.file.now c.in-Err-image_meant.fault c.text_outcome.result
    c.text_outcome.ensures
    (subst (λ text. Refuses (assembled text) c.in-Err-image_meant.fault) c.as_slice.ensures
    c.in-Err-image_meant.ensures.refused))

pub returns-in-Err-clause-refused : goal.returns-in-Err-clause-refused
returns-in-Err-clause-refused g c = c.in-Err.ensures.not_read text_stages
