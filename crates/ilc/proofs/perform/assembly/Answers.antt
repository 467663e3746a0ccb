use Rattle.std.proofs.Common.{subst}
use Rattle.ilc.specs.Cause.{Assembles, file_limit}
use Rattle.ilc.specs.Reading.{IsNoAssembly}
use Rattle.ilc.specs.Seen.{StoreSeen, store_seen}
use Rattle.ilc.specs.Stages.{assembly_stages}
use Rattle.ilc.proofs.NotRead.{refused_or_memory}
use Rattle.ilc.proofs.perform.assembly.Goals as goal

pub returns-in-Ok-module_in-clause-read : goal.returns-in-Ok-module_in-clause-read
returns-in-Ok-module_in-clause-read g c =
    record {
      bytes = c.in-Ok.bytes;
      read = c.in-Ok.ensures.read;
      assembles = subst (λ bytes. Assembles bytes c.in-Ok-module_in.assembly) c.as_slice.ensures
          c.in-Ok-module_in.ensures.read;
    }

pub returns-clause-refused : goal.returns-clause-refused
returns-clause-refused g c =
    let files = g.F.Files in
    let before : StoreSeen = store_seen (files.told c.args.files.now) (files.asked c.args.files.now)
    (files.calls c.args.files.now) (files.read_faults c.args.files.now) (files.write_faults c.args.files.now) in
    let now : StoreSeen = store_seen (files.told c.read.new.files) (files.asked c.read.new.files)
    (files.calls c.read.new.files) (files.read_faults c.read.new.files) (files.write_faults c.read.new.files) in
    refused_or_memory assembly_stages c.args.file.now file_limit c.in-Ok.bytes before now c.assembly_outcome.result
    c.in-Ok.ensures.read
    (c.assembly_outcome.ensures c.in-Ok.bytes
    (subst (λ bytes. IsNoAssembly bytes c.in-Err-module_in.fault) c.as_slice.ensures
    c.in-Err-module_in.ensures.refused))

pub returns-in-Err-clause-refused : goal.returns-in-Err-clause-refused
returns-in-Err-clause-refused g c = c.in-Err.ensures.not_read assembly_stages
