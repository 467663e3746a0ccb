use Rattle.std.proofs.Common.{subst}
use Rattle.ilc_build.specs.Refusals.{NotBare}
use Rattle.ilc.specs.Cause.{file_limit}
use Rattle.ilc.specs.Seen.{StoreSeen, store_seen}
use Rattle.ilc.specs.Stages.{body_stages}
use Rattle.ilc.proofs.NotRead.{refused_or_memory}
use Rattle.ilc.proofs.perform.build.Goals as goal

pub returns-clause-refused : goal.returns-clause-refused
returns-clause-refused g c =
    let files = g.F.Files in
    let before : StoreSeen = store_seen (files.told c.args.files.now) (files.asked c.args.files.now)
    (files.calls c.args.files.now) (files.read_faults c.args.files.now) (files.write_faults c.args.files.now) in
    let now : StoreSeen = store_seen (files.told c.read.new.files) (files.asked c.read.new.files)
    (files.calls c.read.new.files) (files.read_faults c.read.new.files) (files.write_faults c.read.new.files) in
    refused_or_memory body_stages c.args.file.now file_limit c.in-Ok.bytes before now c.build_outcome.result
    c.in-Ok.ensures.read
    (c.build_outcome.ensures c.in-Ok.bytes
    (subst (λ bytes. NotBare bytes c.in-Err-build_body.fault) c.as_slice.ensures c.in-Err-build_body.ensures.refused))

pub returns-in-Err-clause-refused : goal.returns-in-Err-clause-refused
returns-in-Err-clause-refused g c = c.in-Err.ensures.not_read body_stages
