use Rattle.std.proofs.Common.{ap, ◌∙◌}
use Rattle.std.specs.String.{string_bytes}
use Rattle.ilc_io.specs.Mem.{files_of}
use Rattle.ilc_io.specs.Store.{stored}
use Rattle.ilc_io.proofs.TextMap.{files_of-updates}
use Rattle.ilc_io.proofs.mem_files.store.Goals as goal

pub returns-clause-ok : goal.returns-clause-ok
returns-clause-ok c =
    files_of-updates c.args.files.now c.insert.new.self (string_bytes c.in_ok-key.key) _ c.in_ok-insert.ensures.updates
    ∙ ap (λ name. stored name c.in_ok-content.content (files_of c.args.files.now)) c.in_ok-key.ensures.ok
    ∙ ap (λ bytes. stored c.args.name.now bytes (files_of c.args.files.now)) c.in_ok-content.ensures
