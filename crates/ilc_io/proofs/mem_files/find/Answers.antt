use Rattle.std.proofs.Common.{Some, ap, sym, ◌∙◌}
use Rattle.ilc_io.proofs.TextMap.{get-files_of}
use Rattle.ilc_io.proofs.mem_files.find.Goals as goal

pub returns-in-Some : goal.returns-in-Some
returns-in-Some c =
    ap Some c.as_slice.ensures ∙ c.in-Some.ensures.value ∙ sym (get-files_of c.args.files.now c.args.name.now)

pub returns-in-None : goal.returns-in-None
returns-in-None c = c.in-None.ensures.value ∙ sym (get-files_of c.args.files.now c.args.name.now)
