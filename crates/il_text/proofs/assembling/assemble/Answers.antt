use Rattle.il_text.proofs.Assembled.{module_read, module_refused, text_refused}
use Rattle.il_text.proofs.WholeText.{whole}
use Rattle.il_text.proofs.assembling.assemble.Goals as goal

pub module_of-requires : goal.module_of-requires
module_of-requires c = whole c.args.text.now c.in-Ok.draft c.in-Ok.ensures

pub returns-in-Ok-clause-module : goal.returns-in-Ok-clause-module
returns-in-Ok-clause-module c =
    module_read c.args.text.now c.in-Ok.draft c.module_of.result c.in-Ok.ensures c.module_of.ensures

pub returns-in-Ok-clause-bad_text : goal.returns-in-Ok-clause-bad_text
returns-in-Ok-clause-bad_text c =
    module_refused c.args.text.now c.in-Ok.draft c.module_of.result c.in-Ok.ensures c.module_of.ensures

pub returns-in-Err-clause-bad_text : goal.returns-in-Err-clause-bad_text
returns-in-Err-clause-bad_text c = text_refused c.args.text.now c.in-Err.fault c.in-Err.ensures
