use Rattle.il_text.proofs.Counted.{tables_are}
use Rattle.il_text.proofs.assembling.tables.Goals as goal

pub returns : goal.returns
returns c = tables_are c.args.rows.now _ _ c.push_tables.new.tables c.schemas.ensures c.new-tables.ensures
    c.in_ok-push_tables.ensures
