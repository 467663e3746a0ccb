use Rattle.std.proofs.Common.{◌≡◌, arith, eq-eqb}
use Rattle.ty_load.specs.Bases.{parameters}
use Rattle.ty_texts.proofs.Full.{name_noted}
use Rattle.ty_texts.proofs.search.note_name.Goals as goal

pub returns : goal.returns
returns c =
    let none : parameters c.args.names.now c.args.id ≡ 0 = omega (arith, c.parameters.ensures) in
    name_noted c.args.names.now c.args.id c.in_ok-name.name c.args.found.now.entries c.insert.new.self.entries
    (eq-eqb (parameters c.args.names.now c.args.id) 0 none) c.in_ok-name.ensures c.in_ok-insert.ensures.entries
