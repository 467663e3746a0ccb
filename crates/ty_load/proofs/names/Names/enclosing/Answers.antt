use Rattle.std.proofs.Common.{◌≡◌, ◌∙◌, ℕ, List, Some, None, ap, sym, slice_get, option_copied}
use Rattle.md_tables.specs.declared.module.Table.{Table}
use Rattle.ty_names.specs.Definitions.{enclosing}
use Rattle.ty_load.specs.declared.types.TypeTable.{TypeTable}
use Rattle.ty_load.proofs.Through.{not_there, table_there}
use Rattle.ty_load.proofs.names.Names.enclosing.Goals as goal

pub outer_of-requires : goal.outer_of-requires
outer_of-requires c =
    let number : ℕ = c.args.id.module in
    let table : TypeTable = c.in-Some.table.now in
    let here : slice_get c.self.inside.types.items number ≡ Some table =
    sym (ap (λ (l : List TypeTable). slice_get l number) c.as_slice.ensures.value) ∙ sym c.table_at.ensures
    ∙ ap option_copied c.in-Some.is in
    table_there c.self.inside.modules c.args.self.now c.self.inside.types.items number table c.tables.result.now
    c.self.invariant.told here c.self.view_is c.tables.ensures

pub returns-in-None : goal.returns-in-None
returns-in-None c =
    let number : ℕ = c.args.id.module in
    let none : slice_get c.self.inside.types.items number ≡ None =
    sym (ap (λ (l : List TypeTable). slice_get l number) c.as_slice.ensures.value) ∙ sym c.table_at.ensures
    ∙ ap option_copied c.in-None.is in
    sym (ap (λ (t : List Table). enclosing t c.args.id.row)
    (not_there c.self.inside.modules c.args.self.now c.self.inside.types.items number c.self.invariant.count none
    c.self.view_is))
