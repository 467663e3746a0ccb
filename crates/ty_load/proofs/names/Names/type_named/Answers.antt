use Rattle.std.proofs.Common.{◌≡◌, ◌∙◌, [], ℕ, List, Some, None, ap, sym, slice_get, option_copied}
use Rattle.std.specs.Option.{option_map}
use Rattle.md_tables.specs.declared.module.Table.{Table}
use Rattle.ty_names.specs.Modules.{World, tables_at}
use Rattle.ty_names.specs.References.{id_of, type_in, type_row}
use Rattle.ty_load.specs.declared.types.TypeTable.{TypeTable}
use Rattle.ty_load.specs.Named.{IsTypeTable}
use Rattle.ty_load.proofs.Through.{no_tables}
use Rattle.ty_load.proofs.names.Names.type_named.Goals as goal

pub returns-in_ok-row-in-Some : goal.returns-in_ok-row-in-Some
returns-in_ok-row-in-Some c =
    let world : World = c.self.inside.modules in
    let number : ℕ = c.args.module in
    let table : TypeTable = c.in-Some.table.now in
    let here : slice_get c.self.inside.types.items number ≡ Some table =
    sym (ap (λ (l : List TypeTable). slice_get l number) c.as_slice.ensures.value) ∙ sym c.table_at.ensures
    ∙ ap option_copied c.in-Some.is in
    let is : IsTypeTable (tables_at world number) table = c.self.invariant.told number table here in
    c.id_of.ensures
    ∙ ap (option_map (id_of number)) (c.in_ok-row-in-Some.ensures
    ∙ is.told c.args.outer c.args.namespace.now c.args.name.now)
    ∙ ap (λ (w : World). type_in w number c.args.outer c.args.namespace.now c.args.name.now) c.self.view_is

pub returns-in-None : goal.returns-in-None
returns-in-None c =
    let world : World = c.self.inside.modules in
    let number : ℕ = c.args.module in
    let none : slice_get c.self.inside.types.items number ≡ None =
    sym (ap (λ (l : List TypeTable). slice_get l number) c.as_slice.ensures.value) ∙ sym c.table_at.ensures
    ∙ ap option_copied c.in-None.is in
    let nothing : tables_at world number ≡ [] =
    no_tables world c.self.inside.types.items number c.self.invariant.count none in
    sym (ap (λ (tables : List Table). option_map (id_of number)
    (type_row tables c.args.outer c.args.namespace.now c.args.name.now)) nothing)
    ∙ ap (λ (w : World). type_in w number c.args.outer c.args.namespace.now c.args.name.now) c.self.view_is
