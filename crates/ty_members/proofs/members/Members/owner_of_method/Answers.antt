use Rattle.std.proofs.Common.{◌≡◌, ◌∙◌, [], ℕ, List, Some, None, ap, arith, sym, subst, slice_get, option_copied}
use Rattle.md_tables.specs.declared.module.Table.{Table}
use Rattle.ty_names.specs.Modules.{World, row_count, tables_at}
use Rattle.ty_members.specs.declared.members.MemberTable.{MemberTable}
use Rattle.ty_members.specs.Owners.{IsMemberTable}
use Rattle.ty_members.proofs.Tables.{no_tables}
use Rattle.ty_members.proofs.members.Members.owner_of_method.Goals as goal

pub method_owner-requires-clause-told : goal.method_owner-requires-clause-told
method_owner-requires-clause-told c =
    let number : ℕ = c.args.module in
    let table : MemberTable = c.in-Some.table.now in
    let here : slice_get c.self.inside.tables.items number ≡ Some table =
    sym (ap (λ (l : List MemberTable). slice_get l number) c.as_slice.ensures.value) ∙ sym c.table_at.ensures
    ∙ ap option_copied c.in-Some.is in
    subst (λ (tables : List Table). IsMemberTable tables table) (sym c.tables.ensures)
    (c.self.invariant.told number table here)

pub returns-in-None : goal.returns-in-None
returns-in-None c =
    let number : ℕ = c.args.module in
    let none : slice_get c.self.inside.tables.items number ≡ None =
    sym (ap (λ (l : List MemberTable). slice_get l number) c.as_slice.ensures.value) ∙ sym c.table_at.ensures
    ∙ ap option_copied c.in-None.is in
    let nothing : tables_at c.args.self.now number ≡ [] =
    subst (λ (w : World). tables_at w number ≡ []) c.self.view_is
    (no_tables c.self.inside.names c.self.inside.tables.items number c.self.invariant.count none) in
    let count : row_count (tables_at c.args.self.now number) 0x06 ≡ 0 =
    ap (λ (tables : List Table). row_count tables 0x06) nothing in
    absurd (omega (arith, count, c.requires.0, c.requires.1))
