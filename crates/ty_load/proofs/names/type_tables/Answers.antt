use Rattle.std.proofs.Common.{rules, ◌≡◌, ◌∙◌, ◌++◌, ◌∷◌, [], List, length, ap, arith, subst}
use Rattle.md_tables.specs.declared.module.Table.{Table}
use Rattle.ty_names.specs.Modules.{World, tables_at}
use Rattle.ty_load.specs.declared.types.TypeTable.{TypeTable}
use Rattle.ty_load.specs.Named.{IsTypeTable}
use Rattle.ty_load.proofs.Through.{one_table_more}
use Rattle.ty_load.proofs.names.type_tables.Goals as goal

pub loop-alloc-preserved : goal.loop-alloc-preserved
loop-alloc-preserved c =
    let world : World = c.args.modules.now in
    let types : List TypeTable = c.loop-alloc.types.items in
    let table : TypeTable = c.in_ok-table.table in
    let pushed : c.push.new.self.items ≡ types ++ table ∷ [] = search rules in
    let size : c.len-in-loop-alloc.result ≡ length types = search rules in
    let is : IsTypeTable (tables_at world (length types)) table =
    subst (λ (tables : List Table). IsTypeTable tables table) (c.tables_at.ensures ∙ ap (tables_at world) size)
    c.in_ok-table.ensures in
    record {
      within = omega arith;
      told = one_table_more world types c.push.new.self.items table c.loop-alloc.invariant.told is pushed;
    }
