use Rattle.std.proofs.Common.{ℕ, List, ◌-◌, arith, subst}
use Rattle.md_tables.specs.declared.module.Table.{Table}
use Rattle.ty_names.specs.Modules.{World, tables_at}
use Rattle.ty_load.specs.TypeKeys.{TellAssembly}
use Rattle.ty_load.proofs.Keys.{tells_one_assembly}
use Rattle.ty_load.proofs.assembly.assemblies.Goals as goal

pub loop-left-preserved : goal.loop-left-preserved
loop-left-preserved c =
    let world : World = c.args.modules.now in
    let left : ℕ = c.loop-left.left in
    let one : TellAssembly (tables_at world (left - 1)) (left - 1) c.loop-left.found.entries
    c.note_assembly.new.found.entries =
    subst (λ (tables : List Table). TellAssembly tables (left - 1) c.loop-left.found.entries
    c.note_assembly.new.found.entries) c.tables_at.ensures c.in_ok-note_assembly.ensures in
    record {
      within = omega arith;
      told =
          tells_one_assembly world left (left - 1) c.loop-left.found.entries c.note_assembly.new.found.entries
          (omega arith) c.loop-left.invariant.within one c.loop-left.invariant.told;
    }
