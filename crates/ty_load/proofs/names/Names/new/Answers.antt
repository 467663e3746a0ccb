use Rattle.std.proofs.Common.{◌≡◌, ◌∙◌, true, length, ap, subst, sym}
use Rattle.ty_names.specs.Modules.{World, tables_at}
use Rattle.ty_load.specs.Counting.{has_numbers}
use Rattle.ty_load.specs.Named.{AreTypeTables}
use Rattle.ty_load.specs.TypeKeys.{TellAssemblies}
use Rattle.ty_load.proofs.Through.{IsNumbered, numbered}
use Rattle.ty_load.proofs.names.Names.new.Goals as goal

pub type_tables-requires : goal.type_tables-requires
type_tables-requires c =
    let n : IsNumbered c.args.modules = numbered c.args.modules c.requires in
    λ number. subst (λ (w : World). has_numbers (tables_at w number) ≡ true) (sym c.as_slice.ensures) (n.rows number)

pub invariant_of-result : goal.invariant_of-result
invariant_of-result c =
    let n : IsNumbered c.args.modules = numbered c.args.modules c.requires in
    record {
      small = n.modules;
      numbered = c.requires;
      count = c.in_ok-types.ensures.count ∙ ap length c.as_slice.ensures;
      told =
          subst (λ (w : World). AreTypeTables w c.in_ok-types.types.items) c.as_slice.ensures
          c.in_ok-types.ensures.told;
      assembled =
          subst (λ (w : World). TellAssemblies w c.in_ok-found.found.entries) c.as_slice-2.ensures
          c.in_ok-found.ensures;
    }
