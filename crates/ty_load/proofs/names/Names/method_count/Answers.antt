use Rattle.std.proofs.Common.{◌≡◌, ◌∙◌, ◌<◌, ◌^◌, ℕ, List, ap, arith}
use Rattle.md_tables.specs.declared.module.Table.{Table}
use Rattle.ty_names.specs.Modules.{World, row_count, tables_at}
use Rattle.ty_load.proofs.Counts.{few}
use Rattle.ty_load.proofs.Through.{numbered}
use Rattle.ty_load.proofs.names.Names.method_count.Goals as goal

pub overflow_cast-result : goal.overflow_cast-result
overflow_cast-result c =
    let world : World = c.self.inside.modules in
    let number : ℕ = c.args.module in
    let small : row_count (tables_at world number) 0x06 < 2 ^ 32 =
    (few (tables_at world number) ((numbered world c.self.invariant.numbered).rows number)).methods in
    let same : c.row_count.result ≡ row_count (tables_at world number) 0x06 =
    c.row_count.ensures
    ∙ ap (λ (t : List Table). row_count t 0x06)
    (c.tables_at.ensures ∙ ap (λ (w : World). tables_at w number) c.as_slice.ensures) in
    omega (arith, small, same)
