use Rattle.std.proofs.Common.{◌≡◌, ◌∙◌, ◌<◌, ◌^◌, ℕ, ap, arith}
use Rattle.ty_names.specs.Definitions.{type_count}
use Rattle.ty_names.specs.Modules.{World, tables_at}
use Rattle.ty_load.proofs.Counts.{sized}
use Rattle.ty_load.proofs.Through.{numbered}
use Rattle.ty_load.proofs.names.Names.type_count.Goals as goal

pub overflow_cast-result : goal.overflow_cast-result
overflow_cast-result c =
    let world : World = c.self.inside.modules in
    let number : ℕ = c.args.module in
    let few : type_count (tables_at world number) < 2 ^ 32 =
    (sized (tables_at world number) ((numbered world c.self.invariant.numbered).rows number)).0 in
    let same : c.row_count.result ≡ type_count (tables_at world number) =
    c.row_count.ensures
    ∙ ap type_count (c.tables_at.ensures ∙ ap (λ (w : World). tables_at w number) c.as_slice.ensures) in
    omega (arith, few, same)
