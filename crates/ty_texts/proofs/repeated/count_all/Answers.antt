use Rattle.std.proofs.Common.{◌∙◌, ◌+◌, ◌<◌, ℕ, length, ap, sym, arith}
use Rattle.ty_names.specs.Modules.{World}
use Rattle.ty_texts.proofs.Repeats.{ids_from, more_counted}
use Rattle.ty_texts.proofs.repeated.count_all.Goals as goal

pub loop-module-preserved : goal.loop-module-preserved
loop-module-preserved c =
    let world : World = c.args.names.now in
    let number : ℕ = c.loop-module.module in
    let count : ℕ = c.loop-module.count in
    let there : number < length world = omega arith in
    record {
      within = omega arith;
      bound = omega arith;
      so_far =
          c.loop-module.invariant.so_far ∙ more_counted world number count there
          ∙ ap (λ n. count + n + length (ids_from world (number + 1))) (sym c.type_count.ensures);
    }
