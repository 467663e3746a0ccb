use Rattle.std.proofs.Common.{rules, ◌≡◌, ◌∙◌, ◌+◌, ◌<◌, ℕ, true, false, length, find, is_some, ap, sym, arith}
use Rattle.ty_names.specs.Modules.{World}
use Rattle.ty_load.specs.Cycles.{ids_of}
use Rattle.ty_load.specs.Valid.{has_earlier_text}
use Rattle.ty_texts.proofs.Repeats.{found_here, ids_from, next_module, not_found_here}
use Rattle.ty_texts.proofs.repeated.repeated_type.Goals as goal

pub returns-then-is_some : goal.returns-then-is_some
returns-then-is_some c =
    let world : World = c.args.names.now in
    let number : ℕ = c.loop-module.module in
    let there : number < length world = omega arith in
    let some : is_some c.in_ok-found.found ≡ true = search rules in
    found_here (has_earlier_text world) (ids_of world number) (ids_from world (number + 1)) c.in_ok-found.found
    c.in_ok-found.ensures some
    ∙ sym (c.loop-module.invariant.so_far ∙ ap (find (has_earlier_text world)) (next_module world number there))

pub loop-module-preserved : goal.loop-module-preserved
loop-module-preserved c =
    let world : World = c.args.names.now in
    let number : ℕ = c.loop-module.module in
    let there : number < length world = omega arith in
    let none : is_some c.in_ok-found.found ≡ false = search rules in
    record {
      within = omega arith;
      so_far =
          c.loop-module.invariant.so_far ∙ ap (find (has_earlier_text world)) (next_module world number there)
          ∙ not_found_here (has_earlier_text world) (ids_of world number) (ids_from world (number + 1))
          c.in_ok-found.found c.in_ok-found.ensures none;
    }
