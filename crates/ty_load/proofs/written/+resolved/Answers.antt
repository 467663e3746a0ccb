use Rattle.std.proofs.Common.{rules, ◌≡◌, ◌∙◌, ◌+◌, ◌<◌, ◌++◌, ◌∷◌, [], ℕ, List, map, length, Option, Some, sym, ap}
use Rattle.std.proofs.Common.{arith, add-one}
use Rattle.ty_terms.specs.declared.ty.Ty.{Ty}
use Rattle.ty_load.specs.Types.{all_types, no_void, resolved}
use Rattle.ty_load.proofs.Spelling.{one_more}
use Rattle.ty_load.proofs.written.+resolved.Goals as goal

pub all_resolved-loop-ty-preserved : goal.all_resolved-loop-ty-preserved
all_resolved-loop-ty-preserved t c =
    let f : Ty → Option Ty = resolved c.args.names.now c.args.module in
    let types : List Ty = c.args.types.now in
    let at : ℕ = c.loop-ty.ty-index in
    let within : at < length types = omega arith in
    let found : no_void (f c.ty-item.result) ≡ Some c.in-Some.ty =
    sym (c.in-Some.ensures ∙ ap no_void c.in_ok-found.ensures) in
    let pushed : c.push.new.self ≡ c.loop-ty.done ++ c.in-Some.ty ∷ [] = search rules in
    one_more f (all_types (map f types)) types c.loop-ty.done at c.ty-item.result within c.ty-item.is
    c.loop-ty.invariant c.in-Some.ty c.push.new.self (at + 1) found pushed (add-one at)
