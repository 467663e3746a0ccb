use Rattle.std.proofs.Common.{rules, ◌≡◌, ◌∷◌, ◌++◌, [], ◌<◌, List, length, arith, sym, subst}
use Rattle.ty_terms.specs.declared.ty.Ty.{Ty}
use Rattle.md_sigs.proofs.Runs.{IsTaking, takes_one}
use Rattle.md_sigs.proofs.types.take_front.Goals as goal

pub loop-types-preserved : goal.loop-types-preserved
loop-types-preserved c =
    let front : List Ty = c.loop-types.front in
    let ty : Ty = c.in-Some.ty in
    let rest : List Ty = c.pop_front.new.self.items in
    let whole : List Ty = c.args.types.now.items in
    let popped : c.loop-types.types.items ≡ ty ∷ rest = c.in-Some.ensures.items in
    let grown : c.push.new.self ≡ front ++ ty ∷ [] = search rules in
    let more : length front < c.args.count = omega (arith, c.len.ensures, c.loop-types-test.true) in
    let so_far : IsTaking c.args.count whole front (ty ∷ rest) =
    subst (IsTaking c.args.count whole front) popped c.loop-types.invariant in
    subst (λ (f : List Ty). IsTaking c.args.count whole f rest) (sym grown)
    (takes_one c.args.count whole front rest ty more so_far)
