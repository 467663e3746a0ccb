use Rattle.std.proofs.Common.{◌≡◌, ◌∙◌, false, ℕ, sym, arith}
use Rattle.ty_names.specs.Modules.{World, core_of}
use Rattle.ty_load.specs.Valid.{has_earlier_name, name_at}
use Rattle.ty_world.proofs.Twice.{first_behind}
use Rattle.ty_world.proofs.repeated.repeated_name.Goals as goal

pub loop-number-preserved : goal.loop-number-preserved
loop-number-preserved c =
    let world : World = c.args.names.now in
    let number : ℕ = c.loop-number.number in
    let fails : has_earlier_name world number (name_at world number) ≡ false =
    sym c.has_earlier.ensures ∙ c.if-has_earlier.false in
    c.loop-number.invariant
    ∙ first_behind (λ n. has_earlier_name world n (name_at world n)) number (core_of world)
    (omega (arith, c.loop-number-test.true, c.core-number-end.ensures)) fails
