use Rattle.std.proofs.Common.{◌≡◌, ◌∙◌, ◌-◌, ℕ, suc, true, false, None, Some, sym, arith, nat_eq, eq-eqb, ne_eqb}
use Rattle.ty_names.specs.Modules.{World, core_of}
use Rattle.ty_load.specs.Bases.{is_closed_root}
use Rattle.ty_walks.proofs.Walking.{at_root, goes_up, not_of_core}
use Rattle.ty_walks.proofs.bases.is_closed.Goals as goal

pub returns-then-at-core : goal.returns-then-at-core
returns-then-at-core c =
    let world : World = c.args.names.now in
    let left : ℕ = c.loop-left.left in
    let more : left ≡ suc (left - 1) = omega arith in
    let outside : nat_eq c.loop-left.at.module (core_of world) ≡ false =
    ne_eqb c.loop-left.at.module (core_of world) (λ e. c.if-at-core.true (e ∙ sym c.core-in-loop-left.ensures)) in
    sym (not_of_core world c.loop-left.at left (left - 1) more outside) ∙ c.loop-left.invariant

pub returns-then-branch : goal.returns-then-branch
returns-then-branch c =
    let world : World = c.args.names.now in
    let left : ℕ = c.loop-left.left in
    let more : left ≡ suc (left - 1) = omega arith in
    let inside : nat_eq c.loop-left.at.module (core_of world) ≡ true =
    eq-eqb c.loop-left.at.module (core_of world) (c.if-at-core.false ∙ c.core-in-loop-left.ensures) in
    let root : is_closed_root world c.loop-left.at ≡ true = sym c.in_ok-is_closed_root.ensures ∙ c.if-branch.true in
    sym (at_root world c.loop-left.at left (left - 1) more inside root) ∙ c.loop-left.invariant

pub returns-in-None : goal.returns-in-None
returns-in-None c =
    let world : World = c.args.names.now in
    let left : ℕ = c.loop-left.left in
    let more : left ≡ suc (left - 1) = omega arith in
    let inside : nat_eq c.loop-left.at.module (core_of world) ≡ true =
    eq-eqb c.loop-left.at.module (core_of world) (c.if-at-core.false ∙ c.core-in-loop-left.ensures) in
    let root : is_closed_root world c.loop-left.at ≡ false = sym c.in_ok-is_closed_root.ensures ∙ c.if-branch.false in
    sym (goes_up world c.loop-left.at left (left - 1) more None inside root
    (sym c.in_ok-base.ensures ∙ c.in-None.is))
    ∙ c.loop-left.invariant

pub loop-left-preserved : goal.loop-left-preserved
loop-left-preserved c =
    let world : World = c.args.names.now in
    let left : ℕ = c.loop-left.left in
    let more : left ≡ suc (left - 1) = omega arith in
    let inside : nat_eq c.loop-left.at.module (core_of world) ≡ true =
    eq-eqb c.loop-left.at.module (core_of world) (c.if-at-core.false ∙ c.core-in-loop-left.ensures) in
    let root : is_closed_root world c.loop-left.at ≡ false = sym c.in_ok-is_closed_root.ensures ∙ c.if-branch.false in
    sym (goes_up world c.loop-left.at left (left - 1) more (Some c.in-Some.base) inside root
    (sym c.in_ok-base.ensures ∙ c.in-Some.is))
    ∙ c.loop-left.invariant
