use Rattle.std.proofs.Common.{rules, ◌≡◌, ◌+◌, ◌<◌, ℕ, true, false, refl, arith}
use Rattle.ty_names.specs.Modules.{World, tables_at}
use Rattle.ty_names.specs.Definitions.{type_count}
use Rattle.ty_texts.proofs.Repeats.{is_found, looks_at_one_more}
use Rattle.ty_texts.proofs.repeated.repeated_by_texts.Goals as goal

pub returns-then-not-branch : goal.returns-then-not-branch
returns-then-not-branch c =
    let world : World = c.args.names.now in
    let number : ℕ = c.args.module in
    let before : ℕ = c.loop-before.before in
    let h : before < type_count (tables_at world number) = omega (arith, c.type_count.ensures) in
    let off : c.in_ok-note_definition.field-0 ≡ false = search rules in
    is_found world number before c.loop-before.told.keys c.in_ok-note_definition.field-0 h c.loop-before.invariant
    c.in_ok-note_definition.ensures.fresh off

pub loop-before-preserved : goal.loop-before-preserved
loop-before-preserved c =
    let world : World = c.args.names.now in
    let number : ℕ = c.args.module in
    let before : ℕ = c.loop-before.before in
    let h : before < type_count (tables_at world number) = omega (arith, c.type_count.ensures) in
    let on : c.in_ok-note_definition.field-0 ≡ true = search rules in
    looks_at_one_more world number before (before + 1) c.loop-before.told.keys c.note_definition.new.told.keys
    c.in_ok-note_definition.field-0 h refl c.loop-before.invariant c.in_ok-note_definition.ensures.fresh on
    (c.in_ok-note_definition.ensures.noted on)
