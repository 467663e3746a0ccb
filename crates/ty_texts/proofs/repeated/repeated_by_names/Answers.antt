use Rattle.std.proofs.Common.{rules, ◌≡◌, ◌∙◌, ◌+◌, ◌<◌, ◌&&◌, ◌||◌, ℕ, true, false, not, List, refl, arith, nat_eq}
use Rattle.std.specs.Str.{bytes_eq}
use Rattle.md_tables.specs.declared.module.Table.{Table}
use Rattle.ty_names.specs.Modules.{World, tables_at}
use Rattle.ty_names.specs.Definitions.{enclosing, type_count}
use Rattle.ty_names.specs.TypeTexts.{own_text}
use Rattle.ty_texts.specs.Repeats.{OwnKey, tells_own}
use Rattle.ty_texts.proofs.Ordered.{finds_here, notes_one_more}
use Rattle.ty_texts.proofs.repeated.repeated_by_names.Goals as goal

pub returns-then-not-branch : goal.returns-then-not-branch
returns-then-not-branch c =
    let world : World = c.args.names.now in
    let number : ℕ = c.args.module in
    let before : ℕ = c.loop-before.before in
    let keys : List OwnKey = c.loop-before.told.keys in
    let tables : List Table = tables_at world number in
    let h : before < type_count tables = omega (arith, c.type_count.ensures) in
    let off : c.in_ok-note_own.field-0 ≡ false = search rules in
    let is : c.in_ok-note_own.field-0
    ≡ not (tells_own keys (enclosing tables (before + 1)) (own_text tables (before + 1))) =
    c.in_ok-note_own.ensures.fresh
    ∙ (λ i. not (tells_own keys (c.in_ok-key.ensures.outer i) (c.in_ok-key.ensures.own i))) in
    finds_here world number c.requires before keys c.in_ok-note_own.field-0 h c.loop-before.invariant is off

pub loop-before-preserved : goal.loop-before-preserved
loop-before-preserved c =
    let world : World = c.args.names.now in
    let number : ℕ = c.args.module in
    let before : ℕ = c.loop-before.before in
    let keys : List OwnKey = c.loop-before.told.keys in
    let tables : List Table = tables_at world number in
    let h : before < type_count tables = omega (arith, c.type_count.ensures) in
    let on : c.in_ok-note_own.field-0 ≡ true = search rules in
    let is : c.in_ok-note_own.field-0
    ≡ not (tells_own keys (enclosing tables (before + 1)) (own_text tables (before + 1))) =
    c.in_ok-note_own.ensures.fresh
    ∙ (λ i. not (tells_own keys (c.in_ok-key.ensures.outer i) (c.in_ok-key.ensures.own i))) in
    notes_one_more world number c.requires before (before + 1) keys c.note_own.new.told.keys
    c.in_ok-note_own.field-0 h refl c.loop-before.invariant is on
    (λ outer own. c.in_ok-note_own.ensures.noted on outer own
    ∙ (λ i. tells_own keys outer own
    || (nat_eq outer (c.in_ok-key.ensures.outer i) && bytes_eq own (c.in_ok-key.ensures.own i))))
