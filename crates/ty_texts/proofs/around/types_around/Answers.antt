use Rattle.std.proofs.Common.{rules, ◌≡◌, ◌∙◌, ◌-◌, ◌++◌, ◌∷◌, [], ℕ, true, false, cond, List, ap, sym, arith}
use Rattle.std.proofs.Common.{nat_eq, ne_eqb}
use Rattle.std.specs.List.{list_any}
use Rattle.md_tables.specs.declared.module.Table.{Table}
use Rattle.ty_names.specs.Modules.{tables_at}
use Rattle.ty_texts.proofs.Repeats.{not_false, not_true}
use Rattle.ty_texts.proofs.Walked.{back_again, steps_on}
use Rattle.ty_texts.proofs.around.types_around.Goals as goal

pub returns-then-not-is_new : goal.returns-then-not-is_new
returns-then-not-is_new c =
    let tables : List Table = tables_at c.args.names.now c.args.id.module in
    let rows : List ℕ = c.loop-left.around.keys in
    let row : ℕ = c.loop-left.row in
    let off : c.in_ok-is_new.is_new ≡ false = search rules in
    let there : list_any (nat_eq row) rows ≡ true =
    not_false (list_any (nat_eq row) rows) (sym c.in_ok-is_new.ensures.added ∙ off) in
    c.in_ok-is_new.ensures.keys
    ∙ ap (λ b. cond b rows (rows ++ row ∷ [])) there
    ∙ back_again tables c.args.id.row c.loop-left.left row rows there c.loop-left.invariant

pub loop-left-preserved : goal.loop-left-preserved
loop-left-preserved c =
    let tables : List Table = tables_at c.args.names.now c.args.id.module in
    let rows : List ℕ = c.loop-left.around.keys in
    let row : ℕ = c.loop-left.row in
    let left : ℕ = c.loop-left.left in
    let on : c.in_ok-is_new.is_new ≡ true = search rules in
    let new : list_any (nat_eq row) rows ≡ false =
    not_true (list_any (nat_eq row) rows) (sym c.in_ok-is_new.ensures.added ∙ on) in
    steps_on tables c.args.id.row left (left - 1) row c.enclosing-row.result rows c.insert_full.new.self.keys
    (omega arith) (ne_eqb row 0 (λ e. omega (arith, e))) new
    (c.in_ok-is_new.ensures.keys ∙ ap (λ b. cond b rows (rows ++ row ∷ [])) new)
    c.enclosing-row.ensures c.loop-left.invariant
