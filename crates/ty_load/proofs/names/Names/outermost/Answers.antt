use Rattle.std.proofs.Common.{rules, ◌≡◌, ◌∙◌, ◌++◌, ◌∷◌, ◌-◌, [], ℕ, suc, List, true, false, ap, sym, arith}
use Rattle.md_tables.specs.declared.module.Table.{Table}
use Rattle.ty_names.specs.declared.cells.RowOf.{RowOf}
use Rattle.ty_names.specs.Modules.{World, tables_at}
use Rattle.ty_names.specs.References.{in_scope, is_nested_scope, reference, reference_scope, reference_within}
use Rattle.ty_load.proofs.Through.{noted_more, steps_in, steps_out}
use Rattle.ty_load.proofs.names.Names.outermost.Goals as goal

pub returns-then-not-is_nested_scope : goal.returns-then-not-is_nested_scope
returns-then-not-is_nested_scope c =
    let world : World = c.args.self.now in
    let number : ℕ = c.args.module in
    let row : ℕ = c.loop-left.next in
    let left : ℕ = c.loop-left.left in
    let scope : RowOf = c.coded_at-scope.result in
    let is : scope ≡ reference_scope (tables_at world number) row =
    c.coded_at-scope.ensures
    ∙ ap (λ (tables : List Table). reference_scope tables row) c.tables-in-loop-left.ensures in
    let off : c.is_nested_scope.result ≡ false = search rules in
    let plain : is_nested_scope scope ≡ false = sym c.is_nested_scope.ensures ∙ off in
    let more : left ≡ suc (left - 1) = omega arith in
    let inner : reference_within left world number row
    ≡ in_scope world (tables_at world number) row c.plain_scope.result =
    steps_in world number row left (left - 1) scope more is plain
    ∙ ap (in_scope world (tables_at world number) row) (sym c.plain_scope.ensures) in
    let pushed : c.push.new.self.items ≡ c.loop-left.rows.items ++ row ∷ [] = search rules in
    noted_more world number row (reference world number c.args.row) (reference_within left world number row)
    c.plain_scope.result c.loop-left.rows.items c.push.new.self.items c.loop-left.invariant inner pushed

pub loop-left-preserved : goal.loop-left-preserved
loop-left-preserved c =
    let world : World = c.args.self.now in
    let number : ℕ = c.args.module in
    let row : ℕ = c.loop-left.next in
    let left : ℕ = c.loop-left.left in
    let scope : RowOf = c.coded_at-scope.result in
    let is : scope ≡ reference_scope (tables_at world number) row =
    c.coded_at-scope.ensures
    ∙ ap (λ (tables : List Table). reference_scope tables row) c.tables-in-loop-left.ensures in
    let on : c.is_nested_scope.result ≡ true = search rules in
    let nested : is_nested_scope scope ≡ true = sym c.is_nested_scope.ensures ∙ on in
    let more : left ≡ suc (left - 1) = omega arith in
    let pushed : c.push.new.self.items ≡ c.loop-left.rows.items ++ row ∷ [] = search rules in
    noted_more world number row (reference world number c.args.row) (reference_within left world number row)
    (reference_within (left - 1) world number scope.row) c.loop-left.rows.items c.push.new.self.items
    c.loop-left.invariant (steps_out world number row left (left - 1) scope more is nested) pushed
