use Rattle.std.proofs.Common.{rules, ◌≡◌, ◌∙◌, ◌++◌, ◌∷◌, ◌-◌, [], ℕ, suc, List, true, false, ap, sym, subst}
use Rattle.std.proofs.Common.{arith, nat_eq}
use Rattle.std.specs.List.{list_any}
use Rattle.md_tables.specs.declared.module.Table.{Table}
use Rattle.ty_names.specs.declared.cells.RowOf.{RowOf}
use Rattle.ty_names.specs.Modules.{row_count}
use Rattle.ty_load.specs.Refusals.{around, is_nested_reference}
use Rattle.ty_refused.proofs.Around.{Makes, added_key, goes_out}
use Rattle.ty_refused.proofs.references.rows_around.Goals as goal

pub loop-left-preserved : goal.loop-left-preserved
loop-left-preserved c =
    let tables : List Table = c.args.tables.now in
    let whole : List ℕ = around (row_count tables 0x01) tables [] c.args.row in
    let keys : List ℕ = c.loop-left.rows.keys in
    let next : ℕ = c.loop-left.next in
    let left : ℕ = c.loop-left.left in
    let more : left ≡ suc (left - 1) = omega arith in
    let off : c.contains.result ≡ false = search rules in
    let fresh : list_any (nat_eq next) keys ≡ false = sym c.contains.ensures ∙ off in
    let added : c.insert.new.self.keys ≡ keys ++ next ∷ [] =
    c.in_ok-insert.ensures.keys ∙ added_key keys next fresh in
    let on : c.is_nested_reference.result ≡ true = search rules in
    let nested : is_nested_reference tables next ≡ true = sym c.is_nested_reference.ensures ∙ on in
    subst (Makes tables whole c.insert.new.self.keys (left - 1))
    (sym (ap (λ (scope : RowOf). scope.row) c.coded_at-next.ensures))
    (goes_out tables whole keys left next c.loop-left.invariant (left - 1) more c.insert.new.self.keys fresh added
    nested)
