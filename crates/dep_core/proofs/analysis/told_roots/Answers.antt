use Rattle.std.proofs.Common.{[], None, refl, subst}
use Rattle.std.proofs.lemmas.List.Elements.{All-nil}
use Rattle.dep_core.specs.declared.mark.Mark.{Mark}
use Rattle.dep_core.specs.Kept.{row_by}
use Rattle.dep_core.specs.UnderWay.{AreTold, IsNamed, Tells, mark_of}
use Rattle.dep_core.proofs.ToldMarks.{tells}
use Rattle.dep_core.proofs.analysis.told_roots.Goals as goal

pub returns : goal.returns
returns g c =
    let rules = c.args.rules.now in
    let names : Mark g.row.R-Node.Denot → Type 0 = IsNamed (g.R.Rules.is_root rules)
    (row_by (g.R.Rules.gives rules) (g.R.Rules.awaits rules) (g.R.Rules.meets_in rules)) [] in
    let told : Tells names (g.R.Rules.is_root rules) [] c.tell_roots.new.told.items
    = tells (λ (n : g.row.R-Node.Denot). mark_of n 0 None None) c.in_ok-roots.roots names (g.R.Rules.is_root rules) []
    c.tell_roots.new.told.items
    (subst (λ l. AreTold (λ (n : g.row.R-Node.Denot). mark_of n 0 None None) c.in_ok-roots.roots l
    c.tell_roots.new.told.items) c.new-told.ensures.items c.in_ok-tell_roots.ensures)
    (λ n h. ((c.in_ok-roots.ensures n).0 h, refl)) (λ n r. (n, (c.in_ok-roots.ensures n).1 r, refl)) in
    record { named = told.named (All-nil names); roots = told.due }
