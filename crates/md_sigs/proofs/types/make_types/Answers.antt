use Rattle.std.proofs.Common.{◌≡◌, ◌∙◌, ◌∷◌, ◌++◌, [], List, ap, sym}
use Rattle.md_sigs.specs.Grammar.{all_in_front, in_front}
use Rattle.md_sigs.specs.declared.element.Element.{Element}
use Rattle.md_sigs.proofs.Runs.{from_the_last}
use Rattle.md_sigs.proofs.types.make_types.Goals as goal

pub loop-element-preserved : goal.loop-element-preserved
loop-element-preserved c =
    let popped : c.loop-element.elements.items ≡ c.pop.new.self.items ++ c.in-Some.element ∷ [] =
    c.in-Some.ensures.items in
    let made : c.put_element.new.types.items ≡ in_front c.in-Some.element c.loop-element.types.items =
    c.in_ok-put_element.ensures in
    ap (all_in_front c.pop.new.self.items) made
    ∙ sym (from_the_last c.pop.new.self.items c.in-Some.element c.loop-element.types.items)
    ∙ ap (λ (l : List Element). all_in_front l c.loop-element.types.items) (sym popped) ∙ c.loop-element.invariant
