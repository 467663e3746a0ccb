use Rattle.std.proofs.Common.{◌∙◌, ap, ℕ, List}
use Rattle.il_text.specs.Mnemonics.{mnemonics, loads, branches, arithmetic, objects, elements, prefixed}
use Rattle.il_text.specs.Reading.{row_named_in}
use Rattle.il_text.proofs.Rows.{all_rows}
use Rattle.il_text.proofs.Named.{named_first, named_in_both}
use Rattle.il_text.proofs.mnemonic.row_of_name.Goals as goal

pub returns : goal.returns
unfolding mnemonics
returns c =
    let w : List ℕ = c.args.word.now in
    let load = named_first _ loads w _ c.find_named-load.ensures c.loads.ensures in
    let branch = named_in_both loads _ branches w _ _ load c.or_find_named-branch.ensures c.branches.ensures in
    let calculation = named_in_both _ _ arithmetic w _ _ branch c.or_find_named-calculation.ensures
    c.arithmetic.ensures in
    let object = named_in_both _ _ objects w _ _ calculation c.or_find_named-object.ensures c.objects.ensures in
    let element = named_in_both _ _ elements w _ _ object c.or_find_named-element.ensures c.elements.ensures in
    named_in_both _ _ prefixed w _ _ element c.or_find_named.ensures c.prefixed.ensures
    ∙ ap (λ rows. row_named_in rows w) all_rows
