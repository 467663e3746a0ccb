use Rattle.std.proofs.Common.{◌∙◌, ap, ℕ}
use Rattle.il_text.specs.Mnemonics.{mnemonics, row_numbered, row_numbered_in}
use Rattle.il_text.specs.Mnemonics.{loads, branches, arithmetic, objects, elements, prefixed}
use Rattle.il_text.proofs.Rows.{found_in_both, found_first, all_rows}
use Rattle.il_text.proofs.mnemonic.row_of_opcode.Goals as goal

pub returns : goal.returns
unfolding row_numbered mnemonics
returns c =
    let n : ℕ = c.args.number in
    let load = found_first _ loads n _ c.find-load.ensures c.loads.ensures in
    let branch = found_in_both loads _ branches n _ _ load c.or_find-branch.ensures c.branches.ensures in
    let calculation = found_in_both _ _ arithmetic n _ _ branch c.or_find-calculation.ensures c.arithmetic.ensures in
    let object = found_in_both _ _ objects n _ _ calculation c.or_find-object.ensures c.objects.ensures in
    let element = found_in_both _ _ elements n _ _ object c.or_find-element.ensures c.elements.ensures in
    found_in_both _ _ prefixed n _ _ element c.or_find.ensures c.prefixed.ensures
    ∙ ap (λ rows. row_numbered_in rows n) all_rows
