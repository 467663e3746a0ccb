use Rattle.std.proofs.Common.{◌≡◌, ◌++◌, ℕ, List, Some, OnOk, subst, sym, rules}
use Rattle.il_code.specs.Instructions.{opcode_number}
use Rattle.il_text.specs.Words.{line_text}
use Rattle.il_text.specs.Mnemonics.{row_of}
use Rattle.il_text.proofs.Growing.{named, without_row, without_number}
use Rattle.il_text.proofs.instruction.push_instruction.Goals as goal

pub returns-in-Some-row_of_opcode : goal.returns-in-Some-row_of_opcode
returns-in-Some-row_of_opcode c =
    let number : opcode_number c.args.bytes.now ≡ Some (c.in-Some.number, c.in-Some.size) = search rules in
    let words = named c.args.at c.args.bytes.now c.in-Some.number c.in-Some.size
    (row_of c.in-Some-row_of_opcode.row.now) number (sym c.in-Some-row_of_opcode.ensures) in
    subst (λ (words : List (List ℕ)). OnOk c.push_named.result
    (c.push_named.new.out ≡ c.args.out.now ++ line_text words))
    words c.push_named.ensures

pub returns-in-None-row_of_opcode : goal.returns-in-None-row_of_opcode
returns-in-None-row_of_opcode c =
    let number : opcode_number c.args.bytes.now ≡ Some (c.in-Some.number, c.in-Some.size) = search rules in
    subst (λ (words : List (List ℕ)). OnOk c.push_unnamed.result
    (c.push_unnamed.new.out ≡ c.args.out.now ++ line_text words))
    (without_row c.args.at c.args.bytes.now c.in-Some.number c.in-Some.size number
    (sym c.in-None-row_of_opcode.ensures)) c.push_unnamed.ensures

pub returns-in-None : goal.returns-in-None
returns-in-None c =
    subst (λ (words : List (List ℕ)). OnOk c.push_unnamed-in-None.result
    (c.push_unnamed-in-None.new.out ≡ c.args.out.now ++ line_text words))
    (without_number c.args.at c.args.bytes.now (sym c.in-None.ensures.number)) c.push_unnamed-in-None.ensures
