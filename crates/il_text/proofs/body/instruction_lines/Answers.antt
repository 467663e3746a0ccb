use Rattle.std.proofs.Common.{rules, ◌≡◌, ◌∙◌, ◌-◌, ◌++◌, ℕ, suc, List, ap, sym, arith}
use Rattle.il_code.specs.Listing.{listed, listed_from}
use Rattle.il_code.specs.declared.body.Instr.{Instr}
use Rattle.il_text.specs.Words.{line_text}
use Rattle.il_text.specs.Instructions.{instruction_words}
use Rattle.il_text.specs.Listing.{instruction_line, instructions_text}
use Rattle.il_text.proofs.Coming.{text_in_front, goes_on, at_end}
use Rattle.il_text.proofs.body.instruction_lines.Goals as goal

pub returns-then-at-code : goal.returns-then-at-code
returns-then-at-code c =
    let code : List ℕ = c.args.code.now in
    sym (at_end code c.loop-left.left c.loop-left.at c.loop-left.lines (instructions_text code (listed code))
    c.if-at-code.true c.loop-left.invariant)

pub loop-left-preserved : goal.loop-left-preserved
loop-left-preserved c =
    let code : List ℕ = c.args.code.now in
    let lines : List ℕ = c.loop-left.lines in
    let at : ℕ = c.loop-left.at in
    let left : ℕ = c.loop-left.left - 1 in
    let i : Instr = c.in-Ok-Some.instr in
    let one_more : c.loop-left.left ≡ suc left = omega (arith, c.loop-left-test.true) in
    let grown : c.push_instruction.new.out ≡ lines ++ line_text (instruction_words i.at c.between-bytes.result.now) =
    search rules in
    let line : c.push_instruction.new.out ≡ lines ++ line_text (instruction_line code i) =
    grown ∙ ap (λ bytes. lines ++ line_text (instruction_words i.at bytes)) c.between-bytes.ensures.value in
    goes_on code left at lines c.in-Ok-Some.field-0 i (instructions_text code (listed code)) c.if-at-code.false
    c.in-Ok-Some.ensures c.in-Ok-Some.field-0-is
    (c.loop-left.invariant ∙ ap (λ n. text_in_front lines (instructions_text code (listed_from n code at))) one_more)
    ∙ ap (λ done. text_in_front done (instructions_text code (listed_from left code i.next))) (sym line)
