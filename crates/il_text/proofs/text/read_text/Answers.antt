use Rattle.std.proofs.Common.{◌≡◌, ◌∙◌, ◌+◌, [], ℕ, List, Result, Ok, ◌-◌, length, take, ap, sym, subst, arith}
use Rattle.std.proofs.Common.{length-drop}
use Rattle.il_text.specs.declared.draft.Draft.{Draft}
use Rattle.il_text.specs.declared.fault.IlTextFault.{IlTextFault}
use Rattle.il_text.specs.Reading.{LinesRead, Refuses, Reads, nothing_read, read_from, read_text, if_whole, ◌>>=◌}
use Rattle.il_text.specs.Reading.{with_line, line_of}
use Rattle.il_text.proofs.Ending.{line_on, line_bad, no_line}
use Rattle.il_text.proofs.text.read_text.Goals as goal

pub returns-in-Err : goal.returns-in-Err
unfolding read_text
returns-in-Err c =
    let front : List ℕ = take c.in-Some.end c.loop-end.rest.now in
    let bad : Refuses (with_line c.loop-end.draft (line_of c.loop-end.number front)) c.in-Err.fault =
    subst (λ l. Refuses (with_line c.loop-end.draft (line_of c.loop-end.number l)) c.in-Err.fault)
    c.parted.ensures.front c.in-Err.ensures in
    line_bad c.loop-end.draft c.loop-end.number c.in-Some.end c.loop-end.rest.now c.in-Err.fault
    (read_from nothing_read 1 [] c.args.text.now) c.in-Some.ensures.at bad c.loop-end.invariant.0

pub loop-end-preserved : goal.loop-end-preserved
loop-end-preserved c =
    let draft : Draft = c.loop-end.draft in
    let number : ℕ = c.loop-end.number in
    let rest : List ℕ = c.loop-end.rest.now in
    let end : ℕ = c.in-Some.end in
    let read : with_line draft (line_of number (take end rest)) ≡ Ok c.in-Ok.next =
    subst (λ l. with_line draft (line_of number l) ≡ Ok c.in-Ok.next) c.parted.ensures.front c.in-Ok.ensures in
    let size : length c.parted.result.1.now ≡ length rest - (end + 1) =
    ap length c.parted.ensures.back ∙ length-drop (end + 1) rest in (
      line_on draft c.in-Ok.next number end rest (read_from nothing_read 1 [] c.args.text.now) c.in-Some.ensures.at read
          c.loop-end.invariant.0
          ∙ ap (read_from c.in-Ok.next (number + 1) []) (sym c.parted.ensures.back),
      omega (arith, c.loop-end.invariant.1, c.in-Some.ensures.inside, size),
    )

pub returns : goal.returns
unfolding read_text
returns c =
    let all : Result LinesRead IlTextFault = read_from nothing_read 1 [] c.args.text.now in
    subst (λ (r : Result LinesRead IlTextFault). Reads c.at_end.result (r >>= if_whole))
    (sym (no_line c.loop-end.draft c.loop-end.number c.loop-end.rest.now all c.in_default.ensures.at
    c.loop-end.invariant.0))
    c.at_end.ensures
