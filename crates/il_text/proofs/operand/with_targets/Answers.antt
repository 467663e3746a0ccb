use Rattle.std.proofs.Common.{◌≡◌, ◌∙◌, ◌+◌, ◌-◌, ◌++◌, ℕ, ap, sym, rules}
use Rattle.il_text.specs.Lines.{LineParts, parts_of}
use Rattle.il_text.specs.Reading.{in_front, distances_from}
use Rattle.il_text.proofs.Fronts.{target_on, target_bad}
use Rattle.il_text.proofs.operand.with_targets.Goals as goal

pub returns-in-Err : goal.returns-in-Err
returns-in-Err c =
    let line : LineParts = parts_of c.args.line.now in
    target_bad line c.args.next c.args.count c.loop-index.index c.loop-index.bytes c.in-Err.fault
    (in_front c.args.front (distances_from line c.args.next c.args.count 2)) c.loop-index-test.true c.in-Err.ensures
    c.loop-index.invariant

pub loop-index-preserved : goal.loop-index-preserved
loop-index-preserved c =
    let line : LineParts = parts_of c.args.line.now in
    let next : ℕ = c.args.next in
    let count : ℕ = c.args.count in
    let index : ℕ = c.loop-index.index in
    let grown : c.extend_from_slice.new.self ≡ c.loop-index.bytes ++ c.in-Ok.target = search rules in
    target_on line next count index c.loop-index.bytes c.in-Ok.target
    (in_front c.args.front (distances_from line next count 2)) c.loop-index-test.true c.in-Ok.ensures
    c.loop-index.invariant
    ∙ ap (λ bytes. in_front bytes (distances_from line next (count - (index + 1)) (index + 1 + 2))) (sym grown)
