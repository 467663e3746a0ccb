use Rattle.std.proofs.Common.{◌≡◌, ◌∙◌, ◌+◌, ◌-◌, ◌++◌, ◌≤◌, ℕ, List, max, ap, ap₂, sym, arith, rules}
use Rattle.std.specs.List.{range_with_len}
use Rattle.cli_layout.specs.declared.rows.FieldRow.{FieldRow}
use Rattle.world_layouts.specs.Rows.{placed_among, placed_if}
use Rattle.world_layouts.proofs.Placing.{among_more}
use Rattle.world_layouts.proofs.fields.fields.Goals as goal

-- where a run of rows ends that were gone through
ends : (begin end row : ℕ) → begin ≤ row → row ≤ max begin end → end ≤ row → row - begin ≡ end - begin
ends begin end row low reach stop = omega arith

pub loop-row-preserved : goal.loop-row-preserved
loop-row-preserved c =
    let begin : ℕ = c.field_run-begin.result.0 in
    let row : ℕ = c.loop-row.row in
    let reached : begin + (row - begin) ≡ row = search (rules, arith) in
    let next : row - begin + 1 ≡ row + 1 - begin = search (rules, arith) in
    let high : c.loop-row.row + 1 ≤ max c.field_run-begin.result.0 c.field_run-begin.result.1 = search (rules, arith) in
    record {
      among =
          c.in_ok-add_field.ensures
          ∙ ap (λ (l : List FieldRow). l ++ placed_if c.args.members.now c.args.id c.args.stands row)
          c.loop-row.invariant.among
          ∙ sym (among_more c.args.members.now c.args.id c.args.stands begin (row - begin) row reached)
          ∙ ap (λ n. placed_among c.args.members.now c.args.id c.args.stands (range_with_len begin n)) next;
      reach = high;
    }

pub returns : goal.returns
returns c =
    let begin : ℕ = c.field_run-begin.result.0 in
    let end : ℕ = c.field_run-begin.result.1 in
    let row : ℕ = c.loop-row.row in
    let low : begin ≤ row = search (rules, arith) in
    let stop : end ≤ row = search (rules, arith) in
    let all : row - begin ≡ end - begin = ends begin end row low c.loop-row.invariant.reach stop in
    record {
      rows =
          c.loop-row.invariant.among
          ∙ ap (λ n. placed_among c.args.members.now c.args.id c.args.stands (range_with_len begin n)) all
          ∙ ap₂ (λ b e. placed_among c.args.members.now c.args.id c.args.stands (range_with_len b (e - b)))
          c.field_run-begin.ensures.begin c.field_run-begin.ensures.end;
    }
