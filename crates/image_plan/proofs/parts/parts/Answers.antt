use Rattle.std.proofs.Common.{◌≡◌, ◌∙◌, ◌-◌, ◌≤◌, [], ℕ, List, arith, map, ap, sym}
use Rattle.image_plan.specs.Places.{code_at, code_size, end_of, table_size, text_end}
use Rattle.image_plan.specs.Planned.{code_parts, pad, part, table_parts}
use Rattle.ty_terms.specs.declared.nodes.PartKind.TheVariants.{Header, Runtime}
use Rattle.image_plan.proofs.Ending.{begin_below, lower}
use Rattle.image_plan.proofs.PartsOf.{added, parts_are}
use Rattle.image_plan.specs.declared.pieces.Pieces.{Pieces}
use Rattle.image_plan.proofs.parts.parts.Goals as goal

pub add_bodies-requires : goal.add_bodies-requires
add_bodies-requires c = record {
  below =
      let sizes : List ℕ = map code_size c.args.pieces.now.code in
      let less : end_of (c.args.ends.code_at - 65536) sizes ≤ end_of c.args.ends.code_at sizes =
      lower c.args.ends.code_at 65536 sizes in
      let end : end_of c.args.ends.code_at sizes ≡ c.args.ends.text =
      ap (λ at. end_of at sizes) c.requires.code_at ∙ sym c.requires.text in
      omega (
        arith,
        less,
        end,
        c.requires.text_below,
        ap (λ pieces. end_of (c.args.ends.code_at - 65536) (map code_size pieces)) c.as_slice.ensures,
      );
}

pub overflow_sub-text_size : goal.overflow_sub-text_size
overflow_sub-text_size c =
    let above : code_at ≤ text_end c.args.pieces.now = begin_below code_at (map code_size c.args.pieces.now.code) in
    let far : 65536 ≤ code_at = omega arith in
    omega (arith, above, far, c.requires.text)

pub add_tables-requires : goal.add_tables-requires
add_tables-requires c = record {
  below =
      let sizes : List ℕ = map table_size c.args.pieces.now.tables in
      let less : end_of (c.args.ends.tables_at - 65536) sizes ≤ end_of c.args.ends.tables_at sizes =
      lower c.args.ends.tables_at 65536 sizes in
      let end : end_of c.args.ends.tables_at sizes ≡ c.args.ends.tables =
      ap (λ at. end_of at sizes) c.requires.tables_at ∙ sym c.requires.tables in
      omega (
        arith,
        less,
        end,
        c.requires.below,
        ap (λ tables. end_of (c.args.ends.tables_at - 65536) (map table_size tables)) c.as_slice-2.ensures,
      );
}

pub returns : goal.returns
returns c =
    let pieces : Pieces = c.args.pieces.now in
    let code : ℕ = c.args.ends.code_at - 65536 in
    let text : ℕ = c.args.ends.text - 65536 in
    let second : ℕ = c.args.ends.tables_at - 65536 in
    rw (
      c.in_ok-add_tables.ensures,
      c.as_slice-2.ensures,
      c.in_ok-add_pad.ensures,
      c.in_ok-add_bodies.ensures,
      c.as_slice.ensures,
      c.in_ok-add-2.ensures,
      c.in_ok-add.ensures,
      c.new-parts.ensures,
    ) (
    added (part Header [] 0 176) (part Runtime [] 176 (code - 176)) (code_parts code pieces.code)
    (pad text (second - text)) (table_parts second pieces.tables)
    ∙ parts_are pieces c.args.ends.code_at c.args.ends.text c.args.ends.tables_at c.requires.code_at c.requires.text
    c.requires.tables_at
    )
