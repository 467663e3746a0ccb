use Rattle.std.proofs.Common.{◌≡◌, ℕ, List, ◌+◌, ◌*◌, ◌/◌, ◌≤◌, ◌++◌, length, map, arith}
use Rattle.std.specs.List.{range_with_len}
use Rattle.il_code.specs.Clauses.{fat_row, small_row}
use Rattle.il_code.specs.Headers.{section_end, section_size}
use Rattle.il_code.specs.declared.clause.Row.{Row}
use Rattle.il_code.proofs.Sections.{few_rows, on-ok}
use Rattle.il_code.proofs.clause.add_rows.Goals as goal

pub returns-then-is_fat_section-clause-few : goal.returns-then-is_fat_section-clause-few
returns-then-is_fat_section-clause-few c =
    let bytes : List ℕ = c.args.bytes.now in
    let at : ℕ = c.args.at in
    let n : ℕ = c.section_size-size.result / 24 in
    let f : ℕ → Row = λ k. fat_row bytes (at + 4 + 24 * k) in
    let few : n ≤ section_size bytes at = omega (arith, c.section_size-size.ensures) in
    on-ok c.add_fat_rows.result (c.add_fat_rows.new.rows ≡ c.args.rows.now ++ map f (range_with_len 0 n))
    (length c.add_fat_rows.new.rows + at ≤ length c.args.rows.now + section_end bytes at)
    (λ grown. few_rows f c.args.rows.now c.add_fat_rows.new.rows bytes at n few grown) c.add_fat_rows.ensures

pub returns-else-is_fat_section-clause-few : goal.returns-else-is_fat_section-clause-few
returns-else-is_fat_section-clause-few c =
    let bytes : List ℕ = c.args.bytes.now in
    let at : ℕ = c.args.at in
    let n : ℕ = c.section_size-size.result / 12 in
    let f : ℕ → Row = λ k. small_row bytes (at + 4 + 12 * k) in
    let few : n ≤ section_size bytes at = omega (arith, c.section_size-size.ensures) in
    on-ok c.add_small_rows.result (c.add_small_rows.new.rows ≡ c.args.rows.now ++ map f (range_with_len 0 n))
    (length c.add_small_rows.new.rows + at ≤ length c.args.rows.now + section_end bytes at)
    (λ grown. few_rows f c.args.rows.now c.add_small_rows.new.rows bytes at n few grown) c.add_small_rows.ensures
