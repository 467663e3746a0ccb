use Rattle.std.proofs.Common.{◌≡◌, ◌∙◌, ℕ, List, ◌∷◌, ◌++◌, [], ◌+◌, ◌*◌, cond, map, true, None, ap, refl, sym}
use Rattle.std.proofs.Common.{arith, rules}
use Rattle.std.specs.List.{range_with_len}
use Rattle.md_rows.specs.Widths.{has_table, valid, fits, rows_place, row_count, row_counts, tables_below}
use Rattle.md_rows.proofs.Counted.{pair_of, list_and_place, counted, place_on, counts_on, cut, whole}
use Rattle.md_rows.proofs.header.row_counts.Goals as goal

pub loop-table-init : goal.loop-table-init
unfolding tables_below
loop-table-init c = record { inside = c.requires; place = refl; counts = search rules }

pub loop-table-preserved : goal.loop-table-preserved
loop-table-preserved c =
    let stream : List ℕ = c.args.stream.now in
    let table : ℕ = c.loop-table.table in
    let count : ℕ = c.in-Some.count in
    let next : ℕ = c.in-Some.next in
    let pushed : c.push.new.self ≡ c.loop-table.rows ++ count ∷ [] = search rules in
    let there : c.has_table.result ≡ has_table (valid stream) table =
    c.has_table.ensures ∙ ap (λ m. has_table m table) c.valid-mask.ensures in
    let found : pair_of count next ≡ counted stream c.loop-table.at (has_table (valid stream) table) =
    sym c.in-Some.is ∙ (c.row_count.ensures.value ∙ ap (counted stream c.loop-table.at) there) in
    record {
      inside = c.in-Some.ensures.within;
      place = place_on stream table c.loop-table.at count next c.loop-table.invariant.place found;
      counts = pushed
          ∙ counts_on stream table c.loop-table.at count next c.loop-table.rows c.loop-table.invariant.place found
          c.loop-table.invariant.counts;
    }

pub returns-in-None : goal.returns-in-None
returns-in-None c =
    let stream : List ℕ = c.args.stream.now in
    let table : ℕ = c.loop-table.table in
    let there : c.has_table.result ≡ has_table (valid stream) table =
    c.has_table.ensures ∙ ap (λ m. has_table m table) c.valid-mask.ensures in
    let none : None ≡ counted stream c.loop-table.at (has_table (valid stream) table) =
    sym c.in-None.is ∙ (c.row_count.ensures.value ∙ ap (counted stream c.loop-table.at) there) in
    sym (ap (λ b. cond b (list_and_place (row_counts stream) (rows_place stream)) None)
    (cut stream table c.loop-table.at c.loop-table-test.true c.loop-table.invariant.place none))

pub returns : goal.returns
unfolding row_counts
returns c =
    let stream : List ℕ = c.args.stream.now in
    let last : c.loop-table.table ≡ 64 = omega (arith, c.loop-table-test.false) in
    let place : c.loop-table.at ≡ rows_place stream =
    c.loop-table.invariant.place ∙ ap (λ k. 24 + 4 * tables_below (valid stream) k) last in
    let counts : c.loop-table.rows ≡ row_counts stream =
    c.loop-table.invariant.counts ∙ ap (λ k. map (row_count stream) (range_with_len 0 k)) last in
    let fit : fits stream 0 (rows_place stream) ≡ true =
    whole stream c.loop-table.at place c.loop-table.invariant.inside in
    ap (λ rows. list_and_place rows c.loop-table.at) counts
    ∙ ap (list_and_place (row_counts stream)) place
    ∙ sym (ap (λ b. cond b (list_and_place (row_counts stream) (rows_place stream)) None) fit)
