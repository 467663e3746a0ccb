use Rattle.std.proofs.Common.{◌≡◌, ◌∙◌, ℕ, List, suc, ◌+◌, ◌-◌, ◌<◌, ◌++◌, length, true, false, subst, sym, arith}
use Rattle.std.proofs.Common.{rules}
use Rattle.il_code.specs.Clauses.{has_table, rows_at, rows_from}
use Rattle.il_code.specs.Headers.{aligned, has_more, section_end}
use Rattle.il_code.proofs.Sections.{bad_rows, last_rows, past_is_none, rows_on}
use Rattle.il_code.proofs.clause.read_rows.Goals as goal

pub returns-in-None-clause-value : goal.returns-in-None-clause-value
returns-in-None-clause-value c =
    let bytes : List ℕ = c.args.bytes.now in
    let end : ℕ = c.loop-section.end in
    let n : ℕ = length bytes - c.loop-section._section in
    let m : ℕ = length bytes - (c.loop-section._section + 1) in
    let left : n ≡ suc m = omega (arith, c.loop-section-test.true) in
    let past : length bytes < section_end bytes (aligned end) =
    subst (λ a. length bytes < section_end bytes a) c.aligned-at.ensures.value c.in-None.ensures.none in
    bad_rows (rows_from (length bytes) bytes c.args.end) c.loop-section.rows n m bytes end left
    (past_is_none bytes end past) c.loop-section.invariant.rows

pub returns-then-not-has_table-clause-value : goal.returns-then-not-has_table-clause-value
returns-then-not-has_table-clause-value c =
    let bytes : List ℕ = c.args.bytes.now in
    let end : ℕ = c.loop-section.end in
    let n : ℕ = length bytes - c.loop-section._section in
    let m : ℕ = length bytes - (c.loop-section._section + 1) in
    let left : n ≡ suc m = omega (arith, c.loop-section-test.true) in
    let is : c.has_table.result ≡ false = search rules in
    bad_rows (rows_from (length bytes) bytes c.args.end) c.loop-section.rows n m bytes end left
    (sym c.has_table.ensures ∙ is) c.loop-section.invariant.rows

pub returns-then-not-has_more-clause-value : goal.returns-then-not-has_more-clause-value
returns-then-not-has_more-clause-value c =
    let bytes : List ℕ = c.args.bytes.now in
    let end : ℕ = c.loop-section.end in
    let n : ℕ = length bytes - c.loop-section._section in
    let m : ℕ = length bytes - (c.loop-section._section + 1) in
    let left : n ≡ suc m = omega (arith, c.loop-section-test.true) in
    let table-is : c.has_table.result ≡ true = search rules in
    let table : has_table bytes end ≡ true = sym c.has_table.ensures ∙ table-is in
    let more-is : c.has_more.result ≡ false = search rules in
    let more : has_more bytes (aligned end) ≡ false =
    subst (λ a. has_more bytes a ≡ false) c.aligned-at.ensures.value (sym c.has_more.ensures ∙ more-is) in
    let grown : c.add_rows.new.rows ≡ c.loop-section.rows ++ rows_at bytes (aligned end) =
    subst (λ a. c.add_rows.new.rows ≡ c.loop-section.rows ++ rows_at bytes a) c.aligned-at.ensures.value
    c.in_ok-add_rows-in-Some.ensures.rows in
    last_rows (rows_from (length bytes) bytes c.args.end) c.loop-section.rows c.add_rows.new.rows n m bytes end left
    table more grown c.loop-section.invariant.rows

pub loop-section-preserved : goal.loop-section-preserved
loop-section-preserved c =
    let bytes : List ℕ = c.args.bytes.now in
    let end : ℕ = c.loop-section.end in
    let n : ℕ = length bytes - c.loop-section._section in
    let m : ℕ = length bytes - (c.loop-section._section + 1) in
    let left : n ≡ suc m = omega (arith, c.loop-section-test.true) in
    let table-is : c.has_table.result ≡ true = search rules in
    let table : has_table bytes end ≡ true = sym c.has_table.ensures ∙ table-is in
    let more-is : c.has_more.result ≡ true = search rules in
    let more : has_more bytes (aligned end) ≡ true =
    subst (λ a. has_more bytes a ≡ true) c.aligned-at.ensures.value (sym c.has_more.ensures ∙ more-is) in
    let grown : c.add_rows.new.rows ≡ c.loop-section.rows ++ rows_at bytes (aligned end) =
    subst (λ a. c.add_rows.new.rows ≡ c.loop-section.rows ++ rows_at bytes a) c.aligned-at.ensures.value
    c.in_ok-add_rows-in-Some.ensures.rows in
    let next : c.in-Some.next ≡ section_end bytes (aligned end) =
    subst (λ a. c.in-Some.next ≡ section_end bytes a) c.aligned-at.ensures.value c.in-Some.ensures.value in
    record {
      rows = rows_on (rows_from (length bytes) bytes c.args.end) c.loop-section.rows c.add_rows.new.rows n m bytes end
          c.in-Some.next left table more grown next c.loop-section.invariant.rows;
      few = omega (
        arith,
        c.in_ok-add_rows-in-Some.ensures.few,
        c.in-Some.ensures.value,
        c.loop-section.invariant.few,
        c.aligned-at.ensures.higher,
      );
      fits = c.in-Some.ensures.fits;
    }
