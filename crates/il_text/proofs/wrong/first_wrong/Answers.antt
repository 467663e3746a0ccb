use Rattle.std.proofs.Common.{◌≡◌, ◌∙◌, ◌++◌, List, map, ap}
use Rattle.std.specs.List.{filter}
use Rattle.md_rows.specs.Tables.{TableSchema, schema_of}
use Rattle.il_text.specs.declared.counting.TableCount.{TableCount}
use Rattle.il_text.specs.Counting.{count_of, counted, wrong_among}
use Rattle.il_text.proofs.Counted.{first_is}
use Rattle.il_text.proofs.wrong.first_wrong.Goals as goal

pub returns-in-Ok : goal.returns-in-Ok
returns-in-Ok c =
    let schemas : List TableSchema = map schema_of c.schemas-schemas.result.now in
    let held : List TableSchema = filter (λ (schema : TableSchema). schema.is_held) schemas in
    let made : List TableCount = map (count_of c.args.rows.now) held in
    let grown : c.push_counts.new.counts ≡ c.new-counts.result ++ made = c.in-Ok.ensures in
    let counts : c.push_counts.new.counts ≡ made = grown ∙ ap (λ l. l ++ made) c.new-counts.ensures in
    first_is c.args.rows.now schemas c.push_counts.new.counts c.wrong_in_tables.result c.schemas-schemas.ensures counts
    (c.wrong_in_tables.ensures ∙ ap (λ l. wrong_among (counted l) c.args.rows.now held) c.as_slice.ensures)
