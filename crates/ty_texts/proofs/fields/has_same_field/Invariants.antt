use Rattle.std.proofs.Common.{◌==◌, ◌&&◌, ◌-◌, not, Some}
use Rattle.std.specs.Str.{bytes_eq}
use Rattle.ty_names.specs.Modules.{tables_at}
use Rattle.ty_names.specs.Definitions.{fields_of, run_begin, run_end}
use Rattle.ty_load.specs.Texts.{has_same, plain_field_text}
use Rattle.ty_texts.proofs.Again.{Decide}
use Rattle.ty_texts.proofs.fields.has_same_field.Given as goal

abbrev pub invariant-loop-k : goal.invariant-loop-k
invariant-loop-k l =
    Decide
    (λ row. not (row == l.row)
    && bytes_eq (plain_field_text l.names l.owner (Some l.id) row)
    (plain_field_text l.names l.owner (Some l.id) l.row))
    (run_begin (tables_at l.names l.id.module) 0x02 4 l.id.row)
    (run_end (tables_at l.names l.id.module) 0x02 4 0x04 l.id.row
    - run_begin (tables_at l.names l.id.module) 0x02 4 l.id.row)
    (has_same (plain_field_text l.names l.owner (Some l.id)) (fields_of (tables_at l.names l.id.module) l.id.row) l.row)
    l.k
