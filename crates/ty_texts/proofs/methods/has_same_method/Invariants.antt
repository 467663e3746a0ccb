use Rattle.std.proofs.Common.{◌==◌, ◌&&◌, ◌-◌, not, Some}
use Rattle.std.specs.Str.{bytes_eq}
use Rattle.ty_names.specs.Modules.{tables_at}
use Rattle.ty_names.specs.Definitions.{methods_of, run_begin, run_end}
use Rattle.ty_load.specs.Texts.{has_same, plain_method_text}
use Rattle.ty_texts.proofs.Again.{Decide}
use Rattle.ty_texts.proofs.methods.has_same_method.Given as goal

abbrev pub invariant-loop-k : goal.invariant-loop-k
invariant-loop-k l =
    Decide
    (λ row. not (row == l.method.row)
    && bytes_eq (plain_method_text l.names l.owner (Some l.id) l.method.module row l.args)
    (plain_method_text l.names l.owner (Some l.id) l.method.module l.method.row l.args))
    (run_begin (tables_at l.names l.id.module) 0x02 5 l.id.row)
    (run_end (tables_at l.names l.id.module) 0x02 5 0x06 l.id.row
    - run_begin (tables_at l.names l.id.module) 0x02 5 l.id.row)
    (has_same (λ row. plain_method_text l.names l.owner (Some l.id) l.method.module row l.args)
    (methods_of (tables_at l.names l.id.module) l.id.row) l.method.row)
    l.k
