use Rattle.std.proofs.Common.{◌≡◌, ◌++◌, drop}
use Rattle.ty_load.specs.Texts.{type_texts}
use Rattle.ty_texts.proofs.Joined.{still_listed}
use Rattle.ty_texts.proofs.types.+text.Given as goal

-- what is written, and the types that are left, make the whole
abbrev pub invariant-push_types-loop-i : goal.invariant-push_types-loop-i
invariant-push_types-loop-i l =
    l.initial.text ++ still_listed 0 (type_texts l.names l.types)
    ≡ l.text ++ still_listed l.i (type_texts l.names (drop l.i l.types))
