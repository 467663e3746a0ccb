use Rattle.std.proofs.Common.{◌≡◌, ◌++◌, drop, take}
use Rattle.ty_load.specs.Search.{before_comma}
use Rattle.ty_texts.proofs.search.before_comma.Given as goal

-- no comma so far
abbrev pub invariant-loop-i : goal.invariant-loop-i
invariant-loop-i l = before_comma l.text ≡ take l.i l.text ++ before_comma (drop l.i l.text)
