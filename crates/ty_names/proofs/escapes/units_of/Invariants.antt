use Rattle.std.proofs.Common.{◌≡◌, ◌++◌, drop}
use Rattle.std.specs.Char.Escape.{encode_utf16}
use Rattle.std.specs.List.{flat_map}
use Rattle.ty_names.proofs.escapes.units_of.Given as goal

-- the units so far, and those of the characters that are left
abbrev pub invariant-loop-c : goal.invariant-loop-c
invariant-loop-c l =
    flat_map encode_utf16 l.chars ≡ l.units.items ++ flat_map encode_utf16 (drop l.c-index l.chars)
