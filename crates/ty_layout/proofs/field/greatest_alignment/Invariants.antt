use Rattle.std.proofs.Common.{◌≡◌, max, drop}
use Rattle.ty_layout.specs.Fields.{bytes_of, alignment_of}
use Rattle.ty_layout.proofs.field.greatest_alignment.Given as goal

-- the greatest so far and that of what is left
abbrev pub invariant-loop-field : goal.invariant-loop-field
invariant-loop-field l =
    max (bytes_of l.greatest) (alignment_of (drop l.field-index l.fields)) ≡ alignment_of l.fields
