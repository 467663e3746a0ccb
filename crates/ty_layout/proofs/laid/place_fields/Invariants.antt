use Rattle.std.proofs.Common.{◌≡◌, ◌≤◌, ◌++◌, drop}
use Rattle.ty_layout.specs.Fields.{places, end_of}
use Rattle.ty_layout.proofs.laid.place_fields.Given as goal

-- the places so far, and those of the fields that are left
abbrev pub invariant-loop-field : goal.invariant-loop-field
invariant-loop-field l = record {
  limit : l.at ≤ 65536;
  end : end_of l.fn.start l.fields ≡ end_of l.at (drop l.field-index l.fields);
  places : l.initial.found ++ places l.fn.start l.fields ≡ l.found ++ places l.at (drop l.field-index l.fields);
}
