use Rattle.std.proofs.Common.{◌≡◌, ◌+◌, ◌*◌, map, take}
use Rattle.ty_terms.specs.Depth.{depth_of, depth_of_all}
use Rattle.cli_layout.specs.Extents.{extent_in, rows_extents}
use Rattle.cli_layout.specs.Seen.{AreTrueOf}
use Rattle.cli_layout.proofs.extents.+extents.Given as goal

-- Of one definition after another a type's parts are looked at, and the types of fields are no deeper than `deepest`.
abbrev pub decreases-extent : goal.decreases-extent
decreases-extent g l = l.left * (2 * g.D.Definitions.deepest l.definitions.now + 3) + (2 * depth_of l.ty.now + 1)

abbrev pub decreases-extents : goal.decreases-extents
decreases-extents g l =
    l.left * (2 * g.D.Definitions.deepest l.definitions.now + 3) + (2 * depth_of_all l.types.now + 2)

abbrev pub decreases-value : goal.decreases-value
decreases-value g l = l.left * (2 * g.D.Definitions.deepest l.definitions.now + 3)

abbrev pub decreases-each_extent : goal.decreases-each_extent
decreases-each_extent g l =
    l.left * (2 * g.D.Definitions.deepest l.definitions.now + 3)
    + (2 * g.D.Definitions.deepest l.definitions.now + 2)

abbrev pub invariant-extents-loop-ty : goal.invariant-extents-loop-ty
invariant-extents-loop-ty g l = record {
  told : l.done ≡ map (extent_in l.left (g.D.Definitions.world l.definitions) l.env) (take l.ty-index l.types);
  seen : AreTrueOf (g.D.Definitions.world l.definitions) l.seen;
}

abbrev pub invariant-each_extent-loop-field : goal.invariant-each_extent-loop-field
invariant-each_extent-loop-field g l = record {
  told : l.done
      ≡ rows_extents (extent_in l.left (g.D.Definitions.world l.definitions) l.env) l.id (take l.field-index l.fields);
  seen : AreTrueOf (g.D.Definitions.world l.definitions) l.seen;
}
