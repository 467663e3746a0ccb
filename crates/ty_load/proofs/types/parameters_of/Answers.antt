use Rattle.std.proofs.Common.{◌≡◌, ◌∙◌, ◌+◌, ◌-◌, ◌<◌, ℕ, List, ap, arith, slice_index_or}
use Rattle.ty_names.specs.Definitions.{generic_count, type_count}
use Rattle.ty_load.proofs.Counts.{sized}
use Rattle.ty_load.proofs.types.parameters_of.Goals as goal

pub parameters_among-requires : goal.parameters_among-requires
parameters_among-requires c = (sized c.args.tables.now c.requires.numbered).1

pub returns-then-at-len : goal.returns-then-at-len
returns-then-at-len c =
    let row : ℕ = c.args.row in
    let there : row - 1 < type_count c.args.tables.now = omega (arith, c.requires.counts.count) in
    let same : row - 1 + 1 ≡ row = omega arith in
    ap (λ (l : List ℕ). slice_index_or l (row - 1) 0) c.as_slice.ensures
    ∙ c.requires.counts.each (row - 1) there
    ∙ ap (generic_count c.args.tables.now 0x02) same
