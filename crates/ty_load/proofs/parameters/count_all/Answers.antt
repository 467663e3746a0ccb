use Rattle.std.proofs.Common.{◌≡◌, ◌+◌, ℕ, List, take, slice_index, count_by, arith, length-take}
use Rattle.std.proofs.lemmas.List.Sums.{count_by-le-length}
use Rattle.md_tables.specs.declared.module.TableRow.{TableRow}
use Rattle.ty_load.specs.Counting.{is_of}
use Rattle.ty_load.proofs.parameters.count_all.Goals as goal

pub count-requires : goal.count-requires
count-requires c = λ k h.
    let at : ℕ = c.loop-parameter.parameter-index in
    let parameters : List TableRow = c.args.parameters.now in
    let so_far : slice_index c.loop-parameter.counts k ≡ count_by (is_of (k + 1)) (take at parameters) =
    c.loop-parameter.invariant.known k (omega arith) in
    omega (
      arith,
      so_far,
      count_by-le-length (is_of (k + 1)) (take at parameters),
      length-take at parameters,
      c.requires.size,
    )
