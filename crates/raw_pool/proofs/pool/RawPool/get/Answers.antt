use Rattle.std.proofs.Common.{length, ap, arith}
use Rattle.raw_pool.proofs.Doubling.{bound, lies_at, item_of}
use Rattle.raw_pool.proofs.pool.RawPool.get.Goals as goal

pub place_of-chunk-requires : goal.place_of-chunk-requires
place_of-chunk-requires g c =
    omega (
      arith,
      c.requires,
      ap length c.self.view_is,
      bound c.self.inside.chunks.items c.self.invariant.0 c.self.invariant.1,
    )

pub index-requires : goal.index-requires
index-requires g c =
    let chunks = c.self.inside.chunks in let place = c.place_of-chunk.result in
    omega (
      arith,
      chunks.ok.0,
      (lies_at chunks.items place.0 place.1 c.args.at c.self.invariant.0 c.place_of-chunk.ensures (omega (
        arith,
        c.requires,
        ap length c.self.view_is,
      ))).chunk,
    )

pub get-requires : goal.get-requires
get-requires g c =
    let chunks = c.self.inside.chunks in let place = c.place_of-chunk.result in
    omega (
      arith,
      (lies_at chunks.items place.0 place.1 c.args.at c.self.invariant.0 c.place_of-chunk.ensures (omega (
        arith,
        c.requires,
        ap length c.self.view_is,
      ))).within c.index.result.now,
      ap (λ h. length h.0) c.index.ensures,
    )

pub returns : goal.returns
returns g c =
    let chunks = c.self.inside.chunks in let place = c.place_of-chunk.result in
    item_of chunks.items c.args.self.now place.0 place.1 c.args.at c.index.result.now c.get.result.now c.self.view_is
    (lies_at chunks.items place.0 place.1 c.args.at c.self.invariant.0 c.place_of-chunk.ensures (omega (
      arith,
      c.requires,
      ap length c.self.view_is,
    ))) c.index.ensures c.get.ensures c.requires
