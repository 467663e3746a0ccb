use Rattle.std.proofs.Common.{length, set, refl, ap, ◌∙◌, arith, length-set}
use Rattle.raw_pool.proofs.Doubling.{bound, lies_at, lent, item_of}
use Rattle.raw_pool.proofs.pool.RawPool.get_mut.Goals as goal

pub place_of-chunk-requires : goal.place_of-chunk-requires
place_of-chunk-requires g c =
    omega (
      arith,
      c.requires,
      ap length c.self.view_is,
      bound c.self.inside.chunks.items c.self.invariant.0 c.self.invariant.1,
    )

pub index_mut-chunk-requires : goal.index_mut-chunk-requires
index_mut-chunk-requires g c =
    let chunks = c.self.inside.chunks in let place = c.place_of-chunk.result in
    omega (
      arith,
      chunks.ok.0,
      (lies_at chunks.items place.0 place.1 c.args.at c.self.invariant.0 c.place_of-chunk.ensures (omega (
        arith,
        c.requires,
        ap length c.self.view_is,
      ))).chunk,
    )

pub get_mut-requires : goal.get_mut-requires
get_mut-requires g c =
    let chunks = c.self.inside.chunks in let place = c.place_of-chunk.result in
    omega (
      arith,
      (lies_at chunks.items place.0 place.1 c.args.at c.self.invariant.0 c.place_of-chunk.ensures (omega (
        arith,
        c.requires,
        ap length c.self.view_is,
      ))).within c.index_mut-chunk.result.now,
      ap (λ h. length h.0) c.index_mut-chunk.ensures.value,
    )

pub invariant_of-self-lent : goal.invariant_of-self-lent
invariant_of-self-lent g c = λ w.
    let cs = c.self.inside.chunks.items in let place = c.place_of-chunk.result in
    let chunk = c.index_mut-chunk.result.now in
    let there = lies_at cs place.0 place.1 c.args.at c.self.invariant.0 c.place_of-chunk.ensures (omega (
      arith,
      c.requires,
      ap length c.self.view_is,
    )) in
    let after = lent cs place.0 place.1 c.args.at chunk w c.self.invariant.0 there c.index_mut-chunk.ensures.value in (
      after.doubling,
      omega (arith, c.self.invariant.1, length-set cs place.0 (set chunk.0 place.1 w, chunk.1)),
      omega (
        arith,
        c.self.invariant.2,
        ap length after.items,
        ap length c.self.view_is,
        length-set c.args.self.now c.args.at w,
        ap (λ l. length (set l c.args.at w)) c.self.view_is,
      ),
    )

pub returns : goal.returns
returns g c =
    let cs = c.self.inside.chunks.items in let place = c.place_of-chunk.result in
    let chunk = c.index_mut-chunk.result.now in
    let there = lies_at cs place.0 place.1 c.args.at c.self.invariant.0 c.place_of-chunk.ensures (omega (
      arith,
      c.requires,
      ap length c.self.view_is,
    )) in (
      (
        refl,
        λ w.
            (lent cs place.0 place.1 c.args.at chunk w c.self.invariant.0 there c.index_mut-chunk.ensures.value).items
            ∙ ap (λ l. set l c.args.at w) c.self.view_is,
      ),
      record {
        writes_back = tt;
        value =
            item_of cs c.args.self.now place.0 place.1 c.args.at chunk c.get_mut.result.now c.self.view_is there
            c.index_mut-chunk.ensures.value c.get_mut.ensures.value c.requires;
      },
    )
