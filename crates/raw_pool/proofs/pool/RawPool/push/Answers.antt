use Rattle.std.proofs.Common.{◌∷◌, [], ◌++◌, length, set, subst, sym, ap, ◌∙◌, arith, length-set, length-append}
use Rattle.raw_pool.specs.Chunks.{items_of, AreDoubling}
use Rattle.raw_pool.proofs.Doubling.{bound, there_is, pushed_to}
use Rattle.raw_pool.proofs.pool.RawPool.push.Goals as goal

pub place_of-chunk-requires : goal.place_of-chunk-requires
place_of-chunk-requires g c =
    omega (arith, c.self.invariant.2, bound c.self.inside.chunks.items c.self.invariant.0 c.self.invariant.1)

pub index_mut-last-requires : goal.index_mut-last-requires
index_mut-last-requires g c =
    let cs = c.self.inside.chunks.items in let place = c.place_of-chunk.result in
    let now = c.make_room.new.chunks in
    omega (
      arith,
      now.ok.0,
      (there_is cs now.items place.0 place.1 c.self.invariant.0 (omega (
        arith,
        c.place_of-chunk.ensures.0,
        c.self.invariant.2,
      )) c.if-not-make_room.ensures.room).there,
    )

pub push-requires : goal.push-requires
push-requires g c =
    let cs = c.self.inside.chunks.items in let place = c.place_of-chunk.result in
    let now = c.make_room.new.chunks in
    let ready = there_is cs now.items place.0 place.1 c.self.invariant.0 (omega (
      arith,
      c.place_of-chunk.ensures.0,
      c.self.invariant.2,
    )) c.if-not-make_room.ensures.room in
    (pushed_to cs now.items place.0 place.1 c.index_mut-last.result.now c.args.item ready (
      omega (arith, c.place_of-chunk.ensures.0, c.self.invariant.2),
      c.place_of-chunk.ensures.1,
    ) c.index_mut-last.ensures.value).room

pub overflow_add-self : goal.overflow_add-self
overflow_add-self g c = record {
  fits = omega (arith, c.self.invariant.2, bound c.self.inside.chunks.items c.self.invariant.0 c.self.invariant.1);
}

pub invariant_of-self-2 : goal.invariant_of-self-2
invariant_of-self-2 g c =
    let cs = c.self.inside.chunks.items in let place = c.place_of-chunk.result in
    let now = c.make_room.new.chunks in let last = c.index_mut-last.result.now in
    let ready = there_is cs now.items place.0 place.1 c.self.invariant.0 (omega (
      arith,
      c.place_of-chunk.ensures.0,
      c.self.invariant.2,
    )) c.if-not-make_room.ensures.room in
    let after = pushed_to cs now.items place.0 place.1 last c.args.item ready (
      omega (arith, c.place_of-chunk.ensures.0, c.self.invariant.2),
      c.place_of-chunk.ensures.1,
    ) c.index_mut-last.ensures.value in (
      subst (λ h. AreDoubling 1 (set now.items place.0 h)) (sym c.push.ensures) after.doubling,
      omega (arith, c.if-not-make_room.ensures.most, length-set now.items place.0 c.push.new.self),
      omega (
        arith,
        c.self.invariant.2,
        ap length after.items,
        ap (λ h. length (items_of (set now.items place.0 h))) c.push.ensures,
        length-append (items_of cs) (c.args.item ∷ []),
      ),
    )

pub returns-clause-added : goal.returns-clause-added
returns-clause-added g c =
    let cs = c.self.inside.chunks.items in let place = c.place_of-chunk.result in
    let now = c.make_room.new.chunks in let last = c.index_mut-last.result.now in
    let ready = there_is cs now.items place.0 place.1 c.self.invariant.0 (omega (
      arith,
      c.place_of-chunk.ensures.0,
      c.self.invariant.2,
    )) c.if-not-make_room.ensures.room in
    ap (λ h. items_of (set now.items place.0 h)) c.push.ensures
    ∙ (pushed_to cs now.items place.0 place.1 last c.args.item ready (
      omega (arith, c.place_of-chunk.ensures.0, c.self.invariant.2),
      c.place_of-chunk.ensures.1,
    ) c.index_mut-last.ensures.value).items ∙ ap (λ l. l ++ c.args.item ∷ []) c.self.view_is
