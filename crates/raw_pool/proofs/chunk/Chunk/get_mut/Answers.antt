use Rattle.std.proofs.Common.{refl}
use Rattle.raw_pool.proofs.Doubling.{lent_part, part_at}
use Rattle.raw_pool.proofs.chunk.Chunk.get_mut.Goals as goal

pub returns : goal.returns
returns g c =
    let chunk = c.self.inside in (
      (
        refl,
        λ w. lent_part chunk.filled chunk.slots.len c.args.at chunk.slots.items c.args.self.now w c.self.view_is,
      ),
      record {
        writes_back = tt;
        value =
            part_at chunk.filled chunk.slots.len c.args.at chunk.slots.items c.args.self.now c.get_mut.result.now
            c.self.view_is c.requires c.get_mut.ensures.value;
      },
    )
