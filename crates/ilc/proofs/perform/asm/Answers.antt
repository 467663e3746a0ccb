use Rattle.std.proofs.Common.{inr, subst}
use Rattle.ilc.specs.Cause.{WriteOutcome}
use Rattle.ilc.specs.Seen.{StoreSeen, store_seen}
use Rattle.ilc.proofs.perform.asm.Goals as goal

pub returns-in-Ok : goal.returns-in-Ok
returns-in-Ok g c =
    let files = g.F.Files in
    let between : StoreSeen = store_seen (files.told c.image.new.files) (files.asked c.image.new.files)
    (files.calls c.image.new.files) (files.read_faults c.image.new.files) (files.write_faults c.image.new.files) in
    let now : StoreSeen = store_seen (files.told c.write.new.files) (files.asked c.write.new.files)
    (files.calls c.write.new.files) (files.read_faults c.write.new.files) (files.write_faults c.write.new.files) in
    inr (record {
      made = c.in-Ok.image;
      between = between;
      is_made = c.in-Ok.ensures.made;
      writes = subst (λ made. WriteOutcome c.args.out.now made between now c.write.result) c.as_slice.ensures
          c.write.ensures.outcome;
      same_asked = c.write.ensures.same_asked;
    })
