use Rattle.std.proofs.Common.{◌∙◌, ◌+◌, ap, length, nat_lt}
use Rattle.num_core.specs.declared.fix.Fix.{Fix}
use Rattle.num_core.specs.declared.fix.FixKind.TheVariants.{Item}
use Rattle.image_plan.specs.Found.{address_in}
use Rattle.image_plan.proofs.Lengths.{address_length, addresses_on, all_behind}
use Rattle.image_plan.proofs.text.with_all.Goals as goal

none : Fix
none = record { at = 0; kind = Item; item = 0 }

pub loop-fix-preserved : goal.loop-fix-preserved
loop-fix-preserved c =
    let find = address_in c.args.addresses.now.found.entries in
    record {
      words =
          c.loop-fix.invariant.words
          ∙ addresses_on find c.args.begin c.loop-fix.fix-index _ c.args.fixes.now c.loop-fix.all
          c.put_address.new.words c.loop-fix-test.true c.put_address.ensures;
      size =
          ap length c.put_address.ensures ∙ address_length find c.args.begin _ c.loop-fix.all
          ∙ c.loop-fix.invariant.size;
      fits =
          all_behind (λ (fix : Fix). nat_lt (fix.at + 1) (length c.args.words.now)) c.args.fixes.now
          c.loop-fix.fix-index none c.loop-fix-test.true c.loop-fix.invariant.fits;
    }
