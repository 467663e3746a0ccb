use Rattle.std.proofs.Common.{◌≡◌, ◌∙◌, ◌<◌, ◌^◌, All, ap, subst, arith}
use Rattle.std.proofs.lemmas.Grind.{common_steps}
use Rattle.hex.specs.Hex.{IsBytes}
use Rattle.il_text.specs.Assembling.{assembled}
use Rattle.il_text.specs.Listing.{listing_of}
use Rattle.il_text.specs.Ranges.{ModuleInRange, TableInRange}
use Rattle.il_text.proofs.ReadBack.{read_back}
use Rattle.il_text.proofs.listing.list.Goals as goal

pub returns-clause-read_back : goal.returns-clause-read_back
returns-clause-read_back c =
    let text : c.push_tables.new.out ≡ listing_of c.args.module.now = grind (arith, common_steps) in
    let fit : ModuleInRange c.args.module.now =
    record {
      entry = subst (λ entry. entry < 2 ^ 32) c.entry.ensures c.in_ok-push_entry.ensures.small;
      user = subst IsBytes c.user.ensures c.in_ok-push_bytes_line.ensures.bytes;
      tables = subst (All TableInRange) c.tables.ensures.tables c.in_ok-push_tables.ensures.in_range;
    } in
    ap assembled text ∙ read_back c.args.module.now c.tables.ensures.whole fit
