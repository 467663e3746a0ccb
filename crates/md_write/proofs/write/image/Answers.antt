use Rattle.std.proofs.Common.{◌≡◌, ◌∙◌, ◌+◌, ◌<◌, ◌^◌, true, length, ap, sym, subst, arith}
use Rattle.std.proofs.lemmas.Result.{IfOk-weaker}
use Rattle.md_tables.specs.Modules.{ModuleParts}
use Rattle.md_write.specs.Heaps.{are_short}
use Rattle.md_write.specs.Written.{section_at, section_of, file_of, image_of}
use Rattle.md_write.specs.Agreeing.{ReadsBack}
use Rattle.md_write.proofs.Joined.{both_ok}
use Rattle.md_write.proofs.ReadBack.{reads_back}
use Rattle.md_write.proofs.write.image.Goals as goal

pub returns-clause-written : goal.returns-clause-written
unfolding image_of
returns-clause-written c =
    let parts : ModuleParts = c.args.module.now in
    let same : c.in_ok-section.section ≡ section_of parts.entry parts.user parts.tables =
    c.in_ok-section.ensures
    ∙ (ap (λ e. section_of e c.user.result.now c.tables-tables.result.now) c.entry-entry.ensures
    ∙ (ap (λ u. section_of parts.entry u c.tables-tables.result.now) c.user.ensures
    ∙ ap (λ t. section_of parts.entry parts.user t) c.tables-tables.ensures.tables)) in
    IfOk-weaker c.file.result (λ file. file ≡ file_of c.in_ok-section.section)
    (λ file. file ≡ file_of (section_of parts.entry parts.user parts.tables)) (λ file e. e ∙ ap file_of same)
    c.file.ensures.file

pub returns-clause-reads_back : goal.returns-clause-reads_back
returns-clause-reads_back c =
    let parts : ModuleParts = c.args.module.now in
    let token : parts.entry < 2 ^ 32 = omega (arith, c.entry-entry.ensures) in
    let short : are_short parts.tables ≡ true =
    ap are_short (sym c.tables-tables.ensures.tables) ∙ sym (c.if-not-are_short.ensures {u = tt}) in
    both_ok c.file.result (λ file. file ≡ image_of parts.entry parts.user parts.tables)
    (λ file. section_at + length file < 2 ^ 32) (λ file. ReadsBack file parts) (returns-clause-written c)
    c.file.ensures.small
    (λ file same fits.
    let low : section_at + length (image_of parts.entry parts.user parts.tables) < 2 ^ 32 =
    omega (arith, fits, ap length same) in
    subst (λ b. ReadsBack b parts) (sym same)
    (reads_back parts.entry parts.user parts.tables token low c.tables-tables.ensures.whole c.requires short
    c.spellings_are_read.ensures))
