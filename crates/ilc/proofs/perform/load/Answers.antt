use Rattle.std.proofs.Common.{◌≡◌, ◌∙◌, [], ◌∷◌, ap, sym, subst, Err}
use Rattle.elf_file.specs.Elf.{loaded, Gives}
use Rattle.ilc.specs.Cause.{elf_limit}
use Rattle.ilc.specs.Reading.{IsOrMemory}
use Rattle.ilc.specs.Seen.{StoreSeen, store_seen}
use Rattle.ilc.specs.Stages.{elf_stages, finding, fault_of}
use Rattle.ilc.specs.declared.outcome.Outcome.TheVariants.{Refused}
use Rattle.ilc.specs.declared.refusal.Fault.TheVariants.{BadElf}
use Rattle.ilc.proofs.NotRead.{refused_or_memory, told_at, first_load}
use Rattle.ilc.proofs.perform.load.Goals as goal

pub returns-in-Ok-load_elf-clause-loaded : goal.returns-in-Ok-load_elf-clause-loaded
returns-in-Ok-load_elf-clause-loaded g c =
    record {
      bytes = c.in-Ok.content;
      read = c.in-Ok.ensures.read;
      loads = ap loaded (sym c.as_slice.ensures) ∙ c.in-Ok-load_elf.ensures.exact;
    }

pub returns-in-Err-BadElf-clause-refused : goal.returns-in-Err-BadElf-clause-refused
returns-in-Err-BadElf-clause-refused g c =
    let files = g.F.Files in
    let before : StoreSeen = store_seen (files.told c.args.files.now) (files.asked c.args.files.now)
    (files.calls c.args.files.now) (files.read_faults c.args.files.now) (files.write_faults c.args.files.now) in
    let now : StoreSeen = store_seen (files.told c.read.new.files) (files.asked c.read.new.files)
    (files.calls c.read.new.files) (files.read_faults c.read.new.files) (files.write_faults c.read.new.files) in
    let bad : loaded c.in-Ok.content ≡ Err c.in-Err-BadElf.place =
    ap loaded (sym c.as_slice.ensures)
    ∙ subst (λ fault. Gives (Err fault) (loaded c.as_slice.result.now)) c.in-Err-BadElf.field-0-is
    c.in-Err-BadElf.ensures.exact in
    refused_or_memory elf_stages c.args.elf.now elf_limit c.in-Ok.content before now c.refused.result
    c.in-Ok.ensures.read
    (told_at elf_stages c.args.elf.now c.in-Ok.content (finding BadElf (c.in-Err-BadElf.place ∷ [])) c.refused.result
    (first_load c.in-Ok.content c.in-Err-BadElf.place bad)
    (subst (λ text. IsOrMemory (Refused (fault_of BadElf text (c.in-Err-BadElf.place ∷ []))) c.refused.result)
    c.bytes.ensures.bytes c.refused.ensures))

pub returns-in-Err-clause-refused : goal.returns-in-Err-clause-refused
returns-in-Err-clause-refused g c = c.in-Err.ensures.not_read elf_stages
