use Rattle.std.proofs.Common.{◌≡◌, ◌+◌, ap, ◌∙◌}
use Rattle.std.specs.Prelude.{Ok}
use Rattle.std.proofs.lemmas.Result.{IfOk-weaker}
use Rattle.elf_file.specs.Elf.{base, loaded, file_of, machine_of}
use Rattle.elf_file.proofs.Loads.{length-headers, written_loads}
use Rattle.elf_file.proofs.write.write_elf.Goals as goal

pub returns-clause-loads : goal.returns-clause-loads
returns-clause-loads c =
    let loads : loaded (file_of c.args.layout.now) ≡ Ok (machine_of c.args.layout.now) = written_loads c.args.layout.now
    c.file.ensures.entry c.requires.text_fits c.requires.rest_fits in
    IfOk-weaker c.file.result (λ file. file ≡ file_of c.args.layout.now) (λ file. loaded file
    ≡ Ok (machine_of c.args.layout.now)) (λ file e. ap loaded e ∙ loads) c.file.ensures.bytes

pub returns-clause-text_at : goal.returns-clause-text_at
returns-clause-text_at c = ap (λ n. base + n) (length-headers c.args.layout.now)
