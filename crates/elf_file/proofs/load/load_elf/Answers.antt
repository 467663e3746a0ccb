use Rattle.elf_file.proofs.Sound.{loaded-sound}
use Rattle.elf_file.proofs.load.load_elf.Goals as goal

pub returns-in_err-segments-clause-segments : goal.returns-in_err-segments-clause-segments
returns-in_err-segments-clause-segments c = loaded-sound c.args.bytes.now

pub returns-clause-segments : goal.returns-clause-segments
returns-clause-segments c = loaded-sound c.args.bytes.now
