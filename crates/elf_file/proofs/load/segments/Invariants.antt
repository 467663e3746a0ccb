use Rattle.std.proofs.Common.{◌≡◌, ◌-◌, []}
use Rattle.elf_file.specs.Elf.{with_headers}
use Rattle.elf_file.proofs.load.segments.Given as goal

abbrev pub invariant-loop : goal.invariant-loop
invariant-loop l = with_headers l.file l.count l.start [] ≡ with_headers l.file (l.count - l.counter) l.place l.segments
