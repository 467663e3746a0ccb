use Rattle.elf_file.proofs.Parts.{put_elf}
use Rattle.elf_file.proofs.write.put_elf_header.Goals as goal

pub returns : goal.returns
returns c = rw (
  c.in_ok-put_half-8.ensures,
  c.in_ok-put_half-7.ensures,
  c.in_ok-put_half-6.ensures,
  c.in_ok-put_half-5.ensures,
  c.in_ok-put_half-4.ensures,
  c.in_ok-put_half-3.ensures,
  c.in_ok-put_word-2.ensures,
  c.in_ok-put_xword-3.ensures,
  c.in_ok-put_xword-2.ensures,
  c.in_ok-put_xword.ensures,
  c.in_ok-put_word.ensures,
  c.in_ok-put_half-2.ensures,
  c.in_ok-put_half.ensures,
  c.in_ok-put_zeros.ensures,
  c.in_ok-extend_from_slice.ensures.ok,
) (put_elf c.args.file.now c.args.entry)
