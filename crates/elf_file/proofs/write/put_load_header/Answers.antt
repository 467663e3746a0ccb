use Rattle.elf_file.proofs.Parts.{put_load}
use Rattle.elf_file.proofs.write.put_load_header.Goals as goal

pub returns : goal.returns
returns c = rw (
  c.in_ok-put_xword-6.ensures,
  c.in_ok-put_xword-5.ensures,
  c.in_ok-put_xword-4.ensures,
  c.in_ok-put_xword-3.ensures,
  c.in_ok-put_xword-2.ensures,
  c.in_ok-put_xword.ensures,
  c.in_ok-put_word-2.ensures,
  c.in_ok-put_word.ensures,
) (put_load c.args.file.now c.args.flags c.args.offset c.args.file_size c.args.memory_size)
