use Rattle.std.proofs.Common.{refl}
use Rattle.md_write.specs.Written.{file_of}
use Rattle.md_write.proofs.write.file_with.Goals as goal

pub returns : goal.returns
unfolding file_of
returns c = rw (c.in_ok-put_padded.ensures, c.in_ok-put_headers.ensures, c.requires, c.new-file.ensures) refl
