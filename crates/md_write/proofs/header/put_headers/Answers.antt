use Rattle.std.proofs.Common.{replicate}
use Rattle.md_write.specs.Written.{headers, dos_header, dos_message, coff_header, standard_fields, system_fields}
use Rattle.md_write.specs.Written.{directories, section_header}
use Rattle.md_write.proofs.Parts.{joined8}
use Rattle.md_write.proofs.header.put_headers.Goals as goal

pub returns : goal.returns
unfolding headers
returns c = rw (
  c.in_ok-put_zeros.ensures,
  c.in_ok-put_section_header.ensures,
  c.in_ok-put_directories.ensures,
  c.in_ok-put_system_fields.ensures,
  c.in_ok-put_standard_fields.ensures,
  c.in_ok-put_coff_header.ensures,
  c.in_ok-extend_from_slice-2.ensures.ok,
  c.in_ok-extend_from_slice.ensures.ok,
) (
    joined8 c.args.bytes.now dos_header dos_message (coff_header c.args.entry) (standard_fields c.args.size)
    (system_fields c.args.size) directories (section_header c.args.size) (replicate 96 0)
    )
