use Rattle.std.proofs.Common.{[], length}
use Rattle.md_write.specs.Written.{cli_header, metadata_at, section_bytes}
use Rattle.md_write.proofs.Parts.{joined4}
use Rattle.md_write.proofs.section.section_of.Goals as goal

pub returns : goal.returns
unfolding section_bytes
returns c =
    let section = c.args.section.now in
    rw (
      c.in_ok-extend_from_slice-3.ensures.ok,
      c.as_slice-3.ensures,
      c.in_ok-extend_from_slice-2.ensures.ok,
      c.as_slice-2.ensures,
      c.in_ok-extend_from_slice.ensures.ok,
      c.as_slice.ensures,
      c.in_ok-put_cli_header.ensures,
      c.in_ok-at.ensures,
      c.len.ensures,
      c.new-bytes.ensures,
    ) (
    joined4 [] (cli_header (metadata_at section) (length section.metadata) section.entry) section.code
    section.«data» section.metadata
    )
