use Rattle.std.proofs.Common.{[]}
use Rattle.md_write.specs.Written.{root_header, stream_headers, stream_bytes, metadata_of}
use Rattle.md_write.proofs.Parts.{joined3}
use Rattle.md_write.proofs.metadata.metadata.Goals as goal

pub returns : goal.returns
unfolding metadata_of
returns c = rw (
  c.in_ok-put_streams.ensures,
  c.in_ok-put_stream_headers.ensures,
  c.in_ok-put_root.ensures,
  c.new-bytes.ensures,
) (joined3 [] root_header (stream_headers c.args.streams.now) (stream_bytes c.args.streams.now))
