use Rattle.std.proofs.Common.{length}
use Rattle.std.specs.Prelude.{codes}
use Rattle.md_write.specs.Written.{root_size, stream_header, strings_place, user_place, guids_place, blobs_place}
use Rattle.md_write.proofs.Parts.{joined5}
use Rattle.md_write.proofs.metadata.put_stream_headers.Goals as goal

pub returns : goal.returns
returns c =
    let streams = c.args.streams.now in
    rw (
      c.in_ok-put_stream_header-5.ensures,
      c.in_ok-put_stream_header-4.ensures,
      c.in_ok-put_stream_header-3.ensures,
      c.in_ok-put_stream_header-2.ensures,
      c.in_ok-put_stream_header.ensures,
      c.in_ok-blobs_place.ensures,
      c.in_ok-guids_place.ensures,
      c.in_ok-user_place.ensures,
      c.in_ok-strings_place.ensures,
      c.padded_size.ensures,
      c.as_slice.ensures,
      c.len.ensures,
      c.len-2.ensures,
      c.len-3.ensures,
      c.len-4.ensures,
      c.len-5.ensures,
      c.len-6.ensures,
      c.len-7.ensures,
      c.len-8.ensures,
    ) (
    joined5 c.args.bytes.now (stream_header root_size (length streams.tables) (codes "#~"))
    (stream_header (strings_place streams) (length streams.strings) (codes "#Strings"))
    (stream_header (user_place streams) (length streams.user) (codes "#US"))
    (stream_header (guids_place streams) (length streams.guids) (codes "#GUID"))
    (stream_header (blobs_place streams) (length streams.blobs) (codes "#Blob"))
    )
