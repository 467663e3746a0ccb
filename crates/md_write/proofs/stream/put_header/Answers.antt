use Rattle.std.proofs.Common.{[], ◌∷◌}
use Rattle.byteorder.specs.Endian.{little_bytes}
use Rattle.md_write.specs.Stream.{heap_sizes, mask_of, sorted_mask, counts_bytes}
use Rattle.md_write.proofs.Parts.{joined5}
use Rattle.md_write.proofs.stream.put_header.Goals as goal

pub returns : goal.returns
returns c = rw (
  c.in_ok-put_counts.ensures,
  c.as_slice-2.ensures,
  c.in_ok-put_long-2.ensures,
  c.in_ok-put_long.ensures,
  c.mask_of.ensures,
  c.as_slice.ensures,
  c.in_ok-extend_from_slice.ensures.ok,
  c.heap_sizes.ensures,
  c.in_ok-put_word.ensures,
) (
    joined5 c.args.bytes.now (little_bytes 4 0) (2 ∷ 0 ∷ heap_sizes c.args.layout.now ∷ 1 ∷ [])
    (little_bytes 8 (mask_of c.args.layout.now.rows)) (little_bytes 8 sorted_mask)
    (counts_bytes c.args.layout.now.rows)
    )
