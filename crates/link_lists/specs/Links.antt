-- The links of a pool's items, as a list in the order of their places.
use Rattle.std.specs.Prelude.{ℕ, true, false, List, get_or, slice_set, Option, Some, None}
use Rattle.link_lists.specs.declared.link.Link.{Link}

-- the link of an item that no chain holds
abbrev pub free : Link
free = record { before = None; after = None; held = false }

-- the link of an item in a chain, between these neighbours
abbrev pub between : Option ℕ → Option ℕ → Link
between before after = record { before = before; after = after; held = true }

-- the link at a place
abbrev pub link_at : List Link → ℕ → Link
link_at links p = get_or links p free

-- the item at the first place names the second as the one after it
abbrev pub with_after : List Link → Option ℕ → Option ℕ → List Link
with_after links None after = links
with_after links (Some p) after = slice_set links p (record (link_at links p) { after = after })

-- the item at the second place names the first as the one before it
abbrev pub with_before : List Link → Option ℕ → Option ℕ → List Link
with_before links before None = links
with_before links before (Some p) = slice_set links p (record (link_at links p) { before = before })

-- the end of a chain behind a place taken out: what lay inwards of it, where it had no neighbour outwards
abbrev pub end_of : Option ℕ → Option ℕ → Option ℕ → Option ℕ
end_of None inwards end = inwards
end_of (Some outwards) inwards end = end
