-- The metadata that was written, read back: the root, and its streams.
use Rattle.std.proofs.Common.{◌≡◌, ◌∙◌, ℕ, suc, ◌+◌, ◌^◌, ◌<◌, ◌≤◌, Bool, true, List, [], ◌∷◌, ◌++◌, length}
use Rattle.std.proofs.Common.{take, drop, replicate, ap, refl, sym, arith, append_assoc, length-append, Some, None}
use Rattle.std.proofs.Common.{nat_le, nat_lt, cond, length-drop, ◌==◌}
use Rattle.std.specs.List.{position_or_len}
use Rattle.std.specs.Prelude.{codes, Ok}
use Rattle.std.proofs.lemmas.Bool.{le-leb, lt-ltb}
use Rattle.byteorder.specs.Numbers.{little_number-reads_back}
use Rattle.pe_image.specs.Conditions.{first_fault}
use Rattle.pe_image.specs.Streams.{Stream, stream_at, streams_at, streams_of, metadata_conditions, bytes_of, stream}
use Rattle.pe_image.specs.Streams.{root_conditions, stream_conditions, header_conditions, has_tables, whole_streams}
use Rattle.pe_image.specs.Streams.{stream_count, streams_place, stream_named, or_empty, header, header_size}
use Rattle.pe_image.specs.Streams.{sized_header, with_header, in_front, name_length}
use Rattle.std.specs.Option.{option_map, option_and_then}
use Rattle.md_write.specs.declared.metadata.Streams.{Streams}
use Rattle.md_write.specs.Contents.{padding, padded}
use Rattle.md_write.specs.Written.{root_header, stream_headers, stream_bytes, metadata_of, strings_place, user_place}
use Rattle.md_write.specs.Written.{guids_place, blobs_place}
use Rattle.md_write.proofs.Joined.{length-padded, none_in, part_behind, part_at_end}

pub length-metadata : (streams : Streams)
    → length (metadata_of streams) ≡ blobs_place streams + length streams.blobs
unfolding metadata_of
length-metadata streams =
    let tail : length (stream_bytes streams) ≡ length streams.tables + (length streams.strings
    + (length (padded 4 streams.user) + (length streams.guids + length streams.blobs))) =
    length-append streams.tables (streams.strings ++ (padded 4 streams.user ++ (streams.guids ++ streams.blobs)))
    ∙ ap (λ n. length streams.tables + n)
    (length-append streams.strings (padded 4 streams.user ++ (streams.guids ++ streams.blobs))
    ∙ ap (λ n. length streams.strings + n)
    (length-append (padded 4 streams.user) (streams.guids ++ streams.blobs)
    ∙ ap (λ n. length (padded 4 streams.user) + n) (length-append streams.guids streams.blobs))) in
    let front : length (root_header ++ stream_headers streams) ≡ 108 = refl in
    omega (
      arith,
      length-append (root_header ++ stream_headers streams) (stream_bytes streams),
      append_assoc root_header (stream_headers streams) (stream_bytes streams),
      tail,
      front,
    )

-- the headers of the streams
abbrev pub told : Streams → List Stream
told streams =
    record { at = 108; size = length streams.tables; name = codes "#~" }
    ∷ record { at = strings_place streams; size = length streams.strings; name = codes "#Strings" }
    ∷ record { at = user_place streams; size = length streams.user; name = codes "#US" }
    ∷ record { at = guids_place streams; size = length streams.guids; name = codes "#GUID" }
    ∷ record { at = blobs_place streams; size = length streams.blobs; name = codes "#Blob" }
    ∷ []

-- the header at a place, where its name ends and it is whole
one_header : (root : List ℕ) (count at n : ℕ) → name_length root (at + 8) ≡ Some n
    → nat_le (at + header_size n) (length root) ≡ true
    → streams_at root (suc count) at ≡ in_front (stream_at root at n) (streams_at root count (at + header_size n))
one_header root count at n named whole =
    let found : header root at ≡ Some (header_size n, n) =
    ap (option_and_then (sized_header root at)) named
    ∙ ap (λ (b : Bool). cond b (Some (header_size n, n)) None) whole in
    ap (with_header (streams_at root count) root at) found

-- the length of a name whose zero byte is there
name_there : (root : List ℕ) (at n : ℕ) → position_or_len (λ byte. byte == 0) (drop at root) ≡ n
    → nat_lt n (length (drop at root)) ≡ true → name_length root at ≡ Some n
name_there root at n first there =
    ap (λ (k : ℕ). cond (nat_lt k (length (drop at root))) (Some k) None) first
    ∙ ap (λ (b : Bool). cond b (Some n) None) there

header_is : (place size : ℕ) (name : List ℕ) (stream : Stream) → stream.at ≡ place → stream.size ≡ size
    → stream.name ≡ name → stream ≡ record { at = place; size = size; name = name }
header_is place size name stream p q r = λ j. record { at = p j; size = q j; name = r j }

pub streams_read : (streams : Streams) → blobs_place streams + length streams.blobs < 2 ^ 32
    → streams_at (metadata_of streams) 5 32 ≡ Ok (told streams)
unfolding metadata_of
streams_read streams few =
    let root : List ℕ = metadata_of streams in
    let user_size : length streams.user ≤ length (padded 4 streams.user) =
    omega (arith, length-padded 4 streams.user) in
    let long : (k : ℕ) → k ≤ 108 → nat_le k (length root) ≡ true =
    λ k h. le-leb k (length root) (omega (arith, h, length-metadata streams)) in
    let s1 : stream_at root 32 2 ≡ record { at = 108; size = length streams.tables; name = codes "#~" } =
    header_is 108 (length streams.tables) (codes "#~") (stream_at root 32 2) refl
    (little_number-reads_back 4 (length streams.tables) [] (omega (arith, few))) refl in
    let s2 : stream_at root 44 8
    ≡ record { at = strings_place streams; size = length streams.strings; name = codes "#Strings" } =
    header_is (strings_place streams) (length streams.strings) (codes "#Strings") (stream_at root 44 8)
    (little_number-reads_back 4 (strings_place streams) [] (omega (arith, few)))
    (little_number-reads_back 4 (length streams.strings) [] (omega (arith, few))) refl in
    let s3 : stream_at root 64 3 ≡ record { at = user_place streams; size = length streams.user; name = codes "#US" } =
    header_is (user_place streams) (length streams.user) (codes "#US") (stream_at root 64 3)
    (little_number-reads_back 4 (user_place streams) [] (omega (arith, few)))
    (little_number-reads_back 4 (length streams.user) [] (omega (arith, few, user_size))) refl in
    let s4 : stream_at root 76 5
    ≡ record { at = guids_place streams; size = length streams.guids; name = codes "#GUID" } =
    header_is (guids_place streams) (length streams.guids) (codes "#GUID") (stream_at root 76 5)
    (little_number-reads_back 4 (guids_place streams) [] (omega (arith, few)))
    (little_number-reads_back 4 (length streams.guids) [] (omega (arith, few))) refl in
    let s5 : stream_at root 92 5
    ≡ record { at = blobs_place streams; size = length streams.blobs; name = codes "#Blob" } =
    header_is (blobs_place streams) (length streams.blobs) (codes "#Blob") (stream_at root 92 5)
    (little_number-reads_back 4 (blobs_place streams) [] (omega (arith, few)))
    (little_number-reads_back 4 (length streams.blobs) [] (omega (arith, few))) refl in
    let named : (at n : ℕ) → position_or_len (λ byte. byte == 0) (drop at root) ≡ n → at + n < 108
    → name_length root at ≡ Some n =
    λ at n first h. name_there root at n first (lt-ltb n (length (drop at root))
    (omega (arith, h, length-drop at root, length-metadata streams))) in
    one_header root 4 32 2 (named 40 2 refl (omega arith)) (long 44 (omega arith))
    ∙ (ap (in_front (stream_at root 32 2))
    (one_header root 3 44 8 (named 52 8 refl (omega arith)) (long 64 (omega arith))
    ∙ ap (in_front (stream_at root 44 8))
    (one_header root 2 64 3 (named 72 3 refl (omega arith)) (long 76 (omega arith))
    ∙ ap (in_front (stream_at root 64 3))
    (one_header root 1 76 5 (named 84 5 refl (omega arith)) (long 92 (omega arith))
    ∙ ap (in_front (stream_at root 76 5))
    (one_header root 0 92 5 (named 100 5 refl (omega arith)) (long 108 (omega arith))))))
    ∙ (λ j. Ok (s1 j ∷ s2 j ∷ s3 j ∷ s4 j ∷ s5 j ∷ [])))

-- ---- each stream

-- the parts of the metadata in front of a stream
abbrev heads : Streams → List ℕ
heads streams = root_header ++ stream_headers streams

metadata_parts : (streams : Streams) → metadata_of streams
    ≡ heads streams ++ (streams.tables ++ (streams.strings ++ (padded 4 streams.user
    ++ (streams.guids ++ streams.blobs))))
unfolding metadata_of
metadata_parts streams = sym (append_assoc root_header (stream_headers streams) (stream_bytes streams))

pub tables_read : (streams : Streams)
    → take (length streams.tables) (drop 108 (metadata_of streams)) ≡ streams.tables
tables_read streams =
    ap (λ b. take (length streams.tables) (drop 108 b)) (metadata_parts streams)
    ∙ part_behind (heads streams) streams.tables (streams.strings ++ (padded 4 streams.user
    ++ (streams.guids ++ streams.blobs))) 108 (length streams.tables) refl refl

pub strings_read : (streams : Streams)
    → take (length streams.strings) (drop (strings_place streams) (metadata_of streams)) ≡ streams.strings
strings_read streams =
    ap (λ b. take (length streams.strings) (drop (strings_place streams) b))
    (metadata_parts streams ∙ sym (append_assoc (heads streams) streams.tables (streams.strings
    ++ (padded 4 streams.user ++ (streams.guids ++ streams.blobs)))))
    ∙ part_behind (heads streams ++ streams.tables) streams.strings (padded 4 streams.user
    ++ (streams.guids ++ streams.blobs)) (strings_place streams) (length streams.strings)
    (sym (length-append (heads streams) streams.tables)) refl

-- the parts in front of the user heap, the GUIDs and the blobs
abbrev front3 : Streams → List ℕ
front3 streams = (heads streams ++ streams.tables) ++ streams.strings

abbrev front4 : Streams → List ℕ
front4 streams = front3 streams ++ padded 4 streams.user

abbrev front5 : Streams → List ℕ
front5 streams = front4 streams ++ streams.guids

length3 : (streams : Streams) → length (front3 streams) ≡ user_place streams
length3 streams =
    length-append (heads streams ++ streams.tables) streams.strings
    ∙ ap (λ n. n + length streams.strings) (length-append (heads streams) streams.tables)

length4 : (streams : Streams) → length (front4 streams) ≡ guids_place streams
length4 streams =
    length-append (front3 streams) (padded 4 streams.user)
    ∙ ap (λ n. n + length (padded 4 streams.user)) (length3 streams)

length5 : (streams : Streams) → length (front5 streams) ≡ blobs_place streams
length5 streams =
    length-append (front4 streams) streams.guids ∙ ap (λ n. n + length streams.guids) (length4 streams)

joined_from : {A : Type 0} (a b c d e f : List A)
    → a ++ (b ++ (c ++ (d ++ (e ++ f)))) ≡ ((a ++ b) ++ c) ++ (d ++ (e ++ f))
joined_from a b c d e f = simp append_assoc

user_parts : (streams : Streams) → metadata_of streams
    ≡ front3 streams
    ++ (streams.user ++ (replicate (padding 4 (length streams.user)) 0 ++ (streams.guids ++ streams.blobs)))
user_parts streams =
    metadata_parts streams
    ∙ (joined_from (heads streams) streams.tables streams.strings (padded 4 streams.user) streams.guids streams.blobs
    ∙ ap (λ b. front3 streams ++ b) (append_assoc streams.user (replicate (padding 4 (length streams.user)) 0)
    (streams.guids ++ streams.blobs)))

pub user_read : (streams : Streams)
    → take (length streams.user) (drop (user_place streams) (metadata_of streams)) ≡ streams.user
user_read streams =
    ap (λ b. take (length streams.user) (drop (user_place streams) b)) (user_parts streams)
    ∙ part_behind (front3 streams) streams.user (replicate (padding 4 (length streams.user)) 0
    ++ (streams.guids ++ streams.blobs)) (user_place streams) (length streams.user) (sym (length3 streams)) refl

guids_parts : (streams : Streams) → metadata_of streams ≡ front4 streams ++ (streams.guids ++ streams.blobs)
guids_parts streams =
    metadata_parts streams
    ∙ (joined_from (heads streams) streams.tables streams.strings (padded 4 streams.user) streams.guids streams.blobs
    ∙ sym (append_assoc (front3 streams) (padded 4 streams.user) (streams.guids ++ streams.blobs)))

pub guids_read : (streams : Streams)
    → take (length streams.guids) (drop (guids_place streams) (metadata_of streams)) ≡ streams.guids
guids_read streams =
    ap (λ b. take (length streams.guids) (drop (guids_place streams) b)) (guids_parts streams)
    ∙ part_behind (front4 streams) streams.guids streams.blobs (guids_place streams) (length streams.guids)
    (sym (length4 streams)) refl

pub blobs_read : (streams : Streams)
    → take (length streams.blobs) (drop (blobs_place streams) (metadata_of streams)) ≡ streams.blobs
blobs_read streams =
    ap (λ b. take (length streams.blobs) (drop (blobs_place streams) b))
    (guids_parts streams ∙ sym (append_assoc (front4 streams) streams.guids streams.blobs))
    ∙ part_at_end (front5 streams) streams.blobs (blobs_place streams) (length streams.blobs)
    (sym (length5 streams)) refl

-- ---- the root, opened

pub count_read : (streams : Streams) → stream_count (metadata_of streams) ≡ 5
unfolding metadata_of
count_read streams = refl

pub place_read : (streams : Streams) → streams_place (metadata_of streams) ≡ 32
unfolding metadata_of
place_read streams = refl

pub streams_are : (streams : Streams) → blobs_place streams + length streams.blobs < 2 ^ 32
    → streams_at (metadata_of streams) (stream_count (metadata_of streams)) (streams_place (metadata_of streams))
    ≡ Ok (told streams)
streams_are streams few =
    ap (λ n. streams_at (metadata_of streams) n (streams_place (metadata_of streams))) (count_read streams)
    ∙ (ap (streams_at (metadata_of streams) 5) (place_read streams) ∙ streams_read streams few)

pub root_holds : (streams : Streams) (at : ℕ) → first_fault (root_conditions at (metadata_of streams)) ≡ None
unfolding metadata_of
root_holds streams at =
    let long : (k : ℕ) → k ≤ 108 → nat_le k (length (metadata_of streams)) ≡ true =
    λ k h. le-leb k (length (metadata_of streams)) (omega (arith, h, length-metadata streams)) in
    rw (long 4 (omega arith), long 16 (omega arith), long 32 (omega arith)) refl

within : (streams : Streams) (at : ℕ) → first_fault (stream_conditions at (metadata_of streams) (told streams)) ≡ None
within streams at =
    let root : List ℕ = metadata_of streams in
    let whole = length-metadata streams in
    let user_size : length streams.user ≤ length (padded 4 streams.user) =
    omega (arith, length-padded 4 streams.user) in
    rw (
      le-leb (108 + length streams.tables) (length root) (omega (arith, whole)),
      le-leb (strings_place streams + length streams.strings) (length root) (omega (arith, whole)),
      le-leb (user_place streams + length streams.user) (length root) (omega (arith, whole, user_size)),
      le-leb (guids_place streams + length streams.guids) (length root) (omega (arith, whole)),
      le-leb (blobs_place streams + length streams.blobs) (length root) (omega (arith, whole)),
    ) refl

pub metadata_holds : (streams : Streams) (at : ℕ) → blobs_place streams + length streams.blobs < 2 ^ 32
    → first_fault (metadata_conditions at (metadata_of streams)) ≡ None
metadata_holds streams at few =
    let root : List ℕ = metadata_of streams in
    let are = streams_are streams few in
    none_in (root_conditions at root)
    (header_conditions at (streams_at root (stream_count root) (streams_place root))
    ++ (stream_conditions at root (streams_of root) ++ has_tables (streams_of root))) (root_holds streams at)
    (ap (λ r. first_fault (header_conditions at r ++ (stream_conditions at root (whole_streams r)
    ++ has_tables (whole_streams r)))) are
    ∙ none_in (stream_conditions at root (told streams)) (has_tables (told streams)) (within streams at) refl)

pub named : (streams : Streams) (name : List ℕ) → blobs_place streams + length streams.blobs < 2 ^ 32
    → stream name (metadata_of streams)
    ≡ or_empty (option_map (bytes_of (metadata_of streams)) (stream_named name (told streams)))
named streams name few =
    ap (λ r. or_empty (option_map (bytes_of (metadata_of streams)) (stream_named name (whole_streams r))))
    (streams_are streams few)
