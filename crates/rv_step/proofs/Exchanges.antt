-- Reading and writing piece by piece.
use Rattle.std.proofs.Common.{◌≡◌, ◌∙◌, ℕ, zero, suc, ◌+◌, ◌-◌, ◌<◌, ◌≤◌, Bool, true, false, List, [], ◌∷◌, ◌++◌}
use Rattle.std.proofs.Common.{length, take, drop, Option, Some, None, IfSome, ◌==◌, ◌⊎◌, inl, inr, min, get_or, set}
use Rattle.std.proofs.Common.{refl, sym, ap, subst, append_assoc, append-nil, length-append, length-take, length-drop}
use Rattle.std.proofs.Common.{arith}
use Rattle.std.proofs.Math.Seq.{take-add, take-append_seam, drop-append-add, take-length}
use Rattle.std.proofs.Math.ListN.{drop_of_length-le}
use Rattle.std.proofs.lemmas.List.{take-append-drop, take-append-le, drop-drop}
use Rattle.std.proofs.lemmas.Grind.{common_steps}
use Rattle.std.specs.Option.{option_map}
use Rattle.ilc_io.specs.Piece.{Reads}
use Rattle.std.specs.List.{position}
use Rattle.rv_step.specs.Machine.{overwritten, filled}
use Rattle.rv_step.specs.Segments.{serves, part}
use Rattle.rv_step.specs.declared.segment.Segment.{Segment}
use Rattle.rv_step.specs.declared.segment.Access.TheVariants.{Write}
use Rattle.rv_step.proofs.Memory.{bytes_at_some, with_bytes_at_some, covered, served}
use Rattle.rv_step.specs.Steps.{Wrote, WroteSome, FilledBytes, FilledSegments}
use Rattle.rv_step.proofs.Steps.{nothing_written, written_then, nothing_taken, taken_then}

-- ---- writing

first_of_piece : (count len : ℕ) (xs : List ℕ) → count ≤ length (take len xs) → take count (take len xs) ≡ take count xs
first_of_piece zero len xs h = refl
first_of_piece (suc count) zero xs h = absurd (omega arith)
first_of_piece (suc count) (suc len) [] h = refl
first_of_piece (suc count) (suc len) (x ∷ xs) h = ap (λ ys. x ∷ ys) (first_of_piece count len xs (omega arith))

next_piece : (at len count : ℕ) (xs : List ℕ) → count ≤ length (take len (drop at xs))
    → take at xs ++ take count (take len (drop at xs)) ≡ take (at + count) xs
next_piece at len count xs h = ap (λ ys. take at xs ++ ys) (first_of_piece count len (drop at xs) h)
    ∙ sym (take-add at count xs)

pub wrote_nothing : (o : Option (List ℕ)) → Wrote [] o o
wrote_nothing o = nothing_written o

pub wrote_more : (at len count : ℕ) (bytes : List ℕ) (before mid now : Option (List ℕ))
    → Wrote (take at bytes) before mid → now
    ≡ option_map (λ written. written ++ take count (take len (drop at bytes))) mid
    → count ≤ length (take len (drop at bytes)) → Wrote (take (at + count) bytes) before now
wrote_more at len count bytes before mid now first second within =
    written_then (take at bytes) (take count (take len (drop at bytes))) before mid now first second
    ∙ ap (λ xs. option_map (λ written. written ++ xs) before) (next_piece at len count bytes within)

pub piece_within : (at len count : ℕ) (bytes : List ℕ) → at ≤ length bytes → count ≤ length (take len (drop at bytes))
    → at + count ≤ length bytes
piece_within at len count bytes within h = omega (arith, h, length-take len (drop at bytes), length-drop at bytes)

pub wrote_whole : (at : ℕ) (bytes : List ℕ) (before now : Option (List ℕ)) → length bytes ≤ at → at ≤ length bytes
    → Wrote (take at bytes) before now → Wrote bytes before now
wrote_whole at bytes before now past within wrote =
    let all : at ≡ length bytes = omega arith in
    let same : take at bytes ≡ bytes = ap (λ n. take n bytes) all ∙ take-length bytes in
    subst (λ xs. Wrote xs before now) same wrote

pub wrote_some : (at : ℕ) (bytes : List ℕ) (before mid now : Option (List ℕ)) → at < length bytes
    → Wrote (take at bytes) before mid → now ≡ mid → WroteSome bytes before now
wrote_some at bytes before mid now more wrote same =
    record {
      got = take at bytes;
      begun = (drop at bytes, sym (take-append-drop at bytes));
      missing = omega (arith, more, length-take at bytes);
      wrote = same ∙ wrote;
    }

-- ---- reading

front_kept : (from : ℕ) (taken old : List ℕ) → from ≤ length old → length (take from old ++ taken) ≡ from + length taken
front_kept from taken old h = omega (arith, length-append (take from old) taken, length-take from old)

overwritten_nothing : (from : ℕ) (old : List ℕ) → old ≡ overwritten from [] old
overwritten_nothing from old = grind (arith, common_steps)

-- what is written behind what was written
overwritten_more : (from : ℕ) (taken piece old : List ℕ) → from ≤ length old
    → overwritten (from + length taken) piece (overwritten from taken old) ≡ overwritten from (taken ++ piece) old
overwritten_more from taken piece old h =
    let front : List ℕ = take from old ++ taken in
    let rest : List ℕ = drop (from + length taken) old in
    let len : length front ≡ from + length taken = front_kept from taken old h in
    let first : take (from + length taken) (front ++ rest) ≡ front = ap (λ n. take n (front ++ rest)) (sym len)
    ∙ take-append_seam front rest in
    let last : drop (from + length taken + length piece) (front ++ rest) ≡ drop (from + length (taken ++ piece)) old =
    ap (λ n. drop (n + length piece) (front ++ rest)) (sym len) ∙ drop-append-add front rest (length piece)
    ∙ grind (arith, common_steps) in
    ap (λ xs. xs ++ piece ++ drop (from + length taken + length piece) (front ++ rest)) first
    ∙ ap (λ ys. front ++ piece ++ ys) last
    ∙ ap (λ xs. xs ++ drop (from + length (taken ++ piece)) old) (append_assoc (take from old) taken piece)

read_from : (read : ℕ) (into new : List ℕ) (r1 r2 : Option (List ℕ)) → read ≤ length into → length new ≡ length into
    → ((left : List ℕ) → r1 ≡ Some left → Reads left into new read) → r2 ≡ option_map (λ rest. drop read rest) r1
    → r1 ≡ option_map (λ rest. take read new ++ rest) r2
read_from read into new None r2 within same exact taken = sym (ap (option_map (λ rest. take read new ++ rest)) taken)
read_from read into new (Some left) r2 within same exact taken =
    let reads : Reads left into new read = exact left refl in
    let len : length (take read left) ≡ read = omega (arith, length-take read left, reads.available) in
    let got : take read new ≡ take read left =
    ap (take read) reads.bytes ∙ ap (λ n. take n (take read left ++ drop read into)) (sym len)
    ∙ take-append_seam (take read left) (drop read into) in
    sym (ap (option_map (λ rest. take read new ++ rest)) taken
    ∙ ap Some (ap (λ xs. xs ++ drop read left) got ∙ take-append-drop read left))

ended_there : (read : ℕ) (into new : List ℕ) (r1 r2 : Option (List ℕ)) → 0 < length into
    → ((left : List ℕ) → r1 ≡ Some left → Reads left into new read) → r2 ≡ option_map (λ rest. drop read rest) r1
    → read ≡ 0 → IfSome r2 (λ rest. rest ≡ [])
ended_there read into new None r2 room exact taken none = let P : Option (List ℕ)
    → Type 0 = λ o. IfSome o (λ rest. rest ≡ []) in subst P (sym taken) tt
ended_there read into new (Some left) r2 room exact taken none =
    let reads : Reads left into new read = exact left refl in
    let empty : left ≡ [] = reads.ended room none in
    let same : drop read left ≡ [] = ap (λ n. drop n left) none ∙ empty in
    let P : Option (List ℕ) → Type 0 = λ o. IfSome o (λ rest. rest ≡ []) in
    subst P (sym taken) same

pub filled_nothing : (from : ℕ) (bytes : List ℕ) (ended : Bool) (o : Option (List ℕ))
    → (ended ≡ true → IfSome o (λ rest. rest ≡ [])) → FilledBytes 0 from bytes bytes ended ended o o
filled_nothing from bytes ended o end =
    record {
      taken = [];
      so_many = refl;
      bytes = overwritten_nothing from bytes;
      takes = record {
        exchanged = nothing_taken o;
        stays_ended = λ h. h;
        takes_nothing = λ h. refl;
        end_is_true = end;
      };
    }

is_zero : (n : ℕ) → (n == 0) ≡ true → n ≡ 0
is_zero zero h = refl
is_zero (suc n) h = grind arith

pub filled_more : (got from read : ℕ) (old mid now into new : List ℕ) (ended : Bool) (r0 r1 r2 : Option (List ℕ))
    → FilledBytes got from old mid ended false r0 r1 → from ≤ length old → 0 < length into → read ≤ length into
    → length new ≡ length into → ((left : List ℕ) → r1 ≡ Some left → Reads left into new read)
    → r2 ≡ option_map (λ rest. drop read rest) r1 → now ≡ overwritten (from + got) (take read new) mid
    → FilledBytes (got + read) from old now ended (read == 0) r0 r2
filled_more got from read old mid now into new ended r0 r1 r2 f inside room within same exact taken written =
    let piece : List ℕ = take read new in
    let so_many : length piece ≡ read = omega (arith, length-take read new) in
    let never : ended ≡ true → ⊥ = λ h. (let e : false ≡ true = f.takes.stays_ended h in cc) in
    record {
      taken = f.taken ++ piece;
      so_many = length-append f.taken piece ∙ ap (λ n. n + length piece) f.so_many ∙ ap (λ n. got + n) so_many;
      bytes =
          written ∙ ap (λ n. overwritten (from + n) piece mid) (sym f.so_many)
          ∙ ap (λ xs. overwritten (from + length f.taken) piece xs) f.bytes
          ∙ overwritten_more from f.taken piece old inside;
      takes = record {
        exchanged = taken_then f.taken piece r0 r1 r2 f.takes.exchanged
            (read_from read into new r1 r2 within same exact taken);
        stays_ended = λ h. absurd (never h);
        takes_nothing = λ h. absurd (never h);
        end_is_true = λ h. ended_there read into new r1 r2 room exact taken (is_zero read h);
      };
    }

pub length_overwritten : (at : ℕ) (new old : List ℕ) → at + length new ≤ length old
    → length (overwritten at new old) ≡ length old
length_overwritten at new old h =
    omega (
      arith,
      length-append (take at old ++ new) (drop (at + length new) old),
      length-append (take at old) new,
      length-take at old,
      length-drop (at + length new) old,
    )

-- one more piece
pub filled_step : (from at end read wanted : ℕ) (old mid now piece new : List ℕ) (ended at_end : Bool)
    (r0 r1 r2 : Option (List ℕ)) → FilledBytes (at - from) from old mid ended at_end r0 r1 → at_end ≡ false → from ≤ at
    → at < end → end ≤ length mid → from ≤ length old → wanted ≤ end - at → 0 < length (take wanted piece)
    → read ≤ length (take wanted piece) → length new ≡ length (take wanted piece)
    → ((left : List ℕ) → r1 ≡ Some left → Reads left (take wanted piece) new read)
    → r2 ≡ option_map (λ rest. drop read rest) r1 → now ≡ overwritten at (take read (new ++ drop wanted piece)) mid
    → (at + read ≤ end) × (end ≤ length now) × FilledBytes (at + read - from) from old now ended (read == 0) r0 r2
filled_step from at end read wanted old mid now piece new ended at_end r0 r1 r2 f goes rising lt room inside few some
    within same exact taken written =
    let front : take read (new ++ drop wanted piece) ≡ take read new =
    take-append-le read new (drop wanted piece) (omega (arith, within, same)) in
    let up_to : at + read ≤ end = omega (arith, within, length-take wanted piece, few, lt) in
    let size : length (take read (new ++ drop wanted piece)) ≤ read =
    omega (arith, length-take read (new ++ drop wanted piece)) in
    let kept : length now ≡ length mid = ap length written
    ∙ length_overwritten at (take read (new ++ drop wanted piece)) mid (omega (arith, size, up_to, room)) in
    let there : at ≡ from + (at - from) = omega arith in
    let f' : FilledBytes (at - from) from old mid ended false r0 r1 =
    subst (λ b. FilledBytes (at - from) from old mid ended b r0 r1) goes f in
    let is : now ≡ overwritten (from + (at - from)) (take read new) mid = written
    ∙ ap (λ xs. overwritten at xs mid) front ∙ ap (λ n. overwritten n (take read new) mid) there in
    let more : FilledBytes ((at - from) + read) from old now ended (read == 0) r0 r2 =
    filled_more (at - from) from read old mid now
    (take wanted piece) new ended r0 r1 r2 f' inside some within same exact taken is in
    let count : (at - from) + read ≡ at + read - from = omega arith in
    (up_to, omega (arith, kept, room), subst (λ n. FilledBytes n from old now ended (read == 0) r0 r2) count more)

pub filled_start : (from : ℕ) (bytes : List ℕ) (ended : Bool) (o : Option (List ℕ))
    → (ended ≡ true → IfSome o (λ rest. rest ≡ [])) → FilledBytes (from - from) from bytes bytes ended ended o o
filled_start from bytes ended o end =
    let none : 0 ≡ from - from = omega arith in
    subst (λ n. FilledBytes n from bytes bytes ended ended o o) none (filled_nothing from bytes ended o end)

-- ---- into a segment

drop_take_rest : (t count : ℕ) (xs : List ℕ) → t ≤ count → drop t (take count xs) ++ drop count xs ≡ drop t xs
drop_take_rest zero count xs h = take-append-drop count xs
drop_take_rest (suc t) zero xs h = absurd (omega arith)
drop_take_rest (suc t) (suc count) [] h = refl
drop_take_rest (suc t) (suc count) (x ∷ xs) h = drop_take_rest t count xs (omega arith)

-- to write back what is there behind what was written changes nothing
overwritten_rest : (from count : ℕ) (taken old : List ℕ) → length taken ≤ count → from + count ≤ length old
    → overwritten from (taken ++ drop (length taken) (take count (drop from old))) old ≡ overwritten from taken old
overwritten_rest from count taken old few room =
    let t : ℕ = length taken in
    let rest : List ℕ = drop t (take count (drop from old)) in
    let size : length (taken ++ rest) ≡ count =
    omega (
      arith,
      length-append taken rest,
      length-drop t (take count (drop from old)),
      length-take count (drop from old),
      length-drop from old,
    ) in
    let behind : drop (from + length (taken ++ rest)) old ≡ drop count (drop from old) =
    ap (λ n. drop (from + n) old) size ∙ sym (drop-drop count from old) in
    let all : rest ++ drop count (drop from old) ≡ drop (from + t) old = drop_take_rest t count (drop from old) few
    ∙ drop-drop t from old in
    ap (λ ys. (take from old ++ (taken ++ rest)) ++ ys) behind
    ∙ ap (λ xs. xs ++ drop count (drop from old)) (sym (append_assoc (take from old) taken rest))
    ∙ append_assoc (take from old ++ taken) rest (drop count (drop from old))
    ∙ ap (λ ys. (take from old ++ taken) ++ ys) all

pub filled_segments : (got address count place : ℕ) (d : Segment) (segments : List Segment) (now : List ℕ)
    (ended at_end : Bool) (r0 r1 : Option (List ℕ)) → position (serves Write address count) segments ≡ Some place
    → got ≤ count → FilledBytes got (address - (get_or segments place d).at)
    (get_or segments place d).bytes now ended at_end r0 r1
    → FilledSegments got address count segments
    (set segments place (record (get_or segments place d) { bytes = now })) ended at_end r0 r1
filled_segments got address count place d segments now ended at_end r0 r1 is few f =
    let s : Segment = get_or segments place d in
    let from : ℕ = address - s.at in
    let buffer : List ℕ = part address count s in
    let whole : List ℕ = f.taken ++ drop got buffer in
    let at : (s.at ≤ address) × (address + count ≤ s.at + length s.bytes) =
    covered address count s (served Write address count d segments place is) in
    let few_taken : length f.taken ≤ count = omega (arith, f.so_many) in
    let room : from + count ≤ length s.bytes = omega (arith, at.0, at.1) in
    let size : length buffer ≡ count = omega
    (arith, length-take count (drop from s.bytes), length-drop from s.bytes, room) in
    let whole_size : length whole ≡ count =
    omega (arith, length-append f.taken (drop got buffer), length-drop got buffer, size, f.so_many, few) in
    let same_place : position (serves Write address (length whole)) segments ≡ Some place =
    ap (λ n. position (serves Write address n) segments) whole_size ∙ is in
    let same_bytes : overwritten from whole s.bytes ≡ now =
    ap (λ n. overwritten from (f.taken ++ drop n buffer) s.bytes) (sym f.so_many)
    ∙ overwritten_rest from count f.taken s.bytes few_taken room ∙ sym f.bytes in
    record {
      taken = f.taken;
      so_many = f.so_many;
      buffer = buffer;
      there = bytes_at_some Write address count d segments place is;
      size = size;
      written = with_bytes_at_some Write address whole d segments place same_place
          ∙ ap (λ bytes. Some (set segments place (record s { bytes = bytes }))) same_bytes;
      takes = f.takes;
    }

-- the same of a segment that differs in its bytes alone
pub segment_filled : (got address count place : ℕ) (d new : Segment) (segments : List Segment) (ended at_end : Bool)
    (r0 r1 : Option (List ℕ)) → position (serves Write address count) segments ≡ Some place
    → new ≡ record (get_or segments place d) { bytes = new.bytes } → got ≤ count
    → FilledBytes got (address - (get_or segments place d).at)
    (get_or segments place d).bytes new.bytes ended at_end r0 r1
    → FilledSegments got address count segments (set segments place new) ended at_end r0 r1
segment_filled got address count place d new segments ended at_end r0 r1 is others few f =
    subst (λ s. FilledSegments got address count segments (set segments place s) ended at_end r0 r1) (sym others)
    (filled_segments got address count place d segments new.bytes ended at_end r0 r1 is few f)

pub filled_is : (taken more buffer : List ℕ) → length taken ≤ length buffer
    → (length taken ≡ length buffer) ⊎ (more ≡ []) → filled (taken ++ more) buffer ≡ taken ++ drop (length taken) buffer
filled_is taken more buffer few (inl all) =
    let first : take (length buffer) (taken ++ more) ≡ taken = ap (λ n. take n (taken ++ more)) (sym all)
    ∙ take-append_seam taken more in
    let none : drop (length (taken ++ more)) buffer ≡ [] =
    drop_of_length-le buffer (omega (arith, length-append taken more)) in
    let none' : drop (length taken) buffer ≡ [] = drop_of_length-le buffer (omega arith) in
    ap (λ xs. xs ++ drop (length (taken ++ more)) buffer) first ∙ ap (λ ys. taken ++ ys) (none ∙ sym none')
filled_is taken more buffer few (inr end) =
    let same : taken ++ more ≡ taken = ap (λ ys. taken ++ ys) end ∙ append-nil taken in
    let first : take (length buffer) taken ≡ taken = grind (arith, common_steps) in
    ap (λ xs. filled xs buffer) same ∙ ap (λ xs. xs ++ drop (length taken) buffer) first

pub min_is : (taken more : List ℕ) (n : ℕ) → length taken ≤ n → (length taken ≡ n) ⊎ (more ≡ [])
    → min n (length (taken ++ more)) ≡ length taken
min_is taken more n few (inl all) = omega (arith, length-append taken more)
min_is taken more n few (inr end) = omega (arith, ap (λ ys. length (taken ++ ys)) end ∙ ap length (append-nil taken))
