-- A body has the same length whatever stands behind it.
use Rattle.std.proofs.Common.{◌≡◌, ◌∙◌, ℕ, zero, suc, ◌+◌, ◌/◌, ◌%◌, ◌<◌, ◌≤◌, ◌==◌, ◌&&◌, Bool, true, false, cond}
use Rattle.std.proofs.Common.{nat_le, nat_lt, max, List, [], ◌∷◌, ◌++◌, length, take, drop, slice_index, ap, refl}
use Rattle.std.proofs.Common.{Option, Some, None, option_and_then, option_map, arith, length-append, length-drop}
use Rattle.std.proofs.lemmas.Bool.{and_parts, and_from, leb-true, le-leb, ltb-false, le-ltb}
use Rattle.std.proofs.lemmas.List.{get_or_append_left, drop-append-le, take_at}
use Rattle.byteorder.specs.Endian.{little_number}
use Rattle.byteorder.specs.Numbers.{little_from-append}
use Rattle.il_code.specs.declared.header.Header.{Header}
use Rattle.il_code.specs.Headers.{number_at, is_fat, tiny_header, fat_header, header_of, code_end, aligned}
use Rattle.il_code.specs.Headers.{has_more, section_end, sections_end, body_end}
use Rattle.il_code.specs.Headers.{body_length}
use Rattle.md_tables.specs.Finished.{whole_body}

none≢some : {A : Type 0} (x : A) → None ≡ Some x → ⊥
none≢some x e = cc

-- ---- what stands in the body

byte_same : (body rest : List ℕ) (at : ℕ) → at < length body → slice_index (body ++ rest) at ≡ slice_index body at
byte_same body rest at within = get_or_append_left body rest 0 at within

number_same : (body rest : List ℕ) (size at : ℕ) → at + size ≤ length body
    → number_at (body ++ rest) size at ≡ number_at body size at
number_same body rest size at within =
    ap (little_number size) (drop-append-le at body rest (omega (arith, within)))
    ∙ little_from-append size (drop at body) rest (omega (arith, within, length-drop at body))

-- ---- headers

fat_same : (body rest : List ℕ) → 12 ≤ length body → fat_header (body ++ rest) ≡ fat_header body
fat_same body rest long =
    let stack = number_same body rest 2 2 (omega (arith, long)) in
    let locals = number_same body rest 4 8 (omega (arith, long)) in
    let size = number_same body rest 4 4 (omega (arith, long)) in
    let flags = byte_same body rest 0 (omega (arith, long)) in
    λ j. record {
      max_stack = stack j;
      locals = locals j;
      code_at = 12;
      code_size = size j;
      has_sections = flags j / 8 % 2 == 1;
    }

fat_stays : (body rest : List ℕ) (header : Header) (b : Bool) → is_fat body ≡ b
    → cond b (Some (fat_header body)) None ≡ Some header
    → cond (is_fat (body ++ rest)) (Some (fat_header (body ++ rest))) None ≡ Some header
fat_stays body rest header false e h = absurd (none≢some header h)
fat_stays body rest header true e h =
    let one = and_parts (slice_index body 0 % 4 == 3) (nat_le 12 (length body) && slice_index body 1 / 16 == 3) e in
    let two = and_parts (nat_le 12 (length body)) (slice_index body 1 / 16 == 3) one.1 in
    let long : 12 ≤ length body = leb-true 12 (length body) two.0 in
    let size : length (body ++ rest) ≡ length body + length rest = length-append body rest in
    let still : is_fat (body ++ rest) ≡ true =
    and_from (slice_index (body ++ rest) 0 % 4 == 3)
    (nat_le 12 (length (body ++ rest)) && slice_index (body ++ rest) 1 / 16 == 3)
    (ap (λ n. n % 4 == 3) (byte_same body rest 0 (omega (arith, long))) ∙ one.0)
    (and_from (nat_le 12 (length (body ++ rest))) (slice_index (body ++ rest) 1 / 16 == 3)
    (le-leb 12 (length (body ++ rest)) (omega (arith, long, size)))
    (ap (λ n. n / 16 == 3) (byte_same body rest 1 (omega (arith, long))) ∙ two.1)) in
    ap (λ c. cond c (Some (fat_header (body ++ rest))) None) still ∙ (ap Some (fat_same body rest long) ∙ h)

header_stays : (body rest : List ℕ) (header : Header) → header_of body ≡ Some header
    → header_of (body ++ rest) ≡ Some header
header_stays [] rest header h = absurd (none≢some header h)
header_stays (byte ∷ body) rest header h = by (byte % 4 == 2) h
  where
    by : (b : Bool)
        → cond b (Some (tiny_header (byte ∷ body))) (cond (is_fat (byte ∷ body)) (Some (fat_header (byte ∷ body))) None)
        ≡ Some header
        → cond b (Some (tiny_header (byte ∷ (body ++ rest))))
        (cond (is_fat (byte ∷ (body ++ rest))) (Some (fat_header (byte ∷ (body ++ rest)))) None)
        ≡ Some header
    by true h = h
    by false h = fat_stays (byte ∷ body) rest header (is_fat (byte ∷ body)) refl h

-- ---- sections

section_same : (body rest : List ℕ) (at : ℕ) → at + 4 ≤ length body
    → section_end (body ++ rest) at ≡ section_end body at
section_same body rest at within =
    let kind = byte_same body rest at (omega (arith, within)) in
    let small = byte_same body rest (at + 1) (omega (arith, within)) in
    let large = number_same body rest 3 (at + 1) (omega (arith, within)) in
    λ j. at + max (cond (kind j / 0x40 % 2 == 1) (large j) (small j)) 4

last_by : (more : Bool) (old new : Option ℕ) (here end : ℕ) → cond more old (Some here) ≡ Some end
    → (old ≡ Some end → new ≡ Some end) → cond more new (Some here) ≡ Some end
last_by true old new here end h behind = behind h
last_by false old new here end h behind = h

sections_stay : (body rest : List ℕ) (most other at end : ℕ) → most ≤ other → sections_end most body at ≡ Some end
    → sections_end other (body ++ rest) at ≡ Some end
sections_stay body rest zero other at end few h = absurd (none≢some end h)
sections_stay body rest (suc most) zero at end few h = absurd (omega (arith, few))
sections_stay body rest (suc most) (suc other) at end few h =
    by (nat_lt (length body) (section_end body at)) refl h
    (λ next h. sections_stay body rest most other next end (omega (arith, few)) h)
  where
    by : (b : Bool) → nat_lt (length body) (section_end body at) ≡ b
        → cond b None (cond (has_more body at) (sections_end most body (aligned (section_end body at)))
        (Some (section_end body at)))
        ≡ Some end
        → ((next : ℕ) → sections_end most body next ≡ Some end → sections_end other (body ++ rest) next ≡ Some end)
        → sections_end (suc other) (body ++ rest) at ≡ Some end
    by true e h behind = absurd (none≢some end h)
    by false e h behind =
        let fits : section_end body at ≤ length body = ltb-false (length body) (section_end body at) e in
        let within : at + 4 ≤ length body = omega (arith, fits) in
        let same = section_same body rest at within in
        let size : length (body ++ rest) ≡ length body + length rest = length-append body rest in
        let whole : nat_lt (length (body ++ rest)) (section_end (body ++ rest) at) ≡ false =
        le-ltb (length (body ++ rest)) (section_end (body ++ rest) at) (omega (arith, fits, size, same)) in
        let flag : has_more (body ++ rest) at ≡ has_more body at =
        ap (nat_le 0x80) (byte_same body rest at (omega (arith, within))) in
        ap (λ c. cond c None (cond (has_more (body ++ rest) at)
        (sections_end other (body ++ rest) (aligned (section_end (body ++ rest) at)))
        (Some (section_end (body ++ rest) at)))) whole
        ∙ (ap (λ n. cond (has_more (body ++ rest) at) (sections_end other (body ++ rest) (aligned n)) (Some n)) same
        ∙ (ap (λ c. cond c (sections_end other (body ++ rest) (aligned (section_end body at)))
        (Some (section_end body at))) flag
        ∙ last_by (has_more body at) (sections_end most body (aligned (section_end body at)))
        (sections_end other (body ++ rest) (aligned (section_end body at))) (section_end body at) end h
        (behind (aligned (section_end body at)))))

-- ---- bodies

end_stays : (body rest : List ℕ) (header : Header) (end : ℕ) → body_end body header ≡ Some end
    → body_end (body ++ rest) header ≡ Some end
end_stays body rest header end h = by (nat_lt (length body) (code_end header)) refl h
  where
    size : length (body ++ rest) ≡ length body + length rest
    size = length-append body rest

    sections : (b : Bool)
        → cond b (sections_end (length body) body (aligned (code_end header))) (Some (code_end header)) ≡ Some end
        → cond b (sections_end (length (body ++ rest)) (body ++ rest) (aligned (code_end header)))
        (Some (code_end header))
        ≡ Some end
    sections true h =
        sections_stay body rest (length body) (length (body ++ rest)) (aligned (code_end header)) end
        (omega (arith, size)) h
    sections false h = h

    by : (b : Bool) → nat_lt (length body) (code_end header) ≡ b
        → cond b None (cond header.has_sections (sections_end (length body) body (aligned (code_end header)))
        (Some (code_end header)))
        ≡ Some end
        → body_end (body ++ rest) header ≡ Some end
    by true e h = absurd (none≢some end h)
    by false e h =
        let fits : code_end header ≤ length body = ltb-false (length body) (code_end header) e in
        let whole : nat_lt (length (body ++ rest)) (code_end header) ≡ false =
        le-ltb (length (body ++ rest)) (code_end header) (omega (arith, fits, size)) in
        ap (λ c. cond c None (cond header.has_sections
        (sections_end (length (body ++ rest)) (body ++ rest) (aligned (code_end header)))
        (Some (code_end header)))) whole
        ∙ sections header.has_sections h

length_stays : (body rest : List ℕ) (size : ℕ) → body_length body ≡ Some size
    → body_length (body ++ rest) ≡ Some size
length_stays body rest size h = by (header_of body) refl h
  where
    by : (found : Option Header) → header_of body ≡ found → option_and_then (body_end body) found ≡ Some size
        → body_length (body ++ rest) ≡ Some size
    by None e h = absurd (none≢some size h)
    by (Some header) e h =
        ap (option_and_then (body_end (body ++ rest))) (header_stays body rest header e)
        ∙ end_stays body rest header size h

-- a body is the whole body at the front of what begins with it
pub body_read : (body rest : List ℕ) → body_length body ≡ Some (length body) → whole_body (body ++ rest) ≡ Some body
body_read body rest h =
    ap (option_map (λ n. take n (body ++ rest))) (length_stays body rest (length body) h)
    ∙ ap Some (take_at body rest (length body) refl)

-- there is no empty body
pub body_some : (body : List ℕ) → body_length body ≡ Some (length body) → 0 < length body
body_some [] h = absurd (none≢some 0 h)
body_some (byte ∷ body) h = omega arith
