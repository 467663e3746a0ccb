-- A body is whole in its own bytes.
use Rattle.std.proofs.Common.{◌≡◌, ◌∙◌, ℕ, zero, suc, ◌+◌, ◌*◌, ◌/◌, ◌%◌, ◌<◌, ◌≤◌, Bool, true, false, cond, ◌&&◌}
use Rattle.std.proofs.Common.{◌==◌, nat_le, nat_lt, max, List, length, take, drop, get_or, Option, Some, None}
use Rattle.std.proofs.Common.{ap, refl, sym, arith}
use Rattle.std.specs.Option.{option_and_then}
use Rattle.std.proofs.lemmas.Bool.{true≢false, false≢true, ltb-false, le-ltb, le-leb}
use Rattle.std.proofs.lemmas.List.{length-take-le, get_or-take, get_or-drop}
use Rattle.il_code.specs.declared.header.Header.{Header}
use Rattle.il_code.specs.Headers.{number_at, is_tiny, is_fat, tiny_header, fat_header, code_end, aligned}
use Rattle.il_code.specs.Headers.{is_fat_section, has_more, section_size, section_end, sections_end, body_end}
use Rattle.il_code.specs.Headers.{body_length}

-- the bytes in front of a place are those of the part in front of it
same : (bytes : List ℕ) (n i : ℕ) → i < n → get_or (take n bytes) i 0 ≡ get_or bytes i 0
same bytes n i h = get_or-take n bytes i 0 h

at_drop : (bytes : List ℕ) (n at i : ℕ) → at + i < n → get_or (drop at (take n bytes)) i 0 ≡ get_or (drop at bytes) i 0
at_drop bytes n at i h =
    get_or-drop at (take n bytes) i 0 ∙ same bytes n (at + i) h ∙ sym (get_or-drop at bytes i 0)

number_2 : (bytes : List ℕ) (n at : ℕ) → at + 2 ≤ n → number_at (take n bytes) 2 at ≡ number_at bytes 2 at
number_2 bytes n at h =
    ap (λ b. b + 256 * (get_or (drop at (take n bytes)) 1 0 + 256 * 0)) (at_drop bytes n at 0 (omega (arith, h)))
    ∙ ap (λ b. get_or (drop at bytes) 0 0 + 256 * (b + 256 * 0)) (at_drop bytes n at 1 (omega (arith, h)))

number_3 : (bytes : List ℕ) (n at : ℕ) → at + 3 ≤ n → number_at (take n bytes) 3 at ≡ number_at bytes 3 at
number_3 bytes n at h =
    let cut : List ℕ = drop at (take n bytes) in
    let all : List ℕ = drop at bytes in
    ap (λ b. b + 256 * (get_or cut 1 0 + 256 * (get_or cut 2 0 + 256 * 0))) (at_drop bytes n at 0 (omega (arith, h)))
    ∙ ap (λ b. get_or all 0 0 + 256 * (b + 256 * (get_or cut 2 0 + 256 * 0))) (at_drop bytes n at 1 (omega (arith, h)))
    ∙ ap (λ b. get_or all 0 0 + 256 * (get_or all 1 0 + 256 * (b + 256 * 0))) (at_drop bytes n at 2 (omega (arith, h)))

number_4 : (bytes : List ℕ) (n at : ℕ) → at + 4 ≤ n → number_at (take n bytes) 4 at ≡ number_at bytes 4 at
number_4 bytes n at h =
    let cut : List ℕ = drop at (take n bytes) in
    let all : List ℕ = drop at bytes in
    ap (λ b. b + 256 * (get_or cut 1 0 + 256 * (get_or cut 2 0 + 256 * (get_or cut 3 0 + 256 * 0))))
    (at_drop bytes n at 0 (omega (arith, h)))
    ∙ ap (λ b. get_or all 0 0 + 256 * (b + 256 * (get_or cut 2 0 + 256 * (get_or cut 3 0 + 256 * 0))))
    (at_drop bytes n at 1 (omega (arith, h)))
    ∙ ap (λ b. get_or all 0 0 + 256 * (get_or all 1 0 + 256 * (b + 256 * (get_or cut 3 0 + 256 * 0))))
    (at_drop bytes n at 2 (omega (arith, h)))
    ∙ ap (λ b. get_or all 0 0 + 256 * (get_or all 1 0 + 256 * (get_or all 2 0 + 256 * (b + 256 * 0))))
    (at_drop bytes n at 3 (omega (arith, h)))

-- ---- sections

section_same : (bytes : List ℕ) (n at : ℕ) → at + 4 ≤ n → section_end (take n bytes) at ≡ section_end bytes at
section_same bytes n at h =
    let cut : List ℕ = take n bytes in
    ap (λ b. at + max (cond (b / 0x40 % 2 == 1) (number_at cut 3 (at + 1)) (get_or cut (at + 1) 0)) 4)
    (same bytes n at (omega (arith, h)))
    ∙ ap (λ k. at + max (cond (is_fat_section bytes at) k (get_or cut (at + 1) 0)) 4)
    (number_3 bytes n (at + 1) (omega (arith, h)))
    ∙ ap (λ k. at + max (cond (is_fat_section bytes at) (number_at bytes 3 (at + 1)) k) 4)
    (same bytes n (at + 1) (omega (arith, h)))

aligned_up : (at : ℕ) → at ≤ aligned at
aligned_up at = omega arith

max_up : (a b : ℕ) → b ≤ max a b
max_up a b = omega arith

-- what one section tells of where the last ends
record Ends (more : Bool) (end next : ℕ) (rest : Option ℕ) (n : ℕ) : Type 0 where
  here : more ≡ false → end ≡ n
  behind : more ≡ true → rest ≡ Some n

ends_by : (past more : Bool) (end next : ℕ) (rest : Option ℕ) (n : ℕ)
    → cond past None (cond more rest (Some end)) ≡ Some n → (past ≡ false) × Ends more end next rest n
ends_by true more end next rest n h = cc
ends_by false true end next rest n h = (refl, record { here = λ e. absurd (true≢false e); behind = λ e. h })
ends_by false false end next rest n h =
    let is : end ≡ n = cc in (refl, record { here = λ e. is; behind = λ e. absurd (false≢true e) })

-- the last section ends no earlier than the first
behind_by : (more : Bool) (end next : ℕ) (rest : Option ℕ) (n : ℕ) → Ends more end next rest n → end ≤ next
    → (rest ≡ Some n → next + 4 ≤ n) → end ≤ n
behind_by true end next rest n ends up h =
    let more : next + 4 ≤ n = h (ends.behind refl) in omega (arith, more, up)
behind_by false end next rest n ends up h = let is : end ≡ n = ends.here refl in omega (arith, is)

-- and at least four bytes behind where the first begins
ends_behind : (most : ℕ) (bytes : List ℕ) (at n : ℕ) → sections_end most bytes at ≡ Some n → at + 4 ≤ n
ends_behind zero bytes at n h = cc
ends_behind (suc most) bytes at n h =
    let end : ℕ = section_end bytes at in
    let is = ends_by (nat_lt (length bytes) end) (has_more bytes at) end (aligned end)
    (sections_end most bytes (aligned end)) n h in
    let far : 4 ≤ max (section_size bytes at) 4 = max_up (section_size bytes at) 4 in
    let behind : end ≤ n = behind_by (has_more bytes at) end (aligned end) (sections_end most bytes (aligned end)) n
    is.1
    (aligned_up end) (ends_behind most bytes (aligned end) n) in
    omega (arith, far, behind)

within_by : (more : Bool) (end next : ℕ) (rest : Option ℕ) (n size : ℕ) → Ends more end next rest n → end ≤ size
    → (rest ≡ Some n → n ≤ size) → n ≤ size
within_by true end next rest n size ends fits h = h (ends.behind refl)
within_by false end next rest n size ends fits h = let is : end ≡ n = ends.here refl in omega (arith, is, fits)

within : (most : ℕ) (bytes : List ℕ) (at n : ℕ) → sections_end most bytes at ≡ Some n → n ≤ length bytes
within zero bytes at n h = cc
within (suc most) bytes at n h =
    let end : ℕ = section_end bytes at in
    let is = ends_by (nat_lt (length bytes) end) (has_more bytes at) end (aligned end)
    (sections_end most bytes (aligned end)) n h in
    let fits : end ≤ length bytes = ltb-false _ _ is.0 in
    within_by (has_more bytes at) end (aligned end) (sections_end most bytes (aligned end)) n (length bytes) is.1 fits
    (within most bytes (aligned end) n)

-- the same sections end at the same place in the part up to there
end_by : (more : Bool) (end next : ℕ) (rest cut : Option ℕ) (n : ℕ) → Ends more end next rest n
    → (rest ≡ Some n → cut ≡ Some n) → cond more cut (Some end) ≡ Some n
end_by true end next rest cut n ends h = h (ends.behind refl)
end_by false end next rest cut n ends h = ap Some (ends.here refl)

sections_alone : (most fuel : ℕ) (bytes : List ℕ) (at n : ℕ) → sections_end most bytes at ≡ Some n → n ≤ at + fuel
    → sections_end fuel (take n bytes) at ≡ Some n
sections_alone zero fuel bytes at n h far = cc
sections_alone (suc most) zero bytes at n h far =
    let four : at + 4 ≤ n = ends_behind (suc most) bytes at n h in absurd (omega (arith, four, far))
sections_alone (suc most) (suc fuel) bytes at n h far =
    let cut : List ℕ = take n bytes in
    let end : ℕ = section_end bytes at in
    let next : ℕ = aligned end in
    let rest : Option ℕ = sections_end fuel cut next in
    let four : at + 4 ≤ n = ends_behind (suc most) bytes at n h in
    let is = ends_by (nat_lt (length bytes) end) (has_more bytes at) end next (sections_end most bytes next) n h in
    let size : length cut ≡ n = length-take-le n bytes (within (suc most) bytes at n h) in
    let behind : end ≤ n = behind_by (has_more bytes at) end next (sections_end most bytes next) n is.1
    (aligned_up end) (ends_behind most bytes next n) in
    let far_end : at + 4 ≤ end = omega (arith, max_up (section_size bytes at) 4) in
    let left : n ≤ next + fuel = omega (arith, far, far_end, aligned_up end) in
    ap (λ e. cond (nat_lt (length cut) e) None (cond (has_more cut at) (sections_end fuel cut (aligned e)) (Some e)))
    (section_same bytes n at four)
    ∙ ap (λ b. cond (nat_lt (length cut) end) None (cond (nat_le 0x80 b) rest (Some end)))
    (same bytes n at (omega (arith, four)))
    ∙ ap (λ b. cond b None (cond (has_more bytes at) rest (Some end))) (le-ltb _ _ (omega (arith, size, behind)))
    ∙ end_by (has_more bytes at) end next (sections_end most bytes next) rest n is.1
    (λ h. sections_alone most fuel bytes next n h left)

-- ---- headers

-- what a header tells of where its body ends
end_of : (past sections : Bool) (end : ℕ) (rest : Option ℕ) (n : ℕ)
    → cond past None (cond sections rest (Some end)) ≡ Some n → (past ≡ false) × Ends sections end end rest n
end_of past sections end rest n h = ends_by past sections end end rest n h

-- the body under a header ends at the same place in the part up to there
body_end_alone : (bytes : List ℕ) (header : Header) (n : ℕ) → body_end bytes header ≡ Some n
    → (code_end header ≤ n) × (n ≤ length bytes) × (body_end (take n bytes) header ≡ Some n)
body_end_alone bytes header n h =
    let cut : List ℕ = take n bytes in
    let end : ℕ = code_end header in
    let rest : Option ℕ = sections_end (length bytes) bytes (aligned end) in
    let is = end_of (nat_lt (length bytes) end) header.has_sections end rest n h in
    let fits : end ≤ length bytes = ltb-false _ _ is.0 in
    let behind : end ≤ n = behind_by header.has_sections end (aligned end) rest n
    (record { here = is.1.here; behind = is.1.behind }) (aligned_up end)
    (ends_behind (length bytes) bytes (aligned end) n) in
    let inside : n ≤ length bytes = within_by header.has_sections end (aligned end) rest n (length bytes)
    (record { here = is.1.here; behind = is.1.behind }) fits (within (length bytes) bytes (aligned end) n) in
    let size : length cut ≡ n = length-take-le n bytes inside in (
      behind,
      inside,
      ap (λ b. cond b None (cond header.has_sections (sections_end (length cut) cut (aligned end)) (Some end)))
          (le-ltb _ _ (omega (arith, size, behind)))
          ∙ end_by header.has_sections end end rest (sections_end (length cut) cut (aligned end)) n is.1
          (λ e. sections_alone (length bytes) (length cut) bytes (aligned end) n e (omega (arith, size))),
    )

tiny_same : (bytes : List ℕ) (n : ℕ) → 1 ≤ n → tiny_header (take n bytes) ≡ tiny_header bytes
tiny_same bytes n h =
    ap (λ (b : ℕ).
    let header : Header =
    record { max_stack = 8; locals = 0; code_at = 1; code_size = b / 4; has_sections = false } in header)
    (same bytes n 0 (omega (arith, h)))

abbrev fat : ℕ → ℕ → ℕ → ℕ → Header
fat stack locals size flags =
    record {
      max_stack = stack;
      locals = locals;
      code_at = 12;
      code_size = size;
      has_sections = flags / 8 % 2 == 1;
    }

fat_same : (bytes : List ℕ) (n : ℕ) → 12 ≤ n → fat_header (take n bytes) ≡ fat_header bytes
fat_same bytes n h =
    let cut : List ℕ = take n bytes in
    ap (λ x. fat x (number_at cut 4 8) (number_at cut 4 4) (get_or cut 0 0)) (number_2 bytes n 2 (omega (arith, h)))
    ∙ ap (λ x. fat (number_at bytes 2 2) x (number_at cut 4 4) (get_or cut 0 0)) (number_4 bytes n 8 (omega (arith, h)))
    ∙ ap (λ x. fat (number_at bytes 2 2) (number_at bytes 4 8) x (get_or cut 0 0))
    (number_4 bytes n 4 (omega (arith, h)))
    ∙ ap (λ x. fat (number_at bytes 2 2) (number_at bytes 4 8) (number_at bytes 4 4) x)
    (same bytes n 0 (omega (arith, h)))

is_tiny_same : (bytes : List ℕ) (n : ℕ) → 1 ≤ n → is_tiny (take n bytes) ≡ is_tiny bytes
is_tiny_same bytes n h = ap (λ b. b % 4 == 2) (same bytes n 0 (omega (arith, h)))

is_fat_same : (bytes : List ℕ) (n : ℕ) → 12 ≤ n → n ≤ length bytes → is_fat (take n bytes) ≡ is_fat bytes
is_fat_same bytes n h fits =
    let cut : List ℕ = take n bytes in
    let size : length cut ≡ n = length-take-le n bytes fits in
    ap (λ b. b % 4 == 3 && (nat_le 12 (length cut) && get_or cut 1 0 / 16 == 3)) (same bytes n 0 (omega (arith, h)))
    ∙ ap (λ b. get_or bytes 0 0 % 4 == 3 && (b && get_or cut 1 0 / 16 == 3))
    (le-leb 12 (length cut) (omega (arith, size, h)) ∙ sym (le-leb 12 (length bytes) (omega (arith, h, fits))))
    ∙ ap (λ b. get_or bytes 0 0 % 4 == 3 && (nat_le 12 (length bytes) && b / 16 == 3))
    (same bytes n 1 (omega (arith, h)))

abbrev header_fat : List ℕ → Option Header
header_fat bytes = cond (is_fat bytes) (Some (fat_header bytes)) None

-- the header of a whole body is that of the body alone
alone_by : (tiny wide : Bool) (bytes : List ℕ) (n : ℕ) → is_tiny bytes ≡ tiny → is_fat bytes ≡ wide
    → option_and_then (body_end bytes) (cond tiny (Some (tiny_header bytes)) (cond wide (Some (fat_header bytes)) None))
    ≡ Some n → (n ≤ length bytes) × (body_length (take n bytes) ≡ Some n)
alone_by true wide bytes n t f h =
    let end = body_end_alone bytes (tiny_header bytes) n h in
    let some : 1 ≤ n = omega (arith, end.0) in (
      end.1,
      ap (λ b. option_and_then (body_end (take n bytes))
          (cond b (Some (tiny_header (take n bytes))) (header_fat (take n bytes)))) (is_tiny_same bytes n some ∙ t)
          ∙ ap (body_end (take n bytes)) (tiny_same bytes n some)
          ∙ end.2,
    )
alone_by false true bytes n t f h =
    let end = body_end_alone bytes (fat_header bytes) n h in
    let some : 12 ≤ n = omega (arith, end.0) in (
      end.1,
      ap (λ b. option_and_then (body_end (take n bytes))
          (cond b (Some (tiny_header (take n bytes))) (header_fat (take n bytes))))
          (is_tiny_same bytes n (omega (arith, some)) ∙ t)
          ∙ ap (λ b. option_and_then (body_end (take n bytes)) (cond b (Some (fat_header (take n bytes))) None))
          (is_fat_same bytes n some end.1 ∙ f)
          ∙ ap (body_end (take n bytes)) (fat_same bytes n some)
          ∙ end.2,
    )
alone_by false false bytes n t f h = cc

-- A whole body has as many bytes as it tells, and is a body alone.
pub alone : (bytes : List ℕ) (n : ℕ) → body_length bytes ≡ Some n
    → (n ≤ length bytes) × (body_length (take n bytes) ≡ Some n)
alone bytes n h = alone_by (is_tiny bytes) (is_fat bytes) bytes n refl refl h
