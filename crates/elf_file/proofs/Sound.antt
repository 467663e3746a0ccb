-- The segments that a file loads have no address in common, and don't wrap.
use Rattle.std.proofs.Common.{◌≡◌, ap, subst, refl, ℕ, zero, suc, ◌+◌, ◌^◌, ◌<◌, ◌≤◌, min, max, Bool, true, false, ◌&&◌}
use Rattle.std.proofs.Common.{not, List, [], ◌∷◌, ◌++◌, length, get_or, arith, cond, ◌⊎◌, inl, inr, length-append}
use Rattle.std.proofs.Common.{length-take, length-drop}
use Rattle.std.specs.Prelude.{Result, Ok, Err, ◌==◌, nat_lt}
use Rattle.std.specs.List.{list_any}
use Rattle.std.proofs.lemmas.List.{length-replicate}
use Rattle.std.proofs.lemmas.List.Elements.{All-push}
use Rattle.std.proofs.lemmas.List.Folds.{list_any_at}
use Rattle.std.proofs.lemmas.List.Quantifiers.{all_pairs_push}
use Rattle.std.proofs.lemmas.Bool.{leb-true, ltb-false}
use Rattle.rv_step.specs.declared.segment.Segment.{Segment}
use Rattle.rv_step.specs.Machine.{MachineState}
use Rattle.rv_step.specs.Segments.{AreDisjoint, DoesNotWrap, AreSegments}
use Rattle.elf_file.specs.declared.header.ProgramHeader.{ProgramHeader}
use Rattle.elf_file.specs.Elf.{and_then, number_at, has_elf_header, program_header, segment_of, overlaps, can_load}
use Rattle.elf_file.specs.Elf.{with_header, with_headers, machine_at, loaded}

-- which way a test went
chosen : {A : Type 0} (b : Bool) {x y z : A} → cond b x y ≡ z → ((b ≡ true) × (x ≡ z)) ⊎ ((b ≡ false) × (y ≡ z))
chosen true is = inl (refl, is)
chosen false is = inr (refl, is)

both_true : (a b : Bool) → (a && b) ≡ true → (a ≡ true) × (b ≡ true)
both_true true b is = (refl, is)
both_true false b is = cc

not_true : (b : Bool) → not b ≡ true → b ≡ false
not_true true is = cc
not_true false is = refl

then_ok : {A B E : Type 0} (f : A → Result B E) (r : Result A E) (y : B) → and_then f r ≡ Ok y
    → (x : A) × (r ≡ Ok x) × (f x ≡ Ok y)
then_ok f (Ok x) y is = (x, refl, is)
then_ok f (Err e) y is = cc

-- a test that fails of the whole list fails of each item
none : {X : Type 0} (p : X → Bool) (xs : List X) → list_any p xs ≡ false → (k : ℕ) (d : X) → k < length xs
    → p (get_or xs k d) ≡ false
none p xs is k d within =
    let answer : (b : Bool) → p (get_or xs k d) ≡ b
    → p (get_or xs k d) ≡ false = λ b e. elim b as
    (λ v. p (get_or xs k d) ≡ v → p (get_or xs k d)
    ≡ false) [ true ↦ λ yes. (let found = list_any_at p xs k d within yes in cc) | false ↦ λ no. no ] e in
    answer (p (get_or xs k d)) refl

apart : (address size : ℕ) (s t : Segment) → overlaps address size s ≡ false → t.at ≡ address → length t.bytes ≡ size
    → AreDisjoint s t
apart address size s t is at-is size-is = λ here in_s in_t. let meets =
    ltb-false (max address s.at) (min (address + size) (s.at + length s.bytes)) is in omega arith

length-segment : (file : List ℕ) (h : ProgramHeader) → h.offset + h.file_size ≤ length file
    → h.file_size ≤ h.memory_size → length (segment_of file h).bytes ≡ h.memory_size
length-segment file h in_file grows = simp (length-append, length-take, length-drop, length-replicate) (omega arith)

-- what a header's test says
record Loads (file : List ℕ) (earlier : List Segment) (h : ProgramHeader) : Type 0 where
  in_file : h.offset + h.file_size ≤ length file
  grows : h.file_size ≤ h.memory_size
  ends : h.address + h.memory_size ≤ 2 ^ 64
  free : list_any (overlaps h.address h.memory_size) earlier ≡ false

tested : (file : List ℕ) (earlier : List Segment) (h : ProgramHeader) → can_load file earlier h ≡ true
    → Loads file earlier h
tested file earlier h is =
    let last = both_true _ _ is in
    let fourth = both_true _ _ last.0 in
    let third = both_true _ _ fourth.0 in
    let second = both_true _ _ third.0 in
    record {
      in_file = leb-true (h.offset + h.file_size) (length file) second.0;
      grows = leb-true h.file_size h.memory_size second.1;
      ends = leb-true (h.address + h.memory_size) (2 ^ 64) fourth.1;
      free = not_true _ last.1;
    }

pushed : (file : List ℕ) (earlier : List Segment) (h : ProgramHeader) → AreSegments earlier → Loads file earlier h
    → AreSegments (earlier ++ segment_of file h ∷ [])
pushed file earlier h before loads =
    let size : length (segment_of file h).bytes ≡ h.memory_size = length-segment file h loads.in_file loads.grows in
    record {
      disjoint = all_pairs_push AreDisjoint earlier (segment_of file h) before.disjoint
          (λ k d within. apart h.address h.memory_size (get_or earlier k d) (segment_of file h)
          (none (overlaps h.address h.memory_size) earlier loads.free k d within) refl size);
      within = All-push DoesNotWrap earlier (segment_of file h) before.within (let ends = loads.ends in omega arith);
    }

with_header-sound : (file : List ℕ) (place : ℕ) (earlier segments : List Segment) → AreSegments earlier
    → with_header file place earlier ≡ Ok segments → AreSegments segments
with_header-sound file place earlier segments before is =
    let h : ProgramHeader = program_header file place in
    elim (chosen (nat_lt (length file) (place + 56)) is) [
      | inl cut ↦ absurd (let e = cut.1 in cc)
      | inr whole ↦ elim (chosen (not (h.kind == 1)) whole.1) [
        | inl other ↦ let same : earlier ≡ segments = let e = other.1 in cc in subst AreSegments same before
        | inr load ↦ elim (chosen (can_load file earlier h) load.1) [
          | inl can ↦ let same : earlier ++ segment_of file h ∷ [] ≡ segments = let e = can.1 in cc in
              subst AreSegments same (pushed file earlier h before (tested file earlier h can.0))
          | inr bad ↦ absurd (let e = bad.1 in cc)
        ]
      ]
    ]

pub with_headers-sound : (file : List ℕ) (count place : ℕ) (earlier segments : List Segment) → AreSegments earlier
    → with_headers file count place earlier ≡ Ok segments → AreSegments segments
with_headers-sound file zero place earlier segments before is = let same : earlier ≡ segments = cc in
    subst AreSegments same before
with_headers-sound file (suc count) place earlier segments before is =
    let step = then_ok (with_headers file count (place + 56)) (with_header file place earlier) segments is in
    with_headers-sound file count (place + 56) step.0 segments
    (with_header-sound file place earlier step.0 before step.1) step.2

pub no_segments : AreSegments []
no_segments = record {
  disjoint = λ i j d i_below j_below. absurd (let lt : j < 0 = j_below in omega arith);
  within = λ k d below. absurd (let lt : k < 0 = below in omega arith);
}

pub loaded-sound : (file : List ℕ) (machine : MachineState) → loaded file ≡ Ok machine → AreSegments machine.segments
loaded-sound file machine is = elim (chosen (has_elf_header file) is) [
  | inl good ↦ let step = then_ok (λ segments. Ok (machine_at (number_at file 8 24) segments))
      (with_headers file (number_at file 2 56) (number_at file 8 32) []) machine good.1 in
      let sound = with_headers-sound file (number_at file 2 56) (number_at file 8 32) [] step.0 no_segments step.1 in
      let same : step.0 ≡ machine.segments =
      ap (λ r. r.segments) (let e : machine_at (number_at file 8 24) step.0 ≡ machine = let is = step.2 in cc in
      e) in
      subst AreSegments same sound
  | inr bad ↦ absurd (let e = bad.1 in cc)
]
