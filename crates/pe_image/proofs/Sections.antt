-- Headers of sections, one behind another.
use Rattle.std.proofs.Common.{◌≡◌, ◌∙◌, ℕ, zero, suc, ◌+◌, ◌*◌, ◌<◌, ◌≤◌, Bool, true, false, cond, ◌&&◌, ◌-◌, nat_le}
use Rattle.std.proofs.Common.{nat_lt, List, [], ◌∷◌, length, find, Option, Some, None, slice_index_or, ap, refl, sym}
use Rattle.std.proofs.Common.{arith}
use Rattle.std.specs.Option.{option_map}
use Rattle.std.proofs.lemmas.Bool.{leb-true, ltb-true}
use Rattle.std.proofs.lemmas.List.Elements.{All-cons, All-nil}
use Rattle.pe_image.specs.Conditions.{first_fault, fits}
use Rattle.pe_image.specs.Sections.{section_at, sections_at, headers_fit, parts_fit, holds, place_in, place_of}
use Rattle.pe_image.specs.Sections.{IsWhole, section_of}
use Rattle.pe_image.specs.Sections.{ArePartsWhole}
use Rattle.pe_image.specs.declared.fault.PeFault.TheVariants.{Cut}
use Rattle.pe_image.specs.declared.section.Section.{Section}
use Rattle.pe_image.proofs.Conditions.{first_held}

pub headers_on : (file : List ℕ) (n m at at' : ℕ) → n ≡ suc m → at' ≡ at + 40
    → first_fault (headers_fit file n at) ≡ cond (fits file at 40) (first_fault (headers_fit file m at'))
    (Some (Cut at))
headers_on file n m at at' e e' =
    ap (λ k. first_fault (headers_fit file k at)) e
    ∙ ap (λ x. cond (fits file at 40) (first_fault (headers_fit file m x)) (Some (Cut at))) (sym e')

pub headers_whole : (file : List ℕ) (count at : ℕ) → first_fault (headers_fit file count at) ≡ None
    → IsWhole file count at
headers_whole file zero at h = λ some. absurd (omega (arith, some))
headers_whole file (suc count) at h = λ some.
    let both = first_held (fits file at 40) (Cut at) (first_fault (headers_fit file count (at + 40))) h in
    let here : at + 40 ≤ length file = leb-true _ _ both.0 in
    let rest : 0 < count → (at + 40) + 40 * count ≤ length file = headers_whole file count (at + 40) both.1 in
    grind (arith, here, rest)

pub parts_on : (file : List ℕ) (n m at at' : ℕ) → n ≡ suc m → at' ≡ at + 40
    → first_fault (parts_fit file (sections_at file n at)) ≡ cond
    (fits file (section_at file at).pointer (section_at file at).size)
    (first_fault (parts_fit file (sections_at file m at'))) (Some (Cut (section_at file at).pointer))
parts_on file n m at at' e e' =
    ap (λ k. first_fault (parts_fit file (sections_at file k at))) e
    ∙ ap (λ x. cond (fits file (section_at file at).pointer (section_at file at).size)
    (first_fault (parts_fit file (sections_at file m x))) (Some (Cut (section_at file at).pointer))) (sym e')

pub parts_whole : (file : List ℕ) (sections : List Section) → first_fault (parts_fit file sections) ≡ None
    → ArePartsWhole file sections
parts_whole file [] h = All-nil _
parts_whole file (s ∷ sections) h =
    let both = first_held (fits file s.pointer s.size) (Cut s.pointer) (first_fault (parts_fit file sections)) h in
    All-cons (λ s. s.pointer + s.size ≤ length file) s sections (leb-true _ _ both.0) (parts_whole file sections both.1)

mapped : (b : Bool) (rva : ℕ) (s : Section) (o : Option Section)
    → option_map (place_in rva) (cond b (Some s) o) ≡ cond b (Some (place_in rva s)) (option_map (place_in rva) o)
mapped true rva s o = refl
mapped false rva s o = refl

pub place_on : (file : List ℕ) (rva n m at at' : ℕ) → n ≡ suc m → at' ≡ at + 40
    → place_of (sections_at file n at) rva ≡ cond (holds rva (section_at file at))
    (Some (place_in rva (section_at file at))) (place_of (sections_at file m at') rva)
place_on file rva n m at at' e e' =
    ap (λ k. place_of (sections_at file k at) rva) e
    ∙ (mapped (holds rva (section_at file at)) rva (section_at file at)
    (find (holds rva) (sections_at file m (at + 40)))
    ∙ ap (λ x. cond (holds rva (section_at file at)) (Some (place_in rva (section_at file at)))
    (place_of (sections_at file m x) rva)) (sym e'))

-- the section of a number
pub section_is : (file : List ℕ) (count at index : ℕ) (d : Section) → index < count
    → slice_index_or (sections_at file count at) index d ≡ section_at file (at + 40 * index)
section_is file zero at index d h = absurd (omega (arith, h))
section_is file (suc count) at zero d h = ap (section_at file) (let e : at ≡ at + 40 * 0 = omega arith in e)
section_is file (suc count) at (suc index) d h =
    section_is file count (at + 40) index d (omega (arith, h))
    ∙ ap (section_at file) (let e : at + 40 + 40 * index ≡ at + 40 * suc index = omega arith in e)

pub sections_length : (file : List ℕ) (count at : ℕ) → length (sections_at file count at) ≡ count
sections_length file zero at = refl
sections_length file (suc count) at = ap suc (sections_length file count (at + 40))

right_true : (a b : Bool) → (a && b) ≡ true → b ≡ true
right_true true b h = h
right_true false b h = cc

-- from an address on a section has no more bytes than the file
pub within_section : (size rva : ℕ) (s : Section) → holds rva s ≡ true → s.pointer + s.size ≤ size
    → s.pointer + (rva - s.address) + (s.size - (rva - s.address)) ≤ size
within_section size rva s h fits =
    let inside : rva < s.address + s.size = ltb-true _ _
    (right_true (nat_le s.address rva) (nat_lt rva (s.address + s.size)) h) in
    omega (arith, inside, fits)

-- the number of the section that holds an address, behind so many that don't
abbrev pub numbered : ℕ → Option ℕ → Option ℕ
numbered index o = option_map (λ number. number + index) o

numbered-zero : (o : Option ℕ) → o ≡ numbered 0 o
numbered-zero None = refl
numbered-zero (Some n) = ap Some (let e : n ≡ n + 0 = omega arith in e)

-- behind none
pub section_start : (file : List ℕ) (rva n m at at' : ℕ) → n ≡ m → at ≡ at'
    → section_of (sections_at file n at) rva ≡ numbered 0 (section_of (sections_at file m at') rva)
section_start file rva n m at at' e e' =
    numbered-zero (section_of (sections_at file n at) rva)
    ∙ ap (λ k. numbered 0 (section_of (sections_at file k at) rva)) e
    ∙ ap (λ x. numbered 0 (section_of (sections_at file m x) rva)) e'

numbered-next : (index : ℕ) (o : Option ℕ)
    → numbered index (option_map (λ number. number + 1) o) ≡ numbered (index + 1) o
numbered-next index None = refl
numbered-next index (Some n) = ap Some (let e : n + 1 + index ≡ n + (index + 1) = omega arith in e)

-- one that doesn't hold it
pub section_on : (file : List ℕ) (rva n m at at' index : ℕ) → n ≡ suc m → at' ≡ at + 40
    → holds rva (section_at file at) ≡ false
    → numbered index (section_of (sections_at file n at) rva)
    ≡ numbered (index + 1) (section_of (sections_at file m at') rva)
section_on file rva n m at at' index e e' h =
    ap (λ k. numbered index (section_of (sections_at file k at) rva)) e
    ∙ ap (λ b. numbered index (cond b (Some 0)
    (option_map (λ number. number + 1) (section_of (sections_at file m (at + 40)) rva)))) h
    ∙ numbered-next index (section_of (sections_at file m (at + 40)) rva)
    ∙ ap (λ x. numbered (index + 1) (section_of (sections_at file m x) rva)) (sym e')

-- one that does
pub section_found : (file : List ℕ) (rva n m at index : ℕ) → n ≡ suc m → holds rva (section_at file at) ≡ true
    → numbered index (section_of (sections_at file n at) rva) ≡ Some index
section_found file rva n m at index e h =
    ap (λ k. numbered index (section_of (sections_at file k at) rva)) e
    ∙ ap (λ b. numbered index (cond b (Some 0)
    (option_map (λ number. number + 1) (section_of (sections_at file m (at + 40)) rva)))) h
    ∙ ap Some (let z : 0 + index ≡ index = omega arith in z)

pub section_none : (file : List ℕ) (rva n at index : ℕ) → n ≡ 0
    → numbered index (section_of (sections_at file n at) rva) ≡ None
section_none file rva n at index e = ap (λ k. numbered index (section_of (sections_at file k at) rva)) e
