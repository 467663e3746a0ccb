-- What was written loads.
use Rattle.std.proofs.Common.{◌≡◌, ◌∙◌, ap, refl, ℕ, ◌+◌, ◌-◌, ◌^◌, ◌<◌, ◌≤◌, min, max, true, false, ◌||◌, List, []}
use Rattle.std.proofs.Common.{◌∷◌, ◌++◌, length, take, drop, replicate, arith, append_assoc, length-append}
use Rattle.std.specs.Prelude.{Ok, ◌==◌, nat_lt}
use Rattle.std.specs.List.{list_any}
use Rattle.std.proofs.lemmas.List.{length-replicate, take-append-le, append-nil}
use Rattle.std.proofs.Math.Seq.{drop-append_seam, take-length}
use Rattle.std.proofs.lemmas.Bool.{le-leb, le-ltb}
use Rattle.byteorder.specs.Numbers.{little_number-reads_back}
use Rattle.rv_step.specs.declared.segment.Segment.{Segment}
use Rattle.elf_file.specs.declared.header.ProgramHeader.{ProgramHeader}
use Rattle.elf_file.specs.declared.layout.ElfLayout.{ElfLayout}
use Rattle.elf_file.specs.Elf.{number_at, has_elf_header, program_header, segment_of, overlaps, can_load, with_header}
use Rattle.elf_file.specs.Elf.{machine_at, loaded, base, up_to_page, elf_header, load_header, text_size, headers_of}
use Rattle.elf_file.specs.Elf.{file_of, text_segment, rest_segment, machine_of}

-- the header that load_header writes
abbrev load_fields : ℕ → ℕ → ℕ → ℕ → ProgramHeader
load_fields flags offset file_size memory_size =
    record {
      kind = 1;
      flags = flags;
      offset = offset;
      address = base + offset;
      file_size = file_size;
      memory_size = memory_size;
    }

reads_load : (flags offset file_size memory_size : ℕ) → flags < 2 ^ 32 → base + offset < 2 ^ 64 → file_size < 2 ^ 64
    → memory_size < 2 ^ 64 → program_header (load_header flags offset file_size memory_size) 0
    ≡ load_fields flags offset file_size memory_size
unfolding load_header
reads_load flags offset file_size memory_size flags_fit address_fits file_fits memory_fits =
    let offset_fits : offset < 2 ^ 64 = omega arith in
    let e1 = little_number-reads_back 4 flags [] flags_fit in
    let e2 = little_number-reads_back 8 offset [] offset_fits in
    let e3 = little_number-reads_back 8 (base + offset) [] address_fits in
    let e4 = little_number-reads_back 8 file_size [] file_fits in
    let e5 = little_number-reads_back 8 memory_size [] memory_fits in
    rw (e1, e2, e3, e4, e5) refl

pub length-headers : (layout : ElfLayout) → length (headers_of layout) ≡ 176
unfolding elf_header load_header
length-headers layout = refl

up_to_page-above : (n : ℕ) → n ≤ up_to_page n
up_to_page-above n = omega arith

up_to_page-near : (n : ℕ) → up_to_page n ≤ n + 4095
up_to_page-near n = omega arith

length-parts : (headers text rest : List ℕ) (padding : ℕ)
    → length (headers ++ text ++ replicate padding 0 ++ rest) ≡ length headers + length text + padding + length rest
length-parts headers text rest padding = simp (length-append, length-replicate)

long_enough : (layout : ElfLayout) → length (file_of layout) ≡ up_to_page (text_size layout) + length layout.rest
long_enough layout =
    let above = up_to_page-above (text_size layout) in
    omega (
      arith,
      length-headers layout,
      length-parts (headers_of layout) layout.text layout.rest (up_to_page (text_size layout) - text_size layout),
    )

has_header : (layout : ElfLayout) → has_elf_header (file_of layout) ≡ true
unfolding elf_header load_header
has_header layout =
    let long : 64 ≤ length (file_of layout) = let above = up_to_page-above (text_size layout) in
    omega (arith, long_enough layout) in
    rw (le-leb 64 (length (file_of layout)) long) refl

at_entry : (layout : ElfLayout) → layout.entry < 2 ^ 64 → number_at (file_of layout) 8 24 ≡ layout.entry
unfolding elf_header load_header
at_entry layout fits = little_number-reads_back 8 layout.entry [] fits

at_headers : (layout : ElfLayout) → number_at (file_of layout) 8 32 ≡ 64
unfolding elf_header load_header
at_headers layout = refl

at_count : (layout : ElfLayout) → number_at (file_of layout) 2 56 ≡ 2
unfolding elf_header load_header
at_count layout = refl

reads_text : (layout : ElfLayout) → text_size layout ≤ 536870912
    → program_header (file_of layout) 64 ≡ load_fields 5 0 (text_size layout) (text_size layout)
unfolding elf_header load_header
reads_text layout fits = reads_load 5 0 (text_size layout) (text_size layout) (omega arith) (omega arith) (omega arith)
    (omega arith)

reads_rest : (layout : ElfLayout) → text_size layout ≤ 536870912 → length layout.rest + layout.zeros ≤ 536870912
    → program_header (file_of layout) 120
    ≡ load_fields 6 (up_to_page (text_size layout)) (length layout.rest) (length layout.rest + layout.zeros)
unfolding elf_header load_header
reads_rest layout text_fits rest_fits =
    let near = up_to_page-near (text_size layout) in
    reads_load 6 (up_to_page (text_size layout)) (length layout.rest) (length layout.rest + layout.zeros) (omega arith)
    (omega arith) (omega arith) (omega arith)

-- a header that can be loaded adds its segment
adds : (file : List ℕ) (place : ℕ) (earlier : List Segment) → place + 56 ≤ length file
    → (number_at file 4 place == 1) ≡ true → can_load file earlier (program_header file place) ≡ true
    → with_header file place earlier ≡ Ok (earlier ++ segment_of file (program_header file place) ∷ [])
adds file place earlier fits kind can = rw (le-ltb (length file) (place + 56) fits, kind, can) refl

passes : (file : List ℕ) (earlier : List Segment) (h : ProgramHeader) → h.offset + h.file_size ≤ length file
    → h.file_size ≤ h.memory_size → h.memory_size ≤ 536870912 → h.address + h.memory_size ≤ 2 ^ 64
    → list_any (overlaps h.address h.memory_size) earlier ≡ false → can_load file earlier h ≡ true
passes file earlier h in_file grows small ends free =
    rw (
      le-leb (h.offset + h.file_size) (length file) in_file,
      le-leb h.file_size h.memory_size grows,
      le-leb h.memory_size 536870912 small,
      le-leb (h.address + h.memory_size) (2 ^ 64) ends,
      free,
    ) refl

-- the part of the file that stands at its front, with no zeros behind it
front : (xs ys zs : List ℕ) (n : ℕ) → n ≡ length xs → take n (drop 0 (xs ++ ys ++ zs)) ++ replicate (n - n) 0 ≡ xs
front xs ys zs n is =
    let none : n - n ≡ 0 = omega arith in
    let le : n ≤ length xs = omega arith in
    let taken : take n (xs ++ ys ++ zs) ≡ xs = ap (take n) (append_assoc xs ys zs) ∙ take-append-le n xs (ys ++ zs) le
    ∙ ap (λ k. take k xs) is ∙ take-length xs in
    ap (λ k. take n (xs ++ ys ++ zs) ++ replicate k 0) none ∙ append-nil (take n (xs ++ ys ++ zs)) ∙ taken

-- the part at its end, and zeros
back : (xs ys : List ℕ) (place size zeros : ℕ) → place ≡ length xs → size ≡ length ys
    → take size (drop place (xs ++ ys)) ++ replicate (size + zeros - size) 0 ≡ ys ++ replicate zeros 0
back xs ys place size zeros place-is size-is =
    let more : size + zeros - size ≡ zeros = omega arith in
    let dropped : drop place (xs ++ ys) ≡ ys = ap (λ k. drop k (xs ++ ys)) place-is ∙ drop-append_seam xs ys in
    let taken : take size (drop place (xs ++ ys)) ≡ ys = ap (take size) dropped ∙ ap (λ k. take k ys) size-is
    ∙ take-length ys in
    ap (λ k. take size (drop place (xs ++ ys)) ++ replicate k 0) more ∙ ap (λ zs. zs ++ replicate zeros 0) taken

length-text : (layout : ElfLayout) → text_size layout ≡ length (headers_of layout ++ layout.text)
length-text layout = omega (arith, length-headers layout, length-append (headers_of layout) layout.text)

-- the place of the rest in the file
length-before : (layout : ElfLayout) → up_to_page (text_size layout)
    ≡ length (headers_of layout ++ layout.text ++ replicate (up_to_page (text_size layout) - text_size layout) 0)
length-before layout =
    let above = up_to_page-above (text_size layout) in
    omega (
      arith,
      length-text layout,
      length-append (headers_of layout ++ layout.text)
          (replicate (up_to_page (text_size layout) - text_size layout) 0),
      length-replicate {A = ℕ} (up_to_page (text_size layout) - text_size layout) 0,
    )

text_is : (layout : ElfLayout) → segment_of (file_of layout) (load_fields 5 0 (text_size layout) (text_size layout))
    ≡ text_segment layout
text_is layout =
    let segment : List ℕ → Segment = λ bytes.
    record { at = base; bytes = bytes; read = true; write = false; execute = true } in
    ap segment (front (headers_of layout ++ layout.text)
    (replicate (up_to_page (text_size layout) - text_size layout) 0) layout.rest (text_size layout)
    (length-text layout))

rest_is : (layout : ElfLayout) → segment_of (file_of layout)
    (load_fields 6 (up_to_page (text_size layout)) (length layout.rest) (length layout.rest + layout.zeros))
    ≡ rest_segment layout
rest_is layout =
    let segment : List ℕ → Segment = λ bytes.
    record {
      at = base + up_to_page (text_size layout);
      bytes = bytes;
      read = true;
      write = true;
      execute = false;
    } in
    ap segment (back (headers_of layout ++ layout.text ++ replicate
    (up_to_page (text_size layout) - text_size layout) 0) layout.rest (up_to_page (text_size layout))
    (length layout.rest) layout.zeros (length-before layout) refl)

-- the two headers, in turn
adds_text : (layout : ElfLayout) → text_size layout ≤ 536870912
    → with_header (file_of layout) 64 [] ≡ Ok (text_segment layout ∷ [])
adds_text layout text_fits =
    let file : List ℕ = file_of layout in
    let above = up_to_page-above (text_size layout) in
    let size = long_enough layout in
    let is = reads_text layout text_fits in
    let can : can_load file [] (program_header file 64) ≡ true = ap (can_load file []) is
    ∙ passes file [] (load_fields 5 0 (text_size layout) (text_size layout)) (omega arith) (omega arith)
    (omega arith) (omega arith) refl in
    adds file 64 [] (omega arith) (ap (λ h. h.kind == 1) is) can
    ∙ ap (λ h. Ok (segment_of file h ∷ [])) is ∙ ap (λ s. Ok (s ∷ [])) (text_is layout)

-- no address of the second segment is one of the first
lies_apart : (at size end low : ℕ) → end ≤ at → nat_lt (max at low) (min (at + size) end) ≡ false
lies_apart at size end low h = le-ltb (max at low) (min (at + size) end) (omega arith)

adds_rest : (layout : ElfLayout) → text_size layout ≤ 536870912 → length layout.rest + layout.zeros ≤ 536870912
    → with_header (file_of layout) 120 (text_segment layout ∷ []) ≡ Ok (text_segment layout ∷ rest_segment layout ∷ [])
adds_rest layout text_fits rest_fits =
    let file : List ℕ = file_of layout in
    let page : ℕ = up_to_page (text_size layout) in
    let total : ℕ = length layout.rest + layout.zeros in
    let earlier : List Segment = text_segment layout ∷ [] in
    let above = up_to_page-above (text_size layout) in
    let near = up_to_page-near (text_size layout) in
    let size = long_enough layout in
    let text = length-text layout in
    let is = reads_rest layout text_fits rest_fits in
    let free : list_any (overlaps (base + page) total) earlier ≡ false =
    ap (λ b. b || false) (lies_apart (base + page) total (base + length (headers_of layout ++ layout.text)) base
    (omega arith)) in
    let can : can_load file earlier (program_header file 120) ≡ true = ap (can_load file earlier) is
    ∙ passes file earlier (load_fields 6 page (length layout.rest) total) (omega arith) (omega arith) (omega arith)
    (omega arith) free in
    adds file 120 earlier (omega arith) (ap (λ h. h.kind == 1) is) can
    ∙ ap (λ h. Ok (earlier ++ segment_of file h ∷ [])) is ∙ ap (λ s. Ok (earlier ++ s ∷ [])) (rest_is layout)

-- a file with two headers, each of which adds its segment
two_headers : (file : List ℕ) (entry : ℕ) (one two : List Segment) → has_elf_header file ≡ true
    → number_at file 8 24 ≡ entry → number_at file 2 56 ≡ 2 → number_at file 8 32 ≡ 64 → with_header file 64 [] ≡ Ok one
    → with_header file 120 one ≡ Ok two → loaded file ≡ Ok (machine_at entry two)
two_headers file entry one two header entry-is count start first second =
    rw (header, count, start, entry-is, first, second) refl

pub written_loads : (layout : ElfLayout) → layout.entry < 2 ^ 64 → text_size layout ≤ 536870912
    → length layout.rest + layout.zeros ≤ 536870912 → loaded (file_of layout) ≡ Ok (machine_of layout)
written_loads layout entry_fits text_fits rest_fits =
    two_headers (file_of layout) layout.entry (text_segment layout ∷ [])
    (text_segment layout ∷ rest_segment layout ∷ []) (has_header layout) (at_entry layout entry_fits)
    (at_count layout) (at_headers layout) (adds_text layout text_fits) (adds_rest layout text_fits rest_fits)
