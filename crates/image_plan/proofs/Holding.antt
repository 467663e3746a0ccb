-- The machine that the file of an image loads holds the image.
use Rattle.std.proofs.Common.{◌≡◌, ◌∙◌, ℕ, zero, suc, ◌+◌, ◌-◌, ◌<◌, ◌≤◌, ◌&&◌, Bool, true, false}
use Rattle.std.proofs.Common.{List, [], ◌∷◌, ◌++◌, length, replicate, Some, None}
use Rattle.std.proofs.Common.{slice_index, get_or, ap, sym, subst, arith, refl, length-append}
use Rattle.std.proofs.Common.{nat_le, nat_lt}
use Rattle.std.specs.List.{list_all}
use Rattle.std.proofs.lemmas.Bool.{and_from, and_right, le-leb, lt-leb, or_left, or_right}
use Rattle.std.proofs.lemmas.List.{length-replicate}
use Rattle.num_core.specs.declared.bounds.Bounds.{Bounds}
use Rattle.rv_step.specs.Machine.{MachineState, covers}
use Rattle.rv_step.specs.Memory.{Bytes, byte_in, is_allowed}
use Rattle.rv_step.specs.Segments.{AreDisjoint, AreSegments, DoesNotWrap}
use Rattle.rv_step.specs.declared.segment.Segment.{Segment}
use Rattle.rv_step.proofs.Addresses.{from_each, if_false, if_true, split}
use Rattle.elf_file.specs.Elf.{base, elf_header, headers_of, load_header, machine_of, rest_segment}
use Rattle.elf_file.specs.Elf.{text_segment, text_size as text_size_of, up_to_page}
use Rattle.elf_file.specs.declared.layout.ElfLayout.{ElfLayout}
use Rattle.image_plan.specs.Loaded.{HoldsImage}
use Rattle.image_plan.specs.Places.{address_of, code_at, front_at, routines, routines_at}
use Rattle.image_plan.specs.Places.{tables_at, tables_end, zeros}
use Rattle.image_plan.specs.Planned.{SegmentsFit, code_fixes_fit, is_placeable, layout_of, rest_size, table_fixes_fit}
use Rattle.image_plan.specs.Planned.{text_size, too_large}
use Rattle.image_plan.specs.Written.{Finds, code_bytes, front, routine_bytes, table_bytes}
use Rattle.image_plan.specs.declared.pieces.Pieces.{Pieces}
use Rattle.image_plan.proofs.Fitting.{segments_fit, text_is}
use Rattle.image_plan.proofs.Lengths.{behind_both, routines_length, tables_length}

-- ---- two segments

headers_length : (layout : ElfLayout) → length (headers_of layout) ≡ 176
unfolding elf_header load_header
headers_length layout = refl

up_above : (n : ℕ) → n ≤ up_to_page n
up_above n = omega arith

up_near : (n : ℕ) → up_to_page n ≤ n + 4095
up_near n = omega arith

-- how many bytes the first segment has, and the second
first_size : (layout : ElfLayout) → length (text_segment layout).bytes ≡ text_size_of layout
first_size layout =
    let all : length (headers_of layout ++ layout.text) ≡ length (headers_of layout) + length layout.text =
    length-append (headers_of layout) layout.text in
    omega (arith, all, headers_length layout)

second_size : (layout : ElfLayout) → length (rest_segment layout).bytes ≡ length layout.rest + layout.zeros
second_size layout =
    length-append layout.rest (replicate layout.zeros 0)
    ∙ ap (λ n. length layout.rest + n) (length-replicate layout.zeros 0)

two_apart : (s t : Segment) → AreDisjoint s t → (i j : ℕ) (d : Segment) → i < j → j < 2
    → AreDisjoint (get_or (s ∷ t ∷ []) i d) (get_or (s ∷ t ∷ []) j d)
two_apart s t apart zero zero d h h' = absurd (omega (arith, h))
two_apart s t apart zero (suc zero) d h h' = apart
two_apart s t apart zero (suc (suc j)) d h h' = absurd (omega (arith, h'))
two_apart s t apart (suc i) zero d h h' = absurd (omega (arith, h))
two_apart s t apart (suc i) (suc zero) d h h' = absurd (omega (arith, h))
two_apart s t apart (suc i) (suc (suc j)) d h h' = absurd (omega (arith, h'))

two_within : (s t : Segment) → DoesNotWrap s → DoesNotWrap t → (k : ℕ) (d : Segment) → k < 2
    → DoesNotWrap (get_or (s ∷ t ∷ []) k d)
two_within s t p q zero d h = p
two_within s t p q (suc zero) d h = q
two_within s t p q (suc (suc k)) d h = absurd (omega (arith, h))

pub are_segments : (layout : ElfLayout) → SegmentsFit layout → AreSegments (machine_of layout).segments
are_segments layout fits =
    let s : Segment = text_segment layout in
    let t : Segment = rest_segment layout in
    let text : text_size_of layout ≤ 536870912 = fits.text in
    let rest : length layout.rest + layout.zeros ≤ 536870912 = fits.rest in
    let above : text_size_of layout ≤ up_to_page (text_size_of layout) = up_above (text_size_of layout) in
    let close : up_to_page (text_size_of layout) ≤ text_size_of layout + 4095 = up_near (text_size_of layout) in
    let size : length s.bytes ≡ text_size_of layout = first_size layout in
    let size' : length t.bytes ≡ length layout.rest + layout.zeros = second_size layout in
    let apart : AreDisjoint s t = λ address p q.
    let end : address < s.at + length s.bytes = p.1 in
    let begin : t.at ≤ address = q.0 in
    omega (arith, end, begin, size, above) in
    let first : DoesNotWrap s = omega (arith, size, text) in
    let second : DoesNotWrap t = omega (arith, size', rest, close, text) in
    record { disjoint = two_apart s t apart; within = two_within s t first second }

-- ---- what stands in them

covers_by : (address count : ℕ) (s : Segment) → s.at ≤ address → address + count ≤ s.at + length s.bytes
    → covers address count s ≡ true
covers_by address count s low high =
    and_from (nat_le s.at address) (nat_le (address + count) (s.at + length s.bytes)) (le-leb s.at address low)
    (le-leb (address + count) (s.at + length s.bytes) high)

ends_before : (address count : ℕ) (s : Segment) → s.at + length s.bytes < address + count
    → covers address count s ≡ false
ends_before address count s h =
    and_right (nat_le s.at address) (nat_le (address + count) (s.at + length s.bytes))
    (lt-leb (address + count) (s.at + length s.bytes) h)

first_bytes : (m : MachineState) (s : Segment) (others : List Segment) → m.segments ≡ s ∷ others
    → Bytes m s.at s.bytes
first_bytes m s others e =
    from_each m s.at s.bytes
    (λ x low high. ap (λ ss. byte_in ss x) e
    ∙ if_true (covers x 1 s) (Some (slice_index s.bytes (x - s.at))) (byte_in others x)
    (covers_by x 1 s low (omega (arith, high))))

second_bytes : (m : MachineState) (s t : Segment) (others : List Segment) → m.segments ≡ s ∷ t ∷ others
    → s.at + length s.bytes ≤ t.at → Bytes m t.at t.bytes
second_bytes m s t others e apart =
    from_each m t.at t.bytes
    (λ x low high. ap (λ ss. byte_in ss x) e
    ∙ if_false (covers x 1 s) (Some (slice_index s.bytes (x - s.at))) (byte_in (t ∷ others) x)
    (ends_before x 1 s (omega (arith, low, apart)))
    ∙ if_true (covers x 1 t) (Some (slice_index t.bytes (x - t.at))) (byte_in others x)
    (covers_by x 1 t low (omega (arith, high))))

first_allows : (allows : Segment → Bool) (s t : Segment) (address count : ℕ) → allows s ≡ true
    → covers address count s ≡ true → is_allowed allows (s ∷ t ∷ []) address count ≡ true
first_allows allows s t address count may covering =
    or_left (allows s && covers address count s) (is_allowed allows (t ∷ []) address count)
    (and_from (allows s) (covers address count s) may covering)

second_allows : (allows : Segment → Bool) (s t : Segment) (address count : ℕ) → allows t ≡ true
    → covers address count t ≡ true → is_allowed allows (s ∷ t ∷ []) address count ≡ true
second_allows allows s t address count may covering =
    or_right (allows s && covers address count s) (is_allowed allows (t ∷ []) address count)
    (or_left (allows t && covers address count t) false (and_from (allows t) (covers address count t) may covering))

-- ---- the image

-- of a layout whose segments are those of pieces
holds_by : (layout : ElfLayout) (pieces : Pieces) (bounds : Bounds) → SegmentsFit layout
    → layout.text ≡ front pieces bounds ++ (routine_bytes routines
    ++ code_bytes (address_of pieces) code_at pieces.code)
    → text_size_of layout ≡ text_size pieces → layout.rest ≡ table_bytes (address_of pieces) pieces.tables
    → layout.zeros ≡ zeros bounds → list_all table_fixes_fit pieces.tables ≡ true
    → HoldsImage pieces bounds (machine_of layout)
holds_by layout pieces bounds fits text_is_so same_text rest_is_so zeros_is_so tables_fit =
    let m : MachineState = machine_of layout in
    let s : Segment = text_segment layout in
    let t : Segment = rest_segment layout in
    let find : Finds = address_of pieces in
    let head : List ℕ = front pieces bounds in
    let code : List ℕ = code_bytes find code_at pieces.code in
    let tables : List ℕ = table_bytes find pieces.tables in
    let second : ℕ = base + up_to_page (text_size_of layout) in
    let size : length s.bytes ≡ text_size_of layout = first_size layout in
    let size' : length t.bytes ≡ length layout.rest + layout.zeros = second_size layout in
    let above : text_size_of layout ≤ up_to_page (text_size_of layout) = up_above (text_size_of layout) in
    let second_is : second ≡ tables_at pieces = ap (λ n. base + up_to_page n) same_text in
    -- the first segment, part by part
    let whole : Bytes m base (headers_of layout ++ layout.text) = first_bytes m s (t ∷ []) refl in
    let text : Bytes m (base + length (headers_of layout)) layout.text =
    (split m base (headers_of layout) layout.text whole).1 in
    let begin : base + length (headers_of layout) ≡ front_at = ap (λ n. base + n) (headers_length layout) in
    let parts : Bytes m front_at (head ++ (routine_bytes routines ++ code)) =
    subst (λ xs. Bytes m front_at xs) text_is_so (subst (λ n. Bytes m n layout.text) begin text) in
    let first = split m front_at head (routine_bytes routines ++ code) parts in
    let behind_head : front_at + length head ≡ routines_at = refl in
    let second_part = split m routines_at (routine_bytes routines) code
    (subst (λ n. Bytes m n (routine_bytes routines ++ code)) behind_head first.1) in
    let behind_routines : routines_at + length (routine_bytes routines) ≡ code_at =
    routines_length routines_at routines in
    -- and the second
    let rest : Bytes m second (layout.rest ++ replicate layout.zeros 0) =
    second_bytes m s t [] refl (omega (arith, size, above)) in
    let rest' : Bytes m (tables_at pieces) (layout.rest ++ replicate layout.zeros 0) =
    subst (λ n. Bytes m n (layout.rest ++ replicate layout.zeros 0)) second_is rest in
    let both = split m (tables_at pieces) layout.rest (replicate layout.zeros 0) rest' in
    let rest_ends : tables_at pieces + length layout.rest ≡ tables_end pieces =
    ap (λ (xs : List ℕ). tables_at pieces + length xs) rest_is_so
    ∙ tables_length find (tables_at pieces) pieces.tables tables_fit in
    let long : rest_size pieces bounds ≡ length layout.rest + layout.zeros =
    omega (arith, rest_ends, zeros_is_so) in
    let text_covered : covers base (text_size pieces) s ≡ true =
    covers_by base (text_size pieces) s (omega arith) (omega (arith, size, same_text)) in
    let data_covered : covers (tables_at pieces) (rest_size pieces bounds) t ≡ true =
    covers_by (tables_at pieces) (rest_size pieces bounds) t (omega (arith, second_is))
    (omega (arith, second_is, size', long)) in
    record {
      segments = are_segments layout fits;
      front = first.0;
      routines = second_part.0;
      code = subst (λ n. Bytes m n code) behind_routines second_part.1;
      tables = subst (λ xs. Bytes m (tables_at pieces) xs) rest_is_so both.0;
      zeros = subst (λ n. Bytes m (tables_end pieces) (replicate n 0)) zeros_is_so
          (subst (λ n. Bytes m n (replicate layout.zeros 0)) rest_ends both.1);
      read_text = first_allows (λ (q : Segment). q.read) s t base (text_size pieces) refl text_covered;
      execute = first_allows (λ (q : Segment). q.execute) s t base (text_size pieces) refl text_covered;
      read_data = second_allows (λ (q : Segment). q.read) s t (tables_at pieces) (rest_size pieces bounds) refl
          data_covered;
      write_data = second_allows (λ (q : Segment). q.write) s t (tables_at pieces) (rest_size pieces bounds) refl
          data_covered;
    }

pub tables_placeable : (pieces : Pieces) → is_placeable pieces ≡ true → list_all table_fixes_fit pieces.tables ≡ true
tables_placeable pieces placeable =
    behind_both (nat_lt pieces.root (length pieces.tables) && list_all code_fixes_fit pieces.code)
    (list_all table_fixes_fit pieces.tables) placeable

pub holds : (pieces : Pieces) (bounds : Bounds) → is_placeable pieces ≡ true → too_large pieces bounds ≡ None
    → HoldsImage pieces bounds (machine_of (layout_of pieces bounds))
unfolding layout_of
holds pieces bounds placeable small =
    holds_by (layout_of pieces bounds) pieces bounds (segments_fit pieces bounds placeable small) refl
    (text_is pieces bounds) refl refl (tables_placeable pieces placeable)

pub holds_plan : (layout : ElfLayout) (pieces : Pieces) (bounds : Bounds) → layout ≡ layout_of pieces bounds
    → is_placeable pieces ≡ true → too_large pieces bounds ≡ None → HoldsImage pieces bounds (machine_of layout)
holds_plan layout pieces bounds same placeable small =
    subst (λ (l : ElfLayout). HoldsImage pieces bounds (machine_of l)) (sym same) (holds pieces bounds placeable small)
