-- The parts of an image tile its file.
use Rattle.std.proofs.Common.{◌≡◌, ◌∙◌, ◌+◌, ◌-◌, ◌*◌, ◌/◌, ◌<◌, ◌≤◌, ◌++◌, ◌∷◌, ◌&&◌, ◌==◌, [], ℕ, zero, suc, List}
use Rattle.std.proofs.Common.{length}
use Rattle.std.proofs.Common.{map, take, drop, replicate, cond, Bool, true, false, Some, None, ap, sym, subst, arith}
use Rattle.std.proofs.Common.{refl}
use Rattle.std.proofs.Common.{append_assoc, append-nil, length-append, nat_le, nat_lt, true≢false}
use Rattle.std.specs.List.{list_all}
use Rattle.std.proofs.lemmas.Bool.{and_from, eq-eqb, le-leb, lt-leb, lt-ltb, ne_eqb}
use Rattle.std.proofs.lemmas.List.{length-replicate}
use Rattle.num_core.specs.declared.bounds.Bounds.{Bounds}
use Rattle.ty_terms.specs.declared.nodes.Part.{Part}
use Rattle.ty_terms.specs.declared.nodes.PartKind.{PartKind}
use Rattle.ty_terms.specs.declared.nodes.PartKind.TheVariants.{Header, Runtime, Code, Table, Constant, Statics}
use Rattle.ty_terms.specs.declared.nodes.PartKind.TheVariants.{Record, Pad}
use Rattle.elf_file.specs.Elf.{base, elf_header, file_of, headers_of, headers_size, load_header}
use Rattle.elf_file.specs.Elf.{text_size as text_size_of, up_to_page}
use Rattle.elf_file.specs.declared.layout.ElfLayout.{ElfLayout}
use Rattle.image_plan.specs.Conditions.{NamesNodes, has_nodes, is_table_kind}
use Rattle.image_plan.specs.Places.{address_of, code_at, code_size, end_of, front_at, table_size, text_end}
use Rattle.image_plan.specs.Planned.{code_fixes_fit, code_parts, is_placeable, layout_of, pad, part, parts_of}
use Rattle.image_plan.specs.Planned.{table_fixes_fit, table_parts, text_size}
use Rattle.image_plan.specs.Tiled.{IsTiled, is_in_second, is_pad_size, is_placed, is_placed_part, is_runtime, is_zero}
use Rattle.image_plan.specs.Tiled.{runtime_bytes, second_at, tiled_to}
use Rattle.image_plan.specs.Written.{Finds, padding, table_bytes, with_numbers}
use Rattle.image_plan.specs.declared.pieces.CodePiece.{CodePiece}
use Rattle.image_plan.specs.declared.pieces.Pieces.{Pieces}
use Rattle.image_plan.specs.declared.pieces.TablePiece.{TablePiece}
use Rattle.image_plan.proofs.Ending.{begin_below}
use Rattle.image_plan.proofs.Fitting.{text_is}
use Rattle.image_plan.proofs.Lengths.{behind_both, front_both, numbers_length, tables_length}
use Rattle.image_plan.proofs.Listed.{all_append, between}

-- ---- each part begins where the one in front of it ends

one_more : (at : ℕ) (first : Part) (parts : List Part) → first.at ≡ at
    → tiled_to at (first ∷ parts) ≡ tiled_to (at + first.size) parts
one_more at first parts h = ap (λ (b : Bool). cond b (tiled_to (at + first.size) parts) None) (eq-eqb first.at at h)

-- zeros, of which there are some
pub some_pad : (at size : ℕ) → pad at (suc size) ≡ part Pad [] at (suc size) ∷ []
some_pad at size =
    ap (λ (b : Bool). cond b [] (part Pad [] at (suc size) ∷ [])) (ne_eqb (suc size) 0 (λ e. omega (arith, e)))

-- the same of zeros, of which there may be none
pad_more : (at size : ℕ) (parts : List Part) → tiled_to at (pad at size ++ parts) ≡ tiled_to (at + size) parts
pad_more at zero parts =
    let here : at ≡ at + 0 = omega arith in
    ap (λ n. tiled_to n parts) here
pad_more at (suc size) parts =
    ap (λ (pads : List Part). tiled_to at (pads ++ parts)) (some_pad at size)
    ∙ one_more at (part Pad [] at (suc size)) parts refl

code_tiled : (at : ℕ) (pieces : List CodePiece) (parts : List Part)
    → tiled_to at (code_parts at pieces ++ parts) ≡ tiled_to (end_of at (map code_size pieces)) parts
code_tiled at [] parts = refl
code_tiled at (piece ∷ pieces) parts =
    one_more at (part Code piece.nodes at (code_size piece)) (code_parts (at + code_size piece) pieces ++ parts) refl
    ∙ code_tiled (at + code_size piece) pieces parts

pub within_word : (n : ℕ) → n ≤ (n + 7) / 8 * 8
within_word n = omega arith

tables_tiled : (at : ℕ) (tables : List TablePiece) (parts : List Part)
    → tiled_to at (table_parts at tables ++ parts) ≡ tiled_to (end_of at (map table_size tables)) parts
tables_tiled at [] parts = refl
tables_tiled at (table ∷ tables) parts =
    let size : ℕ = length table.bytes in
    let left : ℕ = table_size table - size in
    let behind : List Part = table_parts (at + table_size table) tables in
    let fits : size ≤ table_size table = within_word size in
    let whole : at + size + left ≡ at + table_size table = omega (arith, fits) in
    one_more at (part table.kind table.nodes at size) ((pad (at + size) left ++ behind) ++ parts) refl
    ∙ ap (tiled_to (at + size)) (append_assoc (pad (at + size) left) behind parts)
    ∙ pad_more (at + size) left (behind ++ parts)
    ∙ ap (λ n. tiled_to n (behind ++ parts)) whole
    ∙ tables_tiled (at + table_size table) tables parts

-- what begins further ends as much further
shifted : (more at : ℕ) (sizes : List ℕ) → end_of (more + at) sizes ≡ more + end_of at sizes
shifted more at [] = refl
shifted more at (size ∷ sizes) =
    let sum : more + at + size ≡ more + (at + size) = omega arith in
    ap (λ n. end_of n sizes) sum ∙ shifted more (at + size) sizes

-- code ends where the first segment does
code_ends : (pieces : Pieces) → end_of (code_at - base) (map code_size pieces.code) ≡ text_size pieces
code_ends pieces =
    let sizes : List ℕ = map code_size pieces.code in
    let far : code_at ≡ base + (code_at - base) = omega arith in
    let same : text_end pieces ≡ base + end_of (code_at - base) sizes =
    ap (λ n. end_of n sizes) far ∙ shifted base (code_at - base) sizes in
    omega (arith, same)

-- ---- the file

headers_length : (layout : ElfLayout) → length (headers_of layout) ≡ 176
unfolding elf_header load_header
headers_length layout = refl

up_above : (n : ℕ) → n ≤ up_to_page n
up_above n = omega arith

-- what stands in front of the second segment
abbrev first_part : ElfLayout → List ℕ
first_part layout = headers_of layout ++ layout.text

abbrev zeros_between : ElfLayout → List ℕ
zeros_between layout = replicate (up_to_page (text_size_of layout) - text_size_of layout) 0

first_length : (layout : ElfLayout) → length (first_part layout) ≡ text_size_of layout
first_length layout =
    let all : length (first_part layout) ≡ length (headers_of layout) + length layout.text =
    length-append (headers_of layout) layout.text in
    omega (arith, all, headers_length layout)

front_length : (layout : ElfLayout)
    → length (first_part layout ++ zeros_between layout) ≡ up_to_page (text_size_of layout)
front_length layout =
    let size : ℕ = text_size_of layout in
    let all : length (first_part layout ++ zeros_between layout)
    ≡ length (first_part layout) + length (zeros_between layout) =
    length-append (first_part layout) (zeros_between layout) in
    let fill : length (zeros_between layout) ≡ up_to_page size - size = length-replicate (up_to_page size - size) 0 in
    let above : size ≤ up_to_page size = up_above size in
    omega (arith, all, fill, above, first_length layout)

file_length : (layout : ElfLayout) → length (file_of layout) ≡ up_to_page (text_size_of layout) + length layout.rest
file_length layout =
    length-append (first_part layout ++ zeros_between layout) layout.rest
    ∙ ap (λ n. n + length layout.rest) (front_length layout)

-- ---- what stands where

zeros_are : (n : ℕ) → list_all is_zero (replicate n 0) ≡ true
zeros_are zero = refl
zeros_are (suc n) = zeros_are n

-- zeros that stand somewhere in the file
pad_placed : (layout : ElfLayout) (at size : ℕ) (front mid behind : List ℕ) → file_of layout ≡ front ++ (mid ++ behind)
    → length front ≡ at → length mid ≡ size → list_all is_zero mid ≡ true
    → (0 < size → is_pad_size (second_at layout) at size ≡ true)
    → list_all (is_placed_part layout) (pad at size) ≡ true
pad_placed layout at zero front mid behind file here long zeros fits = refl
pad_placed layout at (suc size) front mid behind file here long zeros fits =
    let taken : take (suc size) (drop at (file_of layout)) ≡ mid =
    ap (λ xs. take (suc size) (drop at xs)) file
    ∙ ap (λ n. take n (drop at (front ++ (mid ++ behind)))) (sym long)
    ∙ ap (λ n. take (length mid) (drop n (front ++ (mid ++ behind)))) (sym here)
    ∙ between front mid behind in
    let none : list_all is_zero (take (suc size) (drop at (file_of layout))) ≡ true =
    ap (list_all is_zero) taken ∙ zeros in
    subst (λ (pads : List Part). list_all (is_placed_part layout) pads ≡ true) (sym (some_pad at size))
    (and_from (is_placed_part layout (part Pad [] at (suc size))) true
    (and_from (list_all is_zero (take (suc size) (drop at (file_of layout))))
    (is_pad_size (second_at layout) at (suc size)) none (fits (omega arith))) refl)

code_placed : (layout : ElfLayout) (at : ℕ) (pieces : List CodePiece)
    → end_of at (map code_size pieces) ≤ text_size_of layout
    → list_all (λ (piece : CodePiece). has_nodes piece.nodes) pieces ≡ true
    → list_all (is_placed_part layout) (code_parts at pieces) ≡ true
code_placed layout at [] h nodes = refl
code_placed layout at (piece ∷ pieces) h nodes =
    let size : ℕ = code_size piece in
    let others : Bool = list_all (λ (other : CodePiece). has_nodes other.nodes) pieces in
    let behind : at + size ≤ end_of (at + size) (map code_size pieces) =
    begin_below (at + size) (map code_size pieces) in
    let within : at + size ≤ text_size_of layout = omega (arith, behind, h) in
    and_from (is_placed_part layout (part Code piece.nodes at size))
    (list_all (is_placed_part layout) (code_parts (at + size) pieces))
    (and_from (nat_le (at + size) (text_size_of layout)) (has_nodes piece.nodes)
    (le-leb (at + size) (text_size_of layout) within) (front_both (has_nodes piece.nodes) others nodes))
    (code_placed layout (at + size) pieces h (behind_both (has_nodes piece.nodes) others nodes))

table_placed : (layout : ElfLayout) (kind : PartKind) (p : Part) → is_table_kind kind ≡ true
    → is_in_second layout p ≡ true → is_placed layout kind p ≡ true
table_placed layout Header p k h = absurd (true≢false (sym k))
table_placed layout Runtime p k h = absurd (true≢false (sym k))
table_placed layout Code p k h = absurd (true≢false (sym k))
table_placed layout Table p k h = h
table_placed layout Constant p k h = h
table_placed layout Statics p k h = h
table_placed layout Record p k h = h
table_placed layout Pad p k h = absurd (true≢false (sym k))

small_left : (n : ℕ) → (n + 7) / 8 * 8 - n < 16
small_left n = omega arith

tables_placed : (layout : ElfLayout) (find : Finds) (tables : List TablePiece) (front : List ℕ) (at : ℕ)
    → file_of layout ≡ front ++ table_bytes find tables → length front ≡ at → second_at layout ≤ at
    → list_all table_fixes_fit tables ≡ true
    → list_all (λ (table : TablePiece). has_nodes table.nodes) tables ≡ true
    → list_all (λ (table : TablePiece). is_table_kind table.kind) tables ≡ true
    → list_all (is_placed_part layout) (table_parts at tables) ≡ true
tables_placed layout find [] front at file here above fits nodes kinds = refl
tables_placed layout find (table ∷ tables) front at file here above fits nodes kinds =
    let size : ℕ = length table.bytes in
    let left : ℕ = table_size table - size in
    let bytes : List ℕ = with_numbers find table.fixes table.bytes in
    let zeros : List ℕ = padding table.bytes in
    let rest : List ℕ = table_bytes find tables in
    let second : ℕ = second_at layout in
    let own : Part = part table.kind table.nodes at size in
    let pads : List Part = pad (at + size) left in
    let others : List Part = table_parts (at + table_size table) tables in
    let named : Bool = list_all (λ (other : TablePiece). has_nodes other.nodes) tables in
    let typed : Bool = list_all (λ (other : TablePiece). is_table_kind other.kind) tables in
    let long : length bytes ≡ size =
    numbers_length find table.fixes table.bytes
    (front_both (table_fixes_fit table) (list_all table_fixes_fit tables) fits) in
    let fill : length zeros ≡ left = length-replicate left 0 in
    let whole : size ≤ table_size table = within_word size in
    -- the zeros in the file
    let split : file_of layout ≡ (front ++ bytes) ++ (zeros ++ rest) =
    file ∙ ap (λ xs. front ++ xs) (append_assoc bytes zeros rest) ∙ sym (append_assoc front bytes (zeros ++ rest)) in
    let before : length (front ++ bytes) ≡ at + size = omega (arith, length-append front bytes, here, long) in
    let far : second ≤ at + size = omega (arith, above) in
    let small : is_pad_size second (at + size) left ≡ true =
    ap (λ (b : Bool). cond b (nat_lt left 16) (cond (at + size + left == second) (nat_lt left 4096)
    (nat_lt left 16 && nat_le (at + size + left) second))) (le-leb second (at + size) far)
    ∙ lt-ltb left 16 (small_left size) in
    -- and what stands behind them
    let split' : file_of layout ≡ (front ++ (bytes ++ zeros)) ++ rest =
    file ∙ sym (append_assoc front (bytes ++ zeros) rest) in
    let before' : length (front ++ (bytes ++ zeros)) ≡ at + table_size table =
    omega (arith, length-append front (bytes ++ zeros), length-append bytes zeros, here, long, fill, whole) in
    let first : is_placed_part layout own ≡ true =
    table_placed layout table.kind own (front_both (is_table_kind table.kind) typed kinds)
    (and_from (nat_le second at) (has_nodes table.nodes) (le-leb second at above)
    (front_both (has_nodes table.nodes) named nodes)) in
    let filled : list_all (is_placed_part layout) pads ≡ true =
    pad_placed layout (at + size) left (front ++ bytes) zeros rest split before fill (zeros_are left) (λ some. small) in
    let behind : list_all (is_placed_part layout) others ≡ true =
    tables_placed layout find tables (front ++ (bytes ++ zeros)) (at + table_size table) split' before'
    (omega (arith, above, whole)) (behind_both (table_fixes_fit table) (list_all table_fixes_fit tables) fits)
    (behind_both (has_nodes table.nodes) named nodes) (behind_both (is_table_kind table.kind) typed kinds) in
    and_from (is_placed_part layout own) (list_all (is_placed_part layout) (pads ++ others)) first
    (all_append (is_placed_part layout) pads others filled behind)

-- the zeros in front of the second segment
middle_size : (text : ℕ) → 0 < up_to_page text - text
    → is_pad_size (up_to_page text) text (up_to_page text - text) ≡ true
middle_size text some =
    let second : ℕ = up_to_page text in
    let size : ℕ = second - text in
    let below : text < second = omega (arith, some) in
    let ends : text + size ≡ second = omega (arith, below) in
    let small : size < 4096 = omega arith in
    ap (λ (b : Bool). cond b (nat_lt size 16) (cond (text + size == second) (nat_lt size 4096)
    (nat_lt size 16 && nat_le (text + size) second))) (lt-leb second text below)
    ∙ ap (λ (b : Bool). cond b (nat_lt size 4096) (nat_lt size 16 && nat_le (text + size) second))
    (eq-eqb (text + size) second ends)
    ∙ lt-ltb size 4096 small

-- ---- the runtime

runtime_append : (xs ys : List Part) → runtime_bytes (xs ++ ys) ≡ runtime_bytes xs + runtime_bytes ys
runtime_append [] ys = omega arith
runtime_append (x ∷ xs) ys =
    let behind : runtime_bytes (xs ++ ys) ≡ runtime_bytes xs + runtime_bytes ys = runtime_append xs ys in
    omega (arith, behind)

no_runtime_in_code : (at : ℕ) (pieces : List CodePiece) → runtime_bytes (code_parts at pieces) ≡ 0
no_runtime_in_code at [] = refl
no_runtime_in_code at (piece ∷ pieces) =
    let behind : runtime_bytes (code_parts (at + code_size piece) pieces) ≡ 0 =
    no_runtime_in_code (at + code_size piece) pieces in
    omega (arith, behind)

no_runtime_in_pad : (at size : ℕ) → runtime_bytes (pad at size) ≡ 0
no_runtime_in_pad at zero = refl
no_runtime_in_pad at (suc size) = ap runtime_bytes (some_pad at size)

table_is_none : (kind : PartKind) → is_table_kind kind ≡ true → is_runtime kind ≡ false
table_is_none Header k = refl
table_is_none Runtime k = absurd (true≢false (sym k))
table_is_none Code k = refl
table_is_none Table k = refl
table_is_none Constant k = refl
table_is_none Statics k = refl
table_is_none Record k = refl
table_is_none Pad k = refl

no_runtime_in_tables : (at : ℕ) (tables : List TablePiece)
    → list_all (λ (table : TablePiece). is_table_kind table.kind) tables ≡ true
    → runtime_bytes (table_parts at tables) ≡ 0
no_runtime_in_tables at [] kinds = refl
no_runtime_in_tables at (table ∷ tables) kinds =
    let size : ℕ = length table.bytes in
    let left : ℕ = table_size table - size in
    let typed : Bool = list_all (λ (other : TablePiece). is_table_kind other.kind) tables in
    let pads : List Part = pad (at + size) left in
    let others : List Part = table_parts (at + table_size table) tables in
    let own : cond (is_runtime table.kind) size 0 ≡ 0 =
    ap (λ (b : Bool). cond b size 0) (table_is_none table.kind (front_both (is_table_kind table.kind) typed kinds)) in
    let behind : runtime_bytes others ≡ 0 =
    no_runtime_in_tables (at + table_size table) tables (behind_both (is_table_kind table.kind) typed kinds) in
    omega (arith, own, runtime_append pads others, no_runtime_in_pad (at + size) left, behind)

-- ---- all of it

-- of a layout whose segments are those of the pieces
tiled_by : (layout : ElfLayout) (pieces : Pieces) (find : Finds) → text_size_of layout ≡ text_size pieces
    → layout.rest ≡ table_bytes find pieces.tables → list_all table_fixes_fit pieces.tables ≡ true → NamesNodes pieces
    → IsTiled layout (parts_of pieces)
unfolding parts_of
tiled_by layout pieces find same_text same_rest fits nodes =
    let text : ℕ = text_size pieces in
    let second : ℕ = up_to_page text in
    let begin : ℕ = code_at - base in
    let tables : List Part = table_parts second pieces.tables in
    let pads : List Part = pad text (second - text) in
    let code : List Part = code_parts begin pieces.code in
    let header : Part = part Header [] 0 headers_size in
    let runtime : Part = part Runtime [] headers_size (code_at - front_at) in
    let above : text ≤ second = up_above text in
    let second_is : second_at layout ≡ second = ap up_to_page same_text in
    -- where the parts end
    let begins : headers_size + (code_at - front_at) ≡ begin = omega arith in
    let fill : text + (second - text) ≡ second = omega (arith, above) in
    let rest_ends : second + length (table_bytes find pieces.tables) ≡ end_of second (map table_size pieces.tables) =
    tables_length find second pieces.tables fits in
    let file_ends : length (file_of layout) ≡ end_of second (map table_size pieces.tables) =
    file_length layout ∙ ap (λ n. n + length layout.rest) second_is
    ∙ ap (λ (xs : List ℕ). second + length xs) same_rest ∙ rest_ends in
    let last : tiled_to second tables ≡ Some (length (file_of layout)) =
    ap (tiled_to second) (sym (append-nil tables)) ∙ tables_tiled second pieces.tables [] ∙ ap Some (sym file_ends) in
    -- where the zeros in front of the second segment stand in the file
    let mid : List ℕ = zeros_between layout in
    let split : file_of layout ≡ first_part layout ++ (mid ++ layout.rest) =
    append_assoc (first_part layout) mid layout.rest in
    let mid_length : length mid ≡ second - text =
    length-replicate (up_to_page (text_size_of layout) - text_size_of layout) 0
    ∙ ap (λ n. up_to_page n - n) same_text in
    let filled : list_all (is_placed_part layout) pads ≡ true =
    pad_placed layout text (second - text) (first_part layout) mid layout.rest split (first_length layout ∙ same_text)
    mid_length (zeros_are (up_to_page (text_size_of layout) - text_size_of layout))
    (λ some. ap (λ n. is_pad_size n text (second - text)) second_is ∙ middle_size text some) in
    let before : length (first_part layout ++ mid) ≡ second = front_length layout ∙ ap up_to_page same_text in
    let tables_fit : list_all (is_placed_part layout) tables ≡ true =
    tables_placed layout find pieces.tables (first_part layout ++ mid) second
    (ap (λ xs. (first_part layout ++ mid) ++ xs) same_rest) before (omega (arith, second_is)) fits nodes.tables
    nodes.kinds in
    let code_within : end_of begin (map code_size pieces.code) ≤ text_size_of layout =
    omega (arith, code_ends pieces, same_text) in
    let code_fits : list_all (is_placed_part layout) code ≡ true =
    code_placed layout begin pieces.code code_within nodes.code in
    -- headers and runtime lie in front of the code
    let code_behind : begin ≤ end_of begin (map code_size pieces.code) =
    begin_below begin (map code_size pieces.code) in
    let header_fits : nat_le (0 + headers_size) (text_size_of layout) ≡ true =
    le-leb (0 + headers_size) (text_size_of layout) (omega (arith, code_behind, code_within)) in
    let runtime_fits : nat_le (headers_size + (code_at - front_at)) (text_size_of layout) ≡ true =
    le-leb (headers_size + (code_at - front_at)) (text_size_of layout)
    (omega (arith, begins, code_behind, code_within)) in
    record {
      covers = one_more 0 header (runtime ∷ (code ++ (pads ++ tables))) refl
          ∙ one_more headers_size runtime (code ++ (pads ++ tables)) refl
          ∙ ap (λ n. tiled_to n (code ++ (pads ++ tables))) begins
          ∙ code_tiled begin pieces.code (pads ++ tables)
          ∙ ap (λ n. tiled_to n (pads ++ tables)) (code_ends pieces)
          ∙ pad_more text (second - text) tables
          ∙ ap (λ n. tiled_to n tables) fill ∙ last;
      placed = and_from (is_placed_part layout header)
          (list_all (is_placed_part layout) (runtime ∷ (code ++ (pads ++ tables)))) header_fits
          (and_from (is_placed_part layout runtime) (list_all (is_placed_part layout) (code ++ (pads ++ tables)))
          runtime_fits
          (all_append (is_placed_part layout) code (pads ++ tables) code_fits
          (all_append (is_placed_part layout) pads tables filled tables_fit)));
      runtime =
          let few : code_at - front_at ≤ 65536 = omega arith in
          omega (
            arith,
            few,
            runtime_append code (pads ++ tables),
            runtime_append pads tables,
            no_runtime_in_code begin pieces.code,
            no_runtime_in_pad text (second - text),
            no_runtime_in_tables second pieces.tables nodes.kinds,
          );
    }

pub tiled : (pieces : Pieces) (bounds : Bounds) → is_placeable pieces ≡ true → NamesNodes pieces
    → IsTiled (layout_of pieces bounds) (parts_of pieces)
unfolding layout_of
tiled pieces bounds placeable nodes =
    tiled_by (layout_of pieces bounds) pieces (address_of pieces) (text_is pieces bounds) refl
    (behind_both (nat_lt pieces.root (length pieces.tables) && list_all code_fixes_fit pieces.code)
    (list_all table_fixes_fit pieces.tables) placeable) nodes

pub tiled_plan : (layout : ElfLayout) (parts : List Part) (pieces : Pieces) (bounds : Bounds)
    → layout ≡ layout_of pieces bounds → parts ≡ parts_of pieces → is_placeable pieces ≡ true → NamesNodes pieces
    → IsTiled layout parts
tiled_plan layout parts pieces bounds same same' placeable nodes =
    subst (λ (l : ElfLayout). IsTiled l parts) (sym same)
    (subst (λ (ps : List Part). IsTiled (layout_of pieces bounds) ps) (sym same') (tiled pieces bounds placeable nodes))
