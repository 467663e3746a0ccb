-- Where the operations of a body begin, and that the map tells them.
use Rattle.std.proofs.Common.{◌≡◌, ◌∙◌, ℕ, zero, suc, ◌+◌, ◌-◌, ◌*◌, ◌/◌, ◌%◌, ◌<◌, ◌≤◌, true, false, not, cond}
use Rattle.std.proofs.Common.{List, [], ◌∷◌, ◌++◌, length, Some, None, arith, refl, ap, sym, subst, ◌==◌}
use Rattle.std.proofs.Common.{length-append, append_assoc, nat_lt, eq-eqb, ne_eqb}
use Rattle.std.specs.Prelude.{slice_get, unwrap_or}
use Rattle.std.specs.List.{position, position_or_len}
use Rattle.std.specs.Option.{option_map, option_and_then}
use Rattle.std.proofs.lemmas.Bool.Decides.{nat_tests}
use Rattle.lir_core.specs.declared.body.LirBody.{LirBody}
use Rattle.lir_core.specs.declared.op.LirOp.{LirOp}
use Rattle.rv_lines.specs.declared.line.Line.{Line}
use Rattle.rv_lines.specs.declared.line.Line.TheVariants.{Label, Single, Addressed, Branch, Jump}
use Rattle.rv_gen.specs.Calling.{enters}
use Rattle.rv_gen.specs.Lines.{lines_of, op_lines, ops_lines}
use Rattle.rv_gen.specs.Placing.{are_close, branch_limit, code_from, code_of, far_places, jump_limit, label_at}
use Rattle.rv_gen.specs.Placing.{line_code, longest, place_in, places_from, places_in, size}
use Rattle.rv_words.specs.Placing.{Placing, around_at}
use Rattle.rv_words.specs.Words.{Spot, operation_at, stands_at, stops_of}
use Rattle.rv_words.proofs.LinkedCode.{Parts, line_size, longest_of, no_places, places_append, size_append, size_of}
use Rattle.rv_words.proofs.Plain.{AreCode}

-- ---- numbers that rise

abbrev pub Rises : ℕ → List ℕ → Type 0
Rises low [] = Unit {0}
Rises low (x ∷ xs) = (low ≤ x) × Rises (x + 1) xs

lower_still : (low low' : ℕ) (xs : List ℕ) → low' ≤ low → Rises low xs → Rises low' xs
lower_still low low' [] h rises = tt
lower_still low low' (x ∷ xs) h rises = let first : low ≤ x = rises.0 in (omega (arith, h, first), rises.1)

none_below : (low : ℕ) (xs : List ℕ) (n k : ℕ) → Rises low xs → slice_get xs n ≡ Some k → low ≤ k
none_below low [] n k rises e = cc
none_below low (x ∷ xs) zero k rises e = let same : x ≡ k = cc in subst (λ y. low ≤ y) same rises.0
none_below low (x ∷ xs) (suc n) k rises e =
    let first : low ≤ x = rises.0 in
    let above : x + 1 ≤ k = none_below (x + 1) xs n k rises.1 e in
    omega (arith, first, above)

-- the first that is a number is the one that there is
first_is : (low : ℕ) (xs : List ℕ) (n k : ℕ) → Rises low xs → slice_get xs n ≡ Some k
    → position_or_len (λ stop. stop == k) xs ≡ n
first_is low [] n k rises e = cc
first_is low (x ∷ xs) zero k rises e =
    let same : x ≡ k = cc in
    ap (λ b. cond (not b) (1 + position_or_len (λ stop. stop == k) xs) 0) (eq-eqb x k same)
first_is low (x ∷ xs) (suc n) k rises e =
    let above : x + 1 ≤ k = none_below (x + 1) xs n k rises.1 e in
    let other : x ≡ k → ⊥ = λ same. omega (arith, above, same) in
    let rest : position_or_len (λ stop. stop == k) xs ≡ n = first_is (x + 1) xs n k rises.1 e in
    ap (λ b. cond (not b) (1 + position_or_len (λ stop. stop == k) xs) 0) (ne_eqb x k other)
    ∙ omega (arith, rest)

there_is : (xs : List ℕ) (n k : ℕ) → slice_get xs n ≡ Some k → n < length xs
there_is [] n k e = cc
there_is (x ∷ xs) zero k e = omega arith
there_is (x ∷ xs) (suc n) k e = let h : n < length xs = there_is xs n k e in omega (arith, h)

is_less : (n m : ℕ) → n < m → nat_lt n m ≡ true
is_less n m h = grind (arith, nat_tests)

pub position_is : (low : ℕ) (xs : List ℕ) (n k : ℕ) → Rises low xs → slice_get xs n ≡ Some k
    → position (λ stop. stop == k) xs ≡ Some n
position_is low xs n k rises e =
    ap (λ i. cond (nat_lt i (length xs)) (Some i) None) (first_is low xs n k rises e)
    ∙ ap (λ b. cond b (Some n) None) (is_less n (length xs) (there_is xs n k e))

-- ---- the stops of a body rise

-- lines that aren't labels take room
some_room : (far : List ℕ) (far_at : ℕ) (line : Line) → ((at : ℕ) → label_at line at ≡ []) → 0 < size far far_at line
some_room far far_at Label none = absurd (let no : 0 ∷ [] ≡ [] = none 0 in cc)
some_room far far_at (Single ins) none = omega arith
some_room far far_at (Addressed upper lower kind item) none = omega arith
some_room far far_at (Branch condition left right label) none =
    elim (are_close branch_limit far_at (place_in far label)) as (λ b. 0 < cond b 1 3)
    [ true ↦ omega arith | false ↦ omega arith ]
some_room far far_at (Jump label) none =
    elim (are_close jump_limit far_at (place_in far label)) as (λ b. 0 < cond b 1 2)
    [ true ↦ omega arith | false ↦ omega arith ]

pub code_room : (far : List ℕ) (far_at : ℕ) (lines : List Line) → AreCode lines → 0 < size_of far far_at lines
code_room far far_at [] code = absurd (let some : 0 < 0 = code.some in omega (arith, some))
code_room far far_at (line ∷ lines) code =
    let first : 0 < size far far_at line = some_room far far_at line code.none.0 in
    omega (arith, first)

-- the places of operations, and the end behind them
ops_rise : (body : LirBody) → ((op : LirOp) → AreCode (op_lines body op)) → (far : List ℕ) (far_at at : ℕ)
    (ops : List LirOp)
    → Rises at (places_from far far_at at (ops_lines body ops) ++ (at + size_of far far_at (ops_lines body ops)) ∷ [])
ops_rise body code far far_at at [] = (omega arith, tt)
ops_rise body code far far_at at (op ∷ ops) =
    let xs : List Line = op_lines body op in
    let ys : List Line = ops_lines body ops in
    let room : 0 < size_of far (far_at + 0) xs = code_room far (far_at + 0) xs (code op) in
    let far_next : ℕ = (far_at + 0) + longest_of xs in
    let next : ℕ = (at + 0) + size_of far (far_at + 0) xs in
    let places : places_from far (far_at + 0) (at + 0) (xs ++ ys) ≡ places_from far far_next next ys =
    places_append far (far_at + 0) (at + 0) xs ys
    ∙ ap (λ ps. ps ++ places_from far far_next next ys) (no_places far (far_at + 0) (at + 0) xs (code op).none) in
    let sizes : size_of far (far_at + 0) (xs ++ ys) ≡ size_of far (far_at + 0) xs + size_of far far_next ys =
    size_append far (far_at + 0) xs ys in
    let end : at + (0 + size_of far (far_at + 0) (xs ++ ys)) ≡ next + size_of far far_next ys =
    omega (arith, sizes) in
    let rest : Rises (at + 1) (places_from far far_next next ys ++ (next + size_of far far_next ys) ∷ []) =
    lower_still next (at + 1) (places_from far far_next next ys ++ (next + size_of far far_next ys) ∷ [])
    (omega (arith, room)) (ops_rise body code far far_next next ops) in (
      omega arith,
      subst (λ n. Rises (at + 1) (places_from far (far_at + 0) (at + 0) (xs ++ ys) ++ n ∷ [])) (sym end)
          (subst (λ ps. Rises (at + 1) (ps ++ (next + size_of far far_next ys) ∷ [])) (sym places) rest),
    )

-- What the map tells at a stop.
pub spot_at : (placing : Placing) (begin item k place address : ℕ) (body : LirBody)
    → around_at placing address ≡ Some (record { begin = begin; item = item; body = body })
    → address ≡ begin + 4 * k → operation_at body k ≡ Some place
    → stands_at placing address ≡ Some (record { item = item; body = body; place = place })
spot_at placing begin item k place address body around there is =
    let multiple : (address - begin) % 4 ≡ 0 = omega (arith, there) in
    let quotient : (address - begin) / 4 ≡ k = omega (arith, there) in
    let spot : ℕ → Spot = λ p. record { item = item; body = body; place = p } in
    ap (option_and_then
    (λ around. cond ((address - around.begin) % 4 == 0)
    (option_map (λ p. record { item = around.item; body = around.body; place = p })
    (operation_at around.body ((address - around.begin) / 4))) None)) around
    ∙ ap (λ n. cond (n == 0) (option_map spot (operation_at body ((address - begin) / 4))) None) multiple
    ∙ ap (λ n. option_map spot (operation_at body n)) quotient ∙ ap (option_map spot) is

-- ---- the stops of a whole body

pub code_size : (far places : List ℕ) (far_at at : ℕ) (lines : List Line)
    → length (code_from far places far_at at lines) ≡ size_of far far_at lines
code_size far places far_at at [] = refl
code_size far places far_at at (line ∷ lines) =
    let n : ℕ = size far far_at line in
    let first = line_size far places far_at at line in
    let rest = code_size far places (far_at + longest line) (at + n) lines in
    length-append (line_code far places far_at at line)
    (code_from far places (far_at + longest line) (at + n) lines) ∙ omega (arith, first, rest)

-- they are those of its operations, behind its first lines
abbrev pub far_of : LirBody → List ℕ
far_of body = far_places 0 (lines_of body)

abbrev pub first_size : LirBody → ℕ
first_size body = 0 + size_of (far_of body) 0 (enters body)

pub stops_are : (body : LirBody) → AreCode (enters body)
    → stops_of body
    ≡ places_from (far_of body) (0 + longest_of (enters body)) (first_size body) (ops_lines body body.ops)
    ++ (first_size body + size_of (far_of body) (0 + longest_of (enters body)) (ops_lines body body.ops)) ∷ []
unfolding lines_of
stops_are body code =
    let far : List ℕ = far_of body in
    let first : List Line = enters body in
    let ops : List Line = ops_lines body body.ops in
    let places : places_in (lines_of body)
    ≡ places_from far (0 + longest_of first) (0 + size_of far 0 first) ops =
    places_append far 0 0 first ops
    ∙ ap (λ ps. ps ++ places_from far (0 + longest_of first) (0 + size_of far 0 first) ops)
    (no_places far 0 0 first code.none) in
    let whole = code_size far (places_in (lines_of body)) 0 0 (lines_of body) in
    let parts = size_append far 0 first ops in
    let end : length (code_of body)
    ≡ (0 + size_of far 0 first) + size_of far (0 + longest_of first) ops = omega (arith, whole, parts) in
    ap (λ ps. ps ++ length (code_of body) ∷ []) places
    ∙ ap (λ n. places_from far (0 + longest_of first) (0 + size_of far 0 first) ops ++ n ∷ []) end

pub stops_rise : (body : LirBody) → ((op : LirOp) → AreCode (op_lines body op)) → AreCode (enters body)
    → Rises 1 (stops_of body)
stops_rise body code first_code =
    let far : List ℕ = far_of body in
    let some : 0 < size_of far 0 (enters body) = code_room far 0 (enters body) first_code in
    let ops : List Line = ops_lines body body.ops in
    let all : List ℕ = places_from far (0 + longest_of (enters body)) (first_size body) ops
    ++ (first_size body + size_of far (0 + longest_of (enters body)) ops) ∷ [] in
    subst (Rises 1) (sym (stops_are body first_code))
    (lower_still (first_size body) 1 all (omega (arith, some))
    (ops_rise body code far (0 + longest_of (enters body)) (first_size body) body.ops))

-- ---- the stop of an operation, and the next

get_in_front : (xs ys : List ℕ) (n x : ℕ) → slice_get xs n ≡ Some x → slice_get (xs ++ ys) n ≡ Some x
get_in_front [] ys n x e = cc
get_in_front (y ∷ xs) ys zero x e = e
get_in_front (y ∷ xs) ys (suc n) x e = get_in_front xs ys n x e

get_at_seam : (xs ys : List ℕ) (y n : ℕ) → length xs ≡ n → slice_get (xs ++ y ∷ ys) n ≡ Some y
get_at_seam [] ys y zero e = refl
get_at_seam [] ys y (suc n) e = absurd (omega (arith, e))
get_at_seam (x ∷ xs) ys y zero e = absurd (omega (arith, e))
get_at_seam (x ∷ xs) ys y (suc n) e = get_at_seam xs ys y n (omega (arith, e))

-- Where an operation begins, and how far its lines are in the longest form.
abbrev pub far_before : (body : LirBody) (place : ℕ) (op : LirOp) → Parts body place (lines_of body) op → ℕ
far_before body place op p = (0 + longest_of p.before) + 0

abbrev pub begin_of : (body : LirBody) (place : ℕ) (op : LirOp) → Parts body place (lines_of body) op → ℕ
begin_of body place op p = 0 + size_of (far_of body) 0 p.before

stops_split : (body : LirBody) (place : ℕ) (op : LirOp) → AreCode (op_lines body op)
    → (p : Parts body place (lines_of body) op)
    → places_in (lines_of body)
    ≡ places_from (far_of body) 0 0 p.before
    ++ begin_of body place op p
    ∷ places_from (far_of body) (far_before body place op p + longest_of (op_lines body op))
    ((begin_of body place op p + 0) + size_of (far_of body) (far_before body place op p) (op_lines body op))
    (ops_lines body p.behind)
stops_split body place op code p =
    let far : List ℕ = far_of body in
    let far_at : ℕ = far_before body place op p in
    let at : ℕ = begin_of body place op p in
    let xs : List Line = op_lines body op in
    let ys : List Line = ops_lines body p.behind in
    let front : List ℕ = places_from far 0 0 p.before in
    ap (places_from far 0 0) p.split ∙ places_append far 0 0 p.before (Label ∷ (xs ++ ys))
    ∙ ap (λ ps. front ++ at ∷ ps) (places_append far far_at (at + 0) xs ys)
    ∙ ap (λ ps. front ++ at ∷ (ps ++ places_from far (far_at + longest_of xs) ((at + 0) + size_of far far_at xs) ys))
    (no_places far far_at (at + 0) xs code.none)

pub stop_at : (body : LirBody) (place : ℕ) (op : LirOp) → AreCode (op_lines body op)
    → (p : Parts body place (lines_of body) op)
    → (slice_get (stops_of body) place ≡ Some (begin_of body place op p))
    × (place_in (places_in (lines_of body)) place ≡ begin_of body place op p)
stop_at body place op code p =
    let far : List ℕ = far_of body in
    let at : ℕ = begin_of body place op p in
    let here : slice_get (places_in (lines_of body)) place ≡ Some at =
    ap (λ ps. slice_get ps place) (stops_split body place op code p)
    ∙ get_at_seam (places_from far 0 0 p.before)
    (places_from far (far_before body place op p + longest_of (op_lines body op))
    ((at + 0) + size_of far (far_before body place op p) (op_lines body op)) (ops_lines body p.behind)) at place
    (p.labels far 0 0) in (
      get_in_front (places_in (lines_of body)) (length (code_of body) ∷ []) place at here,
      ap (λ o. unwrap_or o 0) here,
    )

-- The next stop is that of the next operation, or the end.
pub next_of : (body : LirBody) (far : List ℕ) (far_next next end : ℕ) (behind : List LirOp) → (behind ≡ [] → end ≡ next)
    → slice_get (places_from far far_next next (ops_lines body behind) ++ end ∷ []) 0 ≡ Some next
next_of body far far_next next end [] last = ap Some (last refl)
next_of body far far_next next end (op ∷ ops) last = refl

get_behind_seam : (xs zs : List ℕ) (y n : ℕ) → length xs ≡ n → slice_get (xs ++ y ∷ zs) (suc n) ≡ slice_get zs 0
get_behind_seam [] zs y zero e = refl
get_behind_seam [] zs y (suc n) e = absurd (omega (arith, e))
get_behind_seam (x ∷ xs) zs y zero e = absurd (omega (arith, e))
get_behind_seam (x ∷ xs) zs y (suc n) e = get_behind_seam xs zs y n (omega (arith, e))

pub stop_behind : (body : LirBody) (place : ℕ) (op : LirOp) → AreCode (op_lines body op)
    → (p : Parts body place (lines_of body) op)
    → slice_get (stops_of body) (place + 1)
    ≡ Some (begin_of body place op p + size_of (far_of body) (far_before body place op p) (op_lines body op))
stop_behind body place op code p =
    let far : List ℕ = far_of body in
    let far_at : ℕ = far_before body place op p in
    let at : ℕ = begin_of body place op p in
    let xs : List Line = op_lines body op in
    let ys : List Line = ops_lines body p.behind in
    let next : ℕ = (at + 0) + size_of far far_at xs in
    let far_next : ℕ = far_at + longest_of xs in
    let end : ℕ = length (code_of body) in
    let front : List ℕ = places_from far 0 0 p.before in
    let tail : List ℕ = places_from far far_next next ys in
    let one : place + 1 ≡ suc place = omega arith in
    -- the end, where nothing is behind
    let whole : end ≡ size_of far 0 (lines_of body) = code_size far (places_in (lines_of body)) 0 0 (lines_of body) in
    let split : size_of far 0 (lines_of body) ≡ size_of far 0 (p.before ++ (Label ∷ (xs ++ ys))) =
    ap (size_of far 0) p.split in
    let parts : size_of far 0 (p.before ++ (Label ∷ (xs ++ ys)))
    ≡ size_of far 0 p.before + (0 + size_of far far_at (xs ++ ys)) = size_append far 0 p.before (Label ∷ (xs ++ ys)) in
    let own : size_of far far_at (xs ++ ys) ≡ size_of far far_at xs + size_of far far_next ys =
    size_append far far_at xs ys in
    let last : p.behind ≡ [] → end ≡ next =
    λ none. let nothing : size_of far far_next ys ≡ 0 = ap (λ ops. size_of far far_next (ops_lines body ops)) none in
    omega (arith, whole, split, parts, own, nothing) in
    ap (slice_get (stops_of body)) one
    ∙ ap (λ ps. slice_get (ps ++ end ∷ []) (suc place)) (stops_split body place op code p)
    ∙ ap (λ ps. slice_get ps (suc place)) (append_assoc front (at ∷ tail) (end ∷ []))
    ∙ get_behind_seam front (tail ++ end ∷ []) at place (p.labels far 0 0)
    ∙ next_of body far far_next next end p.behind last
    ∙ ap Some (let sum : next ≡ at + size_of far far_at xs = omega arith in sum)

-- what the map tells where an operation begins, and behind it
pub operation_begins : (body : LirBody) (place k : ℕ) → Rises 1 (stops_of body)
    → slice_get (stops_of body) place ≡ Some k → operation_at body k ≡ Some place
operation_begins body place k rises e = position_is 1 (stops_of body) place k rises e

-- where an operation begins lies within the code
pub begin_within : (body : LirBody) (place : ℕ) (op : LirOp) → (p : Parts body place (lines_of body) op)
    → begin_of body place op p ≤ length (code_of body)
begin_within body place op p =
    let far : List ℕ = far_of body in
    let rest : List Line = Label ∷ (op_lines body op ++ ops_lines body p.behind) in
    let whole : length (code_of body) ≡ size_of far 0 (lines_of body) =
    code_size far (places_in (lines_of body)) 0 0 (lines_of body) in
    let split : size_of far 0 (lines_of body) ≡ size_of far 0 (p.before ++ rest) = ap (size_of far 0) p.split in
    let parts : size_of far 0 (p.before ++ rest)
    ≡ size_of far 0 p.before + size_of far (0 + longest_of p.before) rest = size_append far 0 p.before rest in
    omega (arith, whole, split, parts)

pub stop_above : (body : LirBody) (place k : ℕ) → Rises 1 (stops_of body) → slice_get (stops_of body) place ≡ Some k
    → 0 < k
stop_above body place k rises e =
    let h : 1 ≤ k = none_below 1 (stops_of body) place k rises e in omega (arith, h)

-- and an operation has an instruction
pub begin_inside : (body : LirBody) (place : ℕ) (op : LirOp) → AreCode (op_lines body op)
    → (p : Parts body place (lines_of body) op) → begin_of body place op p < length (code_of body)
begin_inside body place op code p =
    let far : List ℕ = far_of body in
    let far_at : ℕ = far_before body place op p in
    let xs : List Line = op_lines body op in
    let ys : List Line = ops_lines body p.behind in
    let room : 0 < size_of far far_at xs = code_room far far_at xs code in
    let whole : length (code_of body) ≡ size_of far 0 (lines_of body) =
    code_size far (places_in (lines_of body)) 0 0 (lines_of body) in
    let split : size_of far 0 (lines_of body) ≡ size_of far 0 (p.before ++ (Label ∷ (xs ++ ys))) =
    ap (size_of far 0) p.split in
    let parts : size_of far 0 (p.before ++ (Label ∷ (xs ++ ys)))
    ≡ size_of far 0 p.before + (0 + size_of far far_at (xs ++ ys)) = size_append far 0 p.before (Label ∷ (xs ++ ys)) in
    let own : size_of far far_at (xs ++ ys) ≡ size_of far far_at xs + size_of far (far_at + longest_of xs) ys =
    size_append far far_at xs ys in
    omega (arith, whole, split, parts, own, room)
