-- The code of a body with the addresses of its fixes, line by line, and the block of each operation in it.
use Rattle.std.proofs.Common.{◌≡◌, ◌∙◌, ℕ, zero, suc, ◌+◌, ◌*◌, List, [], ◌∷◌, ◌++◌, length, arith, refl, ap, sym}
use Rattle.std.proofs.Common.{subst, cond, Bool, true, false, length-append, append_assoc}
use Rattle.num_core.specs.declared.fix.Fix.{Fix}
use Rattle.num_core.specs.declared.fix.FixKind.{FixKind}
use Rattle.std.specs.Prelude.{Some, slice_get, unwrap_or}
use Rattle.rv_isa.specs.declared.ins.Ins.{Ins}
use Rattle.lir_core.specs.Program.{WordProgram}
use Rattle.lir_core.specs.declared.body.LirBody.{LirBody}
use Rattle.lir_core.specs.declared.op.LirOp.{LirOp}
use Rattle.rv_lines.specs.declared.line.Condition.{Condition}
use Rattle.rv_lines.specs.declared.line.Line.{Line}
use Rattle.rv_lines.specs.declared.line.Line.TheVariants.{Label, Single, Addressed, Branch, Jump}
use Rattle.rv_gen.specs.Calling.{enters}
use Rattle.rv_gen.specs.Lines.{lines_of, op_lines, ops_lines}
use Rattle.rv_gen.specs.Placing.{are_close, branch_code, branch_limit, code_from, far_places}
use Rattle.rv_gen.specs.Placing.{fixes_from, jump_code, jump_limit, label_at, line_code, longest, place_in}
use Rattle.rv_gen.specs.Placing.{places_from, places_in, size}
use Rattle.rv_words.specs.Linked.{bits_between, linked, target_of, with_both, with_fixes, with_lower, with_upper}

-- ---- line by line

-- what two instructions that take an address become
abbrev pub address_code : WordProgram → ℕ → ℕ → Ins → Ins → FixKind → ℕ → List Ins
address_code program begin at upper lower kind item =
    let bits : ℕ = bits_between (begin + 4 * at) (unwrap_or (program.address_of kind item) 0) in
    with_upper bits upper ∷ with_lower bits lower ∷ []

abbrev pub linked_line : WordProgram → ℕ → List ℕ → List ℕ → ℕ → ℕ → Line → List Ins
linked_line program begin far places far_at at Label = []
linked_line program begin far places far_at at (Single ins) = ins ∷ []
linked_line program begin far places far_at at (Addressed upper lower kind item) =
    address_code program begin at upper lower kind item
linked_line program begin far places far_at at (Branch condition left right label) =
    branch_code (are_close branch_limit far_at (place_in far label)) condition left right at (place_in places label)
linked_line program begin far places far_at at (Jump label) =
    jump_code (are_close jump_limit far_at (place_in far label)) at (place_in places label)

abbrev pub linked_from : WordProgram → ℕ → List ℕ → List ℕ → ℕ → ℕ → List Line → List Ins
linked_from program begin far places far_at at [] = []
linked_from program begin far places far_at at (line ∷ lines) =
    linked_line program begin far places far_at at line
    ++ linked_from program begin far places (far_at + longest line) (at + size far far_at line) lines

-- a line is as many instructions as its size says
branch_size : (close : Bool) (condition : Condition) (x y from to : ℕ)
    → length (branch_code close condition x y from to) ≡ cond close 1 3
branch_size true condition x y from to = refl
branch_size false condition x y from to = refl

jump_size : (close : Bool) (from to : ℕ) → length (jump_code close from to) ≡ cond close 1 2
jump_size true from to = refl
jump_size false from to = refl

pub line_size : (far places : List ℕ) (far_at at : ℕ) (line : Line)
    → length (line_code far places far_at at line) ≡ size far far_at line
line_size far places far_at at Label = refl
line_size far places far_at at (Single ins) = refl
line_size far places far_at at (Addressed upper lower kind item) = refl
line_size far places far_at at (Branch condition left right label) =
    branch_size (are_close branch_limit far_at (place_in far label)) condition left right at (place_in places label)
line_size far places far_at at (Jump label) =
    jump_size (are_close jump_limit far_at (place_in far label)) at (place_in places label)

pub linked_size : (program : WordProgram) (begin : ℕ) (far places : List ℕ) (far_at at : ℕ) (line : Line)
    → length (linked_line program begin far places far_at at line) ≡ size far far_at line
linked_size program begin far places far_at at Label = refl
linked_size program begin far places far_at at (Single ins) = refl
linked_size program begin far places far_at at (Addressed upper lower kind item) = refl
linked_size program begin far places far_at at (Branch condition left right label) =
    branch_size (are_close branch_limit far_at (place_in far label)) condition left right at (place_in places label)
linked_size program begin far places far_at at (Jump label) =
    jump_size (are_close jump_limit far_at (place_in far label)) at (place_in places label)

-- what a fix changes stands behind what is done
changed_behind : (bits : ℕ) (done rest : List Ins) (first second : Ins)
    → with_both bits (length done) (done ++ first ∷ second ∷ rest)
    ≡ done ++ with_upper bits first ∷ with_lower bits second ∷ rest
changed_behind bits [] rest first second = refl
changed_behind bits (x ∷ done) rest first second = ap (λ xs. x ∷ xs) (changed_behind bits done rest first second)

-- One line: its code is done, and the others follow.
fixed_behind : (program : WordProgram) (begin at n : ℕ) (fixes : List Fix) (rest linked_rest done here : List Ins)
    → ((front : List Ins) → length front ≡ at + n
    → with_fixes program begin fixes (front ++ rest) ≡ front ++ linked_rest)
    → length done ≡ at → length here ≡ n
    → with_fixes program begin fixes (done ++ (here ++ rest)) ≡ done ++ (here ++ linked_rest)
fixed_behind program begin at n fixes rest linked_rest done here others size_done size_here =
    ap (with_fixes program begin fixes) (sym (append_assoc done here rest))
    ∙ others (done ++ here) (length-append done here ∙ omega (arith, size_done, size_here))
    ∙ append_assoc done here linked_rest

-- the fixes of lines change the code of these lines alone, and the code of each line at a time
fixed_by_lines : (program : WordProgram) (begin : ℕ) (far places : List ℕ) (far_at at : ℕ) (lines : List Line)
    (done : List Ins) → length done ≡ at
    → with_fixes program begin (fixes_from far far_at at lines)
    (done ++ code_from far places far_at at lines)
    ≡ done ++ linked_from program begin far places far_at at lines
fixed_by_lines program begin far places far_at at [] done e = refl
fixed_by_lines program begin far places far_at at (Label ∷ lines) done e =
    fixed_behind program begin at 0 (fixes_from far (far_at + 0) (at + 0) lines)
    (code_from far places (far_at + 0) (at + 0) lines)
    (linked_from program begin far places (far_at + 0) (at + 0) lines) done []
    (fixed_by_lines program begin far places (far_at + 0) (at + 0) lines) e refl
fixed_by_lines program begin far places far_at at (Single ins ∷ lines) done e =
    fixed_behind program begin at 1 (fixes_from far (far_at + 1) (at + 1) lines)
    (code_from far places (far_at + 1) (at + 1) lines)
    (linked_from program begin far places (far_at + 1) (at + 1) lines) done (ins ∷ [])
    (fixed_by_lines program begin far places (far_at + 1) (at + 1) lines) e refl
fixed_by_lines program begin far places far_at at (Addressed upper lower kind item ∷ lines) done e =
    let fix : Fix = record { at = at; kind = kind; item = item } in
    let bits : ℕ = bits_between (begin + 4 * at) (target_of program fix) in
    let rest : List Ins = code_from far places (far_at + 2) (at + 2) lines in
    let change : with_both bits at (done ++ upper ∷ lower ∷ rest)
    ≡ done ++ with_upper bits upper ∷ with_lower bits lower ∷ rest =
    subst (λ n. with_both bits n (done ++ upper ∷ lower ∷ rest)
    ≡ done ++ with_upper bits upper ∷ with_lower bits lower ∷ rest) e
    (changed_behind bits done rest upper lower) in
    ap (with_fixes program begin (fixes_from far (far_at + 2) (at + 2) lines)) change
    ∙ fixed_behind program begin at 2 (fixes_from far (far_at + 2) (at + 2) lines) rest
    (linked_from program begin far places (far_at + 2) (at + 2) lines) done
    (with_upper bits upper ∷ with_lower bits lower ∷ [])
    (fixed_by_lines program begin far places (far_at + 2) (at + 2) lines) e refl
fixed_by_lines program begin far places far_at at (Branch condition left right label ∷ lines) done e =
    let n : ℕ = size far far_at (Branch condition left right label) in
    let close : Bool = are_close branch_limit far_at (place_in far label) in
    fixed_behind program begin at n (fixes_from far (far_at + 3) (at + n) lines)
    (code_from far places (far_at + 3) (at + n) lines)
    (linked_from program begin far places (far_at + 3) (at + n) lines) done
    (branch_code close condition left right at (place_in places label))
    (fixed_by_lines program begin far places (far_at + 3) (at + n) lines) e
    (branch_size close condition left right at (place_in places label))
fixed_by_lines program begin far places far_at at (Jump label ∷ lines) done e =
    let n : ℕ = size far far_at (Jump label) in
    let close : Bool = are_close jump_limit far_at (place_in far label) in
    fixed_behind program begin at n (fixes_from far (far_at + 2) (at + n) lines)
    (code_from far places (far_at + 2) (at + n) lines)
    (linked_from program begin far places (far_at + 2) (at + n) lines) done
    (jump_code close at (place_in places label))
    (fixed_by_lines program begin far places (far_at + 2) (at + n) lines) e
    (jump_size close at (place_in places label))

-- the code of a body that begins at an address, line by line
pub linked_by_lines : (program : WordProgram) (begin : ℕ) (body : LirBody)
    → linked program begin body
    ≡ linked_from program begin (far_places 0 (lines_of body)) (places_in (lines_of body)) 0 0 (lines_of body)
unfolding linked
linked_by_lines program begin body =
    fixed_by_lines program begin (far_places 0 (lines_of body)) (places_in (lines_of body)) 0 0 (lines_of body) [] refl

-- ---- lines one behind the other

abbrev pub longest_of : List Line → ℕ
longest_of [] = 0
longest_of (line ∷ lines) = longest line + longest_of lines

abbrev pub size_of : List ℕ → ℕ → List Line → ℕ
size_of far far_at [] = 0
size_of far far_at (line ∷ lines) = size far far_at line + size_of far (far_at + longest line) lines

pub size_of_linked : (program : WordProgram) (begin : ℕ) (far places : List ℕ) (far_at at : ℕ) (lines : List Line)
    → length (linked_from program begin far places far_at at lines) ≡ size_of far far_at lines
size_of_linked program begin far places far_at at [] = refl
size_of_linked program begin far places far_at at (line ∷ lines) =
    let n : ℕ = size far far_at line in
    let first = linked_size program begin far places far_at at line in
    let rest = size_of_linked program begin far places (far_at + longest line) (at + n) lines in
    length-append (linked_line program begin far places far_at at line)
    (linked_from program begin far places (far_at + longest line) (at + n) lines) ∙ omega (arith, first, rest)

pub linked_append : (program : WordProgram) (begin : ℕ) (far places : List ℕ) (far_at at : ℕ) (xs ys : List Line)
    → linked_from program begin far places far_at at (xs ++ ys)
    ≡ linked_from program begin far places far_at at xs
    ++ linked_from program begin far places (far_at + longest_of xs) (at + size_of far far_at xs) ys
linked_append program begin far places far_at at [] ys =
    let e : far_at ≡ far_at + 0 = omega arith in
    let e' : at ≡ at + 0 = omega arith in
    ap (λ n. linked_from program begin far places n at ys) e
    ∙ ap (λ n. linked_from program begin far places (far_at + 0) n ys) e'
linked_append program begin far places far_at at (line ∷ xs) ys =
    let l : ℕ = longest line in
    let n : ℕ = size far far_at line in
    let here : List Ins = linked_line program begin far places far_at at line in
    let sum : (far_at + l) + longest_of xs ≡ far_at + (l + longest_of xs) = omega arith in
    let sum' : (at + n) + size_of far (far_at + l) xs ≡ at + (n + size_of far (far_at + l) xs) = omega arith in
    ap (λ rest. here ++ rest) (linked_append program begin far places (far_at + l) (at + n) xs ys)
    ∙ ap (λ k. here ++ (linked_from program begin far places (far_at + l) (at + n) xs
    ++ linked_from program begin far places k ((at + n) + size_of far (far_at + l) xs) ys)) sum
    ∙ ap (λ k. here ++ (linked_from program begin far places (far_at + l) (at + n) xs
    ++ linked_from program begin far places (far_at + (l + longest_of xs)) k ys)) sum'
    ∙ sym (append_assoc here (linked_from program begin far places (far_at + l) (at + n) xs)
    (linked_from program begin far places (far_at + (l + longest_of xs)) (at + (n + size_of far (far_at + l) xs)) ys))

pub size_append : (far : List ℕ) (far_at : ℕ) (xs ys : List Line)
    → size_of far far_at (xs ++ ys) ≡ size_of far far_at xs + size_of far (far_at + longest_of xs) ys
size_append far far_at [] ys =
    let e : far_at ≡ far_at + 0 = omega arith in
    ap (λ n. size_of far n ys) e ∙ omega arith
size_append far far_at (x ∷ xs) ys =
    let sum : (far_at + longest x) + longest_of xs ≡ far_at + (longest x + longest_of xs) = omega arith in
    let rest : size_of far (far_at + longest x) (xs ++ ys)
    ≡ size_of far (far_at + longest x) xs + size_of far (far_at + (longest x + longest_of xs)) ys =
    size_append far (far_at + longest x) xs ys
    ∙ ap (λ n. size_of far (far_at + longest x) xs + size_of far n ys) sum in
    omega (arith, rest)

pub places_append : (far : List ℕ) (far_at at : ℕ) (xs ys : List Line)
    → places_from far far_at at (xs ++ ys)
    ≡ places_from far far_at at xs
    ++ places_from far (far_at + longest_of xs) (at + size_of far far_at xs) ys
-- as linked_append, with `label_at line at` in place of `linked_line`
places_append far far_at at [] ys =
    let e : far_at ≡ far_at + 0 = omega arith in
    let e' : at ≡ at + 0 = omega arith in
    ap (λ n. places_from far n at ys) e ∙ ap (λ n. places_from far (far_at + 0) n ys) e'
places_append far far_at at (line ∷ xs) ys =
    let l : ℕ = longest line in
    let n : ℕ = size far far_at line in
    let here : List ℕ = label_at line at in
    let sum : (far_at + l) + longest_of xs ≡ far_at + (l + longest_of xs) = omega arith in
    let sum' : (at + n) + size_of far (far_at + l) xs ≡ at + (n + size_of far (far_at + l) xs) = omega arith in
    ap (λ rest. here ++ rest) (places_append far (far_at + l) (at + n) xs ys)
    ∙ ap (λ k. here ++ (places_from far (far_at + l) (at + n) xs
    ++ places_from far k ((at + n) + size_of far (far_at + l) xs) ys)) sum
    ∙ ap (λ k. here ++ (places_from far (far_at + l) (at + n) xs
    ++ places_from far (far_at + (l + longest_of xs)) k ys)) sum'
    ∙ sym (append_assoc here (places_from far (far_at + l) (at + n) xs)
    (places_from far (far_at + (l + longest_of xs)) (at + (n + size_of far (far_at + l) xs)) ys))

-- ---- an operation in the lines of its body

-- no line is a label
abbrev pub HasNoLabel : List Line → Type 0
HasNoLabel [] = Unit {0}
HasNoLabel (line ∷ lines) = ((at : ℕ) → label_at line at ≡ []) × HasNoLabel lines

pub no_label_append : (xs ys : List Line) → HasNoLabel xs → HasNoLabel ys → HasNoLabel (xs ++ ys)
no_label_append [] ys p q = q
no_label_append (x ∷ xs) ys p q = (p.0, no_label_append xs ys p.1 q)

-- lines without labels have no places
pub no_places : (far : List ℕ) (far_at at : ℕ) (lines : List Line) → HasNoLabel lines
    → places_from far far_at at lines ≡ []
no_places far far_at at [] none = refl
no_places far far_at at (line ∷ lines) none =
    ap (λ xs. xs ++ places_from far (far_at + longest line) (at + size far far_at line) lines) (none.0 at)
    ∙ no_places far (far_at + longest line) (at + size far far_at line) lines none.1

-- Where an operation's lines are: what stands in front of them, with the places of so many labels, and behind them.
pub record Parts (body : LirBody) (place : ℕ) (lines : List Line) (op : LirOp) : Type 0 where
  pub before : List Line
  pub behind : List LirOp
  pub split : lines ≡ before ++ (Label ∷ (op_lines body op ++ ops_lines body behind))
  pub labels : (far : List ℕ) (far_at at : ℕ) → length (places_from far far_at at before) ≡ place

-- one list of lines more in front
in_front : (body : LirBody) (place n : ℕ) (op : LirOp) (first lines : List Line)
    → ((far : List ℕ) (far_at at : ℕ) → length (places_from far far_at at first) ≡ n) → Parts body place lines op
    → Parts body (n + place) (first ++ lines) op
in_front body place n op first lines so_many p = record {
  before = first ++ p.before;
  behind = p.behind;
  split = ap (λ xs. first ++ xs) p.split
      ∙ sym (append_assoc first p.before (Label ∷ (op_lines body op ++ ops_lines body p.behind)));
  labels = λ far far_at at.
      let rest = places_from far (far_at + longest_of first) (at + size_of far far_at first) p.before in
      let here = so_many far far_at at in
      let there = p.labels far (far_at + longest_of first) (at + size_of far far_at first) in
      ap length (places_append far far_at at first p.before)
      ∙ length-append (places_from far far_at at first) rest ∙ omega (arith, here, there);
}

-- by a recursion on the operations; the lines of each operation have no label
parts_of_ops : (body : LirBody) → ((op : LirOp) → HasNoLabel (op_lines body op)) → (ops : List LirOp) (place : ℕ)
    (op : LirOp) → slice_get ops place ≡ Some op → Parts body place (ops_lines body ops) op
parts_of_ops body none [] place op e = cc
parts_of_ops body none (x ∷ ops) zero op e =
    let same : x ≡ op = cc in
    record {
      before = [];
      behind = ops;
      split = ap (λ y. Label ∷ (op_lines body y ++ ops_lines body ops)) same;
      labels = λ far far_at at. refl;
    }
parts_of_ops body none (x ∷ ops) (suc place) op e =
    let p : Parts body place (ops_lines body ops) op = parts_of_ops body none ops place op e in
    let one : (far : List ℕ) (far_at at : ℕ)
    → length (places_from far far_at at (Label ∷ op_lines body x)) ≡ 1 =
    λ far far_at at. ap (λ xs. suc (length xs)) (no_places far (far_at + 0) (at + 0) (op_lines body x) (none x)) in
    let sum : 1 + place ≡ suc place = omega arith in
    subst (λ n. Parts body n (Label ∷ (op_lines body x ++ ops_lines body ops)) op) sum
    (in_front body place 1 op (Label ∷ op_lines body x) (ops_lines body ops) one p)

pub parts : (body : LirBody) → ((op : LirOp) → HasNoLabel (op_lines body op)) → HasNoLabel (enters body)
    → (place : ℕ) (op : LirOp) → slice_get body.ops place ≡ Some op → Parts body place (lines_of body) op
unfolding lines_of
parts body none none_first place op e =
    let zeroth : (far : List ℕ) (far_at at : ℕ) → length (places_from far far_at at (enters body)) ≡ 0 =
    λ far far_at at. ap length (no_places far far_at at (enters body) none_first) in
    let sum : 0 + place ≡ place = omega arith in
    subst (λ n. Parts body n (enters body ++ ops_lines body body.ops) op) sum
    (in_front body place 0 op (enters body) (ops_lines body body.ops) zeroth
    (parts_of_ops body none body.ops place op e))

-- the item at the end of a part
at_seam : (xs ys : List ℕ) (y n : ℕ) → length xs ≡ n → place_in (xs ++ y ∷ ys) n ≡ y
at_seam [] ys y zero e = refl
at_seam [] ys y (suc n) e = absurd (omega (arith, e))
at_seam (x ∷ xs) ys y zero e = absurd (omega (arith, e))
at_seam (x ∷ xs) ys y (suc n) e = at_seam xs ys y n (omega (arith, e))

-- What stands in the code of a body at an operation: the code of its lines, from the place of its label on, and then
-- that of the operations behind it, of which the first begins at the place of the next label.
pub record Block (program : WordProgram) (begin : ℕ) (body : LirBody) (place : ℕ) (op : LirOp) (far_at : ℕ)
    : Type 0 where
  pub before : List Ins
  pub behind : List Ins
  pub code : linked program begin body
      ≡ before
      ++ (linked_from program begin (far_places 0 (lines_of body)) (places_in (lines_of body)) far_at
      (place_in (places_in (lines_of body)) place) (op_lines body op) ++ behind)
  pub at : length before ≡ place_in (places_in (lines_of body)) place

abbrev pub block_far : (body : LirBody) (place : ℕ) (op : LirOp) → Parts body place (lines_of body) op → ℕ
block_far body place op p = (0 + longest_of p.before) + 0

pub block : (program : WordProgram) (begin : ℕ) (body : LirBody) (place : ℕ) (op : LirOp)
    → (p : Parts body place (lines_of body) op) → Block program begin body place op (block_far body place op p)
block program begin body place op p =
    let lines : List Line = lines_of body in
    let far : List ℕ = far_places 0 lines in
    let places : List ℕ = places_in lines in
    let far_at : ℕ = 0 + longest_of p.before in
    let at : ℕ = 0 + size_of far 0 p.before in
    let rest : List Line = op_lines body op ++ ops_lines body p.behind in
    let tail : List Line = ops_lines body p.behind in
    -- the place of the label
    let all : places ≡ places_from far 0 0 p.before ++ at ∷ places_from far (far_at + 0) (at + 0) rest =
    ap (places_from far 0 0) p.split ∙ places_append far 0 0 p.before (Label ∷ rest) in
    let here : place_in places place ≡ at =
    ap (λ xs. place_in xs place) all
    ∙ at_seam (places_from far 0 0 p.before) (places_from far (far_at + 0) (at + 0) rest) at place (p.labels far 0 0) in
    let front : List Ins = linked_from program begin far places 0 0 p.before in
    let own : List Ins = linked_from program begin far places (far_at + 0) (at + 0) (op_lines body op) in
    let others : List Ins = linked_from program begin far places ((far_at + 0) + longest_of (op_lines body op))
    ((at + 0) + size_of far (far_at + 0) (op_lines body op)) tail in
    let same : at + 0 ≡ place_in places place = omega (arith, here) in
    record {
      before = front;
      behind = others;
      code = linked_by_lines program begin body
          ∙ ap (linked_from program begin far places 0 0) p.split
          ∙ linked_append program begin far places 0 0 p.before (Label ∷ rest)
          ∙ ap (λ xs. front ++ xs) (linked_append program begin far places (far_at + 0) (at + 0)
          (op_lines body op) tail)
          ∙ ap (λ n. front ++ (linked_from program begin far places (far_at + 0) n (op_lines body op) ++ others)) same;
      at = size_of_linked program begin far places 0 0 p.before ∙ omega (arith, here);
    }
