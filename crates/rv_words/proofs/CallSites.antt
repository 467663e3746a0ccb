-- Where calls go on: what the map tells behind the jump of a call.
use Rattle.std.proofs.Common.{◌≡◌, ◌∙◌, ℕ, zero, suc, ◌+◌, ◌-◌, ◌*◌, ◌/◌, ◌%◌, ◌<◌, ◌≤◌, ◌==◌, Bool, true, false, cond}
use Rattle.std.proofs.Common.{List, [], ◌∷◌, ◌++◌, length, Option, Some, None, arith, refl, ap, sym, subst, nat_lt}
use Rattle.std.proofs.Common.{nat_le, pos}
use Rattle.std.proofs.Common.{eq-eqb, ne_eqb}
use Rattle.std.specs.Prelude.{slice_get}
use Rattle.std.specs.List.{flat_map}
use Rattle.std.specs.Option.{option_and_then, option_map}
use Rattle.std.proofs.lemmas.Bool.Decides.{nat_tests}
use Rattle.lir_core.proofs.Sound.{first_of}
use Rattle.lir_core.specs.Slots.{Here}
use Rattle.lir_core.specs.declared.body.LirBody.{LirBody}
use Rattle.lir_core.specs.declared.op.Argument.{Argument}
use Rattle.lir_core.specs.declared.op.Block.{Block}
use Rattle.lir_core.specs.declared.op.Callee.{Callee}
use Rattle.lir_core.specs.declared.op.LirOp.{LirOp}
use Rattle.lir_core.specs.declared.op.LirOp.TheVariants.{Call}
use Rattle.rv_step.specs.Machine.{MachineState}
use Rattle.rv_isa.specs.declared.ins.Ins.{Ins}
use Rattle.rv_lines.specs.declared.line.Line.{Line}
use Rattle.rv_lines.specs.declared.line.Line.TheVariants.{Single}
use Rattle.rv_gen.specs.Calling.{clears_block, finds_frame, gets_callee, gives_argument, gives_dictionary, takes_result}
use Rattle.rv_gen.specs.Lines.{lines_of, op_lines}
use Rattle.rv_gen.specs.Placing.{code_of}
use Rattle.rv_words.specs.Groups.{IsAt}
use Rattle.rv_words.specs.Placing.{Around, IsBodyPlaced, IsPlacing, Placing, around_at}
use Rattle.rv_words.specs.Words.{Spot, call_at, call_before, is_behind_jump, is_so_far_behind, lines_to_jump}
use Rattle.rv_words.specs.Words.{operation_at}
use Rattle.rv_words.specs.Words.{spot_by, stands_at, stops_of, to_jump, waits_at, width}
use Rattle.rv_words.proofs.Around.{IsFound, found_at}
use Rattle.rv_words.proofs.LinkedCode.{Parts, longest_of, parts, size_append, size_of}
use Rattle.rv_words.proofs.Places.{Rises, begin_of, begin_within, far_before, far_of, operation_begins, spot_at}
use Rattle.rv_words.proofs.Places.{stop_above}
use Rattle.rv_words.proofs.Places.{stop_at, stop_behind, stops_rise}
use Rattle.rv_words.proofs.Plain.{of_enters, of_operation}
use Rattle.rv_words.proofs.Sites.{Site}
use Rattle.rv_words.proofs.Widths.{calls_split, width_is, widths_to_jump}

-- ---- from the map to the call

-- A place that is found is that of an operation, of which the instruction is behind the jump.
record BeforeTold (vars : List ℕ) (k n : ℕ) (places : List ℕ) (ops : List LirOp) (found : ℕ) : Type 0 where
  pub j : ℕ
  pub is : found ≡ n + j
  pub op : LirOp
  pub stop : ℕ
  pub stop_there : slice_get places j ≡ Some stop
  pub op_there : slice_get ops j ≡ Some op
  pub behind : is_behind_jump vars op stop k ≡ true

before_told : (vars : List ℕ) (k n : ℕ) (places : List ℕ) (ops : List LirOp) (found : ℕ)
    → call_before vars k n places ops ≡ Some found → BeforeTold vars k n places ops found
before_told vars k n [] ops found e = cc
before_told vars k n (place ∷ places) [] found e = cc
before_told vars k n (place ∷ places) (op ∷ ops) found e =
    by (λ e'. before_told vars k (n + 1) places ops found e') (is_behind_jump vars op place k) refl e
  where
    later : BeforeTold vars k (n + 1) places ops found → BeforeTold vars k n (place ∷ places) (op ∷ ops) found
    later b = record {
      j = suc b.j;
      is = let e : found ≡ (n + 1) + b.j = b.is in omega (arith, e);
      op = b.op;
      stop = b.stop;
      stop_there = b.stop_there;
      op_there = b.op_there;
      behind = b.behind;
    }

    by : (call_before vars k (n + 1) places ops ≡ Some found → BeforeTold vars k (n + 1) places ops found) → (b : Bool)
        → is_behind_jump vars op place k ≡ b
        → cond b (Some n) (call_before vars k (n + 1) places ops) ≡ Some found
        → BeforeTold vars k n (place ∷ places) (op ∷ ops) found
    by more true t e =
        let same : n ≡ found = cc in
        record {
          j = 0;
          is = omega (arith, same);
          op = op;
          stop = place;
          stop_there = refl;
          op_there = refl;
          behind = t;
        }
    by more false t e = later (more e)

-- it is a call
record IsCall (vars : List ℕ) (op : LirOp) (stop k : ℕ) : Type 0 where
  pub callee : Callee
  pub dictionary : Option ℕ
  pub arguments : List Argument
  pub cleared : Block
  pub result : Block
  pub is : op ≡ Call callee dictionary arguments cleared result
  pub sum : stop + width (lines_to_jump vars callee dictionary arguments cleared) ≡ k

equal : (a b : ℕ) → (a == b) ≡ true → a ≡ b
equal a b t = grind (arith, nat_tests)

is_call : (vars : List ℕ) (op : LirOp) (stop k : ℕ) → is_behind_jump vars op stop k ≡ true → IsCall vars op stop k
is_call vars (Call callee dictionary arguments cleared result) stop k e = record {
  callee = callee;
  dictionary = dictionary;
  arguments = arguments;
  cleared = cleared;
  result = result;
  is = refl;
  sum = equal (stop + width (lines_to_jump vars callee dictionary arguments cleared)) k e;
}
is_call vars _ stop k e = absurd (let no : false ≡ true = e in cc)

-- Where a call goes on: so many instructions behind the place where it begins.
pub record IsBehindCall (body : LirBody) (place k : ℕ) : Type 0 where
  pub callee : Callee
  pub dictionary : Option ℕ
  pub arguments : List Argument
  pub cleared : Block
  pub result : Block
  pub there : slice_get body.ops place ≡ Some (Call callee dictionary arguments cleared result)
  pub stop : ℕ
  pub begins : slice_get (stops_of body) place ≡ Some stop
  pub sum : stop + width (lines_to_jump body.vars callee dictionary arguments cleared) ≡ k

pub call_told : (body : LirBody) (k place : ℕ) → call_at body k ≡ Some place → IsBehindCall body place k
call_told body k place e =
    let b : BeforeTold body.vars k 0 (stops_of body) body.ops place =
    before_told body.vars k 0 (stops_of body) body.ops place e in
    let c : IsCall body.vars b.op b.stop k = is_call body.vars b.op b.stop k b.behind in
    let same : b.j ≡ place = let s : place ≡ 0 + b.j = b.is in omega (arith, s) in
    record {
      callee = c.callee;
      dictionary = c.dictionary;
      arguments = c.arguments;
      cleared = c.cleared;
      result = c.result;
      there = ap (slice_get body.ops) (sym same) ∙ b.op_there ∙ ap Some c.is;
      stop = b.stop;
      begins = ap (slice_get (stops_of body)) (sym same) ∙ b.stop_there;
      sum = c.sum;
    }

-- What the map tells at an address at which a call goes on.
pub record IsWaiting (placing : Placing) (address : ℕ) (caller : Spot) : Type 0 where
  pub begin : ℕ
  pub k : ℕ
  pub there : address ≡ begin + 4 * k
  pub item_there : placing.program.item_at begin ≡ Some caller.item
  pub body_there : placing.program.body_of caller.item ≡ Some caller.body
  pub call : IsBehindCall caller.body caller.place k

is_less : (a b : ℕ) → nat_lt a b ≡ true → a < b
is_less a b t = grind (arith, nat_tests)

pub waiting : (placing : Placing) (address : ℕ) (caller : Spot) → waits_at placing address ≡ Some caller
    → IsWaiting placing address caller
waiting placing address caller told = by (around_at placing address) refl told
  where
    make : Around → ℕ → Spot
    make around p = record { item = around.item; body = around.body; place = p }

    multiple : (around : Around) → (address - around.begin) % 4 == 0 ≡ true → (address - around.begin) % 4 ≡ 0
    multiple around t = grind (arith, nat_tests)

    place_of : (around : Around) → IsFound placing.program address around → (address - around.begin) % 4 ≡ 0
        → (o : Option ℕ) → call_at around.body ((address - around.begin) / 4) ≡ o
        → option_map (make around) o ≡ Some caller → IsWaiting placing address caller
    place_of around found even None is e = cc
    place_of around found even (Some p) is e =
        let same : make around p ≡ caller = cc in
        let above : around.begin < address =
        is_less around.begin address
        (first_of (nat_lt around.begin address) (nat_le address (around.begin + 4 * length (code_of around.body)))
        found.within) in
        subst (IsWaiting placing address) same (record {
          begin = around.begin;
          k = (address - around.begin) / 4;
          there = omega (arith, above, even);
          item_there = found.item;
          body_there = found.body;
          call = call_told around.body ((address - around.begin) / 4) p is;
        })

    inside : (around : Around) → IsFound placing.program address around → (b : Bool)
        → (address - around.begin) % 4 == 0 ≡ b
        → cond b (option_map (make around) (call_at around.body ((address - around.begin) / 4))) None ≡ Some caller
        → IsWaiting placing address caller
    inside around found false t e = cc
    inside around found true t e =
        place_of around found (multiple around t) (call_at around.body ((address - around.begin) / 4)) refl e

    by : (o : Option Around) → around_at placing address ≡ o
        → option_and_then (λ around. cond ((address - around.begin) % 4 == 0)
        (option_map (λ p. record { item = around.item; body = around.body; place = p })
        (call_at around.body ((address - around.begin) / 4))) None) o ≡ Some caller
        → IsWaiting placing address caller
    by None is e = cc
    by (Some around) is e =
        inside around (found_at placing address around is) ((address - around.begin) % 4 == 0) refl e

-- The operation at which a frame waits begins where the map tells that it does.
pub waiting_stands : (placing : Placing) (address : ℕ) (caller : Spot) → IsPlacing placing
    → (w : IsWaiting placing address caller)
    → (around_at placing (w.begin + 4 * w.call.stop)
    ≡ Some (record { begin = w.begin; item = caller.item; body = caller.body }))
    × (stands_at placing (w.begin + 4 * w.call.stop) ≡ Some caller)
waiting_stands placing address caller is w =
    let body : LirBody = caller.body in
    let c : IsBehindCall body caller.place w.k = w.call in
    let op : LirOp = Call c.callee c.dictionary c.arguments c.cleared c.result in
    let placed : IsBodyPlaced placing w.begin caller.item body =
    is.bodies caller.item w.begin body w.item_there w.body_there in
    let p : Parts body caller.place (lines_of body) op =
    parts body (λ o. (of_operation body o).none) (of_enters body).none caller.place op c.there in
    let stop = stop_at body caller.place op (of_operation body op) p in
    let rises = stops_rise body (of_operation body) (of_enters body) in
    let same : c.stop ≡ begin_of body caller.place op p =
    let e : Some c.stop ≡ Some (begin_of body caller.place op p) = sym c.begins ∙ stop.0 in cc in
    let within : begin_of body caller.place op p ≤ length (code_of body) = begin_within body caller.place op p in
    let above : 0 < c.stop = stop_above body caller.place c.stop rises c.begins in
    let around : around_at placing (w.begin + 4 * c.stop)
    ≡ Some (record { begin = w.begin; item = caller.item; body = body }) =
    placed.mapped (w.begin + 4 * c.stop) (omega (arith, above)) (omega (arith, within, same)) in (
      around,
      spot_at placing w.begin caller.item c.stop caller.place (w.begin + 4 * c.stop) body around refl
          (operation_begins body caller.place c.stop rises c.begins),
    )

-- ---- from the call to the map

-- the instructions of an operation, up to behind its jump, end in front of the next one
abbrev EndsBefore : List ℕ → LirOp → ℕ → ℕ → Type 0
EndsBefore vars op stop next = (k : ℕ) → is_behind_jump vars op stop k ≡ true → k ≤ next

ends_before : (body : LirBody) (place : ℕ) (op : LirOp) (stop next : ℕ) → slice_get body.ops place ≡ Some op
    → slice_get (stops_of body) place ≡ Some stop → slice_get (stops_of body) (place + 1) ≡ Some next
    → EndsBefore body.vars op stop next
ends_before body place op stop next there begins ends k behind =
    let c : IsCall body.vars op stop k = is_call body.vars op stop k behind in
    let p : Parts body place (lines_of body) op =
    parts body (λ o. (of_operation body o).none) (of_enters body).none place op there in
    let far : List ℕ = far_of body in
    let far_at : ℕ = far_before body place op p in
    let first : List Line = lines_to_jump body.vars c.callee c.dictionary c.arguments c.cleared in
    let rest : List Line = takes_result body.vars c.result in
    let at = stop_at body place op (of_operation body op) p in
    let behind_it = stop_behind body place op (of_operation body op) p in
    let stop_is : stop ≡ begin_of body place op p =
    let e : Some stop ≡ Some (begin_of body place op p) = sym begins ∙ at.0 in cc in
    let next_is : next ≡ begin_of body place op p + size_of far far_at (op_lines body op) =
    let e : Some next ≡ Some (begin_of body place op p + size_of far far_at (op_lines body op)) =
    sym ends ∙ behind_it in cc in
    let lines : op_lines body op ≡ first ++ rest =
    ap (op_lines body) c.is ∙ calls_split body.vars c.callee c.dictionary c.arguments c.cleared c.result in
    let sizes : size_of far far_at (op_lines body op)
    ≡ size_of far far_at first + size_of far (far_at + longest_of first) rest =
    ap (size_of far far_at) lines ∙ size_append far far_at first rest in
    let own : size_of far far_at first ≡ width first =
    width_is far far_at first (widths_to_jump body.vars c.callee c.dictionary c.arguments c.cleared) in
    omega (arith, c.sum, stop_is, next_is, sizes, own)

-- each of the operations in front ends before the place at which the search is
abbrev AllEndBefore : List ℕ → List ℕ → List LirOp → ℕ → ℕ → Type 0
AllEndBefore vars places ops j k =
    (i : ℕ) (op : LirOp) (stop : ℕ) → i < j → slice_get places i ≡ Some stop → slice_get ops i ≡ Some op
    → is_behind_jump vars op stop k ≡ false

before_is : (vars : List ℕ) (k n j : ℕ) (places : List ℕ) (ops : List LirOp) (op : LirOp) (stop : ℕ)
    → slice_get places j ≡ Some stop → slice_get ops j ≡ Some op → is_behind_jump vars op stop k ≡ true
    → AllEndBefore vars places ops j k → call_before vars k n places ops ≡ Some (n + j)
before_is vars k n j [] ops op stop e e' behind none = cc
before_is vars k n j (place ∷ places) [] op stop e e' behind none = cc
before_is vars k n zero (place ∷ places) (x ∷ ops) op stop e e' behind none =
    let same : place ≡ stop = cc in
    let same' : x ≡ op = cc in
    let here : is_behind_jump vars x place k ≡ true =
    ap (λ o. is_behind_jump vars o place k) same' ∙ ap (λ s. is_behind_jump vars op s k) same ∙ behind in
    let sum : n ≡ n + 0 = omega arith in
    ap (λ b. cond b (Some n) (call_before vars k (n + 1) places ops)) here ∙ ap Some sum
before_is vars k n (suc j) (place ∷ places) (x ∷ ops) op stop e e' behind none =
    let other : is_behind_jump vars x place k ≡ false = none 0 x place (omega arith) refl refl in
    let rest : call_before vars k (n + 1) places ops ≡ Some ((n + 1) + j) =
    before_is vars k (n + 1) j places ops op stop e e' behind
    (λ i o s less q q'. none (suc i) o s (omega (arith, less)) q q') in
    let sum : (n + 1) + j ≡ n + suc j = omega arith in
    ap (λ b. cond b (Some n) (call_before vars k (n + 1) places ops)) other ∙ rest ∙ ap Some sum

-- the places of operations rise
none_lower : (low : ℕ) (xs : List ℕ) (n k : ℕ) → Rises low xs → slice_get xs n ≡ Some k → low ≤ k
none_lower low [] n k rises e = cc
none_lower low (x ∷ xs) zero k rises e = let same : x ≡ k = cc in subst (λ y. low ≤ y) same rises.0
none_lower low (x ∷ xs) (suc n) k rises e =
    let first : low ≤ x = rises.0 in
    let above : x + 1 ≤ k = none_lower (x + 1) xs n k rises.1 e in
    omega (arith, first, above)

rises_between : (low : ℕ) (xs : List ℕ) (i j a b : ℕ) → Rises low xs → i ≤ j → slice_get xs i ≡ Some a
    → slice_get xs j ≡ Some b → a ≤ b
rises_between low [] i j a b rises h e e' = cc
rises_between low (x ∷ xs) zero zero a b rises h e e' =
    let same : Some a ≡ Some b = sym e ∙ e' in
    let is : a ≡ b = cc in
    omega (arith, is)
rises_between low (x ∷ xs) zero (suc j) a b rises h e e' =
    let same : x ≡ a = cc in
    let above : x + 1 ≤ b = none_lower (x + 1) xs j b rises.1 e' in
    omega (arith, same, above)
rises_between low (x ∷ xs) (suc i) zero a b rises h e e' = absurd (omega (arith, h))
rises_between low (x ∷ xs) (suc i) (suc j) a b rises h e e' =
    rises_between (x + 1) xs i j a b rises.1 (omega (arith, h)) e e'

width_append : (xs ys : List Line) → width (xs ++ ys) ≡ width xs + width ys
width_append [] ys = omega arith
width_append (x ∷ xs) ys = let rest : width (xs ++ ys) ≡ width xs + width ys = width_append xs ys in omega (arith, rest)

-- up to the jump there is an instruction at least
some_width : (vars : List ℕ) (callee : Callee) (dictionary : Option ℕ) (arguments : List Argument) (cleared : Block)
    → 0 < width (lines_to_jump vars callee dictionary arguments cleared)
some_width vars callee dictionary arguments cleared =
    let behind : List Line = flat_map (gives_argument vars) arguments ++ (gives_dictionary vars dictionary
    ++ (clears_block vars cleared ++ Single (Ins.Jalr 1 30 (pos 0)) ∷ [])) in
    let parts : width (gets_callee vars callee ++ (finds_frame ++ behind))
    ≡ width (gets_callee vars callee) + width (finds_frame ++ behind) =
    width_append (gets_callee vars callee) (finds_frame ++ behind) in
    let some : 0 < width (finds_frame ++ behind) = omega arith in
    omega (arith, parts, some)

not_true : (b : Bool) → (b ≡ true → ⊥) → b ≡ false
not_true true never = absurd (never refl)
not_true false never = refl

-- The call at a place is the one behind whose jump the instruction is.
pub call_is : (body : LirBody) (place stop k : ℕ) (callee : Callee) (dictionary : Option ℕ) (arguments : List Argument)
    (cleared result : Block)
    → slice_get body.ops place ≡ Some (Call callee dictionary arguments cleared result)
    → slice_get (stops_of body) place ≡ Some stop
    → stop + width (lines_to_jump body.vars callee dictionary arguments cleared) ≡ k → call_at body k ≡ Some place
call_is body place stop k callee dictionary arguments cleared result there begins sum =
    before_is body.vars k 0 place (stops_of body) body.ops (Call callee dictionary arguments cleared result) stop
    begins there (eq-eqb (stop + width (lines_to_jump body.vars callee dictionary arguments cleared)) k sum)
    (λ i op other less q q'. not_true (is_behind_jump body.vars op other k) (never i op other less q q'))
    ∙ ap Some first
  where
    first : 0 + place ≡ place
    first = omega arith

    some : 0 < width (lines_to_jump body.vars callee dictionary arguments cleared)
    some = some_width body.vars callee dictionary arguments cleared

    never : (i : ℕ) (op : LirOp) (other : ℕ) → i < place → slice_get (stops_of body) i ≡ Some other
        → slice_get body.ops i ≡ Some op → is_behind_jump body.vars op other k ≡ true → ⊥
    never i op other less q q' behind =
        let p : Parts body i (lines_of body) op =
        parts body (λ o. (of_operation body o).none) (of_enters body).none i op q' in
        let next : ℕ = begin_of body i op p + size_of (far_of body) (far_before body i op p) (op_lines body op) in
        let next_there : slice_get (stops_of body) (i + 1) ≡ Some next =
        stop_behind body i op (of_operation body op) p in
        let before : k ≤ next = ends_before body i op other next q' q next_there k behind in
        let below : next ≤ stop =
        rises_between 1 (stops_of body) (i + 1) place next stop (stops_rise body (of_operation body) (of_enters body))
        (omega (arith, less)) next_there begins in
        omega (arith, sum, some, before, below)

-- what the map tells by what a body tells of its instructions
spot_is : (tells : LirBody → ℕ → Option ℕ) (placing : Placing) (begin item k place address : ℕ) (body : LirBody)
    → around_at placing address ≡ Some (record { begin = begin; item = item; body = body })
    → address ≡ begin + 4 * k → tells body k ≡ Some place
    → spot_by tells placing address ≡ Some (record { item = item; body = body; place = place })
spot_is tells placing begin item k place address body around there is =
    let multiple : (address - begin) % 4 ≡ 0 = omega (arith, there) in
    let quotient : (address - begin) / 4 ≡ k = omega (arith, there) in
    let spot : ℕ → Spot = λ p. record { item = item; body = body; place = p } in
    ap (option_and_then
    (λ around. cond ((address - around.begin) % 4 == 0)
    (option_map (λ p. record { item = around.item; body = around.body; place = p })
    (tells around.body ((address - around.begin) / 4))) None)) around
    ∙ ap (λ n. cond (n == 0) (option_map spot (tells body ((address - begin) / 4))) None) multiple
    ∙ ap (λ n. option_map spot (tells body n)) quotient ∙ ap (option_map spot) is

-- Behind the jump of a call the frame that calls waits at it.
pub waits_behind : (placing : Placing) (here : Here) (callee : Callee) (dictionary : Option ℕ)
    (arguments : List Argument) (cleared result : Block) (begin : ℕ) (m : MachineState)
    → IsAt placing here (Call callee dictionary arguments cleared result) begin m
    → (s : Site placing here (Call callee dictionary arguments cleared result) begin m)
    → waits_at placing
    (begin + 4 * (s.k + width (lines_to_jump here.body.vars callee dictionary arguments cleared)))
    ≡ Some s.i.here
waits_behind placing here callee dictionary arguments cleared result begin m at s =
    let body : LirBody = here.body in
    let place : ℕ = here.frame.place in
    let op : LirOp = Call callee dictionary arguments cleared result in
    let first : List Line = lines_to_jump body.vars callee dictionary arguments cleared in
    let rest : List Line = takes_result body.vars result in
    let k : ℕ = s.k + width first in
    let p : Parts body place (lines_of body) op =
    parts body (λ o. (of_operation body o).none) (of_enters body).none place op at.operation_there in
    let stop = stop_at body place op (of_operation body op) p in
    let begins : slice_get (stops_of body) place ≡ Some s.k = stop.0 ∙ ap Some (sym stop.1 ∙ s.at) in
    let far : List ℕ = far_of body in
    let sizes : size_of far s.far_at (op_lines body op)
    ≡ size_of far s.far_at first + size_of far (s.far_at + longest_of first) rest =
    ap (size_of far s.far_at) (calls_split body.vars callee dictionary arguments cleared result)
    ∙ size_append far s.far_at first rest in
    let own : size_of far s.far_at first ≡ width first =
    width_is far s.far_at first (widths_to_jump body.vars callee dictionary arguments cleared) in
    let some : 0 < width first = some_width body.vars callee dictionary arguments cleared in
    let end : s.k + size_of far s.far_at (op_lines body op) ≤ length (code_of body) = s.end in
    let spot : Spot = record { item = here.frame.item; body = body; place = place } in
    let same : spot ≡ s.i.here =
    sym (ap (λ i. record { item = i; body = s.i.here.body; place = s.i.here.place }) s.item_is
    ∙ ap (λ b. record { item = here.frame.item; body = b; place = s.i.here.place }) s.body_is
    ∙ ap (λ n. record { item = here.frame.item; body = body; place = n }) (sym s.i.first.place)) in
    spot_is call_at placing begin here.frame.item k place (begin + 4 * k) body
    (s.placed.mapped (begin + 4 * k) (omega (arith, some)) (omega (arith, end, sizes, own))) refl
    (call_is body place s.k k callee dictionary arguments cleared result at.operation_there begins refl)
    ∙ ap Some same
