-- The code of the operation at which a machine stands.
use Rattle.std.proofs.Common.{◌≡◌, ◌∙◌, ℕ, ◌+◌, ◌*◌, ◌<◌, ◌≤◌, true, List, ◌++◌, length, Some, arith, refl}
use Rattle.std.proofs.Common.{ap, sym, subst, nat_lt, nat_le, length-append}
use Rattle.std.specs.Prelude.{slice_get}
use Rattle.std.proofs.lemmas.Bool.Decides.{nat_tests}
use Rattle.num_core.specs.Run.{Running, Stopped, Streams, after}
use Rattle.rv_isa.specs.declared.ins.Ins.{Ins}
use Rattle.rv_step.specs.Machine.{MachineState, machine_step}
use Rattle.rv_code.specs.Code.{AllLegal, BlockAt, CodeAt}
use Rattle.rv_code.proofs.Going.{block_at, legal_parts}
use Rattle.lir_core.specs.Slots.{Here}
use Rattle.lir_core.specs.Program.{WordProgram}
use Rattle.lir_core.specs.State.{WordCause, WordState}
use Rattle.lir_core.specs.declared.body.LirBody.{LirBody}
use Rattle.lir_core.specs.declared.op.LirOp.{LirOp}
use Rattle.lir_core.proofs.Sound.{first_of}
use Rattle.rv_gen.specs.Lines.{lines_of, op_lines}
use Rattle.rv_gen.specs.Placing.{code_of, place_in, places_in}
use Rattle.rv_words.specs.Groups.{IsAt}
use Rattle.rv_words.specs.Linked.{linked}
use Rattle.rv_words.specs.Placing.{IsBodyPlaced, IsPlacing, Placing}
use Rattle.rv_words.specs.Stands.{AreBytes, FetchesAt, FetchesFrom, FollowsInBody, Related, Stands}
use Rattle.rv_words.specs.Stands.Related.{AtNoStep, AtOperation}
use Rattle.rv_words.specs.Words.{stops_of}
use Rattle.rv_words.proofs.Around.{IsFound, IsSpot, found_at, spot_told}
use Rattle.rv_words.proofs.Going.{Goes}
use Rattle.rv_words.proofs.Legal.{linked_legal}
use Rattle.rv_words.proofs.LinkedCode.{Block, Parts, block, linked_by_lines, linked_from, parts, size_of}
use Rattle.rv_words.proofs.LinkedCode.{size_of_linked}
use Rattle.rv_words.proofs.Places.{begin_inside, begin_of, code_room, code_size, far_before, far_of, stop_at}
use Rattle.rv_words.proofs.Places.{stop_behind}
use Rattle.rv_words.proofs.Plain.{of_enters, of_operation}
use Rattle.rv_words.proofs.Standing.{InnerIn, inner}

-- what an operation becomes where its body's code stands
abbrev pub block_of : WordProgram → ℕ → LirBody → ℕ → ℕ → LirOp → List Ins
block_of program begin body far_at k operation =
    linked_from program begin (far_of body) (places_in (lines_of body)) far_at k (op_lines body operation)

-- The code of the operation stands from the pc on, and behind it the next operation begins, or the code ends.
pub record Site (placing : Placing) (here : Here) (operation : LirOp) (begin : ℕ) (m : MachineState) : Type 0 where
  pub i : InnerIn placing m here.frame here.below
  pub item_is : i.here.item ≡ here.frame.item
  pub body_is : i.here.body ≡ here.body
  pub k : ℕ
  pub far_at : ℕ
  pub pc : m.pc ≡ begin + 4 * k
  pub within : k < length (code_of here.body)
  pub at : place_in (places_in (lines_of here.body)) here.frame.place ≡ k
  pub placed : IsBodyPlaced placing begin here.frame.item here.body
  pub code_at : CodeAt begin (linked placing.program begin here.body) m
  pub block : BlockAt (linked placing.program begin here.body) k
      (block_of placing.program begin here.body far_at k operation)
  pub legal : AllLegal (block_of placing.program begin here.body far_at k operation)
  pub next : slice_get (stops_of here.body) (here.frame.place + 1)
      ≡ Some (k + size_of (far_of here.body) far_at (op_lines here.body operation))
  pub some_room : 0 < size_of (far_of here.body) far_at (op_lines here.body operation)
  pub end : k + size_of (far_of here.body) far_at (op_lines here.body operation) ≤ length (code_of here.body)

-- the code is as long with its addresses as without
pub linked_length : (program : WordProgram) (begin : ℕ) (body : LirBody)
    → length (linked program begin body) ≡ length (code_of body)
linked_length program begin body =
    ap length (linked_by_lines program begin body)
    ∙ size_of_linked program begin (far_of body) (places_in (lines_of body)) 0 0 (lines_of body)
    ∙ sym (code_size (far_of body) (places_in (lines_of body)) 0 0 (lines_of body))

same_number : (a b : ℕ) → Some a ≡ Some b → a ≡ b
same_number a b e = cc

is_below : (a b : ℕ) → nat_lt a b ≡ true → a < b
is_below a b t = grind (arith, nat_tests)

pub site : (placing : Placing) (here : Here) (operation : LirOp) (begin : ℕ) (m : MachineState) → IsPlacing placing
    → IsAt placing here operation begin m → Site placing here operation begin m
site placing here operation begin m is at =
    let body : LirBody = here.body in
    let place : ℕ = here.frame.place in
    let program : WordProgram = placing.program in
    let i : InnerIn placing m here.frame here.below = inner placing here.state m here.frame here.below at.stands
    at.frames in
    let found : IsFound program m.pc (record { begin = begin; item = here.frame.item; body = body }) =
    found_at placing m.pc (record { begin = begin; item = here.frame.item; body = body }) at.around in
    let above : begin < m.pc =
    is_below begin m.pc (first_of (nat_lt begin m.pc) (nat_le m.pc (begin + 4 * length (code_of body))) found.within) in
    let spot : IsSpot begin here.frame.item body m.pc i.here =
    spot_told placing begin here.frame.item m.pc body i.here above at.around i.is in
    let p : Parts body place (lines_of body) operation =
    parts body (λ op. (of_operation body op).none) (of_enters body).none place operation at.operation_there in
    let stop = stop_at body place operation (of_operation body operation) p in
    let same : i.here.place ≡ place = sym i.first.place in
    -- both say where the operation begins
    let k_is : spot.k ≡ begin_of body place operation p =
    same_number spot.k (begin_of body place operation p)
    (sym spot.stop ∙ ap (slice_get (stops_of body)) same ∙ stop.0) in
    let far_at : ℕ = far_before body place operation p in
    let b : Block program begin body place operation far_at = block program begin body place operation p in
    let at_k : place_in (places_in (lines_of body)) place ≡ spot.k = stop.1 ∙ sym k_is in
    let code : List Ins = linked program begin body in
    let own : List Ins = block_of program begin body far_at spot.k operation in
    let split : code ≡ b.before ++ (own ++ b.behind) =
    b.code
    ∙ ap (λ n. b.before ++ (block_of program begin body far_at n operation ++ b.behind)) at_k in
    let total : length code ≡ length b.before + (length own + length b.behind) =
    ap length split ∙ length-append b.before (own ++ b.behind)
    ∙ ap (λ n. length b.before + n) (length-append own b.behind) in
    let own_size : length own ≡ size_of (far_of body) far_at (op_lines body operation) =
    size_of_linked program begin (far_of body) (places_in (lines_of body)) far_at spot.k (op_lines body operation) in
    let front_size : length b.before ≡ spot.k = b.at ∙ at_k in
    let placed : IsBodyPlaced placing begin here.frame.item body =
    is.bodies here.frame.item begin body found.item found.body in
    let whole : AllLegal (b.before ++ (own ++ b.behind)) =
    subst AllLegal split (linked_legal program begin body placed.legal) in
    record {
      i = i;
      item_is = spot.item_is;
      body_is = spot.body_is;
      k = spot.k;
      far_at = far_at;
      pc = spot.there;
      within = subst (λ n. n < length (code_of body)) (sym k_is)
          (begin_inside body place operation (of_operation body operation) p);
      at = at_k;
      placed = placed;
      code_at = at.stands.serves.memory.code here.frame.item begin body found.item found.body;
      block = block_at b.before own b.behind code spot.k split (sym (b.at ∙ at_k));
      legal = (legal_parts own b.behind (legal_parts b.before (own ++ b.behind) whole).1).0;
      next = stop_behind body place operation (of_operation body operation) p
          ∙ ap (λ n. Some (n + size_of (far_of body) far_at (op_lines body operation))) (sym k_is);
      some_room = code_room (far_of body) far_at (op_lines body operation) (of_operation body operation);
      end = omega (arith, total, own_size, front_size, linked_length program begin body);
    }

-- A machine that has gone on to where the program stands next has followed it, all in the body's code.
pub followed : (placing : Placing) (begin : ℕ) (body : LirBody) (most count place : ℕ) (m new : MachineState)
    (state : WordState) (streams : Streams) → 0 < count → count ≤ most
    → Goes begin (linked placing.program begin body) place count m new → Stands placing state new → AreBytes streams
    → FollowsInBody placing begin body most m streams (Running state streams)
followed placing begin body most count place m new state streams some few goes stands bytes = record {
  follows = record {
    count = count;
    some = some;
    few = few;
    related = subst (Related placing (Running state streams)) (sym (goes.runs streams))
        (AtOperation state new streams stands bytes);
  };
  fetches = subst (λ n. FetchesFrom begin (4 * n) count m streams) (linked_length placing.program begin body)
      (goes.fetches streams);
}

-- Where the program can't go on nothing is owed but a step.
pub followed_stuck : (placing : Placing) (here : Here) (operation : LirOp) (begin most : ℕ) (m : MachineState)
    (cause : WordCause) (streams streams' : Streams) → Site placing here operation begin m → 0 < most
    → FollowsInBody placing begin here.body most m streams (Stopped cause streams')
followed_stuck placing here operation begin most m cause streams streams' s some = record {
  follows = record {
    count = 1;
    some = omega arith;
    few = omega (arith, some);
    related = AtNoStep cause streams' (after machine_step 1 (Running m streams));
  };
  fetches = λ j h.
      let first : j ≡ 0 = omega (arith, h) in
      let pc : m.pc ≡ begin + 4 * s.k = s.pc in
      let within : s.k < length (code_of here.body) = s.within in
      subst (λ i. FetchesAt begin (4 * length (code_of here.body)) (after machine_step i (Running m streams)))
      (sym first)
      (record { m = m; streams = streams; runs = refl; above = omega (arith, pc); below = omega (arith, pc, within) });
}
