-- Jumps: the pattern of each operation's law.
use Rattle.std.proofs.Common.{◌≡◌, ◌∙◌, ℕ, ◌+◌, ◌*◌, ◌<◌, ◌≤◌, Bool, true, List, [], ◌∷◌, length, Some, arith}
use Rattle.std.proofs.Common.{refl, ap, sym, subst}
use Rattle.std.specs.Prelude.{filter, not, ◌&&◌, nat_lt, slice_get}
use Rattle.std.specs.List.{list_all}
use Rattle.num_core.specs.Run.{Run, Running, Streams}
use Rattle.rv_isa.specs.declared.ins.Ins.{Ins}
use Rattle.rv_step.specs.Machine.{MachineState}
use Rattle.rv_code.specs.Code.{AllLegal, BlockAt}
use Rattle.rv_code.proofs.Going.{block_parts, legal_parts}
use Rattle.lir_core.specs.Slots.{Here, goes_to}
use Rattle.lir_core.specs.declared.body.LirBody.{LirBody}
use Rattle.lir_core.specs.declared.op.LirOp.{LirOp}
use Rattle.lir_core.specs.declared.op.LirOp.TheVariants.{Jump, Leave}
use Rattle.lir_core.specs.Handlers.{entered_from, goes_through, is_finally, is_handled, is_tried, leaves}
use Rattle.lir_core.specs.Pieces.{labels}
use Rattle.lir_core.specs.State.{Entered, WordCause, WordState}
use Rattle.rv_lines.specs.declared.line.Line.{Line}
use Rattle.rv_gen.specs.Lines.{lines_of, op_lines}
use Rattle.rv_gen.specs.Placing.{are_close, code_of, jump_code, jump_limit, place_in, places_in}
use Rattle.rv_words.specs.Groups.{IsAt, IsFollowedInBody}
use Rattle.rv_words.specs.Linked.{linked}
use Rattle.rv_words.specs.Placing.{IsPlacing, Placing, reach}
use Rattle.rv_words.specs.Stands.{AreBytes, FollowsInBody, Stands}
use Rattle.rv_words.specs.Words.{operation_at, stands_at, stops_of}
use Rattle.rv_words.proofs.Branches.{Lands, lands_by_jump}
use Rattle.rv_words.proofs.LinkedCode.{linked_from}
use Rattle.rv_words.proofs.Moved.{stands_moved}
use Rattle.rv_words.proofs.Places.{Rises, far_of, operation_begins, spot_at, stops_rise}
use Rattle.rv_words.proofs.Plain.{of_enters, of_operation}
use Rattle.rv_words.proofs.Sites.{Site, followed, site}
use Rattle.rv_words.proofs.Standing.{goes_on_at}
use Rattle.rv_words.proofs.Targets.{Target, first_label, labels_within}

-- What the map tells where an operation of the body begins, or its code ends.
pub spot_there : (placing : Placing) (here : Here) (operation : LirOp) (begin to label : ℕ) (m new : MachineState)
    → (s : Site placing here operation begin m) → slice_get (stops_of here.body) label ≡ Some to → 0 < to
    → to ≤ length (code_of here.body) → new.pc ≡ begin + 4 * to
    → stands_at placing new.pc ≡ Some (record { item = s.i.here.item; body = s.i.here.body; place = label })
spot_there placing here operation begin to label m new s stop some within pc =
    let body : LirBody = here.body in
    let rises : Rises 1 (stops_of body) = stops_rise body (of_operation body) (of_enters body) in
    let there : operation_at body to ≡ Some label = operation_begins body label to rises stop in
    let spot : stands_at placing new.pc
    ≡ Some (record { item = here.frame.item; body = body; place = label }) =
    spot_at placing begin here.frame.item to label new.pc body
    (s.placed.mapped new.pc (omega (arith, pc, some)) (omega (arith, pc, within))) pc there in
    spot ∙ ap (λ n. Some (record { item = n; body = body; place = label })) (sym s.item_is)
    ∙ ap (λ b. Some (record { item = s.i.here.item; body = b; place = label })) (sym s.body_is)

-- The machine has landed where an operation of the body begins, or its code ends, and so the program stands there.
pub landed : (placing : Placing) (here : Here) (operation : LirOp) (begin to label most : ℕ) (m : MachineState)
    (streams : Streams) → IsAt placing here operation begin m → Site placing here operation begin m
    → slice_get (stops_of here.body) label ≡ Some to → 0 < to → to ≤ length (code_of here.body)
    → Lands begin (linked placing.program begin here.body) to most m → AreBytes streams
    → FollowsInBody placing begin here.body most m streams (goes_to here label streams)
landed placing here operation begin to label most m streams at s stop some within lands bytes =
    let body : LirBody = here.body in
    let new : MachineState = lands.new in
    let spot : stands_at placing new.pc
    ≡ Some (record { item = s.i.here.item; body = s.i.here.body; place = label }) =
    spot_there placing here operation begin to label m new s stop some within lands.goes.pc in
    let stands : Stands placing (goes_on_at here.state here.frame here.below label here.state.memory) new =
    stands_moved placing here.state m new here.frame here.below label at.stands at.frames s.i spot lands.memory
    lands.keeps lands.registers in
    followed placing begin body most lands.count to m new
    (goes_on_at here.state here.frame here.below label here.state.memory) streams lands.some lands.few lands.goes stands
    bytes

-- an operation that is one jump to its one label
pub goes_by_jump : (placing : Placing) → IsPlacing placing → (operation : LirOp) (label most : ℕ) (here : Here)
    (begin : ℕ) (m : MachineState) (streams : Streams) → IsAt placing here operation begin m → AreBytes streams
    → op_lines here.body operation ≡ Line.Jump label ∷ [] → labels operation ≡ label ∷ [] → 2 ≤ most
    → FollowsInBody placing begin here.body most m streams (goes_to here label streams)
goes_by_jump placing is operation label most here begin m streams at bytes lines only enough =
    let body : LirBody = here.body in
    let s : Site placing here operation begin m = site placing here operation begin m is at in
    let target : Target body label =
    first_label body label []
    (subst (λ ls. list_all (λ l. nat_lt l (length body.ops)) ls ≡ true) only
    (labels_within body here.frame.place operation (is.laid_out.sound here.frame.item body at.body)
    at.operation_there)) in
    let code : List Ins = linked placing.program begin body in
    let close : Bool = are_close jump_limit s.far_at (place_in (far_of body) label) in
    let place : ℕ = place_in (places_in (lines_of body)) label in
    let own : List Line → List Ins =
    linked_from placing.program begin (far_of body) (places_in (lines_of body)) s.far_at s.k in
    let block : BlockAt code s.k (jump_code close s.k target.to) =
    subst (λ n. BlockAt code s.k (jump_code close s.k n)) target.is
    (block_parts code s.k (jump_code close s.k place) [] (subst (λ ls. BlockAt code s.k (own ls)) lines s.block)).0 in
    let legal : AllLegal (jump_code close s.k target.to) =
    subst (λ n. AllLegal (jump_code close s.k n)) target.is
    (legal_parts (jump_code close s.k place) [] (subst (λ ls. AllLegal (own ls)) lines s.legal)).0 in
    let near : begin + 4 * length (code_of body) < reach = s.placed.near in
    let here_within : s.k < length (code_of body) = s.within in
    let there_within : target.to ≤ length (code_of body) = target.within in
    let lands : Lands begin code target.to 2 m =
    lands_by_jump begin code s.k target.to close m s.code_at s.pc block legal s.code_at.aligned
    (omega (arith, near, here_within)) (omega (arith, near, there_within)) at.stands.serves.registers in
    let few : lands.count ≤ 2 = lands.few in
    let lands' : Lands begin code target.to most m = record {
      new = lands.new;
      count = lands.count;
      some = lands.some;
      few = omega (arith, few, enough);
      goes = lands.goes;
      keeps = lands.keeps;
      registers = lands.registers;
      memory = lands.memory;
    } in
    landed placing here operation begin target.to label most m streams at s target.stop target.some target.within lands'
    bytes

pub jump_followed : (placing : Placing) → IsPlacing placing → (label : ℕ) → IsFollowedInBody placing (Jump label)
jump_followed placing is label here begin m streams at bytes =
    goes_by_jump placing is (Jump label) label 2 here begin m streams at bytes refl refl (omega arith)

-- A `leave` is a jump where no body has clauses: it leaves no try range, and no handler was entered.
leaves_is : (here : Here) (label : ℕ) (streams : Streams) → here.program.clauses_of here.frame.item ≡ []
    → here.frame.entered ≡ [] → leaves here label streams ≡ goes_to here label streams
leaves_is here label streams none nothing =
    let to : List Entered → Run WordState WordCause =
    λ entered. Running (record here.state
    { frames = record here.frame { place = label; entered = entered } ∷ here.below }) streams in
    ap (λ clauses. goes_through here.state
    (filter (λ clause. is_finally clause.kind && not (is_tried label clause))
    (filter (is_tried here.frame.place) clauses)) label here.frame here.below streams) none
    ∙ ap (λ entered. to (entered_from (is_handled label) entered)) nothing ∙ ap to (sym nothing)

pub leave_followed : (placing : Placing) → IsPlacing placing → (label : ℕ) → IsFollowedInBody placing (Leave label)
leave_followed placing is label here begin m streams at bytes =
    let s : Site placing here (Leave label) begin m = site placing here (Leave label) begin m is at in
    let none : here.program.clauses_of here.frame.item ≡ [] =
    ap (λ program. program.clauses_of here.frame.item) at.program ∙ is.no_clauses here.frame.item in
    subst (FollowsInBody placing begin here.body 2 m streams)
    (sym (leaves_is here label streams none s.i.first.entered))
    (goes_by_jump placing is (Leave label) label 2 here begin m streams at bytes refl refl (omega arith))
