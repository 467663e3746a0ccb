-- Calls and returns.
use Rattle.std.specs.Prelude.{ℕ, ◌+◌, ◌-◌, ◌*◌, ◌%◌, ◌==◌, nat_lt, if◌then◌else◌, List, [], ◌∷◌, ◌++◌, codes}
use Rattle.std.specs.Prelude.{slice_get, Option, Some, None}
use Rattle.std.specs.Option.{option_and_then, option_map}
use Rattle.num_core.specs.Run.{Run, Running, Ended, Streams}
use Rattle.num_core.specs.declared.fix.FixKind.TheVariants.{Code}
use Rattle.lir_core.specs.Memory.{Cell, FlatMemory, copied, with_cells, zeros}
use Rattle.lir_core.specs.Pieces.{of_argument, of_block, words_from}
use Rattle.lir_core.specs.Program.{WordProgram, ends_with, no_step, with}
use Rattle.lir_core.specs.Slots.{Here, place_here, place_in_frame, with_frame, without_frame, word_in}
use Rattle.lir_core.specs.State.{Frame, WordCause, WordState}
use Rattle.lir_core.specs.declared.body.LirBody.{LirBody}
use Rattle.lir_core.specs.declared.soundness.Piece.{Piece}
use Rattle.lir_core.specs.declared.op.Argument.{Argument}
use Rattle.lir_core.specs.declared.op.Block.{Block}
use Rattle.lir_core.specs.declared.op.Callee.{Callee}
use Rattle.lir_core.specs.declared.op.Callee.TheVariants.{Body, Through}
use Rattle.lir_core.specs.declared.op.LirOp.{LirOp}
use Rattle.lir_core.specs.declared.op.LirOp.TheVariants.{Call}

abbrev pub stack_text : List ℕ
stack_text = codes "stack bound reached" ++ 10 ∷ []

-- what stands in the argument slots from one on
pub record Given : Type 0 where
  pub to : ℕ
  pub words : ℕ
  pub cells : List Cell

-- the memory with the arguments in the slots of a frame
abbrev pub with_arguments : LirBody → ℕ → List Given → FlatMemory → Option FlatMemory
with_arguments body address [] memory = Some memory
with_arguments body address (given ∷ others) memory =
    option_and_then (with_arguments body address others)
    (option_and_then (λ place. with_cells memory place given.cells)
    (place_in_frame body address (words_from given.to given.words)))

-- the lowest address of the frames; they go down from the stack's end
abbrev pub lowest : WordProgram → List Frame → ℕ
lowest program [] = program.stack_end
lowest program (frame ∷ frames) = frame.address

-- the frames' bytes with those of one more
abbrev pub stack_with : WordProgram → List Frame → LirBody → ℕ
stack_with program frames body = (program.stack_end - lowest program frames) + body.frame

abbrev pub with_new_frame : WordState → ℕ → ℕ → Option ℕ → List Frame → FlatMemory → WordState
with_new_frame state item address dictionary frames memory =
    record state {
      frames = record { item = item; place = 0; address = address; dictionary = dictionary; entered = [] } ∷ frames;
      memory = memory;
    }

-- Enters a body above these frames, at its first operation, with nothing in its slots but the arguments. Where the
-- frames would take more than they may, nothing is entered and the program ends.
abbrev pub enters_body : WordProgram → WordState → ℕ → LirBody → Option ℕ → List Given → List Frame → Streams
    → Run WordState WordCause
enters_body program state item body dictionary given frames streams =
    if nat_lt program.stack_bound (stack_with program frames body) then ends_with stack_text streams
    else let address = lowest program frames - body.frame in
    with (with_arguments body address given (with_frame body address state.memory)) streams
    (λ memory. Running (with_new_frame state item address dictionary frames memory) streams)

abbrev pub enters : WordProgram → WordState → ℕ → Option ℕ → List Given → List Frame → Streams
    → Run WordState WordCause
enters program state item dictionary given frames streams =
    with (program.body_of item) streams (λ body. enters_body program state item body dictionary given frames streams)

-- the item whose body a call enters: the one that the program finds at the address of its code
abbrev pub item_of : Here → Callee → Option ℕ
item_of here (Body item) = option_and_then here.program.item_at (here.program.address_of Code item)
item_of here (Through slot) = option_and_then here.program.item_at (word_in here slot)

-- the dictionary that a call gives
abbrev pub dictionary_of : Here → Option ℕ → Option (Option ℕ)
dictionary_of here None = Some None
dictionary_of here (Some slot) = option_map Some (word_in here slot)

-- what a part of the slots holds
abbrev pub cells_here : Here → Piece → Option (List Cell)
cells_here here piece =
    option_and_then (λ place. copied here.state.memory place piece.bytes) (place_here here piece)

-- what a call gives of its own frame
abbrev pub given_by : Here → List Argument → Option (List Given)
given_by here [] = Some []
given_by here (argument ∷ arguments) =
    option_and_then
    (λ cells. option_map (λ others. record { to = argument.to; words = argument.words; cells = cells } ∷ others)
    (given_by here arguments))
    (cells_here here (of_argument argument))

-- the memory with 0 in each of these slots
abbrev pub cleared_here : Here → Block → Option FlatMemory
cleared_here here block =
    option_and_then (λ place. with_cells here.state.memory place (zeros (8 * block.words)))
    (place_here here (of_block block))

-- a call: the frame that calls waits at it
abbrev pub calls : Here → Callee → Option ℕ → List Argument → Block → Streams → Run WordState WordCause
calls here callee dictionary arguments cleared streams =
    with (item_of here callee) streams (λ item.
    with (dictionary_of here dictionary) streams (λ word.
    with (given_by here arguments) streams (λ given.
    with (cleared_here here cleared) streams (λ memory.
    enters here.program (record here.state { memory = memory }) item word given (here.frame ∷ here.below) streams))))

-- the slots in which a frame waits for the result of its call
abbrev pub result_of : Option LirOp → Option Block
result_of (Some (Call callee dictionary arguments cleared result)) = Some result
result_of _ = None

-- the frame goes on behind its call, with these cells as the result in its slots
abbrev pub takes_result : WordProgram → WordState → Block → List Cell → Frame → List Frame → FlatMemory → Streams
    → Run WordState WordCause
takes_result program state block cells frame below memory streams =
    with (program.body_of frame.item) streams (λ body.
    with (result_of (slice_get body.ops frame.place)) streams (λ result.
    if result.words == block.words
    then with (option_and_then (λ place. with_cells memory place cells)
    (place_in_frame body frame.address (of_block result))) streams
    (λ memory'. Running
    (record state { frames = record frame { place = frame.place + 1 } ∷ below; memory = memory' }) streams)
    else no_step streams))

-- the end of the program: with 0, or with the low byte of the one word of the result
abbrev pub ends_program : Here → Block → Streams → Run WordState WordCause
ends_program here block streams =
    if block.words == 0 then Ended 0 streams
    else if block.words == 1 then with (word_in here block.slot) streams (λ word. Ended (word % 256) streams)
    else no_step streams

abbrev pub returns_to : Here → Block → List Frame → Streams → Run WordState WordCause
returns_to here block [] streams = ends_program here block streams
returns_to here block (frame ∷ below) streams =
    with (cells_here here (of_block block)) streams (λ cells.
    takes_result here.program here.state block cells frame below
    (without_frame here.body here.frame.address here.state.memory) streams)

-- a return to the frame below, or from the last one
abbrev pub returns : Here → Block → Streams → Run WordState WordCause
returns here block streams = returns_to here block here.below streams
