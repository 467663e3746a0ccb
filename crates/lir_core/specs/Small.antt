-- Programs of a few bodies, for laws that show by examples what a step does.
use Rattle.std.specs.Prelude.{ℕ, ◌+◌, ◌==◌, if◌then◌else◌, pos, List, [], ◌∷◌, slice_get, Some, None}
use Rattle.std.proofs.Common.{lit≤, refl}
use Rattle.num_core.specs.declared.kind.Kind.TheVariants.{I4, I8}
use Rattle.lir_core.specs.Frame.{IsFrameSize}
use Rattle.lir_core.specs.Memory.{no_memory}
use Rattle.lir_core.specs.Program.{WordProgram}
use Rattle.lir_core.specs.State.{Catch, Clause, Finally}
use Rattle.lir_core.specs.declared.body.LirBody.{LirBody}
use Rattle.lir_core.specs.declared.op.BinaryOperation.{BinaryOperation}
use Rattle.lir_core.specs.declared.op.Block.{Block}
use Rattle.lir_core.specs.declared.op.Callee.TheVariants.{Body}
use Rattle.lir_core.specs.declared.op.CheckedOperation.{CheckedOperation}
use Rattle.lir_core.specs.declared.op.LirOp.{LirOp}
use Rattle.lir_core.specs.declared.op.LirOp.TheVariants.{Binary, BranchUnlessZero, Call, Checked, Constant, Copy}
use Rattle.lir_core.specs.declared.op.LirOp.TheVariants.{EndHandler, Jump, Leave, Raise, Rethrow, Return}
use Rattle.lir_core.specs.declared.op.Place.TheVariants.{Slot}

-- a frame of 256 bytes has 16 slots
abbrev pub size_of_256 : IsFrameSize 256
size_of_256 = record { least = lit≤ tt; greatest = lit≤ tt; aligned = refl }

-- a body with these variables and a frame of 256 bytes
abbrev pub body_with : List ℕ → List LirOp → LirBody
body_with vars ops = record { ops = ops; frame = 256; marks = []; vars = vars; frame_size = size_of_256 }

-- The program of these bodies, each under its place as item and address, with the clauses of the first. A catch of a
-- class catches the object of that number. The heap and the frames may each take 1024 bytes.
abbrev pub program_with : List LirBody → List Clause → WordProgram
program_with bodies clauses = record {
  body_of = slice_get bodies;
  clauses_of = λ item. if item == 0 then clauses else [];
  address_of = λ kind item. Some item;
  item_at = λ address. Some address;
  catches = λ class dictionary memory object. Some (class == object);
  routine = λ number. None;
  heap_begin = 14336;
  heap_bound = 1024;
  stack_end = 16384;
  stack_bound = 1024;
  image = no_memory;
}

abbrev pub one_word : ℕ → Block
one_word slot = record { slot = slot; words = 1 }

abbrev pub no_words : Block
no_words = record { slot = 0; words = 0 }

-- adds 3, 2 and 1 in a loop, with both variables in `vars`
abbrev pub adds_down : List LirBody
adds_down = body_with (8 ∷ 9 ∷ [])
    (Constant 8 (pos 3) ∷ Constant 9 (pos 0)
    ∷ Binary BinaryOperation.Add I4 9 9 8 ∷ Constant 10 (pos 1) ∷ Binary BinaryOperation.Subtract I4 8 8 10
    ∷ BranchUnlessZero 8 2 ∷ Return (one_word 9) ∷ []) ∷ []

-- has 21 doubled by a callee, which takes it in another slot than the caller has it
abbrev pub calls_a_double : List LirBody
calls_a_double =
    body_with (8 ∷ [])
    (Constant 8 (pos 21) ∷ Call (Body 1) None (record { from = 8; to = 9; words = 1 } ∷ []) no_words (one_word 8)
    ∷ Return (one_word 8) ∷ [])
    ∷ body_with (9 ∷ []) (Binary BinaryOperation.Add I4 8 9 9 ∷ Return (one_word 8) ∷ []) ∷ []

-- calls itself for ever
abbrev pub calls_itself : List LirBody
calls_itself = body_with [] (Call (Body 0) None [] no_words no_words ∷ []) ∷ []

-- adds a number to the greatest int32, and returns 1 from where that is out of range
abbrev pub passes_the_greatest : List LirBody
passes_the_greatest = body_with []
    (Constant 8 (pos 2147483647) ∷ Constant 9 (pos 1) ∷ Checked CheckedOperation.Add I4 8 8 9 4
    ∷ Return (one_word 8) ∷ Return (one_word 9) ∷ []) ∷ []

-- adds a slot that nothing has written
abbrev pub reads_the_unwritten : List LirBody
reads_the_unwritten = body_with [] (Binary BinaryOperation.Add I4 8 9 9 ∷ Return (one_word 8) ∷ []) ∷ []

-- raises 40 in a callee; a finally handler puts 2 in a slot, and then a catch handler adds it to what it got
abbrev pub raises_in_a_callee : List LirBody
raises_in_a_callee =
    body_with []
    (Call (Body 1) None [] no_words no_words ∷ Jump 5
    ∷ Constant 9 (pos 2) ∷ EndHandler
    ∷ Binary BinaryOperation.Add I8 8 8 9
    ∷ Return (one_word 8) ∷ [])
    ∷ body_with [] (Constant 8 (pos 40) ∷ Raise 8 ∷ []) ∷ []

-- the clauses of the first body, where the catch is of a class
abbrev pub finally_and_catch : ℕ → List Clause
finally_and_catch class =
    record { kind = Finally; try_begin = 0; try_end = 2; handler_begin = 2; handler_end = 4; object_slot = 0 }
    ∷ record { kind = Catch class; try_begin = 0; try_end = 2; handler_begin = 4; handler_end = 5; object_slot = 8 }
    ∷ []

-- leaves a try range by way of its finally handler
abbrev pub leaves_a_try : List LirBody
leaves_a_try =
    body_with [] (Leave 4 ∷ Constant 8 (pos 7) ∷ EndHandler ∷ Return no_words ∷ Return (one_word 8) ∷ []) ∷ []

abbrev pub one_finally : List Clause
one_finally =
    record { kind = Finally; try_begin = 0; try_end = 1; handler_begin = 1; handler_end = 3; object_slot = 0 } ∷ []

-- gives 7 and 5 to a callee, which subtracts, and adds what it then has in their slots to the difference
abbrev pub clears_what_it_gave : List LirBody
clears_what_it_gave =
    body_with []
    (Constant 8 (pos 7) ∷ Constant 9 (pos 5)
    ∷ Call (Body 1) None (record { from = 8; to = 8; words = 2 } ∷ []) (record { slot = 8; words = 2 }) (one_word 10)
    ∷ Binary BinaryOperation.Add I8 10 10 8 ∷ Binary BinaryOperation.Add I8 10 10 9
    ∷ Return (one_word 10) ∷ [])
    ∷ body_with [] (Binary BinaryOperation.Subtract I8 8 8 9 ∷ Return (one_word 8) ∷ []) ∷ []

-- moves 7 and 9 from two slots to others, of which one may be the same, and subtracts the first from the second
abbrev pub moves_two_words : ℕ → ℕ → List LirBody
moves_two_words to from = body_with []
    (Constant from (pos 7) ∷ Constant (from + 1) (pos 9) ∷ Copy (Slot to 0) (Slot from 0) 16
    ∷ Binary BinaryOperation.Subtract I8 8 (to + 1) to ∷ Return (one_word 8) ∷ []) ∷ []

-- raises 40, and again in the catch handler, whose slot has another word by then, behind a finally handler in it
abbrev pub raises_again : List LirBody
raises_again =
    body_with []
    (Constant 8 (pos 40) ∷ Raise 8
    ∷ Leave 5 ∷ Constant 8 (pos 2) ∷ EndHandler ∷ Rethrow
    ∷ Return (one_word 8) ∷ []) ∷ []

abbrev pub catch_and_catch : List Clause
catch_and_catch =
    record { kind = Finally; try_begin = 2; try_end = 3; handler_begin = 3; handler_end = 5; object_slot = 0 }
    ∷ record { kind = Catch 40; try_begin = 0; try_end = 2; handler_begin = 2; handler_end = 6; object_slot = 8 }
    ∷ record { kind = Catch 40; try_begin = 0; try_end = 6; handler_begin = 6; handler_end = 7; object_slot = 8 }
    ∷ []
