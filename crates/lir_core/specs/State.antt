-- Where a program at the word level stands.
use Rattle.std.specs.Prelude.{ℕ, List, Option}
use Rattle.lir_core.specs.Memory.{FlatMemory}

-- what a clause's handler is there for (ECMA-335 II.25.4.6); a catch has its class, as the program names it
pub data HandlerKind : Type 0 where
  Catch : ℕ → HandlerKind
  Finally : HandlerKind
  Fault : HandlerKind

-- A clause of a body. Both ranges are those of places from the first up to the second. A catch handler begins with the
-- address of the object in a slot, which is the first of the evaluation stack.
pub record Clause : Type 0 where
  pub kind : HandlerKind
  pub try_begin : ℕ
  pub try_end : ℕ
  pub handler_begin : ℕ
  pub handler_end : ℕ
  pub object_slot : ℕ

-- A clause that is to be tested, or that catches: that of the frame below so many others, with the finally and fault
-- clauses that lie within it there.
pub record Candidate : Type 0 where
  pub above : ℕ
  pub inner : List Clause
  pub clause : Clause

-- the object that was raised, and the clause that catches it
pub record Caught : Type 0 where
  pub object : ℕ
  pub by : Candidate

-- where control goes once the handlers have run that are still to run in a frame
pub data Goal : Type 0 where
  ToPlace : ℕ → Goal
  ToCatch : Caught → Goal

-- What a handler was entered for: a catch handler for an object, and a finally or fault handler on the way to a goal,
-- with the clauses whose handlers run behind it.
pub data Purpose : Type 0 where
  ForObject : ℕ → Purpose
  OnTheWay : List Clause → Goal → Purpose

-- a handler that was entered and isn't done
pub record Entered : Type 0 where
  pub clause : Clause
  pub purpose : Purpose

-- A call that hasn't returned: the item whose body it runs, the place of its next operation, which is that of the call
-- where it waits for one, the address of its frame, its dictionary, and the handlers that were entered, the last first.
pub record Frame : Type 0 where
  pub item : ℕ
  pub place : ℕ
  pub address : ℕ
  pub dictionary : Option ℕ
  pub entered : List Entered

-- What the next step is: an operation of the innermost frame, a test of the next clause that might catch an object, or
-- the next thing to do on the way to the clause that does, with the clauses whose handlers are still to run in the
-- innermost frame.
pub data UnderWay : Type 0 where
  AnOperation : UnderWay
  ASearch : ℕ → List Candidate → UnderWay
  AnUnwind : Caught → List Clause → UnderWay

-- the frames, the innermost first; what memory holds; how many bytes of the heap are used; and what is under way
pub record WordState : Type 0 where
  pub frames : List Frame
  pub memory : FlatMemory
  pub heap_used : ℕ
  pub under_way : UnderWay

-- why a run of words can't go on: there is no operation, or it can't be done with what there is
pub data WordCause : Type 0 where
  NoStep : WordCause
