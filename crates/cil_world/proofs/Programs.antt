-- Small programs, and how they end. Types are compared by folds that don't compute here: their equations (`types`) are
-- put in, and all else computes. What is asked of the world again and again, a method's entry and what its tokens lead
-- to, is computed once; so are the steps of each method's code, over which its table of stacks computes alone.
use Rattle.std.proofs.Common.{◌≡◌, ◌∙◌, ◌≤◌, ℕ, true, List, [], ◌∷◌, Option, Some, None, Result, Ok, ap, pos}
use Rattle.std.proofs.Common.{refl, sym}
use Rattle.std.specs.Int.{int_wrap}
use Rattle.std.specs.Str.{chars}
use Rattle.num_core.specs.Run.{Ended}
use Rattle.md_sigs.specs.Elements.{element_behind, head_behind, primitive_of}
use Rattle.md_sigs.specs.Signatures.{signature}
use Rattle.il_code.specs.declared.body.Body.{Body}
use Rattle.il_code.specs.declared.body.Instr.{Instr}
use Rattle.il_code.specs.declared.body.Operand.{Operand}
use Rattle.il_code.specs.declared.body.Operand.TheVariants.{Nothing, Number as NumberOf, Token as TokenOf}
use Rattle.il_code.specs.declared.fault.BodyFault.{BodyFault}
use Rattle.il_code.specs.declared.opcode.Op.{Op}
use Rattle.il_code.specs.Bodies.{body_of}
use Rattle.il_code.specs.Instructions.{opcode_row}
use Rattle.il_code.specs.Opcodes.{opcodes}
use Rattle.il_code.specs.Reach.{end_of}
use Rattle.ty_terms.specs.declared.names.MethodName.{MethodName}
use Rattle.ty_terms.specs.declared.ty.Primitive.{Primitive}
use Rattle.ty_terms.specs.declared.ty.Ty.{Ty}
use Rattle.ty_terms.specs.declared.ty.Ty.TheVariants.{Named, Prim, rolls-Prim, rolls-Named}
use Rattle.ty_terms.specs.Induction.{out-Prim, out-Named, fold-Prim, fold-Named}
use Rattle.ty_names.specs.Modules.{World}
use Rattle.ty_load.specs.declared.item.Item.TheVariants.{OfMethod}
use Rattle.ty_load.specs.Entry.{entry_of}
use Rattle.ty_load.specs.Tokens.{resolution}
use Rattle.cli_layout.specs.Extents.{extent_of}
use Rattle.cli_layout.specs.Types.{laid_of}
use Rattle.il_stacks.specs.declared.effect.Effect.TheVariants.{Takes}
use Rattle.il_stacks.specs.declared.effect.Results.{Results}
use Rattle.il_stacks.specs.declared.effect.Results.TheVariants.{Nothing as NoResult, Always, AgreedNumber}
use Rattle.il_stacks.specs.declared.effect.Step.{Step}
use Rattle.il_stacks.specs.declared.slot.StackSlot.{StackSlot}
use Rattle.il_stacks.specs.declared.slot.StackSlot.TheVariants.{Int32}
use Rattle.il_stacks.specs.declared.stack.Stack.{Stack}
use Rattle.il_stacks.specs.declared.stack.Stack.TheVariants.{Slots}
use Rattle.il_stacks.specs.declared.typing.OffsetStack.{OffsetStack}
use Rattle.il_stacks.specs.Rounds.{stacks_by_rounds}
use Rattle.il_verify.specs.Actions.{action_of}
use Rattle.il_verify.specs.Flow.{handlers_of_body, steps_of}
use Rattle.il_verify.specs.Inside.{is_inside}
use Rattle.il_verify.specs.Kinds.{is_reference}
use Rattle.il_verify.specs.Rows.{row_of}
use Rattle.il_verify.specs.Scope.{Callee, Scope, callee_of}
use Rattle.il_verify.specs.Verified.{least_stacks, verification}
use Rattle.cil_world.specs.Bare.{BeginsWith}
use Rattle.cil_world.specs.Contents.{size_of}
use Rattle.cil_world.specs.Entering.{StackBound, entry, initializer_of, text_of}
use Rattle.cil_world.specs.Programs.{constant, endless, small_bounds, told, two_calls}
use Rattle.cil_world.specs.RuntimeSteps.{runtime_call}
use Rattle.cil_world.specs.State.{Setting}
use Rattle.cil_world.specs.Step.{cil_run, cil_start, cil_step}

ruleset types = (size_of, out-Prim, out-Named, fold-Prim, fold-Named, rolls-Prim, rolls-Named)

-- what opens it opens the reading of signatures, and layouts
reading : ℕ
unfolding signature head_behind element_behind primitive_of extent_of laid_of
reading = 0

-- what opens it opens the steps of a run
stepping : ℕ
unfolding cil_step cil_start row_of action_of runtime_call small_bounds stacks_by_rounds
stepping = 0

-- ---- the table of stacks of a body whose steps are known

by_steps : (scope : Scope) (body : Body) (steps : List Step) (table : List (Option Stack))
    → steps_of scope body ≡ steps
    → stacks_by_rounds (is_reference scope.world) steps (handlers_of_body scope body) (end_of body.code) ≡ table
    → least_stacks scope body ≡ table
unfolding least_stacks
by_steps scope body steps table are rounds =
    ap (λ s. stacks_by_rounds (is_reference scope.world) s (handlers_of_body scope body) (end_of body.code)) are
    ∙ rounds

-- ---- names

-- a method of the class P
abbrev method_of : ℕ → MethodName
method_of row =
    record {
      owner = Named (record { «module» = 0; row = 2 }) [];
      method = record { «module» = 0; row = row };
      args = [];
    }

abbrev pub int : Ty
int = Prim Primitive.I4

abbrev pub instr : ℕ → ℕ → Op → Operand → Instr
instr at next op operand = record { at = at; next = next; op = op; operand = operand }

abbrev pub body : List Instr → Body
body code = record { max_stack = 8; locals = 0; code = code; clauses = [] }

-- a static method without locals that gives an int
abbrev scope : World → ℕ → List Ty → Scope
scope world row args = record { world = world; name = method_of row; args = args; locals = []; result = int }

-- what is known of the stack at an offset
abbrev pub known : List StackSlot → Option Stack
known slots = Some (Slots slots)

abbrev pub before : ℕ → List StackSlot → OffsetStack
before offset slots = record { offset = offset; stack = Slots slots }

-- an instruction that goes on to the next, and one that doesn't
abbrev pub onward : ℕ → ℕ → ℕ → Results → Step
onward at next takes results = record { at = at; ways = next ∷ []; effect = Takes takes results }

abbrev pub last_step : ℕ → ℕ → Step
last_step at takes = record { at = at; ways = []; effect = Takes takes NoResult }

-- ---- a constant

abbrev constant_body : Body
constant_body = body (instr 0 2 Op.LdcI4S (NumberOf (pos 42)) ∷ instr 2 3 Op.Ret Nothing ∷ [])

abbrev constant_steps : List Step
constant_steps = onward 0 2 0 (Always Int32) ∷ last_step 2 1 ∷ []

abbrev constant_stacks : List (Option Stack)
constant_stacks = known [] ∷ None ∷ known (Int32 ∷ []) ∷ []

constant_steps_are : steps_of (scope constant 1 []) constant_body ≡ constant_steps
unfolding constant reading stacks_by_rounds row_of action_of
constant_steps_are = simp types

constant_rounds : stacks_by_rounds (is_reference constant) constant_steps [] 3 ≡ constant_stacks
unfolding stacks_by_rounds
constant_rounds = refl

constant_least : least_stacks (scope constant 1 []) constant_body ≡ constant_stacks
constant_least =
    by_steps (scope constant 1 []) constant_body constant_steps constant_stacks constant_steps_are constant_rounds

constant_verified : verification constant (method_of 1) constant_body
    ≡ Ok (record { stacks = before 0 [] ∷ before 2 (Int32 ∷ []) ∷ []; values = [] })
unfolding constant reading verification stacks_by_rounds row_of action_of
constant_verified = simp (constant_least, types)

constant_inside : is_inside constant (method_of 1) constant_body ≡ true
unfolding constant reading is_inside stacks_by_rounds action_of
constant_inside = simp types

constant_entry : entry constant (method_of 1)
    ≡ Some (record { body = constant_body; scope = scope constant 1 []; bytes = 256 })
unfolding constant reading opcodes opcode_row entry
constant_entry = simp (constant_inside, constant_verified, types)

pub constant_run : cil_run constant small_bounds [] 2 ≡ Ended 42 (told [])
unfolding constant reading stepping
constant_run = simp (constant_entry, types)

-- ---- the same constant as a bare body

constant_name : entry_of constant ≡ Some (method_of 1)
unfolding constant reading
constant_name = simp types

abbrev constant_callee : Callee
constant_callee =
    record {
      name = method_of 1;
      is_static = true;
      receiver = Named (record { «module» = 0; row = 2 }) [];
      params = [];
      result = int;
    }

constant_called : callee_of constant (method_of 1) ≡ Some constant_callee
unfolding constant reading
constant_called = simp types

constant_quiet : initializer_of constant (Named (record { «module» = 0; row = 2 }) []) ≡ None
unfolding constant
constant_quiet = simp types

constant_reads : body_of (0x0E ∷ 0x1F ∷ 0x2A ∷ 0x2A ∷ []) ≡ Ok constant_body
unfolding opcode_row opcodes
constant_reads = refl

one_body : (read : Result Body BodyFault) (a b : Body) → read ≡ Ok a → read ≡ Ok b → a ≡ b
one_body read a b is also =
    let both : Ok a ≡ Ok b = sym is ∙ also in
    cc

pub constant_begins : (setting : Setting) (body : Body) → 256 ≤ setting.bounds.stack
    → body_of (0x0E ∷ 0x1F ∷ 0x2A ∷ 0x2A ∷ []) ≡ Ok body → BeginsWith constant setting body
constant_begins setting body room reads =
    record {
      name = method_of 1;
      callee = constant_callee;
      found = record { body = constant_body; scope = scope constant 1 []; bytes = 256 };
      begins = constant_name;
      called = constant_called;
      entered = constant_entry;
      has_body = one_body (body_of (0x0E ∷ 0x1F ∷ 0x2A ∷ 0x2A ∷ [])) constant_body body constant_reads reads;
      gives = refl;
      room = room;
      quiet = constant_quiet;
    }

-- ---- two calls

two_token : resolution two_calls 0 0x0600_0002 [] [] ≡ Ok (OfMethod (method_of 2))
unfolding two_calls reading resolution
two_token = simp types

abbrev next_body : Body
next_body =
    body
    (instr 0 1 Op.Ldarg0 Nothing ∷ instr 1 2 Op.LdcI4_1 Nothing ∷ instr 2 3 Op.Add Nothing ∷ instr 3 4 Op.Ret Nothing
    ∷ [])

abbrev next_scope : Scope
next_scope = scope two_calls 2 (int ∷ [])

abbrev next_steps : List Step
next_steps =
    onward 0 1 0 (Always Int32) ∷ onward 1 2 0 (Always Int32) ∷ onward 2 3 2 AgreedNumber ∷ last_step 3 1 ∷ []

abbrev next_stacks : List (Option Stack)
next_stacks = known [] ∷ known (Int32 ∷ []) ∷ known (Int32 ∷ Int32 ∷ []) ∷ known (Int32 ∷ []) ∷ []

next_steps_are : steps_of next_scope next_body ≡ next_steps
unfolding two_calls reading stacks_by_rounds row_of action_of
next_steps_are = simp types

next_rounds : stacks_by_rounds (is_reference two_calls) next_steps [] 4 ≡ next_stacks
unfolding stacks_by_rounds
next_rounds = refl

next_least : least_stacks next_scope next_body ≡ next_stacks
next_least = by_steps next_scope next_body next_steps next_stacks next_steps_are next_rounds

next_verified : verification two_calls (method_of 2) next_body
    ≡ Ok (record {
      stacks = before 0 [] ∷ before 1 (Int32 ∷ []) ∷ before 2 (Int32 ∷ Int32 ∷ []) ∷ before 3 (Int32 ∷ []) ∷ [];
      values = [];
    })
unfolding two_calls reading verification stacks_by_rounds row_of action_of
next_verified = simp (next_least, types)

next_inside : is_inside two_calls (method_of 2) next_body ≡ true
unfolding two_calls reading is_inside stacks_by_rounds action_of
next_inside = simp (types)

next_entry : entry two_calls (method_of 2) ≡ Some (record { body = next_body; scope = next_scope; bytes = 272 })
unfolding two_calls reading entry opcodes opcode_row
next_entry = simp (next_inside, next_verified, types)

abbrev twice_body : Body
twice_body =
    body
    (instr 0 1 Op.LdcI4_5 Nothing ∷ instr 1 6 Op.Call (TokenOf 0x0600_0002) ∷ instr 6 11 Op.Call (TokenOf 0x0600_0002)
    ∷ instr 11 12 Op.Ret Nothing ∷ [])

abbrev twice_scope : Scope
twice_scope = scope two_calls 1 ([])

abbrev twice_steps : List Step
twice_steps =
    onward 0 1 0 (Always Int32) ∷ onward 1 6 1 (Always Int32) ∷ onward 6 11 1 (Always Int32) ∷ last_step 11 1
    ∷ []

abbrev twice_stacks : List (Option Stack)
twice_stacks = known [] ∷ known (Int32 ∷ []) ∷ None ∷ None ∷ None ∷ None ∷ known (Int32 ∷ []) ∷ None ∷ None ∷ None
    ∷ None ∷ known (Int32 ∷ []) ∷ []

twice_steps_are : steps_of twice_scope twice_body ≡ twice_steps
unfolding two_calls reading stacks_by_rounds row_of action_of
twice_steps_are = simp (two_token, types)

twice_rounds : stacks_by_rounds (is_reference two_calls) twice_steps [] 12 ≡ twice_stacks
unfolding stacks_by_rounds
twice_rounds = refl

twice_least : least_stacks twice_scope twice_body ≡ twice_stacks
twice_least = by_steps twice_scope twice_body twice_steps twice_stacks twice_steps_are twice_rounds

twice_verified : verification two_calls (method_of 1) twice_body
    ≡ Ok (record {
      stacks = before 0 [] ∷ before 1 (Int32 ∷ []) ∷ before 6 (Int32 ∷ []) ∷ before 11 (Int32 ∷ []) ∷ [];
      values = [];
    })
unfolding two_calls reading verification stacks_by_rounds row_of action_of
twice_verified = simp (twice_least, two_token, types)

twice_inside : is_inside two_calls (method_of 1) twice_body ≡ true
unfolding two_calls reading is_inside stacks_by_rounds action_of
twice_inside = simp (two_token, types)

twice_entry : entry two_calls (method_of 1) ≡ Some (record { body = twice_body; scope = twice_scope; bytes = 256 })
unfolding two_calls reading entry opcodes opcode_row
twice_entry = simp (twice_inside, twice_verified, types)

pub two_calls_run : cil_run two_calls small_bounds [] 12 ≡ Ended 7 (told [])
unfolding two_calls reading stepping int_wrap
two_calls_run = simp (next_entry, twice_entry, two_token, types)

-- ---- calls without end

endless_token : resolution endless 0 0x0600_0002 [] [] ≡ Ok (OfMethod (method_of 2))
unfolding endless reading resolution
endless_token = simp types

abbrev first_body : Body
first_body =
    body
    (instr 0 5 Op.Call (TokenOf 0x0600_0002) ∷ instr 5 6 Op.Ret Nothing ∷ [])

abbrev first_scope : Scope
first_scope = scope endless 1 ([])

abbrev first_steps : List Step
first_steps =
    onward 0 5 0 (Always Int32) ∷ last_step 5 1 ∷ []

abbrev first_stacks : List (Option Stack)
first_stacks = known [] ∷ None ∷ None ∷ None ∷ None ∷ known (Int32 ∷ []) ∷ []

first_steps_are : steps_of first_scope first_body ≡ first_steps
unfolding endless reading stacks_by_rounds row_of action_of
first_steps_are = simp (endless_token, types)

first_rounds : stacks_by_rounds (is_reference endless) first_steps [] 6 ≡ first_stacks
unfolding stacks_by_rounds
first_rounds = refl

first_least : least_stacks first_scope first_body ≡ first_stacks
first_least = by_steps first_scope first_body first_steps first_stacks first_steps_are first_rounds

first_verified : verification endless (method_of 1) first_body
    ≡ Ok (record {
      stacks = before 0 [] ∷ before 5 (Int32 ∷ []) ∷ [];
      values = [];
    })
unfolding endless reading verification stacks_by_rounds row_of action_of
first_verified = simp (first_least, endless_token, types)

first_inside : is_inside endless (method_of 1) first_body ≡ true
unfolding endless reading is_inside stacks_by_rounds action_of
first_inside = simp (endless_token, types)

first_entry : entry endless (method_of 1) ≡ Some (record { body = first_body; scope = first_scope; bytes = 256 })
unfolding endless reading entry opcodes opcode_row
first_entry = simp (first_inside, first_verified, types)

abbrev second_body : Body
second_body =
    body
    (instr 0 5 Op.Call (TokenOf 0x0600_0002) ∷ instr 5 6 Op.Ret Nothing ∷ [])

abbrev second_scope : Scope
second_scope = scope endless 2 ([])

abbrev second_steps : List Step
second_steps =
    onward 0 5 0 (Always Int32) ∷ last_step 5 1 ∷ []

abbrev second_stacks : List (Option Stack)
second_stacks = known [] ∷ None ∷ None ∷ None ∷ None ∷ known (Int32 ∷ []) ∷ []

second_steps_are : steps_of second_scope second_body ≡ second_steps
unfolding endless reading stacks_by_rounds row_of action_of
second_steps_are = simp (endless_token, types)

second_rounds : stacks_by_rounds (is_reference endless) second_steps [] 6 ≡ second_stacks
unfolding stacks_by_rounds
second_rounds = refl

second_least : least_stacks second_scope second_body ≡ second_stacks
second_least = by_steps second_scope second_body second_steps second_stacks second_steps_are second_rounds

second_verified : verification endless (method_of 2) second_body
    ≡ Ok (record {
      stacks = before 0 [] ∷ before 5 (Int32 ∷ []) ∷ [];
      values = [];
    })
unfolding endless reading verification stacks_by_rounds row_of action_of
second_verified = simp (second_least, endless_token, types)

second_inside : is_inside endless (method_of 2) second_body ≡ true
unfolding endless reading is_inside stacks_by_rounds action_of
second_inside = simp (endless_token, types)

second_entry : entry endless (method_of 2) ≡ Some (record { body = second_body; scope = second_scope; bytes = 256 })
unfolding endless reading entry opcodes opcode_row
second_entry = simp (second_inside, second_verified, types)

pub endless_run : cil_run endless small_bounds [] 4 ≡ Ended 134 (told (text_of StackBound))
unfolding endless reading stepping chars
endless_run = simp (first_entry, second_entry, endless_token, types)
