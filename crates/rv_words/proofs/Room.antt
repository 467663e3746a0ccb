-- Where frames lie, and that the program has nothing in their fixed words nor at the address of a variable.
use Rattle.std.proofs.Common.{◌≡◌, ◌∙◌, ◌⊎◌, inl, inr, ℕ, ◌+◌, ◌^◌, ◌<◌, ◌≤◌, Bool, true, false}
use Rattle.std.proofs.Common.{◌&&◌, ◌||◌, List, [], ◌∷◌, arith, refl, ap, sym, subst, nat_lt, nat_le}
use Rattle.std.specs.List.{list_any}
use Rattle.std.proofs.lemmas.Bool.Decides.{nat_tests}
use Rattle.rv_step.specs.Machine.{MachineState}
use Rattle.rv_step.specs.Memory.{MayRead, MayWrite}
use Rattle.rv_step.proofs.Addresses.{allowed_within}
use Rattle.lir_core.specs.Calls.{lowest}
use Rattle.lir_core.specs.Layout.{AreStacked, FramesFit}
use Rattle.lir_core.specs.Memory.{is_own}
use Rattle.lir_core.specs.Program.{WordProgram}
use Rattle.lir_core.specs.Slots.{addresses, is_of_frame, is_variable}
use Rattle.lir_core.specs.State.{Frame, WordState}
use Rattle.lir_core.specs.declared.body.LirBody.{LirBody}
use Rattle.rv_lines.specs.Frame.{slot_place}
use Rattle.rv_words.specs.Placing.{HasProgram, IsPlacing, Placing, data_bytes}
use Rattle.rv_words.specs.Stands.{IsInBounds, is_of, may_be_own, outermost}
use Rattle.rv_words.proofs.Owning.{IsFirst, IsLater, IsOneOf, at_least, fixed_other, none_of, some_body, variable_other}

-- ---- frames between the heap and the stack's end

pub stacked_end : (program : WordProgram) (address : ℕ) (frames : List Frame) → AreStacked program address frames
    → address ≤ program.stack_end
stacked_end program address [] stacked = let e : address ≡ program.stack_end = stacked in omega (arith, e)
stacked_end program address (frame ∷ frames) stacked =
    let body : LirBody = stacked.0 in
    let rest : address + body.frame ≤ program.stack_end =
    stacked_end program (address + body.frame) frames stacked.3 in
    omega (arith, rest)

one_ends : (program : WordProgram) (at : ℕ) (body : LirBody) (address : ℕ) (frames : List Frame)
    → IsOneOf program at body address frames → AreStacked program address frames
    → at + body.frame ≤ program.stack_end
one_ends program at body _ _ (IsFirst frame frames there) stacked =
    let same : body ≡ stacked.0 = some_body body stacked.0 (sym there ∙ stacked.1) in
    let rest : AreStacked program (at + body.frame) frames =
    subst (λ b. AreStacked program (at + b.frame) frames) (sym same) stacked.3 in
    stacked_end program (at + body.frame) frames rest
one_ends program at body _ _ (IsLater address frame frames first there one) stacked =
    let same : first ≡ stacked.0 = some_body first stacked.0 (sym there ∙ stacked.1) in
    let rest : AreStacked program (address + first.frame) frames =
    subst (λ b. AreStacked program (address + b.frame) frames) (sym same) stacked.3 in
    one_ends program at body (address + first.frame) frames one rest

-- A frame lies behind the heap and in front of the stack's end.
pub record HasRoom (placing : Placing) (at : ℕ) (body : LirBody) : Type 0 where
  pub above : placing.program.heap_begin + placing.program.heap_bound ≤ at
  pub within : at + body.frame ≤ placing.program.stack_end

pub room_of : (placing : Placing) (frames : List Frame) (at : ℕ) (body : LirBody) → IsPlacing placing
    → FramesFit placing.program frames → IsOneOf placing.program at body (lowest placing.program frames) frames
    → HasRoom placing at body
room_of placing frames at body is fits one =
    let program : WordProgram = placing.program in
    let low : ℕ = lowest program frames in
    let least : low ≤ at = at_least program at body low frames one in
    let bound : program.stack_end ≤ low + program.stack_bound = fits.within in
    let order : program.heap_begin + program.heap_bound + program.stack_bound ≡ program.stack_end =
    is.laid_out.frames_behind_heap in
    record {
      above = omega (arith, least, bound, order);
      within = one_ends program at body low frames one fits.stacked;
    }

-- So its bytes are among those that may be read and written.
pub in_data : (placing : Placing) (at : ℕ) (body : LirBody) (x count : ℕ) → IsPlacing placing → HasRoom placing at body
    → at ≤ x → x + count ≤ at + body.frame
    → (placing.lowest_data ≤ x) × (x + count ≤ placing.lowest_data + data_bytes placing)
in_data placing at body x count is room low high =
    let behind : placing.lowest_data ≤ placing.program.heap_begin = is.heap_behind_data in
    let above : placing.program.heap_begin + placing.program.heap_bound ≤ at = room.above in
    let within : at + body.frame ≤ placing.program.stack_end = room.within in
    (omega (arith, behind, above, low), omega (arith, behind, above, low, within, high))

pub may_read : (placing : Placing) (m : MachineState) (at : ℕ) (body : LirBody) (x count : ℕ) → IsPlacing placing
    → HasProgram placing m → HasRoom placing at body → at ≤ x → x + count ≤ at + body.frame → MayRead m x count
may_read placing m at body x count is has room low high =
    let inside = in_data placing at body x count is room low high in
    allowed_within (λ s. s.read) placing.lowest_data (data_bytes placing) x count m.segments inside.0 inside.1 has.read

pub may_write : (placing : Placing) (m : MachineState) (at : ℕ) (body : LirBody) (x count : ℕ) → IsPlacing placing
    → HasProgram placing m → HasRoom placing at body → at ≤ x → x + count ≤ at + body.frame → MayWrite m x count
may_write placing m at body x count is has room low high =
    let inside = in_data placing at body x count is room low high in
    allowed_within (λ s. s.write) placing.lowest_data (data_bytes placing) x count m.segments inside.0 inside.1
    has.write

-- all of it is below 2 ^ 64, and the fixed bytes behind the stack's end too
pub below_all : (placing : Placing) (at : ℕ) (body : LirBody) → IsPlacing placing → HasRoom placing at body
    → at + body.frame + 128 ≤ addresses
below_all placing at body is room =
    let within : at + body.frame ≤ placing.program.stack_end = room.within in
    let behind : placing.program.stack_end + 128 ≤ 2 ^ 64 = is.room_behind in
    omega (arith, within, behind)

-- ---- where the program has nothing

both_false : (a b : Bool) → a ≡ false → b ≡ false → (a || b) ≡ false
both_false a b e f = ap (λ t. t || b) e ∙ f

lt_false : (x y : ℕ) → y ≤ x → nat_lt x y ≡ false
lt_false x y h = grind (arith, nat_tests)

and_false : (b : Bool) → (b && false) ≡ false
and_false true = refl
and_false false = refl

none_where : (b : Bool) → (b ≡ true → ⊥) → b ≡ false
none_where true never = absurd (never refl)
none_where false never = refl

pub nothing_at : (placing : Placing) (state : WordState) (at : ℕ) (body : LirBody) (x : ℕ) → IsPlacing placing
    → IsInBounds placing.program state
    → IsOneOf placing.program at body (lowest placing.program state.frames) state.frames → at ≤ x
    → x < at + body.frame → is_of_frame body at x ≡ false → is_own (state.memory x) ≡ false
nothing_at placing state at body x is bounds one low high other =
    none_where (is_own (state.memory x))
    (λ own. let no : true ≡ false = sym (bounds.memory x own) ∙ nothing in cc)
  where
    program : WordProgram
    program = placing.program

    room : HasRoom placing at body
    room = room_of placing state.frames at body is bounds.frames one

    below : x < addresses
    below =
        let end : at + body.frame + 128 ≤ addresses = below_all placing at body is room in
        omega (arith, high, end)

    image : is_own (program.image x) ≡ false
    image =
        let above : program.heap_begin + program.heap_bound ≤ at = room.above in
        let within : at + body.frame ≤ program.stack_end = room.within in
        ap is_own (is.laid_out.image_apart x (omega (arith, above, low)) (omega (arith, within, high)))

    heap : (nat_le program.heap_begin x && nat_lt x (program.heap_begin + state.heap_used)) ≡ false
    heap =
        let above : program.heap_begin + program.heap_bound ≤ at = room.above in
        let used : state.heap_used ≤ program.heap_bound = bounds.heap in
        ap (λ t. nat_le program.heap_begin x && t)
        (lt_false x (program.heap_begin + state.heap_used) (omega (arith, above, used, low)))
        ∙ and_false (nat_le program.heap_begin x)

    frames : list_any (is_of program x) state.frames ≡ false
    frames = none_of program at body (lowest program state.frames) state.frames x one bounds.frames.stacked low high
        below other

    nothing : may_be_own program state x ≡ false
    nothing =
        both_false
        (is_own (program.image x) || (nat_le program.heap_begin x && nat_lt x (program.heap_begin + state.heap_used)))
        (list_any (is_of program x) state.frames)
        (both_false (is_own (program.image x))
        (nat_le program.heap_begin x && nat_lt x (program.heap_begin + state.heap_used)) image heap)
        frames

-- what is own is not among the fixed bytes
either_fixed : (at x : ℕ) → (x < at) ⊎ ((at + 128 ≤ x) ⊎ ((at ≤ x) × (x < at + 128)))
either_fixed at x = grind arith

pub own_not_fixed : (placing : Placing) (state : WordState) (at : ℕ) (body : LirBody) (x : ℕ) → IsPlacing placing
    → IsInBounds placing.program state
    → IsOneOf placing.program at body (lowest placing.program state.frames) state.frames
    → is_own (state.memory x) ≡ true → (x < at) ⊎ (at + 128 ≤ x)
own_not_fixed placing state at body x is bounds one own = elim (either_fixed at x) as (λ _. (x < at) ⊎ (at + 128 ≤ x)) [
  | inl low ↦ inl low
  | inr (inl high) ↦ inr high
  | inr (inr inside) ↦
      let low : at ≤ x = inside.0 in
      let high : x < at + 128 = inside.1 in
      let room : HasRoom placing at body = room_of placing state.frames at body is bounds.frames one in
      let size : 192 ≤ body.frame = body.frame_size.least in
      let end : at + body.frame + 128 ≤ addresses = below_all placing at body is room in
      let none : is_own (state.memory x) ≡ false =
      nothing_at placing state at body x is bounds one low (omega (arith, high, size))
      (fixed_other body at x high (omega (arith, high, end, size))) in
      absurd (let no : true ≡ false = sym own ∙ none in cc)
]

-- nor at the address of a variable
either_word : (a x : ℕ) → (x < a) ⊎ ((a + 8 ≤ x) ⊎ ((a ≤ x) × (x < a + 8)))
either_word a x = grind arith

pub own_not_variable : (placing : Placing) (state : WordState) (at : ℕ) (body : LirBody) (slot x : ℕ)
    → IsPlacing placing → IsInBounds placing.program state
    → IsOneOf placing.program at body (lowest placing.program state.frames) state.frames
    → is_variable body slot ≡ true → slot_place slot + 8 ≤ body.frame
    → is_own (state.memory x) ≡ true → (x < at + slot_place slot) ⊎ (at + slot_place slot + 8 ≤ x)
own_not_variable placing state at body slot x is bounds one variable fits own =
    elim (either_word (at + slot_place slot) x)
    as (λ _. (x < at + slot_place slot) ⊎ (at + slot_place slot + 8 ≤ x)) [
      | inl low ↦ inl low
      | inr (inl high) ↦ inr high
      | inr (inr inside) ↦
          let low : at + slot_place slot ≤ x = inside.0 in
          let high : x < at + slot_place slot + 8 = inside.1 in
          let room : HasRoom placing at body = room_of placing state.frames at body is bounds.frames one in
          let end : at + body.frame + 128 ≤ addresses = below_all placing at body is room in
          let none : is_own (state.memory x) ≡ false =
          nothing_at placing state at body x is bounds one (omega (arith, low)) (omega (arith, high, fits))
          (variable_other body at slot x variable low high (omega (arith, high, end, fits))) in
          absurd (let no : true ≡ false = sym own ∙ none in cc)
    ]

-- ---- the outermost frame is one of all

pub outer_one : (program : WordProgram) (address : ℕ) (frame : Frame) (below : List Frame)
    → AreStacked program address (frame ∷ below)
    → (body : LirBody) × IsOneOf program (outermost frame.address below) body address (frame ∷ below)
outer_one program address frame [] stacked = (
  stacked.0,
  subst (λ a. IsOneOf program frame.address stacked.0 a (frame ∷ [])) stacked.2
      (IsFirst frame [] stacked.1),
)
outer_one program address frame (next ∷ below) stacked =
    let body : LirBody = stacked.0 in
    let rest = outer_one program (address + body.frame) next below stacked.3 in
    (rest.0, IsLater address frame (next ∷ below) body stacked.1 rest.1)
