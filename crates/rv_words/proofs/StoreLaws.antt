-- Numbers that are stored to memory.
use Rattle.std.proofs.Common.{◌≡◌, ◌∙◌, ◌⊎◌, inl, inr, ℕ, ◌+◌, ◌<◌, ◌≤◌, true, ◌&&◌, List, [], ◌∷◌, length}
use Rattle.std.proofs.Common.{Option, Some, None, arith, refl}
use Rattle.std.specs.Option.{option_and_then}
use Rattle.std.specs.List.{list_all}
use Rattle.std.proofs.lemmas.List.{length-map}
use Rattle.byteorder.specs.Endian.{little_bytes}
use Rattle.byteorder.specs.Numbers.{length-bytes_low_first}
use Rattle.num_core.specs.Run.{Streams}
use Rattle.num_core.specs.declared.kind.Narrow.{Narrow}
use Rattle.rv_step.specs.Machine.{MachineState}
use Rattle.lir_core.specs.Check.{fits, has_short_offset}
use Rattle.lir_core.specs.Memory.{Byte, FlatMemory, cells_of, with_cells}
use Rattle.lir_core.specs.Pieces.{at_place, bytes_of_type, word}
use Rattle.lir_core.specs.Program.{with}
use Rattle.lir_core.specs.Slots.{Here, goes_on_with, place_of, word_in}
use Rattle.lir_core.specs.State.{WordCause}
use Rattle.lir_core.specs.declared.op.LirOp.{LirOp}
use Rattle.lir_core.specs.declared.op.LirOp.TheVariants.{Store}
use Rattle.lir_core.specs.declared.op.Place.{Place}
use Rattle.lir_core.proofs.Sound.{first_of}
use Rattle.rv_lines.specs.Frame.{home}
use Rattle.rv_lines.specs.Moving.{stores_place}
use Rattle.rv_lines.specs.Operands.{register_or}
use Rattle.rv_words.specs.Groups.{IsAt, IsFollowedInBody}
use Rattle.rv_words.specs.Placing.{IsPlacing, Placing}
use Rattle.rv_words.specs.Stands.{AreBytes, FollowsInBody}
use Rattle.rv_words.specs.Steps.{at_place as most_at_place}
use Rattle.rv_words.proofs.Giving.{all_itself}
use Rattle.rv_words.proofs.Homes.{home_bound}
use Rattle.rv_words.proofs.Lines.{at_site}
use Rattle.rv_words.proofs.LoadLaws.{parts_fit}
use Rattle.rv_words.proofs.Operands.{free_6, past_operand}
use Rattle.rv_words.proofs.PlaceStores.{place_stored}
use Rattle.rv_words.proofs.Reading.{SlotStands, slot_stands}
use Rattle.rv_words.proofs.Sites.{Site, followed_stuck, site}

-- the number comes to a register that the address doesn't take
value_apart : (vars : List ℕ) (slot q : ℕ) (o : Option ℕ) → home vars slot ≡ o → (25 < q) ⊎ (q ≡ 5)
    → register_or o 6 ≡ q → ⊥
value_apart vars slot q (Some r) e (inl high) same =
    let bound = home_bound vars slot r e in
    let less : r < 26 = bound.2 in
    omega (arith, high, same, less)
value_apart vars slot q (Some r) e (inr five) same =
    let bound = home_bound vars slot r e in
    let low : 18 ≤ r = bound.0 in
    omega (arith, five, same, low)
value_apart vars slot q None e (inl high) same = omega (arith, high, same)
value_apart vars slot q None e (inr five) same = omega (arith, five, same)

short_of : (placing : Placing) → IsPlacing placing → (to : Place) (from : ℕ) (narrow : Narrow) (here : Here)
    (begin : ℕ) (m : MachineState) → IsAt placing here (Store to from narrow) begin m
    → (fits here.body (at_place to (bytes_of_type narrow)) ≡ true) × (has_short_offset to ≡ true)
short_of placing is to from narrow here begin m at =
    let both = parts_fit placing is here (Store to from narrow) begin m at in (
      first_of (fits here.body (at_place to (bytes_of_type narrow))) (list_all (fits here.body) (word from ∷ []))
          both.0,
      both.1,
    )

stored_by : (placing : Placing) → IsPlacing placing → (to : Place) (from value : ℕ) (narrow : Narrow)
    (memory : FlatMemory) (here : Here) (begin : ℕ) (m : MachineState) (streams : Streams)
    → IsAt placing here (Store to from narrow) begin m → AreBytes streams → word_in here from ≡ Some value
    → option_and_then (λ p. with_cells here.state.memory p (cells_of (bytes_of_type narrow) value))
    (place_of here to (bytes_of_type narrow)) ≡ Some memory
    → FollowsInBody placing begin here.body (4 + most_at_place to) m streams (goes_on_with here streams memory)
stored_by placing is to from value narrow memory here begin m streams at bytes value_is written =
    let operation : LirOp = Store to from narrow in
    let s : Site placing here operation begin m = site placing here operation begin m is at in
    let vars : List ℕ = here.body.vars in
    let rs : ℕ = register_or (home vars from) 6 in
    let l : SlotStands m vars from value = slot_stands placing here operation begin m from value is at s value_is in
    let one = past_operand placing.program begin here.body s.far_at s.k 6 from value (stores_place vars narrow rs to) m
    (at_site placing here operation begin m s at.stands.serves.registers) l free_6 (omega arith) (omega arith) in
    let both = short_of placing is to from narrow here begin m at in
    let number : List ℕ = little_bytes (bytes_of_type narrow) value in
    place_stored placing here operation begin (4 + most_at_place to) 4 to narrow rs value
    (cells_of (bytes_of_type narrow) value) memory m streams is at s one.past one.keeps one.memory
    (value_apart vars from 28 (home vars from) refl (inl (omega arith)))
    (value_apart vars from 5 (home vars from) refl (inr refl)) one.has l.small
    (length-map number Byte ∙ length-bytes_low_first 0 (bytes_of_type narrow) value) (all_itself number) both.0 both.1
    written (omega arith) bytes

pub store_followed : (placing : Placing) → IsPlacing placing → (to : Place) (from : ℕ) (narrow : Narrow)
    → IsFollowedInBody placing (Store to from narrow)
store_followed placing is to from narrow here begin m streams at bytes = by (word_in here from) refl
  where
    most : ℕ
    most = 4 + most_at_place to

    stuck : FollowsInBody placing begin here.body most m streams (with None streams (goes_on_with here streams))
    stuck =
        followed_stuck placing here (Store to from narrow) begin most m WordCause.NoStep streams streams
        (site placing here (Store to from narrow) begin m is at) (omega arith)

    by_memory : (value : ℕ) → word_in here from ≡ Some value → (o : Option FlatMemory)
        → option_and_then (λ p. with_cells here.state.memory p (cells_of (bytes_of_type narrow) value))
        (place_of here to (bytes_of_type narrow)) ≡ o
        → FollowsInBody placing begin here.body most m streams (with o streams (goes_on_with here streams))
    by_memory value value_is None e = stuck
    by_memory value value_is (Some memory) e =
        stored_by placing is to from value narrow memory here begin m streams at bytes value_is e

    by : (o : Option ℕ) → word_in here from ≡ o
        → FollowsInBody placing begin here.body most m streams
        (with o streams (λ value. with (option_and_then
        (λ p. with_cells here.state.memory p (cells_of (bytes_of_type narrow) value))
        (place_of here to (bytes_of_type narrow))) streams (goes_on_with here streams)))
    by None e = stuck
    by (Some value) e =
        by_memory value e (option_and_then
        (λ p. with_cells here.state.memory p (cells_of (bytes_of_type narrow) value))
        (place_of here to (bytes_of_type narrow))) refl
