-- What a call does behind its arguments: it gives the dictionary, and clears slots of its own frame.
use Rattle.std.proofs.Common.{◌≡◌, ◌∙◌, inl, inr, ℕ, zero, suc, ◌+◌, ◌-◌, ◌*◌, ◌/◌, ◌^◌, ◌<◌, ◌≤◌, Bool, true, false}
use Rattle.std.proofs.Common.{cond, ◌==◌, pos, ◌+ℤ◌, List, [], ◌∷◌, ◌++◌, length, map, replicate, Option, Some, None}
use Rattle.std.proofs.Common.{All, arith, refl, ap, sym, subst, append_assoc, slice_index}
use Rattle.std.specs.List.{AllZip, list_all}
use Rattle.std.specs.Option.{option_and_then, option_map}
use Rattle.std.proofs.lemmas.Bool.{leb-true}
use Rattle.std.proofs.lemmas.Bool.Decides.{nat_tests}
use Rattle.std.proofs.lemmas.List.{length-replicate}
use Rattle.byteorder.specs.Endian.{little_bytes}
use Rattle.byteorder.specs.Numbers.{length-bytes_low_first}
use Rattle.num_core.specs.Bits.{low_bits}
use Rattle.num_core.specs.Run.{Running}
use Rattle.num_core.specs.declared.kind.Narrow.TheVariants.{I8}
use Rattle.rv_isa.specs.declared.ins.Ins.{Ins}
use Rattle.rv_step.specs.Machine.{MachineState, register, stores as stores_bytes}
use Rattle.rv_step.specs.Memory.{MayWrite, Number, Writes}
use Rattle.rv_code.specs.Code.{given}
use Rattle.rv_code.specs.Registers.{HasRegisters}
use Rattle.rv_code.proofs.Going.{same_bytes}
use Rattle.rt_code.proofs.Machines.{sum_of, writes_between}
use Rattle.lir_core.specs.Calls.{cleared_here, dictionary_of}
use Rattle.lir_core.specs.Check.{fits, is_whole_or_apart, lies_in_frame}
use Rattle.lir_core.specs.Memory.{Byte, FlatMemory, cells_from, is_own, overwritten, with_cells, zeros}
use Rattle.lir_core.specs.Pieces.{of_block, words_from}
use Rattle.lir_core.specs.Program.{WordProgram}
use Rattle.lir_core.specs.Slots.{addresses, is_variable, place_here, word_in}
use Rattle.lir_core.specs.Tells.{CellTellsNoMore}
use Rattle.lir_core.specs.declared.body.LirBody.{LirBody}
use Rattle.lir_core.specs.declared.op.Block.{Block}
use Rattle.lir_core.proofs.Sound.{second_of}
use Rattle.rv_lines.specs.Frame.{home, slot_place}
use Rattle.rv_lines.specs.Moving.{clears_words}
use Rattle.rv_lines.specs.Operands.{gets_address, puts_slot, reads_slot, register_or}
use Rattle.rv_lines.specs.declared.line.Line.{Line}
use Rattle.rv_lines.specs.declared.line.Line.TheVariants.{Single}
use Rattle.rv_gen.specs.Calling.{clears_block, gives_dictionary}
use Rattle.rv_words.specs.Linked.{linked}
use Rattle.rv_words.specs.Placing.{HasProgram}
use Rattle.rv_words.specs.Stands.{Stands}
use Rattle.rv_words.proofs.Arguments.{CallOf, OnCall, WayOf, back_at, code_apart, filled_same, on_kept, keeps_back}
use Rattle.rv_words.proofs.Arguments.{on_written, own_frame, program_in}
use Rattle.rv_words.proofs.Aside.{as_it_was}
use Rattle.rv_words.proofs.Branches.{has_all}
use Rattle.rv_words.proofs.Clearing.{CanClear, PastZeros, past_zeros}
use Rattle.rv_words.proofs.ConstantCode.{address_code, address_short, address_singles, constant_code, constant_short}
use Rattle.rv_words.proofs.ConstantCode.{got_address}
use Rattle.rv_words.proofs.Filled.{IsFilled, filled_aside}
use Rattle.rv_words.proofs.Giving.{all_itself}
use Rattle.rv_words.proofs.Going.{Put, goes_put}
use Rattle.rv_words.proofs.Got.{Got, got_home, got_is, got_keeps, got_once}
use Rattle.rv_words.proofs.Homed.{Homed, stands_homed}
use Rattle.rv_words.proofs.Homes.{home_bound, home_variable}
use Rattle.rv_words.proofs.LoadLaws.{holds_of_one, whole_of}
use Rattle.rv_words.proofs.Moved.{KeepsOwn}
use Rattle.rv_words.proofs.Operands.{PastOne, free_5, free_6, past_operand, slot_still}
use Rattle.rv_words.proofs.PlaceStores.{PutNumber, put_code, put_number, put_short, put_singles}
use Rattle.rv_words.proofs.Reading.{SlotStands, slot_stands}
use Rattle.rv_words.proofs.Results.{all_owned, same_keeps, same_registers, writing, written_where}
use Rattle.rv_words.proofs.Room.{below_all, in_data, may_write}
use Rattle.rv_words.proofs.Sites.{Site, site}
use Rattle.rv_words.proofs.Slotted.{IsPut, bytes_small, stands_put}
use Rattle.rv_words.proofs.Stored.{stands_flat}
use Rattle.rv_words.proofs.Ways.{way_by, way_code, way_more, way_past, way_same}

-- ---- the dictionary

-- A word that the call gives as the dictionary stands in the frame to be.
abbrev pub HasDictionary : CallOf → Option ℕ → MachineState → Type 0
HasDictionary x word w =
    (value : ℕ) → word ≡ Some value → Number w (x.a + 72) 8 value × (value < 2 ^ 64)

pub record WithDictionary (x : CallOf) (outer memory : FlatMemory) (word : Option ℕ) (most : ℕ)
    (lines rest : List Line) : Type 0 where
  pub w : MachineState
  pub on : OnCall x w
  pub filled : IsFilled x.callee x.a outer memory w
  pub dictionary : HasDictionary x word w
  pub way : WayOf x most lines rest w

given_slot : (x : CallOf) (slot value most : ℕ) (outer memory : FlatMemory) (lines rest : List Line) (w : MachineState)
    → OnCall x w → IsFilled x.callee x.a outer memory w
    → WayOf x most lines (gives_dictionary x.here.body.vars (Some slot) ++ rest) w → word_in x.here slot ≡ Some value
    → WithDictionary x outer memory (Some value) (most + 5) lines rest
given_slot x slot value most outer memory lines rest w on filled way told =
    let program : WordProgram = x.placing.program in
    let body : LirBody = x.here.body in
    let code : List Ins = linked program x.begin body in
    let r : ℕ = register_or (home body.vars slot) 5 in
    let reads : List Line = reads_slot (home body.vars slot) 5 slot in
    let ins : List Ins = Ins.Sd 31 r (pos 72) ∷ [] in
    let store : List Line = Single (Ins.Sd 31 r (pos 72)) ∷ [] in
    let s : Site x.placing x.here x.operation x.begin (back_at x w) =
    site x.placing x.here x.operation x.begin (back_at x w) x.is on.at in
    let there : SlotStands (back_at x w) body.vars slot value =
    slot_stands x.placing x.here x.operation x.begin (back_at x w) slot value x.is on.at s told in
    let stands : SlotStands w body.vars slot value =
    slot_still (back_at x w) w body.vars slot value (record {
      frame = refl;
      homes = λ k h. refl;
      lowest = refl;
      heap = refl;
    }) refl there in
    let first : WayOf x most lines (reads ++ (store ++ rest)) w =
    way_same program x.begin body x.site.far_at x.site.k most lines ((reads ++ store) ++ rest)
    (reads ++ (store ++ rest)) x.m w (append_assoc reads store rest) way in
    let p : PastOne program x.begin body first.far first.place 5 r value (reads ++ (store ++ rest)) (store ++ rest) w =
    past_operand program x.begin body first.far first.place 5 slot value (store ++ rest) w first.at stands free_5
    (omega arith) (omega arith) in
    let w1 : MachineState = p.past.new in
    let second : WayOf x (most + 4) lines (store ++ rest) w1 =
    way_past program x.begin body x.site.far_at x.site.k most 4 lines (reads ++ (store ++ rest)) (store ++ rest) x.m w
    first p.past in
    let on1 : OnCall x w1 =
    on_kept x w w1 on p.memory p.keeps (p.others 30 (λ e. omega (arith, e)) (λ e. omega (arith, e)))
    (p.others 31 (λ e. omega (arith, e)) (λ e. omega (arith, e))) second.at.registers in
    let q : ℕ = x.a + 72 in
    let least : 192 ≤ x.callee.frame = x.callee.frame_size.least in
    let high : x.a + x.callee.frame + 128 ≤ addresses = below_all x.placing x.a x.callee x.is x.room in
    let has1 : HasProgram x.placing w1 = program_in x w1 on1 in
    let may : MayWrite w1 q 8 =
    may_write x.placing w1 x.a x.callee q 8 x.is has1 x.room (omega arith) (omega (arith, least)) in
    let inside = in_data x.placing x.a x.callee q 8 x.is x.room (omega arith) (omega (arith, least)) in
    let blocks = way_code program x.begin body x.site.far_at x.site.k (most + 4) lines store rest ins x.m w1 second refl
    in
    let size : length (little_bytes 8 value) ≡ 8 = length-bytes_low_first 0 8 value in
    let sum : low_bits 64 (pos (register w1 31) +ℤ pos 72) ≡ q =
    ap (λ y. low_bits 64 (pos y +ℤ pos 72)) on1.frame ∙ sum_of x.a 72 (omega (arith, high, least)) in
    let put : Put x.begin code second.place q (little_bytes 8 value) w1 =
    goes_put x.begin code second.place (Ins.Sd 31 r (pos 72)) 8 q value w1 second.at.code_at second.at.pc blocks.0.0
    blocks.1.0
    (λ ss. ap (λ y. stores_bytes w1 8 y (register w1 r) ss) sum ∙ ap (λ v. stores_bytes w1 8 q v ss) p.has) may
    (code_apart x q 8 inside.0) size in
    let has : HasRegisters put.new = same_registers w1 put.new put.registers second.at.registers in
    let enough : most + 4 + 1 ≤ most + 5 = omega arith in
    record {
      w = put.new;
      on = on_written x w1 put.new q (little_bytes 8 value) on1 put.writes (same_keeps w1 put.new put.registers)
          (ap (λ rs. slice_index rs 30) put.registers) (ap (λ rs. slice_index rs 31) put.registers) has
          (bytes_small 0 8 value) (omega arith) (omega (arith, size, least));
      filled = filled_aside x.callee x.a outer memory w1 put.new q (little_bytes 8 value)
          (filled_same x.callee x.a outer memory w w1 p.memory filled) put.writes (inl (omega (arith, size)));
      dictionary = λ other e. let same : value ≡ other = cc in
          subst (λ v. Number put.new (x.a + 72) 8 v × (v < 2 ^ 64)) same (put.writes.written, stands.small);
      way = way_more program x.begin body x.site.far_at x.site.k (most + 4 + 1) (most + 5) lines rest x.m put.new enough
          (way_by program x.begin body x.site.far_at x.site.k (most + 4) 1 1 lines store rest ins x.m w1 put.new second
          refl put.goes has (omega arith));
    }

pub given_dictionary : (x : CallOf) (dictionary word : Option ℕ) (most : ℕ) (outer memory : FlatMemory)
    (lines rest : List Line) (w : MachineState) → OnCall x w → IsFilled x.callee x.a outer memory w
    → WayOf x most lines (gives_dictionary x.here.body.vars dictionary ++ rest) w
    → dictionary_of x.here dictionary ≡ Some word → WithDictionary x outer memory word (most + 5) lines rest
given_dictionary x None word most outer memory lines rest w on filled way told =
    let none : None ≡ word = cc in
    record {
      w = w;
      on = on;
      filled = filled;
      dictionary = λ value e. absurd (let no : None ≡ Some value = none ∙ e in cc);
      way = way_more x.placing.program x.begin x.here.body x.site.far_at x.site.k most (most + 5) lines rest x.m w
          (omega arith) way;
    }
given_dictionary x (Some slot) word most outer memory lines rest w on filled way told =
    by (word_in x.here slot) refl told
  where
    by : (o : Option ℕ) → word_in x.here slot ≡ o → option_map Some o ≡ Some word
        → WithDictionary x outer memory word (most + 5) lines rest
    by None e told' = cc
    by (Some value) e told' =
        let same : Some value ≡ word = cc in
        subst (λ o. WithDictionary x outer memory o (most + 5) lines rest) same
        (given_slot x slot value most outer memory lines rest w on filled way e)

-- ---- slots are cleared

-- The program stands at the call with its slots cleared, and all else is prepared.
pub record Prepared (x : CallOf) (outer memory own : FlatMemory) (word : Option ℕ) (most : ℕ)
    (lines rest : List Line) : Type 0 where
  pub w : MachineState
  pub stands : Stands x.placing (record x.here.state { memory = own }) (back_at x w)
  pub callee : register w 30 ≡ x.c
  pub filled : IsFilled x.callee x.a outer memory w
  pub dictionary : HasDictionary x word w
  pub way : WayOf x most lines rest w

dictionary_kept : (x : CallOf) (word : Option ℕ) (w w' : MachineState) (p : ℕ) (bytes : List ℕ) → HasDictionary x word w
    → Writes p bytes w w' → x.a + x.callee.frame ≤ p → HasDictionary x word w'
dictionary_kept x word w w' p bytes has writes high value e =
    let least : 192 ≤ x.callee.frame = x.callee.frame_size.least in
    let there = has value e in (
      writes.kept (x.a + 72) (little_bytes 8 value) (inr (omega (arith, high, least, length-bytes_low_first 0 8 value)))
          there.0,
      there.1,
    )

dictionary_same : (x : CallOf) (word : Option ℕ) (w w' : MachineState) → w'.segments ≡ w.segments
    → HasDictionary x word w → HasDictionary x word w'
dictionary_same x word w w' same has value e =
    let there = has value e in (same_bytes w w' (x.a + 72) (little_bytes 8 value) same there.0, there.1)

is_none : (n : ℕ) → (n == 0) ≡ true → n ≡ 0
is_none n e = grind (arith, nat_tests)

is_one : (n : ℕ) → (n == 1) ≡ true → n ≡ 1
is_one n e = grind (arith, nat_tests)

some_of : (n : ℕ) → (n == 0) ≡ false → 0 < n
some_of n e = grind (arith, nat_tests)

not_one : (n : ℕ) → (n == 1) ≡ false → n ≡ 1 → ⊥
not_one n e h = grind (arith, nat_tests)

false_where : (b : Bool) → (b ≡ true → ⊥) → b ≡ false
false_where true never = absurd (never refl)
false_where false never = refl

zeros_told : (n : ℕ) → AllZip CellTellsNoMore (zeros n) (map Byte (replicate n 0))
zeros_told zero = tt
zeros_told (suc n) = (refl, zeros_told n)

zeros_small : (n : ℕ) → All (λ b. b < 256) (replicate n 0)
zeros_small zero k d h = absurd (omega (arith, h))
zeros_small (suc n) zero d h = omega arith
zeros_small (suc n) (suc k) d h = zeros_small n k d (omega (arith, h))

zeros_length : (n : ℕ) → length (zeros n) ≡ n
zeros_length n = length-replicate n (Byte 0)

module _ (x : CallOf) (outer memory own : FlatMemory) (word : Option ℕ) (slot most : ℕ) (lines rest : List Line)
    (w : MachineState) (on : OnCall x w) (filled : IsFilled x.callee x.a outer memory w)
    (dictionary : HasDictionary x word w) where
  -- none
  cleared_none : WayOf x most lines rest w
      → option_and_then (λ p. with_cells x.here.state.memory p (zeros 0)) (place_here x.here (words_from slot 0))
      ≡ Some own
      → Prepared x outer memory own word (most + 6) lines rest
  cleared_none way written =
      let v : Bool = is_variable x.here.body (8 * slot / 8) in
      let at : ℕ = x.here.frame.address + 128 + 8 * slot in
      let found = writing (lies_in_frame x.here.body.frame (words_from slot 0)) v at x.here.state.memory own (zeros 0)
      written in
      let same : x.here.state.memory ≡ own =
      (written_where x.here.state.memory own (cond v (addresses + at) at) (zeros 0) found.1).1 in
      record {
        w = w;
        stands = subst (λ mem. Stands x.placing (record x.here.state { memory = mem }) (back_at x w)) same on.at.stands;
        callee = on.callee;
        filled = filled;
        dictionary = dictionary;
        way = way_more x.placing.program x.begin x.here.body x.site.far_at x.site.k most (most + 6) lines rest x.m w
            (omega arith) way;
      }

  -- where one word lies
  own_place : option_and_then (λ p. with_cells x.here.state.memory p (zeros 8)) (place_here x.here (words_from slot 1))
      ≡ Some own
      → (128 + 8 * slot + 8 ≤ x.here.body.frame)
      × (with_cells x.here.state.memory (cond (is_variable x.here.body slot)
      (addresses + (register w 2 + slot_place slot)) (register w 2 + slot_place slot)) (zeros 8) ≡ Some own)
  own_place written =
      let at : ℕ = x.here.frame.address + 128 + 8 * slot in
      let found = writing (lies_in_frame x.here.body.frame (words_from slot 1)) (is_variable x.here.body (8 * slot /
      8)) at
      x.here.state.memory own (zeros 8) written in
      let index : 8 * slot / 8 ≡ slot = omega arith in
      let frame : register w 2 ≡ x.here.frame.address = own_frame x w on in
      let at_is : at ≡ register w 2 + slot_place slot = omega (arith, frame) in (
        leb-true (128 + 8 * slot + 8 * 1) x.here.body.frame found.0,
        subst (λ b. with_cells x.here.state.memory (cond (is_variable x.here.body slot) (addresses + b) b) (zeros 8)
            ≡ Some own) at_is
            (subst (λ k. with_cells x.here.state.memory (cond (is_variable x.here.body k) (addresses + at) at) (zeros 8)
            ≡ Some own) index found.1),
      )

  cleared_home : (r : ℕ) → home x.here.body.vars slot ≡ Some r
      → WayOf x most lines (puts_slot (Some r) 0 slot ++ rest) w
      → option_and_then (λ p. with_cells x.here.state.memory p (zeros 8)) (place_here x.here (words_from slot 1))
      ≡ Some own
      → Prepared x outer memory own word (most + 6) lines rest
  cleared_home r e way written =
      let program : WordProgram = x.placing.program in
      let body : LirBody = x.here.body in
      let code : List Ins = linked program x.begin body in
      let ins : List Ins = Ins.Addi r 0 (pos 0) ∷ [] in
      let put : List Line = puts_slot (Some r) 0 slot in
      let bound = home_bound body.vars slot r e in
      let low : 18 ≤ r = bound.0 in
      let high : r < 26 = bound.2 in
      let k : ℕ = r - 18 in
      let r_is : r ≡ 18 + k = omega (arith, low) in
      let blocks = way_code program x.begin body x.site.far_at x.site.k most lines put rest ins x.m w way refl in
      let has : HasRegisters w = way.at.registers in
      let g : Got x.begin code (way.place + 1) 1 r 0 w =
      got_once x.begin code way.place (Ins.Addi r 0 (pos 0)) r 0 w way.at.code_at way.at.pc blocks.0.0 blocks.1.0
      (λ ss. ap (λ y. Running (given r (low_bits 64 (pos y +ℤ pos 0)) w) ss) has.x0) (omega (arith, low))
      (omega (arith, high)) (omega arith) has in
      let homed : Homed w g.new k 0 =
      got_home x.begin code (way.place + 1) 1 r k 0 w r_is (omega (arith, high, low)) g in
      let homed' : Homed (back_at x w) (back_at x g.new) k 0 = record {
        memory = homed.memory;
        registers = has_all g.new x.m.pc homed.registers;
        word = homed.word;
        frame = homed.frame;
        lowest = homed.lowest;
        heap = homed.heap;
        others = homed.others;
      } in
      let s : Site x.placing x.here x.operation x.begin (back_at x w) =
      site x.placing x.here x.operation x.begin (back_at x w) x.is on.at in
      let place = own_place written in
      let variable : is_variable body slot ≡ true = home_variable body.vars slot r e in
      let home_is : home s.i.here.body.vars slot ≡ Some (18 + k) =
      ap (λ b. home b.vars slot) s.body_is ∙ e ∙ ap Some r_is in
      let variable' : is_variable s.i.here.body slot ≡ true = ap (λ b. is_variable b slot) s.body_is ∙ variable in
      let fits_here : slot_place slot + 8 ≤ s.i.here.body.frame =
      subst (λ b. slot_place slot + 8 ≤ b.frame) (sym s.body_is) (omega (arith, place.0)) in
      let p : ℕ = addresses + (register w 2 + slot_place slot) in
      let done : with_cells x.here.state.memory p (zeros 8) ≡ Some own =
      subst (λ b. with_cells x.here.state.memory (cond b (addresses + (register w 2 + slot_place slot))
      (register w 2 + slot_place slot)) (zeros 8) ≡ Some own) variable place.1 in
      let parts = written_where x.here.state.memory own p (zeros 8) done in
      let stands : Stands x.placing (record x.here.state { memory = overwritten x.here.state.memory p (zeros 8) })
      (back_at x g.new) =
      as_it_was x.placing x.here.state (overwritten x.here.state.memory p (zeros 8)) (back_at x g.new) x.here.frame
      x.here.below s.i.here.place on.at.frames (sym s.i.first.place)
      (stands_homed x.placing x.here.state (back_at x w) (back_at x g.new) x.here.frame x.here.below s.i.here.place k 0
      slot (zeros 8) on.at.stands on.at.frames s.i s.i.is homed' home_is (omega (arith, low, high)) variable' fits_here
      refl (all_itself (little_bytes 8 0)) (all_owned x.here.state.memory p 8 parts.0)) in
      record {
        w = g.new;
        stands = subst (λ mem. Stands x.placing (record x.here.state { memory = mem }) (back_at x g.new)) parts.1
            stands;
        callee = g.others 30 (λ q. omega (arith, q, high)) (λ q. omega (arith, q)) ∙ on.callee;
        filled = filled_same x.callee x.a outer memory w g.new g.memory filled;
        dictionary = dictionary_same x word w g.new g.memory dictionary;
        way = way_more program x.begin body x.site.far_at x.site.k (most + 1) (most + 6) lines rest x.m g.new
            (omega arith)
            (way_by program x.begin body x.site.far_at x.site.k most 1 g.count lines put rest ins x.m w g.new way refl
            g.goes g.registers g.few);
      }

  cleared_slot : home x.here.body.vars slot ≡ None → WayOf x most lines (puts_slot None 0 slot ++ rest) w
      → option_and_then (λ p. with_cells x.here.state.memory p (zeros 8)) (place_here x.here (words_from slot 1))
      ≡ Some own
      → Prepared x outer memory own word (most + 6) lines rest
  cleared_slot e way written =
      let program : WordProgram = x.placing.program in
      let body : LirBody = x.here.body in
      let code : List Ins = linked program x.begin body in
      let put : List Line = puts_slot None 0 slot in
      let ins : List Ins = put_code I8 0 2 (slot_place slot) in
      let blocks = way_code program x.begin body x.site.far_at x.site.k most lines put rest ins x.m w way
      (put_singles I8 0 2 (slot_place slot)) in
      let place = own_place written in
      let ends : 128 + 8 * slot + 8 ≤ body.frame = place.0 in
      let most_frame : body.frame ≤ 65536 = body.frame_size.greatest in
      let frame : register w 2 ≡ x.here.frame.address = own_frame x w on in
      let top : x.here.frame.address + body.frame + 128 ≤ addresses =
      below_all x.placing x.here.frame.address body x.is x.own_room in
      let q : ℕ = register w 2 + slot_place slot in
      let has : HasProgram x.placing w = program_in x w on in
      let may : MayWrite w q 8 =
      may_write x.placing w x.here.frame.address body q 8 x.is has x.own_room (omega (arith, frame))
      (omega (arith, frame, ends)) in
      let inside = in_data x.placing x.here.frame.address body q 8 x.is x.own_room (omega (arith, frame))
      (omega (arith, frame, ends)) in
      let n : PutNumber x.begin code (way.place + length ins) (length ins) q 8 0 w =
      put_number x.begin code way.place I8 0 2 (slot_place slot) (register w 2) q 0 w way.at.code_at way.at.pc blocks.0
      blocks.1 (λ g. omega (arith, g)) (λ g. omega (arith, g)) way.at.registers.x0 refl
      (sum_of (register w 2) (slot_place slot) (omega (arith, frame, top, ends))) (omega (arith, frame, top, ends))
      (omega (arith, ends, most_frame)) may (code_apart x q 8 inside.0) way.at.registers in
      let few : n.steps ≤ length ins = n.few in
      let short : length ins ≤ 4 = put_short I8 0 2 (slot_place slot) (omega (arith, ends, most_frame)) in
      let s : Site x.placing x.here x.operation x.begin (back_at x w) =
      site x.placing x.here x.operation x.begin (back_at x w) x.is on.at in
      let b : Bool = is_variable body slot in
      let p : ℕ = cond b (addresses + q) q in
      let parts = written_where x.here.state.memory own p (zeros 8) place.1 in
      let is_put : IsPut x.placing x.here.state (back_at x w) (back_at x n.new) x.here.frame x.here.below body slot 0 =
      record {
        body_there = on.at.body;
        at = sym frame;
        fits = omega (arith, ends);
        small = omega arith;
        writes = writes_between q (little_bytes 8 0) w (back_at x w) n.new (back_at x n.new) refl refl n.writes;
        keeps = keeps_back x w n.new n.keeps;
        registers = has_all n.new x.m.pc n.registers;
      } in
      let stands : Stands x.placing (record x.here.state { memory = overwritten x.here.state.memory p (zeros 8) })
      (back_at x n.new) =
      as_it_was x.placing x.here.state (overwritten x.here.state.memory p (zeros 8)) (back_at x n.new) x.here.frame
      x.here.below s.i.here.place on.at.frames (sym s.i.first.place)
      (stands_put x.placing x.here.state (back_at x w) (back_at x n.new) x.here.frame x.here.below body s.i.here.place
      slot
      0 (zeros 8) b x.is on.at.stands on.at.frames s.i s.body_is s.i.is is_put e refl refl
      (all_itself (little_bytes 8 0)) (all_owned x.here.state.memory p 8 parts.0)) in
      let above : x.a + x.callee.frame ≤ q = let join : x.here.frame.address ≡ x.a + x.callee.frame = x.top in
      omega (arith, join, frame) in
      record {
        w = n.new;
        stands = subst (λ mem. Stands x.placing (record x.here.state { memory = mem }) (back_at x n.new)) parts.1
            stands;
        callee = n.others 30 (λ g. omega (arith, g)) ∙ on.callee;
        filled = filled_aside x.callee x.a outer memory w n.new q (little_bytes 8 0) filled n.writes (inr above);
        dictionary = dictionary_kept x word w n.new q (little_bytes 8 0) dictionary n.writes above;
        way = way_more program x.begin body x.site.far_at x.site.k (most + 4) (most + 6) lines rest x.m n.new (omega
            arith)
            (way_by program x.begin body x.site.far_at x.site.k most 4 n.steps lines put rest ins x.m w n.new way
            (put_singles I8 0 2 (slot_place slot)) n.goes n.registers (omega (arith, few, short)));
      }

  cleared_words : (words : ℕ) → 0 < words → (words ≡ 1 → ⊥) → fits x.here.body (words_from slot words) ≡ true
      → WayOf x most lines ((gets_address 6 2 (slot_place slot) ++ clears_words words) ++ rest) w
      → option_and_then (λ p. with_cells x.here.state.memory p (zeros (8 * words)))
      (place_here x.here (words_from slot words)) ≡ Some own
      → Prepared x outer memory own word (most + (6 + 3 * words)) lines rest
  cleared_words words some other fit way written =
      let program : WordProgram = x.placing.program in
      let body : LirBody = x.here.body in
      let code : List Ins = linked program x.begin body in
      let count : ℕ = 8 * words in
      let at : ℕ = x.here.frame.address + 128 + 8 * slot in
      let found = writing (lies_in_frame body.frame (words_from slot words)) (is_variable body (8 * slot / 8)) at
      x.here.state.memory own
      (zeros count) written in
      let ends : 128 + 8 * slot + count ≤ body.frame = leb-true (128 + 8 * slot + count) body.frame found.0 in
      let flat : is_variable body (8 * slot / 8) ≡ false =
      false_where (is_variable body (8 * slot / 8))
      (λ variable. let whole = whole_of (8 * slot) count (8 * slot / 8) refl (omega (arith, some))
      (holds_of_one (is_whole_or_apart (words_from slot words)) body.vars (8 * slot / 8)
      (second_of (lies_in_frame body.frame (words_from slot words)) (list_all (is_whole_or_apart (words_from slot
      words)) body.vars) fit) variable) in
      other (omega (arith, whole.1))) in
      let most_frame : body.frame ≤ 65536 = body.frame_size.greatest in
      let frame : register w 2 ≡ x.here.frame.address = own_frame x w on in
      let top : x.here.frame.address + body.frame + 128 ≤ addresses =
      below_all x.placing x.here.frame.address body x.is x.own_room in
      let q : ℕ = register w 2 + slot_place slot in
      let at_is : at ≡ q = omega (arith, frame) in
      let done : with_cells x.here.state.memory q (zeros count) ≡ Some own =
      subst (λ y. with_cells x.here.state.memory y (zeros count) ≡ Some own) at_is
      (subst (λ b. with_cells x.here.state.memory (cond b (addresses + at) at) (zeros count) ≡ Some own) flat found.1)
      in
      let parts = written_where x.here.state.memory own q (zeros count) done in
      let owned : (y : ℕ) → q ≤ y → y < q + count → is_own (x.here.state.memory y) ≡ true =
      all_owned x.here.state.memory q count
      (subst (λ n. list_all is_own (cells_from x.here.state.memory q n) ≡ true) (zeros_length count) parts.0) in
      -- the address
      let first_lines : List Line = gets_address 6 2 (slot_place slot) in
      let loop : List Line = clears_words words in
      let way0 : WayOf x most lines (first_lines ++ (loop ++ rest)) w =
      way_same program x.begin body x.site.far_at x.site.k most lines ((first_lines ++ loop) ++ rest)
      (first_lines ++ (loop ++ rest)) x.m w (append_assoc first_lines loop rest) way in
      let ins : List Ins = address_code 6 2 (slot_place slot) in
      let blocks = way_code program x.begin body x.site.far_at x.site.k most lines first_lines (loop ++ rest) ins x.m
      w way0
      (address_singles 6 2 (slot_place slot)) in
      let g : Got x.begin code (way0.place + length ins) (length ins) 6 q w =
      got_is x.begin code (way0.place + length ins) (length ins) 6
      (low_bits 64 (pos (register w 2) +ℤ pos (slot_place slot))) q w
      (sum_of (register w 2) (slot_place slot) (omega (arith, frame, top, ends)))
      (got_address x.begin code way0.place 6 2 (slot_place slot) (register w 2) w way0.at.code_at way0.at.pc blocks.0
      blocks.1 (omega arith) (omega arith) (λ e. omega (arith, e)) refl (omega (arith, ends, most_frame))
      way0.at.registers) in
      let short : length ins ≤ 3 = address_short 6 2 (slot_place slot) (omega (arith, ends, most_frame)) in
      let few : g.count ≤ length ins = g.few in
      let way1 : WayOf x (most + 3) lines (loop ++ rest) g.new =
      way_by program x.begin body x.site.far_at x.site.k most 3 g.count lines first_lines (loop ++ rest) ins x.m w g.new
      way0 (address_singles 6 2 (slot_place slot)) g.goes g.registers (omega (arith, few, short)) in
      let on1 : OnCall x g.new =
      on_kept x w g.new on g.memory (got_keeps x.begin code (way0.place + length ins) (length ins) 6 q w free_6 g)
      (g.others 30 (λ e. omega (arith, e)) (λ e. omega (arith, e)))
      (g.others 31 (λ e. omega (arith, e)) (λ e. omega (arith, e))) g.registers in
      -- the words
      let has1 : HasProgram x.placing g.new = program_in x g.new on1 in
      let inside = in_data x.placing x.here.frame.address body q count x.is x.own_room (omega (arith, frame))
      (omega (arith, frame, ends)) in
      let can : CanClear x.begin code q count g.new = record {
        write = may_write x.placing g.new x.here.frame.address body q count x.is has1 x.own_room (omega (arith, frame))
            (omega (arith, frame, ends));
        fits = omega (arith, frame, top, ends);
        apart = code_apart x q count inside.0;
      } in
      let c : ℕ = length (constant_code 28 count) in
      let few_words : c ≤ 2 = constant_short 28 count (omega (arith, ends, most_frame)) in
      let z : PastZeros program x.begin body way1.far way1.place (3 + 3 * words) q count (loop ++ rest) rest g.new =
      past_zeros program x.begin body way1.far way1.place words q (3 + 3 * words) rest g.new way1.at g.has can
      (omega (arith, few_words)) in
      let w2 : MachineState = z.past.new in
      let way2 : WayOf x (most + 3 + (3 + 3 * words)) lines rest w2 =
      way_past program x.begin body x.site.far_at x.site.k (most + 3) (3 + 3 * words) lines (loop ++ rest) rest x.m
      g.new
      way1 z.past in
      let keeps : KeepsOwn w w2 = record {
        frame = z.others 2 (λ e. omega (arith, e)) (λ e. omega (arith, e)) ∙ g.others 2 (λ e. omega (arith, e))
            (λ e. omega (arith, e));
        homes = λ k h. z.others (18 + k) (λ e. omega (arith, e)) (λ e. omega (arith, e, h))
            ∙ g.others (18 + k) (λ e. omega (arith, e)) (λ e. omega (arith, e, h));
        lowest = z.others 26 (λ e. omega (arith, e)) (λ e. omega (arith, e)) ∙ g.others 26 (λ e. omega (arith, e))
            (λ e. omega (arith, e));
        heap = z.others 27 (λ e. omega (arith, e)) (λ e. omega (arith, e)) ∙ g.others 27 (λ e. omega (arith, e))
            (λ e. omega (arith, e));
      } in
      let writes : Writes q (replicate count 0) w w2 =
      writes_between q (replicate count 0) g.new w w2 w2 (sym g.memory) refl z.writes in
      let size : length {A = ℕ} (replicate count 0) ≡ count = length-replicate count 0 in
      let s : Site x.placing x.here x.operation x.begin (back_at x w) =
      site x.placing x.here x.operation x.begin (back_at x w) x.is on.at in
      let stands : Stands x.placing (record x.here.state { memory = overwritten x.here.state.memory q (zeros count) })
      (back_at x w2) =
      as_it_was x.placing x.here.state (overwritten x.here.state.memory q (zeros count)) (back_at x w2) x.here.frame
      x.here.below s.i.here.place on.at.frames (sym s.i.first.place)
      (stands_flat x.placing x.here.state (back_at x w) (back_at x w2) x.here.frame x.here.below s.i.here.place q
      (replicate count 0) (zeros count) x.is on.at.stands on.at.frames s.i s.i.is
      (writes_between q (replicate count 0) w (back_at x w) w2 (back_at x w2) refl refl writes)
      (keeps_back x w w2 keeps) (has_all w2 x.m.pc way2.at.registers) (omega (arith, size, some))
      (omega (arith, size, frame, top, ends)) (zeros_length count ∙ sym size) (zeros_told count) (zeros_small count)
      (λ y from upto. owned y from (omega (arith, upto, size)))) in
      let above : x.a + x.callee.frame ≤ q = let join : x.here.frame.address ≡ x.a + x.callee.frame = x.top in
      omega (arith, join, frame) in
      let enough : most + 3 + (3 + 3 * words) ≤ most + (6 + 3 * words) = omega arith in
      record {
        w = w2;
        stands = subst (λ mem. Stands x.placing (record x.here.state { memory = mem }) (back_at x w2)) parts.1 stands;
        callee = z.others 30 (λ e. omega (arith, e)) (λ e. omega (arith, e)) ∙ on1.callee;
        filled = filled_aside x.callee x.a outer memory w w2 q (replicate count 0) filled writes (inr above);
        dictionary = dictionary_kept x word w w2 q (replicate count 0) dictionary writes above;
        way = way_more program x.begin body x.site.far_at x.site.k (most + 3 + (3 + 3 * words))
            (most + (6 + 3 * words)) lines rest x.m w2 enough way2;
      }

prepared_more : (x : CallOf) (outer memory own : FlatMemory) (word : Option ℕ) (most more : ℕ) (lines rest : List Line)
    → most ≤ more → Prepared x outer memory own word most lines rest → Prepared x outer memory own word more lines rest
prepared_more x outer memory own word most more lines rest h p = record {
  w = p.w;
  stands = p.stands;
  callee = p.callee;
  filled = p.filled;
  dictionary = p.dictionary;
  way = way_more x.placing.program x.begin x.here.body x.site.far_at x.site.k most more lines rest x.m p.w h p.way;
}

pub prepared : (x : CallOf) (outer memory own : FlatMemory) (word : Option ℕ) (block : Block) (most : ℕ)
    (lines rest : List Line) (w : MachineState) → OnCall x w → IsFilled x.callee x.a outer memory w
    → HasDictionary x word w → WayOf x most lines (clears_block x.here.body.vars block ++ rest) w
    → fits x.here.body (of_block block) ≡ true → cleared_here x.here block ≡ Some own
    → Prepared x outer memory own word (most + (6 + 3 * block.words)) lines rest
prepared x outer memory own word block most lines rest w on filled dictionary way fit written =
    by (block.words == 0) refl (block.words == 1) refl way
  where
    Wanted : Type 0
    Wanted = Prepared x outer memory own word (most + (6 + 3 * block.words)) lines rest

    Written : ℕ → Type 0
    Written n =
        option_and_then (λ p. with_cells x.here.state.memory p (zeros (8 * n))) (place_here x.here
        (words_from block.slot n)) ≡ Some own

    vars : List ℕ
    vars = x.here.body.vars

    one : (o : Option ℕ) → home vars block.slot ≡ o → Written 1 → WayOf x most lines (puts_slot o 0 block.slot ++
        rest) w
        → Prepared x outer memory own word (most + 6) lines rest
    one (Some r) e here way' =
        cleared_home x outer memory own word block.slot most lines rest w on filled dictionary r e way' here
    one None e here way' =
        cleared_slot x outer memory own word block.slot most lines rest w on filled dictionary e way' here

    by : (b : Bool) → (block.words == 0) ≡ b → (b' : Bool) → (block.words == 1) ≡ b'
        → WayOf x most lines (cond b [] (cond b' (puts_slot (home vars block.slot) 0 block.slot)
        (gets_address 6 2 (slot_place block.slot) ++ clears_words block.words)) ++ rest) w
        → Wanted
    by true e b' e' way' =
        prepared_more x outer memory own word (most + 6) (most + (6 + 3 * block.words)) lines rest (omega arith)
        (cleared_none x outer memory own word block.slot most lines rest w on filled dictionary way'
        (subst Written (is_none block.words e) written))
    by false e true e' way' =
        prepared_more x outer memory own word (most + 6) (most + (6 + 3 * block.words)) lines rest (omega arith)
        (one (home vars block.slot) refl (subst Written (is_one block.words e') written) way')
    by false e false e' way' =
        cleared_words x outer memory own word block.slot most lines rest w on filled dictionary block.words
        (some_of block.words e) (not_one block.words e') fit way' written
