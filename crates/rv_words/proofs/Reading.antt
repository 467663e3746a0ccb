-- What a slot holds at the word level stands in its home or in memory.
use Rattle.std.proofs.Common.{◌≡◌, ◌∙◌, ℕ, zero, suc, ◌+◌, ◌-◌, ◌*◌, ◌/◌, ◌^◌, ◌<◌, ◌≤◌, Bool, true, false, cond}
use Rattle.std.proofs.Common.{List, [], ◌∷◌, length, Option, Some, None, arith, refl, ap, sym, subst, nat_lt}
use Rattle.std.proofs.Common.{slice_index}
use Rattle.std.specs.Prelude.{unwrap_or}
use Rattle.std.specs.Option.{option_and_then, option_map}
use Rattle.std.proofs.lemmas.Bool.{leb-true}
use Rattle.std.proofs.lemmas.Bool.Decides.{nat_tests}
use Rattle.std.proofs.lemmas.List.{append-nil}
use Rattle.std.specs.Int.{bytes_low_first}
use Rattle.byteorder.specs.Endian.{little_bytes, little_from, little_number}
use Rattle.byteorder.specs.Numbers.{length-bytes_low_first, little_from-lt, little_number-reads_back}
use Rattle.rv_step.specs.Machine.{MachineState, register}
use Rattle.rv_step.specs.Memory.{Bytes, MayRead, byte_in}
use Rattle.rv_step.proofs.Addresses.{at_each, read_bytes, readable}
use Rattle.lir_core.specs.Calls.{lowest}
use Rattle.lir_core.specs.Check.{lies_in_frame}
use Rattle.lir_core.specs.Memory.{Byte, FlatMemory, bytes_in, cells_from, number_in}
use Rattle.lir_core.specs.Pieces.{word}
use Rattle.lir_core.specs.Slots.{Here, addresses, is_variable, word_in}
use Rattle.lir_core.specs.State.{WordState}
use Rattle.lir_core.specs.Tells.{MemoryTellsNoMore}
use Rattle.lir_core.proofs.Telling.{same_number}
use Rattle.lir_core.specs.declared.op.LirOp.{LirOp}
use Rattle.rv_lines.specs.Frame.{home, slot_place}
use Rattle.rv_words.specs.Groups.{IsAt}
use Rattle.rv_words.specs.Placing.{HasProgram, IsPlacing, Placing, data_bytes}
use Rattle.rv_words.specs.Stands.{Stands}
use Rattle.rv_words.specs.Words.{Held, beyond, bytes_from, cell_of, held_in, memory_in, variable_word, word_at}
use Rattle.rv_words.specs.Words.{word_by_home}
use Rattle.rv_words.specs.Words.{words}
use Rattle.rv_words.proofs.Homes.{home_bound, home_variable, home_word}
use Rattle.rv_words.proofs.Bytes.{number_back}
use Rattle.rv_words.proofs.Kept.{own_byte, word_read}
use Rattle.rv_words.proofs.Owning.{IsFirst, IsOneOf}
use Rattle.rv_words.proofs.Registers.{register_fits}
use Rattle.rv_words.proofs.Room.{HasRoom, below_all, in_data, may_read, room_of}
use Rattle.rv_words.proofs.Sites.{Site}
use Rattle.rv_words.proofs.Standing.{held_at, held_is, homes_in, rest_of}

-- ---- numbers in memory as the program sees it

bytes_told : (memory : FlatMemory) (p : ℕ) (bytes : List ℕ)
    → ((j : ℕ) → j < length bytes → memory (p + j) ≡ Byte (slice_index bytes j))
    → bytes_in (cells_from memory p (length bytes)) ≡ Some bytes
bytes_told memory p [] told = refl
bytes_told memory p (b ∷ bytes) told =
    let here : p + 0 ≡ p = omega arith in
    let first : memory p ≡ Byte b = ap memory (sym here) ∙ told 0 (omega arith) in
    let rest : bytes_in (cells_from memory (suc p) (length bytes)) ≡ Some bytes =
    bytes_told memory (suc p) bytes
    (λ j less. let e : suc p + j ≡ p + suc j = omega arith in ap memory e ∙ told (suc j) (omega (arith, less))) in
    ap (λ c. bytes_in (c ∷ cells_from memory (suc p) (length bytes))) first
    ∙ ap (option_map (λ others. b ∷ others)) rest

-- a word whose bytes are there
pub word_told : (memory : FlatMemory) (p w n : ℕ) → w < 2 ^ 64
    → ((j : ℕ) → j < 8 → memory (p + j) ≡ Byte (slice_index (little_bytes 8 w) j))
    → number_in memory p 8 ≡ Some n → w ≡ n
word_told memory p w n small told is =
    let bytes : List ℕ = little_bytes 8 w in
    let size : length bytes ≡ 8 = length-bytes_low_first 0 8 w in
    let there : bytes_in (cells_from memory p (length bytes)) ≡ Some bytes =
    bytes_told memory p bytes (λ j less. told j (subst (λ k. j < k) size less)) in
    let there' : bytes_in (cells_from memory p 8) ≡ Some bytes =
    subst (λ k. bytes_in (cells_from memory p k) ≡ Some bytes) size there in
    let back : little_number 8 bytes ≡ w =
    subst (λ others. little_number 8 others ≡ w) (append-nil bytes) (little_number-reads_back 8 w [] small) in
    let whole : Some w ≡ Some n =
    ap Some (sym back) ∙ ap (option_map (little_number 8)) (sym there') ∙ is in
    cc

-- ---- words that may be read are words

small_index : (m : MachineState) (x count k : ℕ)
    → ((j : ℕ) → j < count → unwrap_or (byte_in m.segments (x + j)) 0 < 256)
    → slice_index (bytes_from m x count) k < 256
small_index m x zero k small = omega arith
small_index m x (suc count) zero small =
    let here : x + 0 ≡ x = omega arith in
    subst (λ q. unwrap_or (byte_in m.segments q) 0 < 256) here (small 0 (omega arith))
small_index m x (suc count) (suc k) small =
    small_index m (x + 1) count k
    (λ j less. let e : x + suc j ≡ (x + 1) + j = omega arith in
    subst (λ q. unwrap_or (byte_in m.segments q) 0 < 256) e (small (suc j) (omega (arith, less))))

pub small_byte : (placing : Placing) (m : MachineState) (x : ℕ) → HasProgram placing m → placing.lowest_data ≤ x
    → x < placing.lowest_data + data_bytes placing → unwrap_or (byte_in m.segments x) 0 < 256
small_byte placing m x has low high = by (byte_in m.segments x) refl
  where
    by : (o : Option ℕ) → byte_in m.segments x ≡ o → unwrap_or o 0 < 256
    by None e = omega arith
    by (Some b) e = has.small x b low high e

pub word_small : (placing : Placing) (m : MachineState) (x : ℕ) → HasProgram placing m → placing.lowest_data ≤ x
    → x + 8 ≤ placing.lowest_data + data_bytes placing → word_at m x < 2 ^ 64
word_small placing m x has low high =
    little_from-lt 0 8 (bytes_from m x 8)
    (λ k. small_index m x 8 k
    (λ j less. small_byte placing m (x + j) has (omega (arith, low)) (omega (arith, high, less))))

-- ---- a slot of the innermost frame

-- where its word stands, by its home
abbrev pub StandsIn : Option ℕ → MachineState → ℕ → ℕ → Type 0
StandsIn (Some r) m slot n = register m r ≡ n
StandsIn None m slot n =
    MayRead m (register m 2 + slot_place slot) 8 × (word_at m (register m 2 + slot_place slot) ≡ n)

pub record SlotStands (m : MachineState) (vars : List ℕ) (slot n : ℕ) : Type 0 where
  pub stands : StandsIn (home vars slot) m slot n
  pub small : n < 2 ^ 64
  pub fits : register m 2 + slot_place slot + 8 ≤ 2 ^ 64
  pub near : slot_place slot < 65536

pub memory_told : (placing : Placing) (state : WordState) (m : MachineState) → Stands placing state m
    → MemoryTellsNoMore state.memory (memory_in placing m)
unfolding words
memory_told placing state m stands = stands.tells.memory

-- the innermost frame is one of all
pub first_one : (placing : Placing) (here : Here) (operation : LirOp) (begin : ℕ) (m : MachineState)
    → IsAt placing here operation begin m
    → IsOneOf placing.program here.frame.address here.body (lowest placing.program here.state.frames) here.state.frames
first_one placing here operation begin m at =
    subst (λ fs. IsOneOf placing.program here.frame.address here.body (lowest placing.program fs) fs) (sym at.frames)
    (IsFirst here.frame here.below at.body)

pub room_here : (placing : Placing) (here : Here) (operation : LirOp) (begin : ℕ) (m : MachineState) → IsPlacing placing
    → IsAt placing here operation begin m → HasRoom placing here.frame.address here.body
room_here placing here operation begin m is at =
    room_of placing here.state.frames here.frame.address here.body is at.stands.bounds.frames
    (first_one placing here operation begin m at)

reading : (lies beyond_all : Bool) (a n : ℕ) (memory : FlatMemory)
    → option_and_then (λ p. number_in memory p 8) (cond lies (Some (cond beyond_all (addresses + a) a)) None) ≡ Some n
    → (lies ≡ true) × (number_in memory (cond beyond_all (addresses + a) a) 8 ≡ Some n)
reading true beyond_all a n memory e = (refl, e)
reading false beyond_all a n memory e = cc

lt_true : (x y : ℕ) → x < y → nat_lt x y ≡ true
lt_true x y h = grind (arith, nat_tests)

lt_false : (x y : ℕ) → y ≤ x → nat_lt x y ≡ false
lt_false x y h = grind (arith, nat_tests)

-- The word of a slot, which stands there, and whose bytes are what the machine holds at the slot's place.
pub record SlotWord (placing : Placing) (here : Here) (m : MachineState) (slot : ℕ) : Type 0 where
  pub word : ℕ
  pub stands : SlotStands m here.body.vars slot word
  pub cells : (j : ℕ) → j < 8
      → memory_in placing m (cond (is_variable here.body slot) (addresses + (here.frame.address + 128 + 8 * slot))
      (here.frame.address + 128 + 8 * slot) + j)
      ≡ Byte (slice_index (little_bytes 8 word) j)

pub slot_word : (placing : Placing) (here : Here) (operation : LirOp) (begin : ℕ) (m : MachineState) (slot : ℕ)
    → IsPlacing placing → IsAt placing here operation begin m → Site placing here operation begin m
    → lies_in_frame here.body.frame (word slot) ≡ true → SlotWord placing here m slot
slot_word placing here operation begin m slot is at s lies = by_home (home here.body.vars slot) refl
  where
    a : ℕ
    a = here.frame.address + 128 + 8 * slot

    ends : 128 + 8 * slot + 8 ≤ here.body.frame
    ends = leb-true (128 + 8 * slot + 8) here.body.frame lies

    close : slot_place slot < 65536
    close = let most : here.body.frame ≤ 65536 = here.body.frame_size.greatest in omega (arith, ends, most)

    same : here.frame.address ≡ register m 2
    same = s.i.first.address

    a_is : a ≡ register m 2 + slot_place slot
    a_is = omega (arith, same)

    room : HasRoom placing here.frame.address here.body
    room = room_here placing here operation begin m is at

    below : register m 2 + slot_place slot + 8 + 128 ≤ addresses
    below =
        let end : here.frame.address + here.body.frame + 128 ≤ addresses =
        below_all placing here.frame.address here.body is room in
        omega (arith, end, ends, same)

    may : MayRead m (register m 2 + slot_place slot) 8
    may =
        may_read placing m here.frame.address here.body (register m 2 + slot_place slot) 8 is at.stands.serves.memory
        room
        (omega (arith, same)) (omega (arith, same, ends))

    in_it : (placing.lowest_data ≤ register m 2 + slot_place slot)
        × (register m 2 + slot_place slot + 8 ≤ placing.lowest_data + data_bytes placing)
    in_it =
        in_data placing here.frame.address here.body (register m 2 + slot_place slot) 8 is room (omega (arith, same))
        (omega (arith, same, ends))

    small_word : word_at m (register m 2 + slot_place slot) < 2 ^ 64
    small_word = word_small placing m (register m 2 + slot_place slot) at.stands.serves.memory in_it.0 in_it.1

    held : Held
    held = held_at s.i.here (register m 2) (homes_in m)

    -- bytes that stand there are bytes
    all_small : (bytes : List ℕ) → length bytes ≡ 8 → Bytes m (register m 2 + slot_place slot) bytes → (k : ℕ)
        → k < length bytes → slice_index bytes k < 256
    all_small bytes size there k h =
        let q : ℕ = register m 2 + slot_place slot in
        let back : q + k - q ≡ k = omega arith in
        let byte : byte_in m.segments (q + k) ≡ Some (slice_index bytes k) =
        at_each m q bytes there (q + k) (omega arith) (omega (arith, h))
        ∙ ap (λ n. Some (slice_index bytes n)) back in
        let low : placing.lowest_data ≤ q = in_it.0 in
        let high : q + 8 ≤ placing.lowest_data + data_bytes placing = in_it.1 in
        subst (λ o. unwrap_or o 0 < 256) byte
        (small_byte placing m (q + k) at.stands.serves.memory (omega (arith, low)) (omega (arith, high, h, size)))

    -- a byte of a variable
    own_cell : is_variable here.body slot ≡ true → (w : ℕ) → variable_word m held slot ≡ w → (j : ℕ) → j < 8
        → memory_in placing m (cond (is_variable here.body slot) (addresses + a) a + j)
        ≡ Byte (slice_index (little_bytes 8 w) j)
    own_cell variable w word_is j less =
        let x : ℕ = (addresses + a) + j in
        let place : x - addresses ≡ register m 2 + slot_place slot + j = omega (arith, a_is) in
        let variable' : is_variable s.i.here.body slot ≡ true =
        ap (λ b. is_variable b slot) s.body_is ∙ variable in
        let fits' : slot_place slot + 8 ≤ s.i.here.body.frame =
        subst (λ b. slot_place slot + 8 ≤ b.frame) (sym s.body_is) (omega (arith, ends)) in
        ap (λ b. memory_in placing m (cond b (addresses + a) a + j)) variable
        ∙ ap (λ b. cond b (cell_of (byte_in m.segments x)) (beyond m (held_in placing m) (x - addresses)))
        (lt_false x addresses (omega arith))
        ∙ ap (beyond m (held_in placing m)) place
        ∙ ap (λ hs. beyond m hs (register m 2 + slot_place slot + j)) (held_is placing m here.frame here.below s.i)
        ∙ own_byte m s.i.here (register m 2) (homes_in m)
        (rest_of s.i.count placing m (held_at s.i.here (register m 2) (homes_in m))) slot j less variable' fits'
        ∙ ap (λ w'. Byte (slice_index (little_bytes 8 w') j)) word_is

    -- a byte at the slot's address
    flat_cell : is_variable here.body slot ≡ false → (j : ℕ) → j < 8
        → memory_in placing m (cond (is_variable here.body slot) (addresses + a) a + j)
        ≡ Byte (slice_index (little_bytes 8 (word_at m (register m 2 + slot_place slot))) j)
    flat_cell other j less =
        let q : ℕ = register m 2 + slot_place slot in
        let found = readable (λ t. t.read) q 8 m.segments may in
        let there : Bytes m q found.0 =
        read_bytes (λ t. t.read) m q 8 found.0 at.stands.serves.memory.segments found.1 found.2 in
        let sum : a + j ≡ q + j = omega (arith, a_is) in
        let back : q + j - q ≡ j = omega arith in
        let byte : byte_in m.segments (q + j) ≡ Some (slice_index found.0 j) =
        at_each m q found.0 there (q + j) (omega arith) (omega (arith, less, found.2))
        ∙ ap (λ k. Some (slice_index found.0 k)) back in
        let back_again : little_bytes 8 (word_at m q) ≡ found.0 =
        ap (little_bytes 8) (word_read m q found.0 found.2 there)
        ∙ subst (λ k. bytes_low_first 0 k (little_from 0 k found.0) ≡ found.0) found.2
        (number_back found.0 (all_small found.0 found.2 there)) in
        ap (λ b. memory_in placing m (cond b (addresses + a) a + j)) other ∙ ap (memory_in placing m) sum
        ∙ ap (λ b. cond b (cell_of (byte_in m.segments (q + j))) (beyond m (held_in placing m) ((q + j) - addresses)))
        (lt_true (q + j) addresses (omega (arith, below, less)))
        ∙ ap cell_of byte ∙ ap (λ bs. Byte (slice_index bs j)) (sym back_again)

    own_home : variable_word m held slot ≡ word_by_home (home here.body.vars slot) m held slot
    own_home = ap (λ b. word_by_home (home b.vars slot) m held slot) s.body_is

    by_variable : (b : Bool) → is_variable here.body slot ≡ b → home here.body.vars slot ≡ None
        → SlotWord placing here m slot
    by_variable true e none = record {
      word = word_at m (register m 2 + slot_place slot);
      stands = record {
        stands = subst (λ o. StandsIn o m slot (word_at m (register m 2 + slot_place slot))) (sym none) (may, refl);
        small = small_word;
        fits = omega (arith, below);
        near = close;
      };
      cells = own_cell e (word_at m (register m 2 + slot_place slot))
          (own_home ∙ ap (λ o. word_by_home o m held slot) none);
    }
    by_variable false e none = record {
      word = word_at m (register m 2 + slot_place slot);
      stands = record {
        stands = subst (λ o. StandsIn o m slot (word_at m (register m 2 + slot_place slot))) (sym none) (may, refl);
        small = small_word;
        fits = omega (arith, below);
        near = close;
      };
      cells = flat_cell e;
    }

    by_home : (o : Option ℕ) → home here.body.vars slot ≡ o → SlotWord placing here m slot
    by_home (Some r) e =
        let bound = home_bound here.body.vars slot r e in
        let less : r < 26 = bound.2 in
        record {
          word = register m r;
          stands = record {
            stands = subst (λ o. StandsIn o m slot (register m r)) (sym e) refl;
            small = register_fits r m (omega (arith, less)) at.stands.serves.registers;
            fits = omega (arith, below);
            near = close;
          };
          cells = own_cell (home_variable here.body.vars slot r e) (register m r)
              (own_home ∙ ap (λ o. word_by_home o m held slot) e ∙ home_word m r bound.0 bound.2);
        }
    by_home None e = by_variable (is_variable here.body slot) refl e

-- What the program reads of a slot stands there.
pub slot_stands : (placing : Placing) (here : Here) (operation : LirOp) (begin : ℕ) (m : MachineState) (slot n : ℕ)
    → IsPlacing placing → IsAt placing here operation begin m → Site placing here operation begin m
    → word_in here slot ≡ Some n → SlotStands m here.body.vars slot n
slot_stands placing here operation begin m slot n is at s told =
    let a : ℕ = here.frame.address + 128 + 8 * slot in
    let found = reading (lies_in_frame here.body.frame (word slot)) (is_variable here.body (8 * slot / 8)) a n
    here.state.memory told in
    let index : 8 * slot / 8 ≡ slot = omega arith in
    let p : ℕ = cond (is_variable here.body slot) (addresses + a) a in
    let read : number_in here.state.memory p 8 ≡ Some n =
    subst (λ k. number_in here.state.memory (cond (is_variable here.body k) (addresses + a) a) 8 ≡ Some n) index
    found.1 in
    let there : number_in (memory_in placing m) p 8 ≡ Some n =
    same_number here.state.memory (memory_in placing m) p 8 n (memory_told placing here.state m at.stands) read in
    let w : SlotWord placing here m slot = slot_word placing here operation begin m slot is at s found.0 in
    let word_is : w.word ≡ n =
    word_told (memory_in placing m) p w.word n w.stands.small w.cells there in
    subst (SlotStands m here.body.vars slot) word_is w.stands
