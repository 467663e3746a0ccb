-- Words of 0 that are written one after another.
use Rattle.std.proofs.Common.{◌≡◌, ◌∙◌, ◌⊎◌, inl, inr, ℕ, zero, suc, ◌+◌, ◌-◌, ◌*◌, ◌%◌, ◌^◌, ◌<◌, ◌≤◌, pos, negsuc}
use Rattle.std.proofs.Common.{Bool, true, false, not, cond, List, [], ◌∷◌, ◌++◌, length, replicate, Some, slice_get}
use Rattle.std.proofs.Common.{slice_index, arith, refl, ap, sym, subst, length-append, ◌+ℤ◌, ◌-ℤ◌}
use Rattle.std.specs.Prelude.{◌==◌}
use Rattle.std.proofs.lemmas.Bool.Decides.{nat_tests}
use Rattle.std.proofs.lemmas.Int.{ints}
use Rattle.std.proofs.lemmas.List.{length-replicate, replicate-append-replicate}
use Rattle.byteorder.specs.Endian.{little_bytes}
use Rattle.byteorder.specs.Numbers.{length-bytes_low_first}
use Rattle.num_core.specs.declared.kind.Narrow.{Narrow}
use Rattle.rv_isa.specs.declared.ins.Ins.{Ins}
use Rattle.rv_isa.specs.Instructions.{IsLegal}
use Rattle.num_core.specs.Bits.{low_bits}
use Rattle.rv_step.specs.Machine.{MachineState, address as address_of, register, stores as stores_bytes}
use Rattle.rv_step.specs.Memory.{AreApart, MayWrite, Writes, is_allowed}
use Rattle.rv_step.proofs.Addresses.{allowed_within}
use Rattle.rv_code.specs.Code.{AllLegal, BlockAt, CodeAt, given}
use Rattle.rv_code.specs.Registers.{HasRegisters}
use Rattle.rv_code.proofs.Going.{block_parts, legal_parts, within}
use Rattle.rt_code.proofs.Machines.{sum_of, writes_between}
use Rattle.lir_core.specs.Pieces.{bytes_of_type}
use Rattle.lir_core.specs.Program.{WordProgram}
use Rattle.lir_core.specs.declared.body.LirBody.{LirBody}
use Rattle.rv_lines.specs.Moving.{clears_word, clears_words, finds_end}
use Rattle.rv_lines.specs.Operands.{stores}
use Rattle.rv_lines.specs.declared.line.Condition.TheVariants.{NotEqual}
use Rattle.rv_lines.specs.declared.line.Line.{Line}
use Rattle.rv_lines.proofs.Loading.{stored_number}
use Rattle.rv_gen.specs.Placing.{distance}
use Rattle.rv_words.specs.Linked.{linked}
use Rattle.rv_words.proofs.Branches.{Turns, branch_near}
use Rattle.rv_words.proofs.ConstantCode.{constant_code, far_code, far_length, far_singles, got_far, singles}
use Rattle.rv_words.proofs.ConstantCode.{singles_append}
use Rattle.rv_words.proofs.Going.{Goes, Put, goes_given, goes_nowhere, goes_on, goes_put}
use Rattle.rv_words.proofs.Got.{Got, got_is}
use Rattle.rv_words.proofs.Lines.{AtLines, at_behind, at_equal, first_code, first_part, size_singles}
use Rattle.rv_words.proofs.LinkedCode.{longest_of, size_append, size_of}
use Rattle.rv_words.proofs.Operands.{Past}
use Rattle.rv_words.proofs.Passing.{apart_first, apart_second, moves_on, writes_both, writes_nothing}
use Rattle.rv_words.proofs.Places.{far_of}
use Rattle.rv_words.proofs.Registers.{given_has, given_other, given_same}
use Rattle.rv_words.proofs.Results.{same_registers}

-- So many bytes may be written, where the code isn't.
pub record CanClear (address : ℕ) (code : List Ins) (t count : ℕ) (m : MachineState) : Type 0 where
  pub write : MayWrite m t count
  pub fits : t + count < 2 ^ 64
  pub apart : AreApart t count address (4 * length code)

pub clear_first : (address : ℕ) (code : List Ins) (t n k : ℕ) (m : MachineState)
    → CanClear address code t (n + k) m → CanClear address code t n m
clear_first address code t n k m can =
    let fits : t + (n + k) < 2 ^ 64 = can.fits in
    record {
      write = allowed_within (λ g. g.write) t (n + k) t n m.segments (omega arith) (omega arith) can.write;
      fits = omega (arith, fits);
      apart = apart_first t n k address (4 * length code) can.apart;
    }

pub clear_rest : (address : ℕ) (code : List Ins) (t n k : ℕ) (bytes : List ℕ) (m new : MachineState)
    → CanClear address code t (n + k) m → Writes t bytes m new → CanClear address code (t + n) k new
clear_rest address code t n k bytes m new can writes =
    let fits : t + (n + k) < 2 ^ 64 = can.fits in
    record {
      write = (writes.allows (t + n) k).write
          ∙ allowed_within (λ g. g.write) t (n + k) (t + n) k m.segments (omega arith) (omega arith) can.write;
      fits = omega (arith, fits);
      apart = apart_second t n k address (4 * length code) can.apart;
    }

pub clear_same : (address : ℕ) (code : List Ins) (t count : ℕ) (m new : MachineState) → new.segments ≡ m.segments
    → CanClear address code t count m → CanClear address code t count new
clear_same address code t count m new e can = record {
  write = ap (λ ss. is_allowed (λ g. g.write) ss t count) e ∙ can.write;
  fits = can.fits;
  apart = can.apart;
}

pub zeros_both : (t n k : ℕ) (m between new : MachineState) → Writes t (replicate n 0) m between
    → Writes (t + n) (replicate k 0) between new → Writes t (replicate (n + k) 0) m new
zeros_both t n k m between new first second =
    subst (λ xs. Writes t xs m new) (replicate-append-replicate n k 0)
    (writes_both t (replicate n 0) (replicate k 0) m between new first
    (subst (λ c. Writes (t + c) (replicate k 0) between new) (sym (length-replicate n 0)) second))

-- ---- one number

-- It is 0 behind the address in x6, and no register has changed.
pub record ClearedOne (address : ℕ) (code : List Ins) (place t count : ℕ) (m : MachineState) : Type 0 where
  pub new : MachineState
  pub goes : Goes address code place 1 m new
  pub writes : Writes t (replicate count 0) m new
  pub same : new.registers ≡ m.registers

zero_bytes : (narrow : Narrow) → little_bytes (bytes_of_type narrow) 0 ≡ replicate (bytes_of_type narrow) 0
zero_bytes Narrow.I1 = refl
zero_bytes Narrow.U1 = refl
zero_bytes Narrow.I2 = refl
zero_bytes Narrow.U2 = refl
zero_bytes Narrow.I4 = refl
zero_bytes Narrow.U4 = refl
zero_bytes Narrow.I8 = refl
zero_bytes Narrow.U8 = refl

pub clear_one : (address : ℕ) (code : List Ins) (k : ℕ) (narrow : Narrow) (offset t : ℕ) (m : MachineState)
    → CodeAt address code m → m.pc ≡ address + 4 * k
    → BlockAt code k (stores narrow 0 6 (pos offset) ∷ []) → AllLegal (stores narrow 0 6 (pos offset) ∷ [])
    → register m 6 + offset ≡ t → CanClear address code t (bytes_of_type narrow) m → HasRegisters m
    → ClearedOne address code (k + 1) t (bytes_of_type narrow) m
clear_one address code k narrow offset t m at pc there legal to can has =
    let count : ℕ = bytes_of_type narrow in
    let fits : t + count < 2 ^ 64 = can.fits in
    let a_is : address_of m 6 (pos offset) ≡ t = sum_of (register m 6) offset (omega (arith, to, fits)) ∙ to in
    let p : Put address code k t (little_bytes count 0) m =
    goes_put address code k (stores narrow 0 6 (pos offset)) count t 0 m at pc there.0 legal.0
    (λ ss. stored_number narrow m ss 0 6 (pos offset)
    ∙ ap (λ x. stores_bytes m count x (register m 0) ss) a_is ∙ ap (λ v. stores_bytes m count t v ss) has.x0)
    can.write can.apart (length-bytes_low_first 0 count 0) in
    record {
      new = p.new;
      goes = p.goes;
      writes = subst (λ bs. Writes t bs m p.new) (zero_bytes narrow) p.writes;
      same = p.registers;
    }

-- ---- words, one after another

-- So many bytes are 0, and the address in x6 has moved behind them.
pub record Cleared (address : ℕ) (code : List Ins) (place steps t count : ℕ) (m : MachineState) : Type 0 where
  pub new : MachineState
  pub goes : Goes address code place steps m new
  pub writes : Writes t (replicate count 0) m new
  pub to : register new 6 ≡ t + count
  pub others : (q : ℕ) → (q ≡ 6 → ⊥) → register new q ≡ register m q
  pub registers : HasRegisters new

cleared_both : (address : ℕ) (code : List Ins) (k k' n n' t count count' : ℕ) (m : MachineState)
    → (first : Cleared address code k n t count m) → Cleared address code k' n' (t + count) count' first.new
    → Cleared address code k' (n + n') t (count + count') m
cleared_both address code k k' n n' t count count' m first second = record {
  new = second.new;
  goes = goes_on address code k k' n n' m first.new second.new first.goes second.goes;
  writes = zeros_both t count count' m first.new second.new first.writes second.writes;
  to = second.to ∙ omega arith;
  others = λ q ne. second.others q ne ∙ first.others q ne;
  registers = second.registers;
}

abbrev pub clear_code : List Ins
clear_code = Ins.Sd 6 0 (pos 0) ∷ Ins.Addi 6 6 (pos 8) ∷ Ins.Bne 6 28 (negsuc 7) ∷ []

clear_word : (address : ℕ) (code : List Ins) (k t : ℕ) (m : MachineState) → CodeAt address code m
    → m.pc ≡ address + 4 * k → BlockAt code k clear_code → AllLegal clear_code → register m 6 ≡ t
    → CanClear address code t 8 m → HasRegisters m → Cleared address code (k + 1 + 1) 2 t 8 m
clear_word address code k t m at pc there legal to can has =
    let fits : t + 8 < 2 ^ 64 = can.fits in
    let p : ClearedOne address code (k + 1) t 8 m =
    clear_one address code k Narrow.I8 0 t m at pc (there.0, tt) (legal.0, tt) (omega (arith, to)) can has in
    let has1 : HasRegisters p.new = same_registers m p.new p.same has in
    let x6 : register p.new 6 ≡ t = ap (λ rs. slice_index rs 6) p.same ∙ to in
    let m2 : MachineState = given 6 (t + 8) p.new in
    let second : Goes address code (k + 1 + 1) 1 p.new m2 =
    goes_given address code (k + 1) (Ins.Addi 6 6 (pos 8)) 6 (t + 8) p.new p.goes.code_at p.goes.pc there.1.0 legal.1.0
    (moves_on p.new 6 t x6 fits) in
    record {
      new = m2;
      goes = goes_on address code (k + 1) (k + 1 + 1) 1 1 m p.new m2 p.goes second;
      writes = writes_between t (replicate 8 0) m m p.new m2 refl refl p.writes;
      to = given_same 6 (t + 8) p.new (omega arith) (omega arith) has1;
      others = λ q ne. given_other 6 q (t + 8) p.new ne ∙ ap (λ rs. slice_index rs q) p.same;
      registers = given_has 6 (t + 8) p.new fits has1;
    }

clear_turns : (address : ℕ) (code : List Ins) (k n place t count : ℕ) (m : MachineState)
    → (p : Cleared address code k n t count m) → Turns address code place p.new
    → Cleared address code place (n + 1) t count m
clear_turns address code k n place t count m p turn = record {
  new = record p.new { pc = turn.pc };
  goes = goes_on address code k place n 1 m p.new (record p.new { pc = turn.pc }) p.goes turn.goes;
  writes = writes_between t (replicate count 0) m m p.new (record p.new { pc = turn.pc }) refl refl p.writes;
  to = p.to;
  others = p.others;
  registers = record { count = p.registers.count; x0 = p.registers.x0; words = p.registers.words };
}

equal_true : (a b : ℕ) → a ≡ b → (a == b) ≡ true
equal_true a b e = grind (arith, nat_tests)

equal_false : (a b : ℕ) → a < b → (a == b) ≡ false
equal_false a b h = grind (arith, nat_tests)

word_turns : (address : ℕ) (code : List Ins) (k t end : ℕ) (b : Bool) (m : MachineState)
    → BlockAt code k clear_code → AllLegal clear_code → register m 28 ≡ end
    → (p : Cleared address code (k + 1 + 1) 2 t 8 m) → (t + 8 == end) ≡ b
    → Cleared address code (cond (not b) k (k + 1 + 1 + 1)) 3 t 8 m
word_turns address code k t end b m there legal is p test =
    let from : ℕ = k + 1 + 1 in
    let back : distance from k ≡ negsuc 7 = omega (arith, ints) in
    let x28 : register p.new 28 ≡ end = p.others 28 (λ e. omega (arith, e)) ∙ is in
    let room : address + 4 * length code < 2 ^ 64 = p.goes.code_at.fits in
    let inside : from < length code = within code from (Ins.Bne 6 28 (negsuc 7)) there.1.1.0 in
    clear_turns address code from 2 (cond (not b) k (from + 1)) t 8 m p
    (branch_near address code from k NotEqual 6 28 (not b) p.new p.goes.code_at p.goes.pc
    (subst (λ d. slice_get code from ≡ Some (Ins.Bne 6 28 d)) (sym back) there.1.1.0)
    (subst (λ d. IsLegal (Ins.Bne 6 28 d)) (sym back) legal.1.1.0)
    (omega (arith, room, inside))
    (ap (λ x. not (x == register p.new 28)) p.to ∙ ap (λ x. not (t + 8 == x)) x28 ∙ ap not test))

-- all words, of which there are one or more
clear_loop : (n : ℕ) (address : ℕ) (code : List Ins) (k t : ℕ) (m : MachineState) → CodeAt address code m
    → m.pc ≡ address + 4 * k → BlockAt code k clear_code → AllLegal clear_code → register m 6 ≡ t
    → register m 28 ≡ t + 8 * suc n → CanClear address code t (8 * suc n) m → HasRegisters m
    → Cleared address code (k + 1 + 1 + 1) (3 * suc n) t (8 * suc n) m
clear_loop zero address code k t m at pc there legal to end can has =
    word_turns address code k t (t + 8) true m there legal end
    (clear_word address code k t m at pc there legal to can has) (equal_true (t + 8) (t + 8) refl)
clear_loop (suc n) address code k t m at pc there legal to end can has =
    let parted : 8 * suc (suc n) ≡ 8 + 8 * suc n = omega arith in
    let can' : CanClear address code t (8 + 8 * suc n) m =
    subst (λ c. CanClear address code t c m) parted can in
    let first : Cleared address code k 3 t 8 m =
    word_turns address code k t (t + 8 * suc (suc n)) false m there legal end
    (clear_word address code k t m at pc there legal to (clear_first address code t 8 (8 * suc n) m can') has)
    (equal_false (t + 8) (t + 8 * suc (suc n)) (omega arith)) in
    let rest : Cleared address code (k + 1 + 1 + 1) (3 * suc n) (t + 8) (8 * suc n) first.new =
    clear_loop n address code k (t + 8) first.new first.goes.code_at first.goes.pc there legal first.to
    (first.others 28 (λ e. omega (arith, e)) ∙ end ∙ omega arith)
    (clear_rest address code t 8 (8 * suc n) (replicate 8 0) m first.new can' first.writes) first.registers in
    let steps : 3 + 3 * suc n ≡ 3 * suc (suc n) = omega arith in
    subst (λ c. Cleared address code (k + 1 + 1 + 1) (3 * suc (suc n)) t c m) (sym parted)
    (subst (λ c. Cleared address code (k + 1 + 1 + 1) c t (8 + 8 * suc n) m) steps
    (cleared_both address code k (k + 1 + 1 + 1) 3 (3 * suc n) t 8 (8 * suc n) m first rest))

-- ---- in the lines of an operation

abbrev pub zeros_code : ℕ → List Ins
zeros_code words = far_code 28 6 (8 * words) ++ clear_code

zeros_singles : (words : ℕ) → finds_end 6 words ++ clears_word ≡ singles (zeros_code words)
zeros_singles words =
    ap (λ xs. xs ++ clears_word) (far_singles 28 6 (8 * words))
    ∙ sym (singles_append (far_code 28 6 (8 * words)) clear_code)

-- The machine has gone through the first of some lines, which have cleared bytes, and is at the rest of them.
pub record PastZeros (program : WordProgram) (begin : ℕ) (body : LirBody) (far_at k most t count : ℕ)
    (lines rest : List Line) (m : MachineState) : Type 0 where
  pub past : Past program begin body far_at k most lines rest m
  pub writes : Writes t (replicate count 0) m past.new
  pub to : register past.new 6 ≡ t + count
  pub others : (q : ℕ) → (q ≡ 6 → ⊥) → (q ≡ 28 → ⊥) → register past.new q ≡ register m q

some_zeros : (program : WordProgram) (begin : ℕ) (body : LirBody) (far_at k words t most : ℕ) (rest : List Line)
    (m : MachineState)
    → AtLines program begin body far_at k ((finds_end 6 words ++ clears_word) ++ rest) m → 0 < words
    → register m 6 ≡ t → CanClear begin (linked program begin body) t (8 * words) m
    → length (constant_code 28 (8 * words)) + 1 + 3 * words ≤ most
    → PastZeros program begin body far_at k most t (8 * words) ((finds_end 6 words ++ clears_word) ++ rest) rest m
some_zeros program begin body far_at k words t most rest m at some to can enough =
    let code : List Ins = linked program begin body in
    let xs : List Line = finds_end 6 words ++ clears_word in
    let own : List Ins = zeros_code words in
    let far : List Ins = far_code 28 6 (8 * words) in
    let c : ℕ = length (constant_code 28 (8 * words)) in
    let same : xs ≡ singles own = zeros_singles words in
    let first = first_code program begin body far_at k own m
    (at_equal program begin body far_at k xs (singles own) m same (first_part program begin body far_at k xs rest m at))
    in
    let parts = block_parts code k far clear_code first.0 in
    let lawful = legal_parts far clear_code first.1 in
    let fits : t + 8 * words < 2 ^ 64 = can.fits in
    let e : Got begin code (k + c + 1) (c + 1) 28 (t + 8 * words) m =
    got_is begin code (k + c + 1) (c + 1) 28 (low_bits 64 (pos t +ℤ pos (8 * words))) (t + 8 * words) m
    (sum_of t (8 * words) (omega (arith, fits)))
    (got_far begin code k 28 6 (8 * words) t m at.code_at at.pc parts.0 lawful.0 (omega arith) (omega arith)
    (λ g. omega (arith, g)) to (omega (arith, fits)) at.registers) in
    let far_size : length far ≡ c + 1 = far_length 28 6 (8 * words) in
    let place : k + length far ≡ k + c + 1 = omega (arith, far_size) in
    let n : ℕ = words - 1 in
    let words_are : words ≡ suc n = omega (arith, some) in
    let loop : Cleared begin code (k + c + 1 + 1 + 1 + 1) (3 * suc n) t (8 * suc n) e.new =
    clear_loop n begin code (k + c + 1) t e.new e.goes.code_at e.goes.pc
    (subst (λ p. BlockAt code p clear_code) place parts.1) lawful.1
    (e.others 6 (λ g. omega (arith, g)) (λ g. omega (arith, g)) ∙ to)
    (e.has ∙ ap (λ w. t + 8 * w) words_are)
    (subst (λ w. CanClear begin code t (8 * w) e.new) words_are (clear_same begin code t (8 * words) m e.new e.memory
    can))
    e.registers in
    let far' : ℕ = far_at + longest_of xs in
    let sizes : size_of (far_of body) far_at (xs ++ rest)
    ≡ size_of (far_of body) far_at xs + size_of (far_of body) far' rest =
    size_append (far_of body) far_at xs rest in
    let own_size : size_of (far_of body) far_at xs ≡ length own =
    ap (size_of (far_of body) far_at) same ∙ size_singles (far_of body) far_at own in
    let own_length : length own ≡ c + 1 + 3 = length-append far clear_code ∙ omega (arith, far_size) in
    let end : k + c + 1 + 1 + 1 + 1 ≡ k + size_of (far_of body) far_at xs = omega (arith, own_size, own_length) in
    let count : ℕ = e.count + 3 * suc n in
    let goes : Goes begin code (k + size_of (far_of body) far_at xs) count m loop.new =
    subst (λ p. Goes begin code p count m loop.new) end
    (goes_on begin code (k + c + 1) (k + c + 1 + 1 + 1 + 1) e.count (3 * suc n) m e.new loop.new e.goes loop.goes) in
    let few : e.count ≤ c + 1 = e.few in
    let all : 8 * suc n ≡ 8 * words = ap (λ w. 8 * w) (sym words_are) in
    record {
      past = record {
        far = far';
        place = k + size_of (far_of body) far_at xs;
        new = loop.new;
        count = count;
        few = omega (arith, few, words_are, enough);
        goes = goes;
        at = at_behind program begin body far_at k count xs rest m loop.new at goes loop.registers;
        size = omega (arith, sizes);
      };
      writes = writes_between t (replicate (8 * words) 0) e.new m loop.new loop.new (sym e.memory) refl
          (subst (λ w. Writes t (replicate w 0) e.new loop.new) all loop.writes);
      to = loop.to ∙ ap (λ w. t + w) all;
      others = λ q ne ne'. loop.others q ne ∙ e.others q ne' ne';
    }

no_zeros : (program : WordProgram) (begin : ℕ) (body : LirBody) (far_at k t most count : ℕ) (rest : List Line)
    (m : MachineState) → AtLines program begin body far_at k rest m → register m 6 ≡ t → 0 ≡ count
    → PastZeros program begin body far_at k most t count rest rest m
no_zeros program begin body far_at k t most count rest m at to none =
    subst (λ c. PastZeros program begin body far_at k most t c rest rest m) none
    (record {
      past = record {
        far = far_at;
        place = k;
        new = m;
        count = 0;
        few = omega arith;
        goes = goes_nowhere begin (linked program begin body) k m at.code_at at.pc;
        at = at;
        size = refl;
      };
      writes = writes_nothing t m at.code_at.segments;
      to = to ∙ omega arith;
      others = λ q ne ne'. refl;
    })

equal_of : (a b : ℕ) → (a == b) ≡ true → a ≡ b
equal_of a b e = grind (arith, nat_tests)

not_zero : (a : ℕ) → (a == 0) ≡ false → 0 < a
not_zero a e = grind (arith, nat_tests)

-- So many words from the address in x6 on are 0.
pub past_zeros : (program : WordProgram) (begin : ℕ) (body : LirBody) (far_at k words t most : ℕ) (rest : List Line)
    (m : MachineState) → AtLines program begin body far_at k (clears_words words ++ rest) m → register m 6 ≡ t
    → CanClear begin (linked program begin body) t (8 * words) m
    → length (constant_code 28 (8 * words)) + 1 + 3 * words ≤ most
    → PastZeros program begin body far_at k most t (8 * words) (clears_words words ++ rest) rest m
past_zeros program begin body far_at k words t most rest m at to can enough = by (words == 0) refl at
  where
    by : (b : Bool) → (words == 0) ≡ b
        → AtLines program begin body far_at k (cond b [] (finds_end 6 words ++ clears_word) ++ rest) m
        → PastZeros program begin body far_at k most t (8 * words)
        (cond b [] (finds_end 6 words ++ clears_word) ++ rest) rest m
    by true e at =
        let none : words ≡ 0 = equal_of words 0 e in
        no_zeros program begin body far_at k t most (8 * words) rest m at to (omega (arith, none))
    by false e at = some_zeros program begin body far_at k words t most rest m at (not_zero words e) to can enough
