-- The instructions that give a register a constant, an address or a word of memory.
use Rattle.std.proofs.Common.{◌≡◌, ◌∙◌, inl, inr, ℕ, ◌+◌, ◌-◌, ◌*◌, ◌/◌, ◌%◌, ◌^◌, ◌<◌, ◌≤◌, ℤ, pos}
use Rattle.std.proofs.Common.{◌+ℤ◌, Bool, true, false, cond, List, [], ◌∷◌, ◌++◌, length, Some, slice_get, nat_lt}
use Rattle.std.proofs.Common.{arith, refl, ap, sym, subst, length-append}
use Rattle.std.specs.Int.RustNames.{bit_or}
use Rattle.std.specs.Int.{cast_signed, w32}
use Rattle.std.proofs.lemmas.Nat.{or_lt}
use Rattle.std.proofs.lemmas.Bool.Decides.{nat_tests}
use Rattle.std.proofs.lemmas.Int.{ints}
use Rattle.num_core.specs.Bits.{low_bits}
use Rattle.num_core.specs.Run.{Running, Streams}
use Rattle.num_core.specs.declared.kind.Narrow.TheVariants.{I8}
use Rattle.rv_isa.specs.declared.ins.Ins.{Ins}
use Rattle.rv_isa.specs.Instructions.{IsLegal}
use Rattle.rv_step.specs.Machine.{MachineState, gives, loads, low_word, register}
use Rattle.rv_step.specs.Memory.{Bytes, MayRead, is_allowed}
use Rattle.rv_step.specs.Segments.{AreSegments}
use Rattle.rv_step.proofs.AddressLaws.{loads_by}
use Rattle.rv_step.proofs.Addresses.{read_bytes, readable}
use Rattle.rv_code.specs.Code.{AllLegal, BlockAt, CodeAt, given}
use Rattle.rv_code.specs.Registers.{HasRegisters}
use Rattle.rv_code.proofs.Going.{block_parts, legal_parts}
use Rattle.rt_code.specs.Code.{lower, upper}
use Rattle.rt_code.proofs.Machines.{sum_of}
use Rattle.rv_lines.specs.Operands.{adds_far, gets_address, is_near, is_of_12_bits, is_of_32_bits, loads_32_bits}
use Rattle.rv_lines.specs.Operands.{loads_64_bits, loads_behind, loads_constant, takes_lower_bits}
use Rattle.rv_lines.specs.declared.line.Line.{Line}
use Rattle.rv_lines.specs.declared.line.Line.TheVariants.{Single}
use Rattle.rv_words.specs.Words.{word_at}
use Rattle.rv_words.proofs.Constants.{extended, of_12, of_32, of_32_bits, of_64, with_bits}
use Rattle.rv_words.proofs.Got.{Got, got_at, got_is, got_once, got_through}
use Rattle.rv_words.proofs.Kept.{word_read, word_same}
use Rattle.rv_words.proofs.Registers.{low_small}

-- ---- lines that are an instruction each

abbrev pub singles : List Ins → List Line
singles [] = []
singles (ins ∷ code) = Single ins ∷ singles code

pub singles_append : (xs ys : List Ins) → singles (xs ++ ys) ≡ singles xs ++ singles ys
singles_append [] ys = refl
singles_append (x ∷ xs) ys = ap (λ ls. Single x ∷ ls) (singles_append xs ys)

-- ---- constants

abbrev pub code_32 : ℕ → ℕ → List Ins
code_32 rd word = Ins.Lui rd (upper word) ∷ Ins.Addiw rd rd (lower word) ∷ []

abbrev pub code_bits : ℕ → ℕ → ℕ → List Ins
code_bits rd count number = Ins.Slli rd rd count ∷ Ins.Ori rd rd (pos number) ∷ []

abbrev pub code_lower : ℕ → ℕ → List Ins
code_lower rd word =
    code_bits rd 11 (word / 2 ^ 21 % 2048)
    ++ (code_bits rd 11 (word / 2 ^ 10 % 2048) ++ code_bits rd 10 (word % 1024))

abbrev pub code_64 : ℕ → ℕ → List Ins
code_64 rd word = code_32 rd (word / 2 ^ 32) ++ code_lower rd word

abbrev pub code_by : Bool → Bool → ℕ → ℕ → List Ins
code_by a b rd word =
    cond a (Ins.Addi rd 0 (lower (word % 2 ^ 32)) ∷ []) (cond b (code_32 rd (word % 2 ^ 32)) (code_64 rd word))

abbrev pub constant_code : ℕ → ℕ → List Ins
constant_code rd word = code_by (is_of_12_bits word) (is_of_32_bits word) rd word

singles_32 : (rd word : ℕ) → loads_32_bits rd word ≡ singles (code_32 rd word)
unfolding loads_32_bits
singles_32 rd word = refl

singles_lower : (rd word : ℕ) → takes_lower_bits rd word ≡ singles (code_lower rd word)
unfolding takes_lower_bits
singles_lower rd word = refl

pub constant_singles : (rd word : ℕ) → loads_constant rd word ≡ singles (constant_code rd word)
unfolding loads_constant
constant_singles rd word = by (is_of_12_bits word) (is_of_32_bits word)
  where
    by : (a b : Bool)
        → cond a (Single (Ins.Addi rd 0 (lower (word % 2 ^ 32))) ∷ [])
        (cond b (loads_32_bits rd (word % 2 ^ 32)) (loads_64_bits rd word))
        ≡ singles (code_by a b rd word)
    by true b = refl
    by false true = singles_32 rd (word % 2 ^ 32)
    by false false =
        ap (λ xs. xs ++ takes_lower_bits rd word) (singles_32 rd (word / 2 ^ 32))
        ∙ ap (λ xs. singles (code_32 rd (word / 2 ^ 32)) ++ xs) (singles_lower rd word)

pub constant_length : (rd word : ℕ) → length (constant_code rd word) ≤ 8
constant_length rd word = by (is_of_12_bits word) (is_of_32_bits word)
  where
    by : (a b : Bool) → length (code_by a b rd word) ≤ 8
    by true b = omega arith
    by false true = omega arith
    by false false = omega arith

pub constant_short : (rd word : ℕ) → word < 2 ^ 31 → length (constant_code rd word) ≤ 2
constant_short rd word h =
    subst (λ t. length (code_by (is_of_12_bits word) t rd word) ≤ 2) (sym small) (by (is_of_12_bits word))
  where
    less : nat_lt word (2 ^ 31) ≡ true
    less = grind (arith, nat_tests)

    small : is_of_32_bits word ≡ true
    small = ap (λ t. cond t true (nat_lt (2 ^ 64 - 2 ^ 31 - 1) word)) less

    by : (a : Bool) → length (code_by a true rd word) ≤ 2
    by true = omega arith
    by false = omega arith

-- 32 bits with their sign
got_32 : (address : ℕ) (code : List Ins) (k rd word : ℕ) (m : MachineState) → CodeAt address code m
    → m.pc ≡ address + 4 * k → BlockAt code k (code_32 rd word) → AllLegal (code_32 rd word) → 0 < rd → rd < 32
    → word < 2 ^ 32 → HasRegisters m → Got address code (k + 1 + 1) (1 + 1) rd (extended word) m
got_32 address code k rd word m at pc there legal h h' small has =
    let v : ℕ = low_word (pos (upper word * 2 ^ 12)) in
    let first : Got address code (k + 1) 1 rd v m =
    got_once address code k (Ins.Lui rd (upper word)) rd v m at pc there.0 legal.0 (λ streams. refl) h h'
    (low_word_small (pos (upper word * 2 ^ 12))) has in
    let w : ℕ = low_word (pos v +ℤ lower word) in
    let second : Got address code (k + 1 + 1) 1 rd w first.new =
    got_once address code (k + 1) (Ins.Addiw rd rd (lower word)) rd w first.new first.goes.code_at first.goes.pc
    there.1.0
    legal.1.0
    (λ streams. ap (λ x. Running (given rd (low_word (pos x +ℤ lower word)) first.new) streams) first.has)
    h h' (low_word_small (pos v +ℤ lower word)) first.registers in
    got_is address code (k + 1 + 1) (1 + 1) rd w (extended word) m (of_32_bits word small)
    (got_through address code (k + 1) (k + 1 + 1) 1 1 rd v rd w m first second (inr refl))
  where
    low_word_small : (z : ℤ) → low_word z < 2 ^ 64
    low_word_small z = low_small (cast_signed w32 (low_bits 32 z))

-- a word moved up, with bits in the place that is free
with_small : (c n b : ℕ) → with_bits c n b < 2 ^ 64
with_small c n b =
    or_lt 64 (low_bits 64 (pos (n * 2 ^ c))) (low_bits 64 (pos b)) (low_small (pos (n * 2 ^ c))) (low_small (pos b))

got_bits : (address : ℕ) (code : List Ins) (k rd c n b : ℕ) (m : MachineState) → CodeAt address code m
    → m.pc ≡ address + 4 * k → BlockAt code k (code_bits rd c b) → AllLegal (code_bits rd c b) → 0 < rd → rd < 32
    → register m rd ≡ n → HasRegisters m → Got address code (k + 1 + 1) (1 + 1) rd (with_bits c n b) m
got_bits address code k rd c n b m at pc there legal h h' is has =
    let v : ℕ = low_bits 64 (pos (n * 2 ^ c)) in
    let first : Got address code (k + 1) 1 rd v m =
    got_once address code k (Ins.Slli rd rd c) rd v m at pc there.0 legal.0
    (λ streams. ap (λ x. Running (given rd (low_bits 64 (pos (x * 2 ^ c))) m) streams) is) h h'
    (low_small (pos (n * 2 ^ c))) has in
    let second : Got address code (k + 1 + 1) 1 rd (with_bits c n b) first.new =
    got_once address code (k + 1) (Ins.Ori rd rd (pos b)) rd (with_bits c n b) first.new first.goes.code_at
    first.goes.pc
    there.1.0 legal.1.0
    (λ streams. ap (λ x. Running (given rd (bit_or x (low_bits 64 (pos b))) first.new) streams) first.has) h h'
    (with_small c n b) first.registers in
    got_through address code (k + 1) (k + 1 + 1) 1 1 rd v rd (with_bits c n b) m first second (inr refl)

got_64 : (address : ℕ) (code : List Ins) (k rd word : ℕ) (m : MachineState) → CodeAt address code m
    → m.pc ≡ address + 4 * k → BlockAt code k (code_64 rd word) → AllLegal (code_64 rd word) → 0 < rd → rd < 32
    → word < 2 ^ 64 → HasRegisters m → Got address code (k + 8) 8 rd word m
got_64 address code k rd word m at pc there legal h h' small has =
    let e : ℕ = extended (word / 2 ^ 32) in
    let x : ℕ = word / 2 ^ 21 % 2048 in
    let y : ℕ = word / 2 ^ 10 % 2048 in
    let z : ℕ = word % 1024 in
    let k1 : ℕ = k + 1 + 1 in
    let k2 : ℕ = k1 + 1 + 1 in
    let k3 : ℕ = k2 + 1 + 1 in
    let k4 : ℕ = k3 + 1 + 1 in
    let first : Got address code k1 (1 + 1) rd e m =
    got_32 address code k rd (word / 2 ^ 32) m at pc (there.0, (there.1.0, tt)) (legal.0, (legal.1.0, tt)) h h'
    (omega (arith, small)) has in
    let t2 : BlockAt code k1 (code_lower rd word) = there.1.1 in
    let l2 : AllLegal (code_lower rd word) = legal.1.1 in
    let second : Got address code k2 (1 + 1) rd (with_bits 11 e x) first.new =
    got_bits address code k1 rd 11 e x first.new first.goes.code_at first.goes.pc (t2.0, (t2.1.0, tt))
    (l2.0, (l2.1.0, tt)) h h' first.has first.registers in
    let third : Got address code k3 (1 + 1) rd (with_bits 11 (with_bits 11 e x) y) second.new =
    got_bits address code k2 rd 11 (with_bits 11 e x) y second.new second.goes.code_at second.goes.pc
    (t2.1.1.0, (t2.1.1.1.0, tt)) (l2.1.1.0, (l2.1.1.1.0, tt)) h h' second.has second.registers in
    let last : Got address code k4 (1 + 1) rd (with_bits 10 (with_bits 11 (with_bits 11 e x) y) z) third.new =
    got_bits address code k3 rd 10 (with_bits 11 (with_bits 11 e x) y) z third.new third.goes.code_at third.goes.pc
    (t2.1.1.1.1.0, (t2.1.1.1.1.1.0, tt)) (l2.1.1.1.1.0, (l2.1.1.1.1.1.0, tt)) h h' third.has third.registers in
    got_at address code k4 (k + 8) (1 + 1 + (1 + 1 + (1 + 1 + (1 + 1)))) 8 rd word m (omega arith) (omega arith)
    (got_is address code k4 (1 + 1 + (1 + 1 + (1 + 1 + (1 + 1)))) rd
    (with_bits 10 (with_bits 11 (with_bits 11 e x) y) z) word m (of_64 word small)
    (got_through address code k1 k4 (1 + 1) (1 + 1 + (1 + 1 + (1 + 1))) rd e rd
    (with_bits 10 (with_bits 11 (with_bits 11 e x) y) z) m first
    (got_through address code k2 k4 (1 + 1) (1 + 1 + (1 + 1)) rd (with_bits 11 e x) rd
    (with_bits 10 (with_bits 11 (with_bits 11 e x) y) z) first.new second
    (got_through address code k3 k4 (1 + 1) (1 + 1) rd (with_bits 11 (with_bits 11 e x) y) rd
    (with_bits 10 (with_bits 11 (with_bits 11 e x) y) z) second.new third last (inr refl)) (inr refl)) (inr refl)))

pub got_constant : (address : ℕ) (code : List Ins) (k rd word : ℕ) (m : MachineState) → CodeAt address code m
    → m.pc ≡ address + 4 * k → BlockAt code k (constant_code rd word) → AllLegal (constant_code rd word) → 0 < rd
    → rd < 32 → word < 2 ^ 64 → HasRegisters m
    → Got address code (k + length (constant_code rd word)) (length (constant_code rd word)) rd word m
got_constant address code k rd word m at pc there legal h h' small has =
    by (is_of_12_bits word) (is_of_32_bits word) refl refl there legal
  where
    by : (a b : Bool) → is_of_12_bits word ≡ a → is_of_32_bits word ≡ b → BlockAt code k (code_by a b rd word)
        → AllLegal (code_by a b rd word)
        → Got address code (k + length (code_by a b rd word)) (length (code_by a b rd word)) rd word m
    by true b t t' there legal =
        got_once address code k (Ins.Addi rd 0 (lower (word % 2 ^ 32))) rd word m at pc there.0 legal.0
        (λ streams. ap (λ v. Running (given rd v m) streams)
        (ap (λ x. low_bits 64 (pos x +ℤ lower (word % 2 ^ 32))) has.x0 ∙ of_12 word small t))
        h h' small has
    by false true t t' there legal =
        got_at address code (k + 1 + 1) (k + 2) (1 + 1) 2 rd word m (omega arith) (omega arith)
        (got_is address code (k + 1 + 1) (1 + 1) rd (extended (word % 2 ^ 32)) word m (of_32 word small t')
        (got_32 address code k rd (word % 2 ^ 32) m at pc there legal h h' (omega arith) has))
    by false false t t' there legal = got_64 address code k rd word m at pc there legal h h' small has

-- ---- addresses so many bytes behind that in a register

abbrev pub far_code : ℕ → ℕ → ℕ → List Ins
far_code rd base offset = constant_code 28 offset ++ Ins.Add rd 28 base ∷ []

pub far_singles : (rd base offset : ℕ) → adds_far rd base offset ≡ singles (far_code rd base offset)
far_singles rd base offset =
    ap (λ xs. xs ++ Single (Ins.Add rd 28 base) ∷ []) (constant_singles 28 offset)
    ∙ sym (singles_append (constant_code 28 offset) (Ins.Add rd 28 base ∷ []))

abbrev pub address_by : Bool → ℕ → ℕ → ℕ → List Ins
address_by near rd base offset = cond near (Ins.Addi rd base (pos offset) ∷ []) (far_code rd base offset)

abbrev pub address_code : ℕ → ℕ → ℕ → List Ins
address_code rd base offset = address_by (is_near offset) rd base offset

pub address_singles : (rd base offset : ℕ) → gets_address rd base offset ≡ singles (address_code rd base offset)
address_singles rd base offset = by (is_near offset)
  where
    by : (b : Bool) → cond b (Single (Ins.Addi rd base (pos offset)) ∷ []) (adds_far rd base offset)
        ≡ singles (address_by b rd base offset)
    by true = refl
    by false = far_singles rd base offset

pub far_length : (rd base offset : ℕ) → length (far_code rd base offset) ≡ length (constant_code 28 offset) + 1
far_length rd base offset = length-append (constant_code 28 offset) (Ins.Add rd 28 base ∷ [])

pub address_short : (rd base offset : ℕ) → offset < 2 ^ 31 → length (address_code rd base offset) ≤ 3
address_short rd base offset h = by (is_near offset)
  where
    by : (b : Bool) → length (address_by b rd base offset) ≤ 3
    by true = omega arith
    by false =
        let short : length (constant_code 28 offset) ≤ 2 = constant_short 28 offset h in
        omega (arith, short, far_length rd base offset)

sum_turned : (a b : ℕ) → low_bits 64 (pos a +ℤ pos b) ≡ low_bits 64 (pos b +ℤ pos a)
sum_turned a b = let e : pos a +ℤ pos b ≡ pos b +ℤ pos a = omega (arith, ints) in ap (low_bits 64) e

pub got_far : (address : ℕ) (code : List Ins) (k rd base offset b : ℕ) (m : MachineState) → CodeAt address code m
    → m.pc ≡ address + 4 * k → BlockAt code k (far_code rd base offset) → AllLegal (far_code rd base offset)
    → 0 < rd → rd < 32 → (base ≡ 28 → ⊥) → register m base ≡ b → offset < 2 ^ 64 → HasRegisters m
    → Got address code (k + length (constant_code 28 offset) + 1) (length (constant_code 28 offset) + 1) rd
    (low_bits 64 (pos b +ℤ pos offset)) m
got_far address code k rd base offset b m at pc there legal h h' apart is small has =
    let n : ℕ = length (constant_code 28 offset) in
    let parts = block_parts code k (constant_code 28 offset) (Ins.Add rd 28 base ∷ []) there in
    let lawful = legal_parts (constant_code 28 offset) (Ins.Add rd 28 base ∷ []) legal in
    let first : Got address code (k + n) n 28 offset m =
    got_constant address code k 28 offset m at pc parts.0 lawful.0 (omega arith) (omega arith) small has in
    let base_is : register first.new base ≡ b = first.others base apart apart ∙ is in
    let v : ℕ = low_bits 64 (pos b +ℤ pos offset) in
    let second : Got address code (k + n + 1) 1 rd v first.new =
    got_once address code (k + n) (Ins.Add rd 28 base) rd v first.new first.goes.code_at first.goes.pc parts.1.0
    lawful.1.0
    (λ streams. ap (λ x. Running (given rd (low_bits 64 (pos x +ℤ pos (register first.new base))) first.new) streams)
    first.has
    ∙ ap (λ x. Running (given rd (low_bits 64 (pos offset +ℤ pos x)) first.new) streams) base_is
    ∙ ap (λ x. Running (given rd x first.new) streams) (sum_turned offset b))
    h h' (low_small (pos b +ℤ pos offset)) first.registers in
    got_through address code (k + n) (k + n + 1) n 1 28 offset rd v m first second (inl refl)

pub got_address : (address : ℕ) (code : List Ins) (k rd base offset b : ℕ) (m : MachineState) → CodeAt address code m
    → m.pc ≡ address + 4 * k → BlockAt code k (address_code rd base offset) → AllLegal (address_code rd base offset)
    → 0 < rd → rd < 32 → (base ≡ 28 → ⊥) → register m base ≡ b → offset < 2 ^ 64 → HasRegisters m
    → Got address code (k + length (address_code rd base offset)) (length (address_code rd base offset)) rd
    (low_bits 64 (pos b +ℤ pos offset)) m
got_address address code k rd base offset b m at pc there legal h h' apart is small has = by
    (is_near offset) there legal
  where
    by : (t : Bool) → BlockAt code k (address_by t rd base offset) → AllLegal (address_by t rd base offset)
        → Got address code (k + length (address_by t rd base offset)) (length (address_by t rd base offset)) rd
        (low_bits 64 (pos b +ℤ pos offset)) m
    by true there legal =
        got_once address code k (Ins.Addi rd base (pos offset)) rd (low_bits 64 (pos b +ℤ pos offset)) m at pc there.0
        legal.0 (λ streams. ap (λ x. Running (given rd (low_bits 64 (pos x +ℤ pos offset)) m) streams) is) h h'
        (low_small (pos b +ℤ pos offset)) has
    by false there legal =
        let size : length (far_code rd base offset) ≡ length (constant_code 28 offset) + 1 = far_length rd base offset
        in
        got_at address code (k + length (constant_code 28 offset) + 1) (k + length (far_code rd base offset))
        (length (constant_code 28 offset) + 1) (length (far_code rd base offset)) rd (low_bits 64
        (pos b +ℤ pos offset)) m
        (omega (arith, size)) (omega (arith, size))
        (got_far address code k rd base offset b m at pc there legal h h' apart is small has)

-- ---- words of memory so many bytes behind an address

abbrev pub load_by : Bool → ℕ → ℕ → ℕ → List Ins
load_by near rd base offset =
    cond near (Ins.Ld rd base (pos offset) ∷ []) (far_code 28 base offset ++ Ins.Ld rd 28 (pos 0) ∷ [])

abbrev pub load_code : ℕ → ℕ → ℕ → List Ins
load_code rd base offset = load_by (is_near offset) rd base offset

pub load_singles : (rd base offset : ℕ) → loads_behind I8 rd base offset ≡ singles (load_code rd base offset)
load_singles rd base offset = by (is_near offset)
  where
    by : (b : Bool) → cond b (Single (Ins.Ld rd base (pos offset)) ∷ [])
        (adds_far 28 base offset ++ Single (Ins.Ld rd 28 (pos 0)) ∷ []) ≡ singles (load_by b rd base offset)
    by true = refl
    by false =
        ap (λ xs. xs ++ Single (Ins.Ld rd 28 (pos 0)) ∷ []) (far_singles 28 base offset)
        ∙ sym (singles_append (far_code 28 base offset) (Ins.Ld rd 28 (pos 0) ∷ []))

load_length : (rd base offset : ℕ) → length (far_code 28 base offset ++ Ins.Ld rd 28 (pos 0) ∷ [])
    ≡ length (constant_code 28 offset) + 1 + 1
load_length rd base offset =
    length-append (far_code 28 base offset) (Ins.Ld rd 28 (pos 0) ∷ []) ∙ ap (λ n. n + 1) (far_length 28 base offset)

pub load_short : (rd base offset : ℕ) → offset < 2 ^ 31 → length (load_code rd base offset) ≤ 4
load_short rd base offset h = by (is_near offset)
  where
    by : (b : Bool) → length (load_by b rd base offset) ≤ 4
    by true = omega arith
    by false =
        let short : length (constant_code 28 offset) ≤ 2 = constant_short 28 offset h in
        omega (arith, short, load_length rd base offset)

-- a load of eight bytes gives the word that stands there
pub loads_word : (m : MachineState) (rd place : ℕ) (streams : Streams) → AreSegments m.segments → MayRead m place 8
    → loads m rd 8 place (λ n. n) streams ≡ gives m rd (word_at m place) streams
loads_word m rd place streams segments may =
    let found = readable (λ s. s.read) place 8 m.segments may in
    let there : Bytes m place found.0 = read_bytes (λ s. s.read) m place 8 found.0 segments found.1 found.2 in
    loads_by m rd 8 place found.0 (λ n. n) streams segments found.2 may there
    ∙ ap (λ v. gives m rd v streams) (sym (word_read m place found.0 found.2 there))

pub got_load : (address : ℕ) (code : List Ins) (k rd base offset place n : ℕ) (m : MachineState) → CodeAt address code m
    → m.pc ≡ address + 4 * k → slice_get code k ≡ Some (Ins.Ld rd base (pos offset))
    → IsLegal (Ins.Ld rd base (pos offset)) → 0 < rd → rd < 32
    → register m base + offset ≡ place → place < 2 ^ 64 → MayRead m place 8 → word_at m place ≡ n → n < 2 ^ 64
    → HasRegisters m → Got address code (k + 1) 1 rd n m
got_load address code k rd base offset place n m at pc there legal h h' is fits may word small has =
    let sum : low_bits 64 (pos (register m base) +ℤ pos offset) ≡ place =
    sum_of (register m base) offset (omega (arith, is, fits)) ∙ is in
    got_once address code k (Ins.Ld rd base (pos offset)) rd n m at pc there legal
    (λ streams. ap (λ a. loads m rd 8 a (λ v. v) streams) sum
    ∙ loads_word m rd place streams at.segments may ∙ ap (λ v. gives m rd v streams) word)
    h h' small has

pub got_word : (address : ℕ) (code : List Ins) (k rd base offset b n : ℕ) (m : MachineState) → CodeAt address code m
    → m.pc ≡ address + 4 * k → BlockAt code k (load_code rd base offset) → AllLegal (load_code rd base offset)
    → 0 < rd → rd < 32 → (base ≡ 28 → ⊥) → register m base ≡ b → b + offset + 8 ≤ 2 ^ 64 → MayRead m (b + offset) 8
    → word_at m (b + offset) ≡ n → n < 2 ^ 64 → HasRegisters m
    → Got address code (k + length (load_code rd base offset)) (length (load_code rd base offset)) rd n m
got_word address code k rd base offset b n m at pc there legal h h' apart is fits may word small has =
    by (is_near offset) there legal
  where
    by : (t : Bool) → BlockAt code k (load_by t rd base offset) → AllLegal (load_by t rd base offset)
        → Got address code (k + length (load_by t rd base offset)) (length (load_by t rd base offset)) rd n m
    by true there legal =
        got_load address code k rd base offset (b + offset) n m at pc there.0 legal.0 h h'
        (ap (λ x. x + offset) is) (omega (arith, fits)) may word small has
    by false there legal =
        let far : List Ins = far_code 28 base offset in
        let c : ℕ = length (constant_code 28 offset) in
        let parts = block_parts code k far (Ins.Ld rd 28 (pos 0) ∷ []) there in
        let lawful = legal_parts far (Ins.Ld rd 28 (pos 0) ∷ []) legal in
        let v : ℕ = low_bits 64 (pos b +ℤ pos offset) in
        let v_is : v ≡ b + offset = sum_of b offset (omega (arith, fits)) in
        let first : Got address code (k + c + 1) (c + 1) 28 v m =
        got_far address code k 28 base offset b m at pc parts.0 lawful.0 (omega arith) (omega arith) apart is
        (omega (arith, fits)) has in
        let size : length far ≡ c + 1 = far_length 28 base offset in
        let place : k + length far ≡ k + c + 1 = omega (arith, size) in
        let ld : slice_get code (k + c + 1) ≡ Some (Ins.Ld rd 28 (pos 0)) =
        subst (λ p. slice_get code p ≡ Some (Ins.Ld rd 28 (pos 0))) place parts.1.0 in
        let x28 : register first.new 28 + 0 ≡ b + offset = omega (arith, first.has, v_is) in
        let may' : MayRead first.new (b + offset) 8 =
        ap (λ ss. is_allowed (λ s. s.read) ss (b + offset) 8) first.memory ∙ may in
        let second : Got address code (k + c + 1 + 1) 1 rd n first.new =
        got_load address code (k + c + 1) rd 28 0 (b + offset) n first.new first.goes.code_at first.goes.pc ld
        lawful.1.0 h
        h' x28 (omega (arith, fits)) may' (word_same m first.new (b + offset) first.memory
        ∙ word) small first.registers in
        let whole : length (far ++ Ins.Ld rd 28 (pos 0) ∷ []) ≡ c + 1 + 1 = load_length rd base offset in
        got_at address code (k + c + 1 + 1) (k + length (far ++ Ins.Ld rd 28 (pos 0) ∷ [])) (c + 1 + 1)
        (length (far ++ Ins.Ld rd 28 (pos 0) ∷ [])) rd n m (omega (arith, whole)) (omega (arith, whole))
        (got_through address code (k + c + 1) (k + c + 1 + 1) (c + 1) 1 28 v rd n m first second (inl refl))
