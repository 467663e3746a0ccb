-- Bytes that go from an address to another by way of a register, one number after another.
use Rattle.std.proofs.Common.{◌≡◌, ◌∙◌, ◌⊎◌, inl, inr, ℕ, zero, suc, ◌+◌, ◌-◌, ◌*◌, ◌%◌, ◌^◌, ◌<◌, ◌≤◌, ℤ, pos}
use Rattle.std.proofs.Common.{negsuc, Bool, true, false, not, cond, List, [], ◌∷◌, ◌++◌, length, take, drop, Some}
use Rattle.std.proofs.Common.{slice_get}
use Rattle.std.proofs.Common.{slice_index, arith, refl, ap, sym, subst, length-append, ◌+ℤ◌, ◌-ℤ◌, All}
use Rattle.std.specs.Prelude.{◌==◌}
use Rattle.std.specs.Int.{byte_at, cast_signed, w8, w16, w32}
use Rattle.std.proofs.lemmas.Bool.Decides.{nat_tests}
use Rattle.std.proofs.lemmas.Int.{ints}
use Rattle.std.proofs.lemmas.List.{length-take-le, take-append-drop}
use Rattle.byteorder.specs.Endian.{little_bytes, little_number}
use Rattle.byteorder.specs.Numbers.{length-bytes_low_first, little_from-lt}
use Rattle.num_core.specs.Bits.{low_bits}
use Rattle.num_core.specs.Run.{Running, Streams}
use Rattle.num_core.specs.declared.kind.Narrow.{Narrow}
use Rattle.rv_isa.specs.declared.ins.Ins.{Ins}
use Rattle.rv_isa.specs.Instructions.{IsLegal}
use Rattle.rv_step.specs.Machine.{MachineState, address as address_of, effect, register, stores as stores_bytes}
use Rattle.rv_step.specs.Memory.{AreApart, Bytes, MayRead, MayWrite, Writes, is_allowed}
use Rattle.rv_step.specs.Segments.{AreSegments}
use Rattle.rv_step.proofs.AddressLaws.{loads_by}
use Rattle.rv_step.proofs.Addresses.{allowed_within, joined, split}
use Rattle.rv_code.specs.Code.{AllLegal, BlockAt, CodeAt, given}
use Rattle.rv_code.specs.Registers.{HasRegisters}
use Rattle.rv_code.proofs.Going.{block_parts, legal_parts, same_bytes, within}
use Rattle.rt_code.proofs.Machines.{sum_of, writes_between}
use Rattle.lir_core.specs.Pieces.{bytes_of_type}
use Rattle.lir_core.specs.Program.{WordProgram}
use Rattle.lir_core.specs.declared.body.LirBody.{LirBody}
use Rattle.rv_lines.specs.Moving.{finds_end, passes_word, passes_words}
use Rattle.rv_lines.specs.Operands.{loads, stores}
use Rattle.rv_lines.specs.declared.line.Condition.TheVariants.{NotEqual}
use Rattle.rv_lines.specs.declared.line.Line.{Line}
use Rattle.rv_lines.specs.Holds.{holds}
use Rattle.rv_lines.proofs.Loading.{stored_number}
use Rattle.rv_gen.specs.Placing.{distance}
use Rattle.rv_words.specs.Linked.{linked}
use Rattle.rv_words.proofs.Branches.{Turns, branch_near}
use Rattle.rv_words.proofs.Bytes.{number_back}
use Rattle.rv_words.proofs.ConstantCode.{constant_code, constant_length, constant_short, far_code, far_length}
use Rattle.rv_words.proofs.ConstantCode.{far_singles, got_far, singles, singles_append}
use Rattle.rv_words.proofs.Going.{Goes, Put, goes_given, goes_nowhere, goes_on, goes_put}
use Rattle.rv_words.proofs.Got.{Got, got_is}
use Rattle.rv_words.proofs.Lines.{AtLines, at_behind, at_equal, first_code, first_part, size_singles}
use Rattle.rv_words.proofs.LinkedCode.{longest_of, size_append, size_of}
use Rattle.rv_words.proofs.Moved.{KeepsOwn}
use Rattle.rv_words.proofs.Operands.{Past}
use Rattle.rv_words.proofs.Places.{far_of}
use Rattle.rv_words.proofs.Registers.{given_has, given_other, given_same}
use Rattle.rv_words.proofs.Results.{same_registers}

-- ---- bytes

abbrev pub AreSmall : List ℕ → Type 0
AreSmall [] = Unit {0}
AreSmall (b ∷ bytes) = (b < 256) × AreSmall bytes

pub small_parts : (xs ys : List ℕ) → AreSmall (xs ++ ys) → AreSmall xs × AreSmall ys
small_parts [] ys small = (tt, small)
small_parts (x ∷ xs) ys small = let rest = small_parts xs ys small.1 in ((small.0, rest.0), rest.1)

pub small_at : (bytes : List ℕ) → AreSmall bytes → (k : ℕ) → k < length bytes → slice_index bytes k < 256
small_at [] small k h = absurd (omega (arith, h))
small_at (b ∷ bytes) small zero h = small.0
small_at (b ∷ bytes) small (suc k) h = small_at bytes small.1 k (omega (arith, h))

pub are_small : (bytes : List ℕ) → ((k : ℕ) → k < length bytes → slice_index bytes k < 256) → AreSmall bytes
are_small [] small = tt
are_small (b ∷ bytes) small =
    (small 0 (omega arith), are_small bytes (λ k h. small (suc k) (omega (arith, h))))

-- as numbers of a list
pub all_small : (bytes : List ℕ) → AreSmall bytes → All (λ b. b < 256) bytes
all_small [] small k d h = absurd (omega (arith, h))
all_small (b ∷ bytes) small zero d h = small.0
all_small (b ∷ bytes) small (suc k) d h = all_small bytes small.1 k d (omega (arith, h))

-- behind a list there is 0
small_behind : (bytes : List ℕ) → AreSmall bytes → (k : ℕ) → slice_index bytes k < 256
small_behind [] small k = omega arith
small_behind (b ∷ bytes) small zero = small.0
small_behind (b ∷ bytes) small (suc k) = small_behind bytes small.1 k

-- ---- what is written, part by part

pub writes_nothing : (t : ℕ) (m : MachineState) → AreSegments m.segments → Writes t [] m m
writes_nothing t m segments = record {
  written = tt;
  kept = λ other others apart there. there;
  allows = λ other count. record { read = refl; write = refl; execute = refl };
  segments = segments;
}

pub apart_first : (t n k other size : ℕ) → AreApart t (n + k) other size → AreApart t n other size
apart_first t n k other size (inl low) = inl (omega (arith, low))
apart_first t n k other size (inr high) = inr high

pub apart_second : (t n k other size : ℕ) → AreApart t (n + k) other size → AreApart (t + n) k other size
apart_second t n k other size (inl low) = inl (omega (arith, low))
apart_second t n k other size (inr high) = inr (omega (arith, high))

pub writes_both : (t : ℕ) (xs ys : List ℕ) (m between new : MachineState) → Writes t xs m between
    → Writes (t + length xs) ys between new → Writes t (xs ++ ys) m new
writes_both t xs ys m between new first second =
    let size : length (xs ++ ys) ≡ length xs + length ys = length-append xs ys in
    record {
      written = joined new t xs ys (second.kept t xs (inr (omega arith)) first.written) second.written;
      kept = λ other others apart there.
          let whole : AreApart t (length xs + length ys) other (length others) =
          subst (λ n. AreApart t n other (length others)) size apart in
          second.kept other others (apart_second t (length xs) (length ys) other (length others) whole)
          (first.kept other others (apart_first t (length xs) (length ys) other (length others) whole) there);
      allows = λ other count. record {
        read = (second.allows other count).read ∙ (first.allows other count).read;
        write = (second.allows other count).write ∙ (first.allows other count).write;
        execute = (second.allows other count).execute ∙ (first.allows other count).execute;
      };
      segments = second.segments;
    }

-- ---- what can be passed

-- Bytes stand where they may be read, and may be written elsewhere, where the code isn't. The place to which they go
-- doesn't lie behind them within them.
pub record CanPass (address : ℕ) (code : List Ins) (s t : ℕ) (bytes : List ℕ) (m : MachineState) : Type 0 where
  pub read : MayRead m s (length bytes)
  pub write : MayWrite m t (length bytes)
  pub there : Bytes m s bytes
  pub small : AreSmall bytes
  pub order : (t ≤ s) ⊎ (s + length bytes ≤ t)
  pub from_fits : s + length bytes < 2 ^ 64
  pub to_fits : t + length bytes < 2 ^ 64
  pub apart : AreApart t (length bytes) address (4 * length code)

order_first : (s t n k : ℕ) → (t ≤ s) ⊎ (s + (n + k) ≤ t) → (t ≤ s) ⊎ (s + n ≤ t)
order_first s t n k (inl low) = inl low
order_first s t n k (inr high) = inr (omega (arith, high))

order_second : (s t n k : ℕ) → (t ≤ s) ⊎ (s + (n + k) ≤ t) → (t + n ≤ s + n) ⊎ (s + n + k ≤ t + n)
order_second s t n k (inl low) = inl (omega (arith, low))
order_second s t n k (inr high) = inr (omega (arith, high))

order_apart : (s t n k : ℕ) → (t ≤ s) ⊎ (s + (n + k) ≤ t) → AreApart t n (s + n) k
order_apart s t n k (inl low) = inl (omega (arith, low))
order_apart s t n k (inr high) = inr (omega (arith, high))

pub can_first : (address : ℕ) (code : List Ins) (s t : ℕ) (xs ys : List ℕ) (m : MachineState)
    → CanPass address code s t (xs ++ ys) m → CanPass address code s t xs m
can_first address code s t xs ys m can =
    let size : length (xs ++ ys) ≡ length xs + length ys = length-append xs ys in
    let from_fits : s + length (xs ++ ys) < 2 ^ 64 = can.from_fits in
    let to_fits : t + length (xs ++ ys) < 2 ^ 64 = can.to_fits in
    record {
      read = allowed_within (λ g. g.read) s (length (xs ++ ys)) s (length xs) m.segments (omega arith)
          (omega (arith, size)) can.read;
      write = allowed_within (λ g. g.write) t (length (xs ++ ys)) t (length xs) m.segments (omega arith)
          (omega (arith, size)) can.write;
      there = (split m s xs ys can.there).0;
      small = (small_parts xs ys can.small).0;
      order = order_first s t (length xs) (length ys)
          (subst (λ n. (t ≤ s) ⊎ (s + n ≤ t)) size can.order);
      from_fits = omega (arith, size, from_fits);
      to_fits = omega (arith, size, to_fits);
      apart = apart_first t (length xs) (length ys) address (4 * length code)
          (subst (λ n. AreApart t n address (4 * length code)) size can.apart);
    }

pub can_rest : (address : ℕ) (code : List Ins) (s t : ℕ) (xs ys : List ℕ) (m new : MachineState)
    → CanPass address code s t (xs ++ ys) m → Writes t xs m new
    → CanPass address code (s + length xs) (t + length xs) ys new
can_rest address code s t xs ys m new can writes =
    let size : length (xs ++ ys) ≡ length xs + length ys = length-append xs ys in
    let from_fits : s + length (xs ++ ys) < 2 ^ 64 = can.from_fits in
    let to_fits : t + length (xs ++ ys) < 2 ^ 64 = can.to_fits in
    let order : (t ≤ s) ⊎ (s + (length xs + length ys) ≤ t) =
    subst (λ n. (t ≤ s) ⊎ (s + n ≤ t)) size can.order in
    record {
      read = (writes.allows (s + length xs) (length ys)).read
          ∙ allowed_within (λ g. g.read) s (length (xs ++ ys)) (s + length xs) (length ys) m.segments (omega arith)
          (omega (arith, size)) can.read;
      write = (writes.allows (t + length xs) (length ys)).write
          ∙ allowed_within (λ g. g.write) t (length (xs ++ ys)) (t + length xs) (length ys) m.segments (omega arith)
          (omega (arith, size)) can.write;
      there = writes.kept (s + length xs) ys (order_apart s t (length xs) (length ys) order)
          (split m s xs ys can.there).1;
      small = (small_parts xs ys can.small).1;
      order = order_second s t (length xs) (length ys) order;
      from_fits = omega (arith, size, from_fits);
      to_fits = omega (arith, size, to_fits);
      apart = apart_second t (length xs) (length ys) address (4 * length code)
          (subst (λ n. AreApart t n address (4 * length code)) size can.apart);
    }

pub can_same : (address : ℕ) (code : List Ins) (s t : ℕ) (bytes : List ℕ) (m new : MachineState)
    → new.segments ≡ m.segments → CanPass address code s t bytes m → CanPass address code s t bytes new
can_same address code s t bytes m new e can = record {
  read = ap (λ ss. is_allowed (λ g. g.read) ss s (length bytes)) e ∙ can.read;
  write = ap (λ ss. is_allowed (λ g. g.write) ss t (length bytes)) e ∙ can.write;
  there = same_bytes m new s bytes e can.there;
  small = can.small;
  order = can.order;
  from_fits = can.from_fits;
  to_fits = can.to_fits;
  apart = can.apart;
}

-- ---- a number that is loaded has the bytes that stand there

signed_8 : (x : ℕ) → x < 2 ^ 8 → ((x < 2 ^ 7) × (cast_signed w8 x ≡ pos x))
    ⊎ ((2 ^ 7 ≤ x) × (cast_signed w8 x ≡ negsuc (2 ^ 8 - suc x)))
signed_8 x h = grind (arith, nat_tests)

signed_16 : (x : ℕ) → x < 2 ^ 16 → ((x < 2 ^ 15) × (cast_signed w16 x ≡ pos x))
    ⊎ ((2 ^ 15 ≤ x) × (cast_signed w16 x ≡ negsuc (2 ^ 16 - suc x)))
signed_16 x h = grind (arith, nat_tests)

signed_32 : (x : ℕ) → x < 2 ^ 32 → ((x < 2 ^ 31) × (cast_signed w32 x ≡ pos x))
    ⊎ ((2 ^ 31 ≤ x) × (cast_signed w32 x ≡ negsuc (2 ^ 32 - suc x)))
signed_32 x h = grind (arith, nat_tests)

cut_8 : (x : ℕ) → x < 2 ^ 8 → low_bits 64 (cast_signed w8 x) % 2 ^ 8 ≡ x
cut_8 x h = elim (signed_8 x h) as (λ _. low_bits 64 (cast_signed w8 x) % 2 ^ 8 ≡ x) [
  | inl low ↦ ap (λ z. low_bits 64 z % 2 ^ 8) low.1 ∙ omega (arith, low.0)
  | inr high ↦ ap (λ z. low_bits 64 z % 2 ^ 8) high.1 ∙ omega (arith, high.0, h)
]

cut_16 : (x : ℕ) → x < 2 ^ 16 → low_bits 64 (cast_signed w16 x) % 2 ^ 16 ≡ x
cut_16 x h = elim (signed_16 x h) as (λ _. low_bits 64 (cast_signed w16 x) % 2 ^ 16 ≡ x) [
  | inl low ↦ ap (λ z. low_bits 64 z % 2 ^ 16) low.1 ∙ omega (arith, low.0)
  | inr high ↦ ap (λ z. low_bits 64 z % 2 ^ 16) high.1 ∙ omega (arith, high.0, h)
]

cut_32 : (x : ℕ) → x < 2 ^ 32 → low_bits 64 (cast_signed w32 x) % 2 ^ 32 ≡ x
cut_32 x h = elim (signed_32 x h) as (λ _. low_bits 64 (cast_signed w32 x) % 2 ^ 32 ≡ x) [
  | inl low ↦ ap (λ z. low_bits 64 z % 2 ^ 32) low.1 ∙ omega (arith, low.0)
  | inr high ↦ ap (λ z. low_bits 64 z % 2 ^ 32) high.1 ∙ omega (arith, high.0, h)
]

one_byte : (v x : ℕ) → v % 2 ^ 8 ≡ x → little_bytes 1 v ≡ little_bytes 1 x
one_byte v x e =
    let a : byte_at 0 v ≡ byte_at 0 x = omega (arith, e) in
    ap (λ b. b ∷ []) a

two_bytes : (v x : ℕ) → v % 2 ^ 16 ≡ x → little_bytes 2 v ≡ little_bytes 2 x
two_bytes v x e =
    let a : byte_at 0 v ≡ byte_at 0 x = omega (arith, e) in
    let b : byte_at 1 v ≡ byte_at 1 x = omega (arith, e) in
    ap (λ p. p ∷ byte_at 1 v ∷ []) a ∙ ap (λ p. byte_at 0 x ∷ p ∷ []) b

four_bytes : (v x : ℕ) → v % 2 ^ 32 ≡ x → little_bytes 4 v ≡ little_bytes 4 x
four_bytes v x e =
    let a : byte_at 0 v ≡ byte_at 0 x = omega (arith, e) in
    let b : byte_at 1 v ≡ byte_at 1 x = omega (arith, e) in
    let c : byte_at 2 v ≡ byte_at 2 x = omega (arith, e) in
    let d : byte_at 3 v ≡ byte_at 3 x = omega (arith, e) in
    ap (λ p. p ∷ byte_at 1 v ∷ byte_at 2 v ∷ byte_at 3 v ∷ []) a
    ∙ ap (λ p. byte_at 0 x ∷ p ∷ byte_at 2 v ∷ byte_at 3 v ∷ []) b
    ∙ ap (λ p. byte_at 0 x ∷ byte_at 1 x ∷ p ∷ byte_at 3 v ∷ []) c
    ∙ ap (λ p. byte_at 0 x ∷ byte_at 1 x ∷ byte_at 2 x ∷ p ∷ []) d

-- the number in so many bytes has these bytes
pub number_of_bytes : (count : ℕ) (bytes : List ℕ) → length bytes ≡ count → AreSmall bytes
    → (little_bytes count (little_number count bytes) ≡ bytes) × (little_number count bytes < 256 ^ count)
number_of_bytes count bytes size small = (
  subst (λ n. little_bytes n (little_number n bytes) ≡ bytes) size (number_back bytes (small_at bytes small)),
  little_from-lt 0 count bytes (small_behind bytes small),
)

-- What an instruction that loads a number gives, whose lowest bytes are those that stand there.
record LoadsBytes (narrow : Narrow) (rd base offset : ℕ) (bytes : List ℕ) (m : MachineState) : Type 0 where
  value : ℕ
  fits : value < 2 ^ 64
  loaded : (streams : Streams) → effect (loads narrow rd base (pos offset)) m streams
      ≡ Running (given rd value m) streams
  back : little_bytes (bytes_of_type narrow) value ≡ bytes

low_fits : (z : ℤ) → low_bits 64 z < 2 ^ 64
low_fits (pos n) = omega arith
low_fits (negsuc n) = omega arith

loads_bytes : (narrow : Narrow) (rd base offset : ℕ) (bytes : List ℕ) (m : MachineState) → AreSegments m.segments
    → length bytes ≡ bytes_of_type narrow → AreSmall bytes
    → MayRead m (address_of m base (pos offset)) (bytes_of_type narrow)
    → Bytes m (address_of m base (pos offset)) bytes → LoadsBytes narrow rd base offset bytes m
loads_bytes Narrow.I1 rd base offset bytes m segments size small may there =
    let n = number_of_bytes 1 bytes size small in
    let x : ℕ = little_number 1 bytes in
    record {
      value = low_bits 64 (cast_signed w8 x);
      fits = low_fits (cast_signed w8 x);
      loaded = λ streams. loads_by m rd 1 (address_of m base (pos offset)) bytes (λ i. low_bits 64 (cast_signed w8 i))
          streams segments size may there;
      back = one_byte (low_bits 64 (cast_signed w8 x)) x (cut_8 x (omega (arith, n.1))) ∙ n.0;
    }
loads_bytes Narrow.U1 rd base offset bytes m segments size small may there =
    let n = number_of_bytes 1 bytes size small in
    let x : ℕ = little_number 1 bytes in
    record {
      value = x;
      fits = omega (arith, n.1);
      loaded = λ streams. loads_by m rd 1 (address_of m base (pos offset)) bytes (λ i. i) streams segments size may
          there;
      back = n.0;
    }
loads_bytes Narrow.I2 rd base offset bytes m segments size small may there =
    let n = number_of_bytes 2 bytes size small in
    let x : ℕ = little_number 2 bytes in
    record {
      value = low_bits 64 (cast_signed w16 x);
      fits = low_fits (cast_signed w16 x);
      loaded = λ streams. loads_by m rd 2 (address_of m base (pos offset)) bytes (λ i. low_bits 64 (cast_signed w16 i))
          streams segments size may there;
      back = two_bytes (low_bits 64 (cast_signed w16 x)) x (cut_16 x (omega (arith, n.1))) ∙ n.0;
    }
loads_bytes Narrow.U2 rd base offset bytes m segments size small may there =
    let n = number_of_bytes 2 bytes size small in
    let x : ℕ = little_number 2 bytes in
    record {
      value = x;
      fits = omega (arith, n.1);
      loaded = λ streams. loads_by m rd 2 (address_of m base (pos offset)) bytes (λ i. i) streams segments size may
          there;
      back = n.0;
    }
loads_bytes Narrow.I4 rd base offset bytes m segments size small may there =
    let n = number_of_bytes 4 bytes size small in
    let x : ℕ = little_number 4 bytes in
    record {
      value = low_bits 64 (cast_signed w32 x);
      fits = low_fits (cast_signed w32 x);
      loaded = λ streams. loads_by m rd 4 (address_of m base (pos offset)) bytes (λ i. low_bits 64 (cast_signed w32 i))
          streams segments size may there;
      back = four_bytes (low_bits 64 (cast_signed w32 x)) x (cut_32 x (omega (arith, n.1))) ∙ n.0;
    }
loads_bytes Narrow.U4 rd base offset bytes m segments size small may there =
    let n = number_of_bytes 4 bytes size small in
    let x : ℕ = little_number 4 bytes in
    record {
      value = low_bits 64 (cast_signed w32 x);
      fits = low_fits (cast_signed w32 x);
      loaded = λ streams. loads_by m rd 4 (address_of m base (pos offset)) bytes (λ i. low_bits 64 (cast_signed w32 i))
          streams segments size may there;
      back = four_bytes (low_bits 64 (cast_signed w32 x)) x (cut_32 x (omega (arith, n.1))) ∙ n.0;
    }
loads_bytes Narrow.I8 rd base offset bytes m segments size small may there =
    let n = number_of_bytes 8 bytes size small in
    let x : ℕ = little_number 8 bytes in
    record {
      value = x;
      fits = omega (arith, n.1);
      loaded = λ streams. loads_by m rd 8 (address_of m base (pos offset)) bytes (λ i. i) streams segments size may
          there;
      back = n.0;
    }
loads_bytes Narrow.U8 rd base offset bytes m segments size small may there =
    let n = number_of_bytes 8 bytes size small in
    let x : ℕ = little_number 8 bytes in
    record {
      value = x;
      fits = omega (arith, n.1);
      loaded = λ streams. loads_by m rd 8 (address_of m base (pos offset)) bytes (λ i. i) streams segments size may
          there;
      back = n.0;
    }

-- ---- one number

abbrev pub pass_code : Narrow → ℕ → List Ins
pass_code narrow offset = loads narrow 7 5 (pos offset) ∷ stores narrow 7 6 (pos offset) ∷ []

-- It has gone from behind the address in x5 to behind that in x6, and no register but x7 has changed.
pub record PassedOne (address : ℕ) (code : List Ins) (place t : ℕ) (bytes : List ℕ) (m : MachineState) : Type 0 where
  pub new : MachineState
  pub goes : Goes address code place 2 m new
  pub writes : Writes t bytes m new
  pub others : (q : ℕ) → (q ≡ 7 → ⊥) → register new q ≡ register m q
  pub registers : HasRegisters new

pub pass_one : (address : ℕ) (code : List Ins) (k : ℕ) (narrow : Narrow) (offset s t : ℕ) (bytes : List ℕ)
    (m : MachineState) → CodeAt address code m → m.pc ≡ address + 4 * k → BlockAt code k (pass_code narrow offset)
    → AllLegal (pass_code narrow offset) → register m 5 + offset ≡ s → register m 6 + offset ≡ t
    → CanPass address code s t bytes m → length bytes ≡ bytes_of_type narrow → HasRegisters m
    → PassedOne address code (k + 1 + 1) t bytes m
pass_one address code k narrow offset s t bytes m at pc there legal from to can size has =
    let count : ℕ = bytes_of_type narrow in
    let from_fits : s + length bytes < 2 ^ 64 = can.from_fits in
    let to_fits : t + length bytes < 2 ^ 64 = can.to_fits in
    let a_is : address_of m 5 (pos offset) ≡ s =
    sum_of (register m 5) offset (omega (arith, from, from_fits)) ∙ from in
    let l : LoadsBytes narrow 7 5 offset bytes m =
    loads_bytes narrow 7 5 offset bytes m at.segments size can.small
    (subst (λ a. MayRead m a count) (sym a_is) (subst (λ n. MayRead m s n) size can.read))
    (subst (λ a. Bytes m a bytes) (sym a_is) can.there) in
    let m1 : MachineState = given 7 l.value m in
    let first : Goes address code (k + 1) 1 m m1 =
    goes_given address code k (loads narrow 7 5 (pos offset)) 7 l.value m at pc there.0 legal.0 l.loaded in
    let x6 : register m1 6 ≡ register m 6 = given_other 7 6 l.value m (λ e. omega (arith, e)) in
    let x7 : register m1 7 ≡ l.value = given_same 7 l.value m (omega arith) (omega arith) has in
    let b_is : address_of m1 6 (pos offset) ≡ t =
    ap (λ x. low_bits 64 (pos x +ℤ pos offset)) x6
    ∙ sum_of (register m 6) offset (omega (arith, to, to_fits)) ∙ to in
    let q : Put address code (k + 1) t (little_bytes count l.value) m1 =
    goes_put address code (k + 1) (stores narrow 7 6 (pos offset)) count t l.value m1 first.code_at first.pc there.1.0
    legal.1.0
    (λ ss. stored_number narrow m1 ss 7 6 (pos offset)
    ∙ ap (λ x. stores_bytes m1 count x (register m1 7) ss) b_is ∙ ap (λ v. stores_bytes m1 count t v ss) x7)
    (subst (λ n. MayWrite m t n) size can.write)
    (subst (λ n. AreApart t n address (4 * length code)) size can.apart)
    (length-bytes_low_first 0 count l.value) in
    record {
      new = q.new;
      goes = goes_on address code (k + 1) (k + 1 + 1) 1 1 m m1 q.new first q.goes;
      writes = writes_between t bytes m1 m q.new q.new refl refl
          (subst (λ bs. Writes t bs m1 q.new) l.back q.writes);
      others = λ r ne. ap (λ rs. slice_index rs r) q.registers ∙ given_other 7 r l.value m ne;
      registers = same_registers m1 q.new q.registers (given_has 7 l.value m l.fits has);
    }

-- ---- words, one after another

-- a register that copies and clears don't use, but for x28
pub record IsAside (q : ℕ) : Type 0 where
  pub not_5 : q ≡ 5 → ⊥
  pub not_6 : q ≡ 6 → ⊥
  pub not_7 : q ≡ 7 → ⊥

-- The bytes have gone, and the addresses in x5 and x6 have moved behind them.
pub record Passed (address : ℕ) (code : List Ins) (place count s t : ℕ) (bytes : List ℕ) (m : MachineState)
    : Type 0 where
  pub new : MachineState
  pub goes : Goes address code place count m new
  pub writes : Writes t bytes m new
  pub from : register new 5 ≡ s + length bytes
  pub to : register new 6 ≡ t + length bytes
  pub others : (q : ℕ) → IsAside q → register new q ≡ register m q
  pub registers : HasRegisters new

passed_both : (address : ℕ) (code : List Ins) (k k' n n' s t : ℕ) (xs ys : List ℕ) (m : MachineState)
    → (first : Passed address code k n s t xs m)
    → Passed address code k' n' (s + length xs) (t + length xs) ys first.new
    → Passed address code k' (n + n') s t (xs ++ ys) m
passed_both address code k k' n n' s t xs ys m first second =
    let size : length (xs ++ ys) ≡ length xs + length ys = length-append xs ys in
    record {
      new = second.new;
      goes = goes_on address code k k' n n' m first.new second.new first.goes second.goes;
      writes = writes_both t xs ys m first.new second.new first.writes second.writes;
      from = second.from ∙ omega (arith, size);
      to = second.to ∙ omega (arith, size);
      others = λ q aside. second.others q aside ∙ first.others q aside;
      registers = second.registers;
    }

abbrev pub word_code : List Ins
word_code =
    Ins.Ld 7 5 (pos 0) ∷ Ins.Sd 6 7 (pos 0) ∷ Ins.Addi 5 5 (pos 8) ∷ Ins.Addi 6 6 (pos 8) ∷ Ins.Bne 5 28 (negsuc 15)
    ∷ []

-- a register moves on by eight bytes
pub moves_on : (m : MachineState) (r x : ℕ) → register m r ≡ x → x + 8 < 2 ^ 64
    → (streams : Streams) → effect (Ins.Addi r r (pos 8)) m streams ≡ Running (given r (x + 8) m) streams
moves_on m r x is fits streams =
    ap (λ v. Running (given r (low_bits 64 (pos v +ℤ pos 8)) m) streams) is
    ∙ ap (λ v. Running (given r v m) streams) (sum_of x 8 fits)

-- one word, up to the branch
one_word : (address : ℕ) (code : List Ins) (k s t : ℕ) (xs : List ℕ) (m : MachineState) → CodeAt address code m
    → m.pc ≡ address + 4 * k → BlockAt code k word_code → AllLegal word_code → register m 5 ≡ s → register m 6 ≡ t
    → CanPass address code s t xs m → length xs ≡ 8 → HasRegisters m
    → Passed address code (k + 1 + 1 + 1 + 1) 4 s t xs m
one_word address code k s t xs m at pc there legal from to can size has =
    let from_fits : s + length xs < 2 ^ 64 = can.from_fits in
    let to_fits : t + length xs < 2 ^ 64 = can.to_fits in
    let p : PassedOne address code (k + 1 + 1) t xs m =
    pass_one address code k Narrow.I8 0 s t xs m at pc (there.0, (there.1.0, tt)) (legal.0, (legal.1.0, tt))
    (omega (arith, from)) (omega (arith, to)) can size has in
    let m2 : MachineState = p.new in
    let x5 : register m2 5 ≡ s = p.others 5 (λ e. omega (arith, e)) ∙ from in
    let m3 : MachineState = given 5 (s + 8) m2 in
    let third : Goes address code (k + 1 + 1 + 1) 1 m2 m3 =
    goes_given address code (k + 1 + 1) (Ins.Addi 5 5 (pos 8)) 5 (s + 8) m2 p.goes.code_at p.goes.pc there.1.1.0
    legal.1.1.0 (moves_on m2 5 s x5 (omega (arith, size, from_fits))) in
    let has3 : HasRegisters m3 = given_has 5 (s + 8) m2 (omega (arith, size, from_fits)) p.registers in
    let x6 : register m3 6 ≡ t =
    given_other 5 6 (s + 8) m2 (λ e. omega (arith, e)) ∙ p.others 6 (λ e. omega (arith, e)) ∙ to in
    let m4 : MachineState = given 6 (t + 8) m3 in
    let fourth : Goes address code (k + 1 + 1 + 1 + 1) 1 m3 m4 =
    goes_given address code (k + 1 + 1 + 1) (Ins.Addi 6 6 (pos 8)) 6 (t + 8) m3 third.code_at third.pc there.1.1.1.0
    legal.1.1.1.0 (moves_on m3 6 t x6 (omega (arith, size, to_fits))) in
    record {
      new = m4;
      goes = goes_on address code (k + 1 + 1) (k + 1 + 1 + 1 + 1) 2 2 m m2 m4 p.goes
          (goes_on address code (k + 1 + 1 + 1) (k + 1 + 1 + 1 + 1) 1 1 m2 m3 m4 third fourth);
      writes = writes_between t xs m m m2 m4 refl refl p.writes;
      from = given_other 6 5 (t + 8) m3 (λ e. omega (arith, e))
          ∙ given_same 5 (s + 8) m2 (omega arith) (omega arith) p.registers ∙ omega (arith, size);
      to = given_same 6 (t + 8) m3 (omega arith) (omega arith) has3 ∙ omega (arith, size);
      others = λ q aside. given_other 6 q (t + 8) m3 aside.not_6 ∙ given_other 5 q (s + 8) m2 aside.not_5
          ∙ p.others q aside.not_7;
      registers = given_has 6 (t + 8) m3 (omega (arith, size, to_fits)) has3;
    }

-- the branch behind it
then_turns : (address : ℕ) (code : List Ins) (k n place s t : ℕ) (xs : List ℕ) (m : MachineState)
    → (p : Passed address code k n s t xs m) → Turns address code place p.new
    → Passed address code place (n + 1) s t xs m
then_turns address code k n place s t xs m p turn = record {
  new = record p.new { pc = turn.pc };
  goes = goes_on address code k place n 1 m p.new (record p.new { pc = turn.pc }) p.goes turn.goes;
  writes = writes_between t xs m m p.new (record p.new { pc = turn.pc }) refl refl p.writes;
  from = p.from;
  to = p.to;
  others = p.others;
  registers = record { count = p.registers.count; x0 = p.registers.x0; words = p.registers.words };
}

equal_true : (a b : ℕ) → a ≡ b → (a == b) ≡ true
equal_true a b e = grind (arith, nat_tests)

equal_false : (a b : ℕ) → a < b → (a == b) ≡ false
equal_false a b h = grind (arith, nat_tests)

aside_28 : IsAside 28
aside_28 = record {
  not_5 = λ e. omega (arith, e);
  not_6 = λ e. omega (arith, e);
  not_7 = λ e. omega (arith, e);
}

word_turns : (address : ℕ) (code : List Ins) (k s t end : ℕ) (xs : List ℕ) (b : Bool) (m : MachineState)
    → BlockAt code k word_code → AllLegal word_code → register m 28 ≡ end
    → (p : Passed address code (k + 1 + 1 + 1 + 1) 4 s t xs m) → (s + length xs == end) ≡ b
    → Passed address code (cond (not b) k (k + 1 + 1 + 1 + 1 + 1)) 5 s t xs m
word_turns address code k s t end xs b m there legal is p test =
    let from : ℕ = k + 1 + 1 + 1 + 1 in
    let back : distance from k ≡ negsuc 15 = omega (arith, ints) in
    let x28 : register p.new 28 ≡ end = p.others 28 aside_28 ∙ is in
    let room : address + 4 * length code < 2 ^ 64 = p.goes.code_at.fits in
    let inside : from < length code = within code from (Ins.Bne 5 28 (negsuc 15)) there.1.1.1.1.0 in
    then_turns address code from 4 (cond (not b) k (from + 1)) s t xs m p
    (branch_near address code from k NotEqual 5 28 (not b) p.new p.goes.code_at p.goes.pc
    (subst (λ d. slice_get code from ≡ Some (Ins.Bne 5 28 d)) (sym back) there.1.1.1.1.0)
    (subst (λ d. IsLegal (Ins.Bne 5 28 d)) (sym back) legal.1.1.1.1.0)
    (omega (arith, room, inside))
    (ap (λ x. not (x == register p.new 28)) p.from ∙ ap (λ x. not (s + length xs == x)) x28 ∙ ap not test))

-- all words, of which there are one or more
pass_loop : (n : ℕ) (address : ℕ) (code : List Ins) (k s t : ℕ) (bytes : List ℕ) (m : MachineState)
    → CodeAt address code m → m.pc ≡ address + 4 * k → BlockAt code k word_code → AllLegal word_code
    → register m 5 ≡ s → register m 6 ≡ t → register m 28 ≡ s + 8 * suc n → CanPass address code s t bytes m
    → length bytes ≡ 8 * suc n → HasRegisters m
    → Passed address code (k + 1 + 1 + 1 + 1 + 1) (5 * suc n) s t bytes m
pass_loop zero address code k s t bytes m at pc there legal from to end can size has =
    word_turns address code k s t (s + 8) bytes true m there legal end
    (one_word address code k s t bytes m at pc there legal from to can size has)
    (equal_true (s + length bytes) (s + 8) (omega (arith, size)))
pass_loop (suc n) address code k s t bytes m at pc there legal from to end can size has =
    let xs : List ℕ = take 8 bytes in
    let ys : List ℕ = drop 8 bytes in
    let whole : xs ++ ys ≡ bytes = take-append-drop 8 bytes in
    let first_size : length xs ≡ 8 = length-take-le 8 bytes (omega (arith, size)) in
    let both_size : length xs + length ys ≡ length bytes = sym (length-append xs ys) ∙ ap length whole in
    let can' : CanPass address code s t (xs ++ ys) m =
    subst (λ bs. CanPass address code s t bs m) (sym whole) can in
    let first : Passed address code k 5 s t xs m =
    word_turns address code k s t (s + 8 * suc (suc n)) xs false m there legal end
    (one_word address code k s t xs m at pc there legal from to (can_first address code s t xs ys m can') first_size
    has)
    (equal_false (s + length xs) (s + 8 * suc (suc n)) (omega (arith, first_size))) in
    let rest : Passed address code (k + 1 + 1 + 1 + 1 + 1) (5 * suc n) (s + length xs) (t + length xs) ys first.new =
    pass_loop n address code k (s + length xs) (t + length xs) ys first.new first.goes.code_at first.goes.pc there legal
    first.from first.to (first.others 28 aside_28 ∙ end ∙ omega (arith, first_size))
    (can_rest address code s t xs ys m first.new can' first.writes) (omega (arith, size, both_size, first_size))
    first.registers in
    let steps : 5 + 5 * suc n ≡ 5 * suc (suc n) = omega arith in
    subst (λ bs. Passed address code (k + 1 + 1 + 1 + 1 + 1) (5 * suc (suc n)) s t bs m) whole
    (subst (λ c. Passed address code (k + 1 + 1 + 1 + 1 + 1) c s t (xs ++ ys) m) steps
    (passed_both address code k (k + 1 + 1 + 1 + 1 + 1) 5 (5 * suc n) s t xs ys m first rest))

-- ---- in the lines of an operation

abbrev pub words_code : ℕ → List Ins
words_code words = far_code 28 5 (8 * words) ++ word_code

words_singles : (words : ℕ) → finds_end 5 words ++ passes_word ≡ singles (words_code words)
words_singles words =
    ap (λ xs. xs ++ passes_word) (far_singles 28 5 (8 * words))
    ∙ sym (singles_append (far_code 28 5 (8 * words)) word_code)

-- The machine has gone through the first of some lines, which have passed bytes, and is at the rest of them.
pub record PastBytes (program : WordProgram) (begin : ℕ) (body : LirBody) (far_at k most s t : ℕ) (bytes : List ℕ)
    (lines rest : List Line) (m : MachineState) : Type 0 where
  pub past : Past program begin body far_at k most lines rest m
  pub writes : Writes t bytes m past.new
  pub from : register past.new 5 ≡ s + length bytes
  pub to : register past.new 6 ≡ t + length bytes
  pub others : (q : ℕ) → IsAside q → (q ≡ 28 → ⊥) → register past.new q ≡ register m q

pub aside_keeps : (m new : MachineState)
    → ((q : ℕ) → IsAside q → (q ≡ 28 → ⊥) → register new q ≡ register m q) → KeepsOwn m new
aside_keeps m new others = record {
  frame = others 2 (record {
    not_5 = λ e. omega (arith, e);
    not_6 = λ e. omega (arith, e);
    not_7 = λ e. omega (arith, e);
  }) (λ e. omega (arith, e));
  homes = λ k h. others (18 + k) (record {
    not_5 = λ e. omega (arith, e);
    not_6 = λ e. omega (arith, e);
    not_7 = λ e. omega (arith, e);
  }) (λ e. omega (arith, e, h));
  lowest = others 26 (record {
    not_5 = λ e. omega (arith, e);
    not_6 = λ e. omega (arith, e);
    not_7 = λ e. omega (arith, e);
  }) (λ e. omega (arith, e));
  heap = others 27 (record {
    not_5 = λ e. omega (arith, e);
    not_6 = λ e. omega (arith, e);
    not_7 = λ e. omega (arith, e);
  }) (λ e. omega (arith, e));
}

-- how many steps so many words take at most: each five, and nine at most for their end, or three where that is near
pub some_words : (program : WordProgram) (begin : ℕ) (body : LirBody) (far_at k words s t most : ℕ) (bytes : List ℕ)
    (rest : List Line) (m : MachineState)
    → AtLines program begin body far_at k ((finds_end 5 words ++ passes_word) ++ rest) m → 0 < words
    → register m 5 ≡ s → register m 6 ≡ t → CanPass begin (linked program begin body) s t bytes m
    → length bytes ≡ 8 * words → length (constant_code 28 (8 * words)) + 1 + 5 * words ≤ most
    → PastBytes program begin body far_at k most s t bytes ((finds_end 5 words ++ passes_word) ++ rest) rest m
some_words program begin body far_at k words s t most bytes rest m at some from to can size enough =
    let code : List Ins = linked program begin body in
    let xs : List Line = finds_end 5 words ++ passes_word in
    let own : List Ins = words_code words in
    let far : List Ins = far_code 28 5 (8 * words) in
    let c : ℕ = length (constant_code 28 (8 * words)) in
    let same : xs ≡ singles own = words_singles words in
    let first = first_code program begin body far_at k own m
    (at_equal program begin body far_at k xs (singles own) m same (first_part program begin body far_at k xs rest m at))
    in
    let parts = block_parts code k far word_code first.0 in
    let lawful = legal_parts far word_code first.1 in
    let from_fits : s + length bytes < 2 ^ 64 = can.from_fits in
    let e : Got begin code (k + c + 1) (c + 1) 28 (s + 8 * words) m =
    got_is begin code (k + c + 1) (c + 1) 28 (low_bits 64 (pos s +ℤ pos (8 * words))) (s + 8 * words) m
    (sum_of s (8 * words) (omega (arith, size, from_fits)))
    (got_far begin code k 28 5 (8 * words) s m at.code_at at.pc parts.0 lawful.0 (omega arith) (omega arith)
    (λ e. omega (arith, e)) from (omega (arith, size, from_fits)) at.registers) in
    let far_size : length far ≡ c + 1 = far_length 28 5 (8 * words) in
    let place : k + length far ≡ k + c + 1 = omega (arith, far_size) in
    let n : ℕ = words - 1 in
    let words_are : words ≡ suc n = omega (arith, some) in
    let loop : Passed begin code (k + c + 1 + 1 + 1 + 1 + 1 + 1) (5 * suc n) s t bytes e.new =
    pass_loop n begin code (k + c + 1) s t bytes e.new e.goes.code_at e.goes.pc
    (subst (λ p. BlockAt code p word_code) place parts.1) lawful.1
    (e.others 5 (λ g. omega (arith, g)) (λ g. omega (arith, g)) ∙ from)
    (e.others 6 (λ g. omega (arith, g)) (λ g. omega (arith, g)) ∙ to)
    (e.has ∙ ap (λ w. s + 8 * w) words_are) (can_same begin code s t bytes m e.new e.memory can)
    (size ∙ ap (λ w. 8 * w) words_are) e.registers in
    let far' : ℕ = far_at + longest_of xs in
    let sizes : size_of (far_of body) far_at (xs ++ rest)
    ≡ size_of (far_of body) far_at xs + size_of (far_of body) far' rest =
    size_append (far_of body) far_at xs rest in
    let own_size : size_of (far_of body) far_at xs ≡ length own =
    ap (size_of (far_of body) far_at) same ∙ size_singles (far_of body) far_at own in
    let own_length : length own ≡ c + 1 + 5 = length-append far word_code ∙ omega (arith, far_size) in
    let end : k + c + 1 + 1 + 1 + 1 + 1 + 1 ≡ k + size_of (far_of body) far_at xs =
    omega (arith, own_size, own_length) in
    let count : ℕ = e.count + 5 * suc n in
    let goes : Goes begin code (k + size_of (far_of body) far_at xs) count m loop.new =
    subst (λ p. Goes begin code p count m loop.new) end
    (goes_on begin code (k + c + 1) (k + c + 1 + 1 + 1 + 1 + 1 + 1) e.count (5 * suc n) m e.new loop.new e.goes
    loop.goes)
    in
    let few : e.count ≤ c + 1 = e.few in
    record {
      past = record {
        far = far';
        place = k + size_of (far_of body) far_at xs;
        new = loop.new;
        count = count;
        few = omega (arith, few, words_are, enough);
        goes = goes;
        at = at_behind program begin body far_at k count xs rest m loop.new at goes loop.registers;
        size = omega (arith, sizes);
      };
      writes = writes_between t bytes e.new m loop.new loop.new (sym e.memory) refl loop.writes;
      from = loop.from;
      to = loop.to;
      others = λ q aside ne. loop.others q aside ∙ e.others q ne ne;
    }

-- nothing is passed where there are no words
no_words : (program : WordProgram) (begin : ℕ) (body : LirBody) (far_at k s t most : ℕ) (bytes : List ℕ)
    (rest : List Line) (m : MachineState) → AtLines program begin body far_at k rest m → register m 5 ≡ s
    → register m 6 ≡ t → length bytes ≡ 0 → PastBytes program begin body far_at k most s t bytes rest rest m
no_words program begin body far_at k s t most [] rest m at from to size = record {
  past = record {
    far = far_at;
    place = k;
    new = m;
    count = 0;
    few = omega arith;
    goes = goes_nowhere begin (linked program begin body) k m at.code_at at.pc;
    at = at;
    size = refl;
  };
  writes = writes_nothing t m at.code_at.segments;
  from = from ∙ omega arith;
  to = to ∙ omega arith;
  others = λ q aside ne. refl;
}
no_words program begin body far_at k s t most (b ∷ bytes) rest m at from to size = absurd (omega (arith, size))

equal_of : (a b : ℕ) → (a == b) ≡ true → a ≡ b
equal_of a b e = grind (arith, nat_tests)

not_zero : (a : ℕ) → (a == 0) ≡ false → 0 < a
not_zero a e = grind (arith, nat_tests)

-- So many words have gone from the address in x5 to that in x6.
pub past_words : (program : WordProgram) (begin : ℕ) (body : LirBody) (far_at k words s t most : ℕ) (bytes : List ℕ)
    (rest : List Line) (m : MachineState) → AtLines program begin body far_at k (passes_words words ++ rest) m
    → register m 5 ≡ s → register m 6 ≡ t → CanPass begin (linked program begin body) s t bytes m
    → length bytes ≡ 8 * words → length (constant_code 28 (8 * words)) + 1 + 5 * words ≤ most
    → PastBytes program begin body far_at k most s t bytes (passes_words words ++ rest) rest m
past_words program begin body far_at k words s t most bytes rest m at from to can size enough =
    by (words == 0) refl at
  where
    by : (b : Bool) → (words == 0) ≡ b
        → AtLines program begin body far_at k (cond b [] (finds_end 5 words ++ passes_word) ++ rest) m
        → PastBytes program begin body far_at k most s t bytes
        (cond b [] (finds_end 5 words ++ passes_word) ++ rest) rest m
    by true e at =
        let none : words ≡ 0 = equal_of words 0 e in
        no_words program begin body far_at k s t most bytes rest m at from to (omega (arith, size, none))
    by false e at =
        some_words program begin body far_at k words s t most bytes rest m at (not_zero words e) from to can size enough

-- within nine steps and five a word, or three where the words are few
pub words_within : (words : ℕ) → length (constant_code 28 (8 * words)) + 1 + 5 * words ≤ 9 + 5 * words
words_within words = let few : length (constant_code 28 (8 * words)) ≤ 8 = constant_length 28 (8 * words) in
    omega (arith, few)

pub few_words_within : (words : ℕ) → 8 * words < 2 ^ 31
    → length (constant_code 28 (8 * words)) + 1 + 5 * words ≤ 3 + 5 * words
few_words_within words h = let few : length (constant_code 28 (8 * words)) ≤ 2 = constant_short 28 (8 * words) h in
    omega (arith, few)
