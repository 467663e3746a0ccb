-- How an `auipc` and the word behind it lead from one address to another.
use Rattle.std.proofs.Common.{◌≡◌, ◌∙◌, ◌⊎◌, inl, inr, ℕ, suc, ◌+◌, ◌-◌, ◌*◌, ◌/◌, ◌%◌, ◌^◌, ◌<◌, ◌≤◌}
use Rattle.std.proofs.Common.{ℤ, pos, negsuc, ◌+ℤ◌, ◌-ℤ◌, Some, arith, refl, ap, sym}
use Rattle.std.specs.Int.{cast_signed, w32}
use Rattle.std.proofs.lemmas.Bool.Decides.{nat_tests}
use Rattle.std.proofs.lemmas.Int.{ints}
use Rattle.num_core.specs.Bits.{low_bits, signed}
use Rattle.rv_isa.specs.declared.ins.Ins.{Ins}
use Rattle.rv_isa.specs.Parts.{Parts, i_imm_of, parts_of, u_imm_of}
use Rattle.rv_isa.specs.Rows.{instruction}
use Rattle.rt_code.specs.Code.{lower, upper}
use Rattle.image_plan.specs.Written.{bits_between, with_lower, with_upper}

-- ---- the two parts of a distance, as in the proof of the simulation of a jump

signed_32 : (x : ℕ) → x < 2 ^ 32 → ((x < 2 ^ 31) × (cast_signed w32 x ≡ pos x))
    ⊎ ((2 ^ 31 ≤ x) × (cast_signed w32 x ≡ negsuc (2 ^ 32 - suc x)))
signed_32 x h = grind (arith, nat_tests)

signed_12 : (r : ℕ) → r < 4096 → ((r < 2048) × (signed 12 r ≡ pos r))
    ⊎ ((2048 ≤ r) × (signed 12 r ≡ negsuc (4095 - r)))
signed_12 r h = grind (arith, nat_tests)

both_are : (v l x r d : ℤ) → v ≡ x → l ≡ r → x +ℤ r ≡ d → v +ℤ l ≡ d
both_are v l x r d e f g = ap (λ z. z +ℤ l) e ∙ ap (λ z. x +ℤ z) f ∙ g

parts_sum : (bits u : ℕ) (d : ℤ) → u ≡ (bits + 2048) / 4096 % 2 ^ 20
    → ((bits < 2 ^ 31 - 4096) × (d ≡ pos bits))
    ⊎ ((2 ^ 31 + 4096 < bits) × (bits < 2 ^ 32) × (d ≡ negsuc (2 ^ 32 - suc bits)))
    → cast_signed w32 (u * 2 ^ 12) +ℤ signed 12 (bits % 4096) ≡ d
parts_sum bits u d is (inl on) =
    elim (signed_32 (u * 2 ^ 12) (omega (arith, is))) [
      | inl low ↦ elim (signed_12 (bits % 4096) (omega arith)) [
        | inl r ↦ both_are _ _ _ _ d low.1 r.1
            (let s : pos (u * 2 ^ 12) +ℤ pos (bits % 4096) ≡ pos bits = omega (arith, ints, is, on.0, r.0) in s
            ∙ sym on.1)
        | inr r ↦ both_are _ _ _ _ d low.1 r.1
            (let s : pos (u * 2 ^ 12) +ℤ negsuc (4095 - bits % 4096) ≡ pos bits = omega (arith, ints, is, on.0, r.0) in
            s ∙ sym on.1)
      ]
      | inr high ↦ absurd (omega (arith, is, on.0, high.0))
    ]
parts_sum bits u d is (inr back) =
    elim (signed_32 (u * 2 ^ 12) (omega (arith, is))) [
      | inl low ↦ elim (signed_12 (bits % 4096) (omega arith)) [
        | inl r ↦ absurd (omega (arith, is, back.0, back.1, r.0, low.0))
        | inr r ↦ both_are _ _ _ _ d low.1 r.1
            (let s : pos (u * 2 ^ 12) +ℤ negsuc (4095 - bits % 4096) ≡ negsuc (2 ^ 32 - suc bits) =
            omega (arith, ints, is, back.0, back.1, r.0, low.0) in s ∙ sym back.2)
      ]
      | inr high ↦ elim (signed_12 (bits % 4096) (omega arith)) [
        | inl r ↦ both_are _ _ _ _ d high.1 r.1
            (let s : negsuc (2 ^ 32 - suc (u * 2 ^ 12)) +ℤ pos (bits % 4096) ≡ negsuc (2 ^ 32 - suc bits) =
            omega (arith, ints, is, back.0, back.1, r.0, high.0) in s ∙ sym back.2)
        | inr r ↦ both_are _ _ _ _ d high.1 r.1
            (let s : negsuc (2 ^ 32 - suc (u * 2 ^ 12)) +ℤ negsuc (4095 - bits % 4096) ≡ negsuc (2 ^ 32 - suc bits) =
            omega (arith, ints, is, back.0, back.1, r.0, high.0) in s ∙ sym back.2)
      ]
    ]

-- an `auipc` reaches each of these addresses from each
abbrev pub near : ℕ
near = 2 ^ 31 - 4096

either_side : (from to : ℕ) → (from ≤ to) ⊎ (to < from)
either_side from to = grind arith

side_of : (from to : ℕ) → from < near → to < near
    → ((bits_between from to < 2 ^ 31 - 4096) × (pos to -ℤ pos from ≡ pos (bits_between from to)))
    ⊎ ((2 ^ 31 + 4096 < bits_between from to) × (bits_between from to < 2 ^ 32)
    × (pos to -ℤ pos from ≡ negsuc (2 ^ 32 - suc (bits_between from to))))
side_of from to h h' = elim (either_side from to) [
  | inl on ↦
      let e : pos to -ℤ pos from ≡ pos (to - from) = omega (arith, ints, on) in
      let b : low_bits 32 (pos to -ℤ pos from) ≡ to - from = ap (low_bits 32) e ∙ omega (arith, h') in
      inl (omega (arith, b, h'), e ∙ ap pos (sym b))
  | inr back ↦
      let e : pos to -ℤ pos from ≡ negsuc ((from - to) - 1) = omega (arith, ints, back) in
      let b : low_bits 32 (pos to -ℤ pos from) ≡ 2 ^ 32 - (from - to) = ap (low_bits 32) e ∙ omega (arith, back, h) in
      let same : (from - to) - 1 ≡ 2 ^ 32 - suc (low_bits 32 (pos to -ℤ pos from)) = omega (arith, b, back, h) in
      inr (omega (arith, b, back, h), omega (arith, b, back, h), e ∙ ap negsuc same)
]

grouped : (a b c : ℤ) → (a +ℤ b) +ℤ c ≡ a +ℤ (b +ℤ c)
grouped a b c = omega (arith, ints)

sum_is : (from to : ℕ) → from < near → to < near
    → (pos from +ℤ cast_signed w32 (upper (bits_between from to) * 2 ^ 12)) +ℤ lower (bits_between from to) ≡ pos to
sum_is from to h h' =
    let d : ℤ = pos to -ℤ pos from in
    let bits : ℕ = bits_between from to in
    let v : ℤ = cast_signed w32 (upper bits * 2 ^ 12) in
    let sum : v +ℤ lower bits ≡ d = parts_sum bits (upper bits) d refl (side_of from to h h') in
    let there : pos from +ℤ d ≡ pos to = omega (arith, ints) in
    grouped (pos from) v (lower bits) ∙ ap (λ z. pos from +ℤ z) sum ∙ there

-- ---- the words

upper_small : (bits : ℕ) → upper bits < 2 ^ 20
upper_small bits = omega arith

-- the upper 20 bits of a word are the immediate of the U format, and the upper 12 that of the I format
u_imm_is : (w : ℕ) → u_imm_of (parts_of w) ≡ w / 4096
u_imm_is w = omega arith

i_bits_are : (w : ℕ) → w / 1048576 % 32 + 32 * (w / 33554432) ≡ w / 1048576
i_bits_are w = omega arith

pub upper_is : (bits w : ℕ) → u_imm_of (parts_of (with_upper bits w)) ≡ upper bits
upper_is bits w =
    let few : upper bits < 2 ^ 20 = upper_small bits in
    let last : (w % 2 ^ 12 + 2 ^ 12 * upper bits) / 4096 ≡ upper bits = omega (arith, few) in
    u_imm_is (with_upper bits w) ∙ last

pub lower_is : (bits w : ℕ) → i_imm_of (parts_of (with_lower bits w)) ≡ lower bits
lower_is bits w =
    let last : (w % 2 ^ 20 + 2 ^ 20 * (bits % 2 ^ 12)) / 1048576 ≡ bits % 4096 = omega arith in
    ap (signed 12) (i_bits_are (with_lower bits w) ∙ last)

-- what is an `auipc` by its opcode
auipc_by : (f : Parts) → f.opcode ≡ 23 → instruction f ≡ Some (Ins.Auipc f.rd (u_imm_of f))
unfolding instruction
auipc_by f e =
    let with_opcode : ℕ → Parts =
    λ n. record { opcode = n; rd = f.rd; funct3 = f.funct3; rs1 = f.rs1; rs2 = f.rs2; funct7 = f.funct7 } in
    ap (λ n. instruction (with_opcode n)) e

pub auipc_is : (bits w : ℕ) → w % 128 ≡ 23
    → instruction (parts_of (with_upper bits w)) ≡ Some (Ins.Auipc (parts_of (with_upper bits w)).rd (upper bits))
auipc_is bits w h =
    let opcode : (w % 2 ^ 12 + 2 ^ 12 * upper bits) % 128 ≡ 23 = omega (arith, h) in
    auipc_by (parts_of (with_upper bits w)) opcode
    ∙ ap (λ n. Some (Ins.Auipc (parts_of (with_upper bits w)).rd n)) (upper_is bits w)

pub first_kept : (bits w : ℕ) → with_upper bits w % 2 ^ 12 ≡ w % 2 ^ 12
first_kept bits w = omega arith

pub second_kept : (bits w : ℕ) → with_lower bits w % 2 ^ 20 ≡ w % 2 ^ 20
second_kept bits w = omega arith

-- and so they lead there
pub leads : (from to w' : ℕ) → from < near → to < near
    → (pos from +ℤ cast_signed w32 (upper (bits_between from to) * 2 ^ 12))
    +ℤ i_imm_of (parts_of (with_lower (bits_between from to) w')) ≡ pos to
leads from to w' h h' =
    let bits : ℕ = bits_between from to in
    ap (λ z. (pos from +ℤ cast_signed w32 (upper bits * 2 ^ 12)) +ℤ z) (lower_is bits w') ∙ sum_is from to h h'
