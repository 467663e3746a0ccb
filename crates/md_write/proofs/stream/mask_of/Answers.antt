use Rattle.std.proofs.Common.{◌≡◌, ℕ, suc, ◌+◌, ◌-◌, ◌*◌, ◌^◌, ◌<◌, ◌≤◌, List, length, drop, ap, subst, sym, arith}
use Rattle.std.proofs.Common.{drop-cons}
use Rattle.std.proofs.Math.Nat.{pow-suc}
use Rattle.md_write.specs.Stream.{mask_of}
use Rattle.md_write.proofs.stream.mask_of.Goals as goal

pub loop-left-preserved : goal.loop-left-preserved
loop-left-preserved c =
    let counts : List ℕ = c.args.counts.now in
    let left : ℕ = c.loop-left.left in
    let place : ℕ = left - 1 in
    let some : suc place ≡ left = omega (arith, c.loop-left-test.true) in
    let inside : left ≤ length counts = c.loop-left.invariant.inside in
    let before : place < length counts = omega (arith, some, inside) in
    let value : 2 * c.loop-left.mask + c.bit_of.result ≡ mask_of (drop place counts) =
    omega (
      arith,
      ap mask_of (drop-cons counts place 0 before),
      ap (λ n. mask_of (drop n counts)) some,
      c.loop-left.invariant.value,
      c.bit_of.ensures.value,
    ) in
    let one_more : length counts - place ≡ suc (length counts - left) = omega (arith, some, inside) in
    let twice : 2 ^ suc (length counts - left) ≡ 2 ^ (length counts - left) * 2 = pow-suc 2 (length counts - left) in
    let small : 2 * c.loop-left.mask + c.bit_of.result < 2 ^ suc (length counts - left) =
    omega (arith, twice, c.loop-left.invariant.bound, c.bit_of.ensures.few) in
    let P : ℕ → Type 0 = λ n. 2 * c.loop-left.mask + c.bit_of.result < 2 ^ n in
    record { inside = omega (arith, inside); value = value; bound = subst P (sym one_more) small }
