use Rattle.std.proofs.Math.ListN.{set}
use Rattle.std.proofs.Common.{◌≡◌, ◌∙◌, ◌+◌, ◌-◌, ◌<◌, ℕ, List, suc, arith, ap, sym, refl, get_or-set_same, length}
use Rattle.std.proofs.Common.{drop, ◌/◌, false}
use Rattle.std.proofs.lemmas.List.{length-set, drop-set-lt}
use Rattle.std.specs.Fmt.{digits_onto}
use Rattle.ilc.proofs.Hex.{hex_next, hex_whole, hex_room, hex_left, hex_all}
use Rattle.ilc.proofs.report.hex.Goals as goal

pub loop-rest-init : goal.loop-rest-init
loop-rest-init c = record {
  size = refl;
  room = omega arith;
  left = omega arith;
  digit = c.hex_digit.ensures;
  number =
      hex_all c.args.number;
}

pub overflow_sub-at : goal.overflow_sub-at
overflow_sub-at c = hex_room c.loop-rest.at c.loop-rest.rest c.loop-rest.invariant.left c.loop-rest-test.true

pub loop-rest-preserved : goal.loop-rest-preserved
loop-rest-preserved c =
    let at : ℕ = c.loop-rest.at in
    let rest : ℕ = c.loop-rest.rest in
    let digits : List ℕ = c.loop-rest.digits in
    let some : 0 < at = hex_room at rest c.loop-rest.invariant.left c.loop-rest-test.true in
    let before : at ≡ (at - 1) + 1 = omega arith in
    let inside : at < length digits = omega (arith, c.loop-rest.invariant.size, c.loop-rest.invariant.room) in
    let last : at - 1 < length digits = omega arith in
    let steps : 49 + (at - 1) ≡ 48 + at = omega arith in
    let steps' : 49 + at ≡ suc (48 + at) = omega arith in
    record {
      size = length-set digits (at - 1) c.hex_digit-in-loop-rest.result ∙ c.loop-rest.invariant.size;
      room = omega (arith, c.loop-rest.invariant.room);
      left = hex_left at (at - 1) rest before c.loop-rest.invariant.left;
      digit = get_or-set_same digits (at - 1) c.hex_digit-in-loop-rest.result 0 last ∙ c.hex_digit-in-loop-rest.ensures;
      number =
          ap (λ k. digits_onto k 16 false (rest / 16)
          (drop (at - 1 + 1) (set digits (at - 1) c.hex_digit-in-loop-rest.result))) steps
          ∙ ap (digits_onto (48 + at) 16 false (rest / 16))
          (drop-set-lt (at - 1 + 1) digits (at - 1) c.hex_digit-in-loop-rest.result (omega arith) ∙ ap
          (λ k. drop k digits) (sym before))
          ∙ hex_next (48 + at) rest at digits _ inside c.loop-rest-test.true c.loop-rest.invariant.digit
          (ap (λ k. digits_onto k 16 false rest (drop (at + 1) digits)) (sym steps') ∙ c.loop-rest.invariant.number);
    }

pub returns-clause-digits : goal.returns-clause-digits
returns-clause-digits c =
    let inside : c.loop-rest.at < length c.loop-rest.digits = omega
    (arith, c.loop-rest.invariant.size, c.loop-rest.invariant.room) in
    let steps' : 49 + c.loop-rest.at ≡ suc (48 + c.loop-rest.at) = omega arith in
    hex_whole (48 + c.loop-rest.at) c.loop-rest.rest c.loop-rest.at c.loop-rest.digits _ inside c.loop-rest-test.false
    c.loop-rest.invariant.digit
    (ap (λ k. digits_onto k 16 false c.loop-rest.rest (drop (c.loop-rest.at + 1) c.loop-rest.digits)) (sym steps') ∙
    c.loop-rest.invariant.number)
