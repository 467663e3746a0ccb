use Rattle.std.proofs.Common.{◌≡◌, ◌∙◌, ℕ, List, suc, ◌+◌, ◌-◌, ◌<◌, ◌≤◌, length, true, false, None, Some, ap, subst}
use Rattle.std.proofs.Common.{sym}
use Rattle.std.proofs.Common.{arith, rules}
use Rattle.il_code.specs.Headers.{aligned, has_more, section_end, sections_end}
use Rattle.il_code.proofs.Sections.{ends_on, last_end_is, no_end}
use Rattle.il_code.proofs.section.sections_end.Goals as goal

pub returns-in_err-end-clause-value : goal.returns-in_err-end-clause-value
returns-in_err-end-clause-value c =
    let bytes : List ℕ = c.args.bytes.now in
    let at : ℕ = c.loop-section.at in
    let n : ℕ = length bytes - c.loop-section._section in
    let m : ℕ = length bytes - (c.loop-section._section + 1) in
    let left : n ≡ suc m = omega (arith, c.loop-section-test.true) in
    let past : length bytes < section_end bytes at = c.in_err-end.ensures.none in
    let none : c.from_residual.result ≡ None = search rules in
    none ∙ sym (c.loop-section.invariant.same ∙ no_end n m bytes at left past)

pub returns-then-not-has_more-clause-value : goal.returns-then-not-has_more-clause-value
returns-then-not-has_more-clause-value c =
    let bytes : List ℕ = c.args.bytes.now in
    let at : ℕ = c.loop-section.at in
    let n : ℕ = length bytes - c.loop-section._section in
    let m : ℕ = length bytes - (c.loop-section._section + 1) in
    let left : n ≡ suc m = omega (arith, c.loop-section-test.true) in
    let end-is : c.in_ok-end.end ≡ section_end bytes at = c.in_ok-end.ensures.value in
    let fits : section_end bytes at ≤ length bytes =
    subst (λ e. e ≤ length bytes) end-is c.in_ok-end.ensures.fits in
    let is : c.has_more.result ≡ false = search rules in
    let last : has_more bytes at ≡ false = sym c.has_more.ensures ∙ is in
    ap Some end-is ∙ sym (c.loop-section.invariant.same ∙ last_end_is n m bytes at left fits last)

pub loop-section-preserved : goal.loop-section-preserved
loop-section-preserved c =
    let bytes : List ℕ = c.args.bytes.now in
    let at : ℕ = c.loop-section.at in
    let n : ℕ = length bytes - c.loop-section._section in
    let m : ℕ = length bytes - (c.loop-section._section + 1) in
    let left : n ≡ suc m = omega (arith, c.loop-section-test.true) in
    let end-is : c.in_ok-end.end ≡ section_end bytes at = c.in_ok-end.ensures.value in
    let fits : section_end bytes at ≤ length bytes =
    subst (λ e. e ≤ length bytes) end-is c.in_ok-end.ensures.fits in
    let is : c.has_more.result ≡ true = search rules in
    let more : has_more bytes at ≡ true = sym c.has_more.ensures ∙ is in
    record {
      same = c.loop-section.invariant.same
          ∙ (ends_on n m bytes at left fits more
          ∙ (ap (λ e. sections_end m bytes (aligned e)) (sym end-is)
          ∙ ap (sections_end m bytes) (sym c.aligned-at.ensures.value)));
      later = omega (arith, c.loop-section.invariant.later, c.in_ok-end.ensures.header, c.aligned-at.ensures.higher);
    }
