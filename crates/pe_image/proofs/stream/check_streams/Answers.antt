use Rattle.std.proofs.Common.{◌≡◌, ◌∙◌, ℕ, List, suc, ◌+◌, ◌-◌, true, false, cond, Some, ap, sym, subst, arith, rules}
use Rattle.pe_image.specs.Conditions.{first_fault, fits}
use Rattle.pe_image.specs.Streams.{header, stream_conditions, stream_at, streams_at, whole_streams, Stream}
use Rattle.pe_image.specs.declared.fault.PeFault.TheVariants.{Cut}
use Rattle.pe_image.proofs.Streams.{conditions_on, streams_within, whole_on}
use Rattle.pe_image.proofs.stream.check_streams.Goals as goal

pub returns-then-not-fits-clause-answers : goal.returns-then-not-fits-clause-answers
returns-then-not-fits-clause-answers c =
    let root : List ℕ = c.args.root.now in
    let place : ℕ = c.loop-left.place in
    let size : ℕ = c.in-Some.size in
    let s : Stream = stream_at root place c.in-Some.field-0-1 in
    let found : header root place ≡ Some (size, c.in-Some.field-0-1) = sym c.header.ensures.value ∙ c.in-Some.is in
    let left : c.loop-left.left ≡ suc (c.loop-left.left - 1) = omega (arith, c.loop-left-test.true) in
    let is : c.fits.result ≡ false = search rules in
    let at-is : c.word_at-begin.result ≡ s.at = c.word_at-begin.ensures in
    let size-is : c.word_at.result ≡ s.size = c.word_at.ensures in
    let cut : fits root s.at s.size ≡ false = ap (fits root s.at) (sym size-is)
    ∙ (ap (λ at. fits root at c.word_at.result) (sym at-is) ∙ (sym c.fits.ensures ∙ is)) in
    subst (λ at. first_fault
    (stream_conditions c.args.at root (whole_streams (streams_at root c.args.count c.args.place))) ≡ Some
    (Cut (c.args.at + at))) (sym at-is)
    (c.loop-left.invariant.same
    ∙ (conditions_on c.args.at root c.loop-left.left (c.loop-left.left - 1) place size c.in-Some.field-0-1 left
    found c.loop-left.invariant.whole
    ∙ ap (λ b. cond b
    (first_fault
    (stream_conditions c.args.at root (whole_streams (streams_at root (c.loop-left.left - 1) (place + size)))))
    (Some (Cut (c.args.at + s.at)))) cut))

pub loop-left-preserved : goal.loop-left-preserved
loop-left-preserved c =
    let root : List ℕ = c.args.root.now in
    let place : ℕ = c.loop-left.place in
    let size : ℕ = c.in-Some.size in
    let s : Stream = stream_at root place c.in-Some.field-0-1 in
    let found : header root place ≡ Some (size, c.in-Some.field-0-1) = sym c.header.ensures.value ∙ c.in-Some.is in
    let left : c.loop-left.left ≡ suc (c.loop-left.left - 1) = omega (arith, c.loop-left-test.true) in
    let is : c.fits.result ≡ true = search rules in
    let at-is : c.word_at-begin.result ≡ s.at = c.word_at-begin.ensures in
    let size-is : c.word_at.result ≡ s.size = c.word_at.ensures in
    let fit : fits root s.at s.size ≡ true = ap (fits root s.at) (sym size-is)
    ∙ (ap (λ at. fits root at c.word_at.result) (sym at-is) ∙ (sym c.fits.ensures ∙ is)) in
    record {
      inside = c.in-Some.ensures.whole;
      whole = whole_on root c.loop-left.left (c.loop-left.left - 1) place size c.in-Some.field-0-1 left found
          c.loop-left.invariant.whole;
      same = c.loop-left.invariant.same
          ∙ (conditions_on c.args.at root c.loop-left.left (c.loop-left.left - 1) place size c.in-Some.field-0-1 left
          found c.loop-left.invariant.whole
          ∙ ap (λ b. cond b
          (first_fault
          (stream_conditions c.args.at root
          (whole_streams (streams_at root (c.loop-left.left - 1) (place + size))))) (Some (Cut (c.args.at + s.at))))
          fit);
    }

pub returns-clause-within : goal.returns-clause-within
returns-clause-within c =
    let root : List ℕ = c.args.root.now in
    let none : c.loop-left.left ≡ 0 = omega (arith, c.loop-left-test.false) in
    streams_within c.args.at root (whole_streams (streams_at root c.args.count c.args.place))
    (c.loop-left.invariant.same
    ∙ ap (λ n. first_fault (stream_conditions c.args.at root (whole_streams (streams_at root n c.loop-left.place))))
    none)
