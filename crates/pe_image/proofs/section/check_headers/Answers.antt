use Rattle.std.proofs.Common.{◌≡◌, ◌∙◌, ℕ, List, suc, ◌+◌, ◌*◌, ◌-◌, true, cond, Some, ap, sym, arith, rules}
use Rattle.pe_image.specs.Conditions.{first_fault, fits}
use Rattle.pe_image.specs.Sections.{headers_fit}
use Rattle.pe_image.specs.declared.fault.PeFault.TheVariants.{Cut}
use Rattle.pe_image.proofs.Sections.{headers_on, headers_whole}
use Rattle.pe_image.proofs.section.check_headers.Goals as goal

pub loop-index-preserved : goal.loop-index-preserved
loop-index-preserved c =
    let file : List ℕ = c.args.file.now in
    let at : ℕ = c.args.place + 40 * c.loop-index.index in
    let is : c.fits.result ≡ true = search rules in
    let fit : fits file at 40 ≡ true = sym c.fits.ensures ∙ is in
    let left : c.args.count - c.loop-index.index ≡ suc (c.args.count - (c.loop-index.index + 1)) = omega
    (arith, c.loop-index-test.true) in
    let next : c.args.place + 40 * (c.loop-index.index + 1) ≡ at + 40 = omega arith in
    c.loop-index.invariant
    ∙ (headers_on file (c.args.count - c.loop-index.index) (c.args.count - (c.loop-index.index + 1)) at
    (c.args.place + 40 * (c.loop-index.index + 1)) left next
    ∙ ap (λ b. cond b
    (first_fault
    (headers_fit file (c.args.count - (c.loop-index.index + 1)) (c.args.place + 40 * (c.loop-index.index + 1))))
    (Some (Cut at))) fit)

pub returns-clause-whole : goal.returns-clause-whole
returns-clause-whole c =
    let file : List ℕ = c.args.file.now in
    let none : c.args.count - c.loop-index.index ≡ 0 = omega (arith, c.loop-index-test.false) in
    headers_whole file c.args.count c.args.place
    (c.loop-index.invariant ∙ ap (λ n. first_fault (headers_fit file n (c.args.place + 40 * c.loop-index.index))) none)
