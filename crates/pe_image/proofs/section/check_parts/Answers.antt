use Rattle.std.proofs.Common.{◌≡◌, ◌∙◌, ℕ, List, suc, ◌+◌, ◌*◌, ◌-◌, true, cond, Some, ap, subst, sym, arith, rules}
use Rattle.pe_image.specs.Conditions.{first_fault, fits}
use Rattle.pe_image.specs.Sections.{parts_fit, section_at, sections_at}
use Rattle.pe_image.specs.declared.fault.PeFault.TheVariants.{Cut}
use Rattle.pe_image.specs.declared.section.Section.{Section}
use Rattle.pe_image.proofs.Sections.{parts_on, parts_whole}
use Rattle.pe_image.proofs.section.check_parts.Goals as goal

pub loop-index-preserved : goal.loop-index-preserved
loop-index-preserved c =
    let file : List ℕ = c.args.file.now in
    let at : ℕ = c.args.place + 40 * c.loop-index.index in
    let s : Section = section_at file at in
    let is : c.fits.result ≡ true = search rules in
    let fit : fits file s.pointer s.size ≡ true = subst (λ s. fits file s.pointer s.size ≡ true)
    c.section_at-section.ensures (sym c.fits.ensures ∙ is) in
    let left : c.args.count - c.loop-index.index ≡ suc (c.args.count - (c.loop-index.index + 1)) = omega
    (arith, c.loop-index-test.true) in
    let next : c.args.place + 40 * (c.loop-index.index + 1) ≡ at + 40 = omega arith in
    c.loop-index.invariant
    ∙ (parts_on file (c.args.count - c.loop-index.index) (c.args.count - (c.loop-index.index + 1)) at
    (c.args.place + 40 * (c.loop-index.index + 1)) left next
    ∙ ap (λ b. cond b
    (first_fault
    (parts_fit file
    (sections_at file (c.args.count - (c.loop-index.index + 1)) (c.args.place + 40 * (c.loop-index.index + 1)))))
    (Some (Cut s.pointer))) fit)

pub returns-clause-within : goal.returns-clause-within
returns-clause-within c =
    let file : List ℕ = c.args.file.now in
    let none : c.args.count - c.loop-index.index ≡ 0 = omega (arith, c.loop-index-test.false) in
    parts_whole file (sections_at file c.args.count c.args.place)
    (c.loop-index.invariant
    ∙ ap (λ n. first_fault (parts_fit file (sections_at file n (c.args.place + 40 * c.loop-index.index)))) none)
