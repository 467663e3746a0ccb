use Rattle.std.proofs.Common.{◌≡◌, ◌∙◌, ℕ, List, suc, ◌+◌, ◌*◌, ◌-◌, true, false, subst, sym, arith, rules}
use Rattle.pe_image.specs.Sections.{holds, section_at, section_of, sections_at}
use Rattle.pe_image.proofs.Sections.{section_start, section_on, section_found, section_none}
use Rattle.pe_image.proofs.section.section_of.Goals as goal

pub loop-index-init : goal.loop-index-init
loop-index-init c =
    section_start c.args.file.now c.args.rva c.args.count (c.args.count - 0) c.args.place (c.args.place + 40 * 0)
    (omega arith) (omega arith)

pub returns-then-holds : goal.returns-then-holds
returns-then-holds c =
    let file : List ℕ = c.args.file.now in
    let at : ℕ = c.args.place + 40 * c.loop-index.index in
    let is : c.holds.result ≡ true = search rules in
    let held : holds c.args.rva (section_at file at) ≡ true =
    subst (λ s. holds c.args.rva s ≡ true) c.section_at.ensures (sym c.holds.ensures ∙ is) in
    let left : c.args.count - c.loop-index.index ≡ suc (c.args.count - (c.loop-index.index + 1)) = omega
    (arith, c.loop-index-test.true) in
    sym (c.loop-index.invariant
    ∙ section_found file c.args.rva (c.args.count - c.loop-index.index) (c.args.count - (c.loop-index.index + 1)) at
    c.loop-index.index left held)

pub loop-index-preserved : goal.loop-index-preserved
loop-index-preserved c =
    let file : List ℕ = c.args.file.now in
    let at : ℕ = c.args.place + 40 * c.loop-index.index in
    let is : c.holds.result ≡ false = search rules in
    let held : holds c.args.rva (section_at file at) ≡ false =
    subst (λ s. holds c.args.rva s ≡ false) c.section_at.ensures (sym c.holds.ensures ∙ is) in
    let left : c.args.count - c.loop-index.index ≡ suc (c.args.count - (c.loop-index.index + 1)) = omega
    (arith, c.loop-index-test.true) in
    let next : c.args.place + 40 * (c.loop-index.index + 1) ≡ at + 40 = omega arith in
    c.loop-index.invariant
    ∙ section_on file c.args.rva (c.args.count - c.loop-index.index) (c.args.count - (c.loop-index.index + 1)) at
    (c.args.place + 40 * (c.loop-index.index + 1)) c.loop-index.index left next held

pub returns : goal.returns
returns c =
    let none : c.args.count - c.loop-index.index ≡ 0 = omega (arith, c.loop-index-test.false) in
    sym (c.loop-index.invariant
    ∙ section_none c.args.file.now c.args.rva (c.args.count - c.loop-index.index)
    (c.args.place + 40 * c.loop-index.index) c.loop-index.index none)
