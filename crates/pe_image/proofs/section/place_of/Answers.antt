use Rattle.std.proofs.Common.{◌≡◌, ◌∙◌, ℕ, List, suc, ◌+◌, ◌*◌, ◌-◌, ◌<◌, ◌≤◌, length, true, false, cond, Some, ap}
use Rattle.std.proofs.Common.{subst, sym, arith, rules}
use Rattle.pe_image.specs.Sections.{holds, place_in, place_of, section_at, sections_at}
use Rattle.pe_image.specs.declared.section.Section.{Section}
use Rattle.pe_image.proofs.Sections.{place_on, section_is, sections_length, within_section}
use Rattle.pe_image.proofs.section.place_of.Goals as goal

pub returns-then-holds-clause-value : goal.returns-then-holds-clause-value
returns-then-holds-clause-value c =
    let file : List ℕ = c.args.file.now in
    let rva : ℕ = c.args.rva in
    let at : ℕ = c.args.place + 40 * c.loop-index.index in
    let s : Section = section_at file at in
    let is : c.holds.result ≡ true = search rules in
    let held : holds rva s ≡ true = subst (λ s. holds rva s ≡ true) c.section_at-section.ensures
    (sym c.holds.ensures ∙ is) in
    let left : c.args.count - c.loop-index.index ≡ suc (c.args.count - (c.loop-index.index + 1)) = omega
    (arith, c.loop-index-test.true) in
    let next : c.args.place + 40 * (c.loop-index.index + 1) ≡ at + 40 = omega arith in
    subst (λ s. Some (place_in rva s) ≡ place_of (sections_at file c.args.count c.args.place) rva)
    (sym c.section_at-section.ensures)
    (sym (c.loop-index.invariant
    ∙ (place_on file rva (c.args.count - c.loop-index.index) (c.args.count - (c.loop-index.index + 1)) at
    (c.args.place + 40 * (c.loop-index.index + 1)) left next
    ∙ ap (λ b. cond b (Some (place_in rva s))
    (place_of
    (sections_at file (c.args.count - (c.loop-index.index + 1)) (c.args.place + 40 * (c.loop-index.index + 1)))
    rva)) held)))

pub returns-then-holds-clause-within : goal.returns-then-holds-clause-within
returns-then-holds-clause-within c =
    let file : List ℕ = c.args.file.now in
    let rva : ℕ = c.args.rva in
    let index : ℕ = c.loop-index.index in
    let s : Section = c.section_at-section.result in
    let is : c.holds.result ≡ true = search rules in
    let below : index < length (sections_at file c.args.count c.args.place) = omega
    (arith, sections_length file c.args.count c.args.place, c.loop-index-test.true) in
    let there = section_is file c.args.count c.args.place index s c.loop-index-test.true
    ∙ sym c.section_at-section.ensures in
    within_section (length file) rva s (sym c.holds.ensures ∙ is)
    (subst (λ s. s.pointer + s.size ≤ length file) there (c.requires.parts index s below))

pub loop-index-preserved : goal.loop-index-preserved
loop-index-preserved c =
    let file : List ℕ = c.args.file.now in
    let rva : ℕ = c.args.rva in
    let at : ℕ = c.args.place + 40 * c.loop-index.index in
    let s : Section = section_at file at in
    let is : c.holds.result ≡ false = search rules in
    let held : holds rva s ≡ false = subst (λ s. holds rva s ≡ false) c.section_at-section.ensures
    (sym c.holds.ensures ∙ is) in
    let left : c.args.count - c.loop-index.index ≡ suc (c.args.count - (c.loop-index.index + 1)) = omega
    (arith, c.loop-index-test.true) in
    let next : c.args.place + 40 * (c.loop-index.index + 1) ≡ at + 40 = omega arith in
    c.loop-index.invariant
    ∙ (place_on file rva (c.args.count - c.loop-index.index) (c.args.count - (c.loop-index.index + 1)) at
    (c.args.place + 40 * (c.loop-index.index + 1)) left next
    ∙ ap (λ b. cond b (Some (place_in rva s))
    (place_of
    (sections_at file (c.args.count - (c.loop-index.index + 1)) (c.args.place + 40 * (c.loop-index.index + 1)))
    rva)) held)
