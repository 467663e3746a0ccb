use Rattle.std.proofs.Common.{◌≡◌, ◌+◌, ◌*◌, ◌-◌}
use Rattle.pe_image.specs.Conditions.{first_fault}
use Rattle.pe_image.specs.Sections.{parts_fit, sections_at}
use Rattle.pe_image.proofs.section.check_parts.Given as goal

-- the bytes of the sections that were looked at are there
abbrev pub invariant-loop-index : goal.invariant-loop-index
invariant-loop-index l = first_fault (parts_fit l.file (sections_at l.file l.count l.place)) ≡ first_fault
    (parts_fit l.file (sections_at l.file (l.count - l.index) (l.place + 40 * l.index)))
