use Rattle.std.proofs.Common.{◌≡◌, ◌+◌, ◌*◌, ◌-◌}
use Rattle.pe_image.specs.Sections.{section_of, sections_at}
use Rattle.pe_image.proofs.Sections.{numbered}
use Rattle.pe_image.proofs.section.section_of.Given as goal

-- the sections that were looked at don't hold the address
abbrev pub invariant-loop-index : goal.invariant-loop-index
invariant-loop-index l = section_of (sections_at l.file l.count l.place) l.rva ≡ numbered l.index
    (section_of (sections_at l.file (l.count - l.index) (l.place + 40 * l.index)) l.rva)
