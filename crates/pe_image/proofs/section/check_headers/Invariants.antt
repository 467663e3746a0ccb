use Rattle.std.proofs.Common.{◌≡◌, ◌+◌, ◌*◌, ◌-◌}
use Rattle.pe_image.specs.Conditions.{first_fault}
use Rattle.pe_image.specs.Sections.{headers_fit}
use Rattle.pe_image.proofs.section.check_headers.Given as goal

-- the headers that were looked at are whole
abbrev pub invariant-loop-index : goal.invariant-loop-index
invariant-loop-index l = first_fault (headers_fit l.file l.count l.place) ≡ first_fault
    (headers_fit l.file (l.count - l.index) (l.place + 40 * l.index))
