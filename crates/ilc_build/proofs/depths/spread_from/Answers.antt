use Rattle.std.proofs.Common.{◌≡◌, ◌∙◌, List, Some, slice_get, ap, sym, arith}
use Rattle.il_code.specs.declared.body.Instr.{Instr}
use Rattle.ilc_build.specs.Depths.{row, passed_on}
use Rattle.ilc_build.specs.Raising.{ranks}
use Rattle.ilc_build.proofs.Rising.{ranks-bound, shallow-more}
use Rattle.ilc_build.proofs.Rows.{element}
use Rattle.ilc_build.proofs.Telling.{told-below, told-closed}
use Rattle.ilc_build.proofs.depths.spread_from.Goals as goal

pub passed_on-known-requires : goal.passed_on-known-requires
passed_on-known-requires c = shallow-more (ranks c.args.table.now) 1048576 (row c.args.table.now c.args.index)
    (omega (arith, ranks-bound c.args.table.now, c.requires.size, c.requires.few)) (c.requires.shallow c.args.index)

pub returns-clause-below : goal.returns-clause-below
returns-clause-below c = λ other solution within.
    let instrs : List Instr = c.args.instrs.now in
    let instr : Instr = c.index-instrs-index.result in
    let there : slice_get instrs c.args.index ≡ Some instr = element instrs c.args.index instr c.requires.within
    ∙ ap Some (sym c.index-instrs-index.is) in
    told-below instrs instr c.args.index c.passed_on-known.result c.args.table.now c.raise_leads.new.table other
    c.raise_leads.result c.requires.within there
    (c.passed_on-known.ensures.value ∙ ap (passed_on (row c.args.table.now c.args.index)) c.operation.ensures)
    c.raise_leads.ensures solution within

pub returns-clause-closed : goal.returns-clause-closed
returns-clause-closed c = λ none.
    let instrs : List Instr = c.args.instrs.now in
    let instr : Instr = c.index-instrs-index.result in
    let there : slice_get instrs c.args.index ≡ Some instr = element instrs c.args.index instr c.requires.within
    ∙ ap Some (sym c.index-instrs-index.is) in
    told-closed instrs instr c.args.index c.passed_on-known.result c.args.table.now c.raise_leads.new.table
    c.raise_leads.result there
    (c.passed_on-known.ensures.value ∙ ap (passed_on (row c.args.table.now c.args.index)) c.operation.ensures)
    c.raise_leads.ensures none
