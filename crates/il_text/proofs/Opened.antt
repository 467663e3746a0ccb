-- A line of the tables, by whether a body is open.
use Rattle.std.proofs.Common.{◌≡◌, Option, Some, None, Result, refl, sym, subst}
use Rattle.il_text.specs.declared.draft.Draft.{Draft}
use Rattle.il_text.specs.declared.draft.OpenBody.{OpenBody}
use Rattle.il_text.specs.declared.fault.IlTextFault.{IlTextFault}
use Rattle.il_text.specs.Lines.{LineParts}
use Rattle.il_text.specs.Reading.{Reads, behind_rows, in_body, in_tables}

pub no_body : (draft : Draft) (line : LineParts) (result : Result Draft IlTextFault) → draft.body ≡ None
    → Reads result (behind_rows (record draft { body = None }) line) → Reads result (in_tables draft draft.body line)
no_body draft line result none read =
    subst (λ (b : Option OpenBody). Reads result (in_tables (record draft { body = b }) b line)) (sym none) read

pub with_body : (draft : Draft) (body : OpenBody) (line : LineParts) (result : Result Draft IlTextFault)
    → draft.body ≡ Some body → Reads result (in_body (record draft { body = None }) body line)
    → Reads result (in_tables draft draft.body line)
with_body draft body line result some read =
    let same : in_body (record draft { body = None }) body line ≡ in_body draft body line = refl in
    subst (λ (b : Option OpenBody). Reads result (in_tables draft b line)) (sym some)
    (subst (λ (r : Result Draft IlTextFault). Reads result r) same read)
