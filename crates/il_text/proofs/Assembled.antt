-- What a text means, from what was read of it.
use Rattle.std.proofs.Common.{◌≡◌, ◌∙◌, ℕ, List, Result, Ok, Err, IfOk, IfErr, ap, inl, inr}
use Rattle.md_tables.specs.Modules.{ModuleParts}
use Rattle.il_text.specs.declared.draft.Draft.{Draft}
use Rattle.il_text.specs.declared.fault.IlTextFault.{IlTextFault}
use Rattle.il_text.specs.Reading.{Reads, Refuses, read_text, ◌>>=◌}
use Rattle.il_text.specs.Assembling.{assembled, module_of}

pub module_read : (text : List ℕ) (draft : Draft) (result : Result ModuleParts IlTextFault)
    → read_text text ≡ Ok draft → Reads result (module_of draft) → IfOk result (λ m. assembled text ≡ Ok m)
unfolding assembled
module_read text draft (Ok m) read meant = ap (λ r. r >>= module_of) read ∙ meant
module_read text draft (Err fault) read meant = tt

pub module_refused : (text : List ℕ) (draft : Draft) (result : Result ModuleParts IlTextFault)
    → read_text text ≡ Ok draft → Reads result (module_of draft) → IfErr result (Refuses (assembled text))
unfolding assembled
module_refused text draft (Ok m) read meant = tt
module_refused text draft (Err fault) read (inl none) = inl none
module_refused text draft (Err fault) read (inr bad) = inr (ap (λ r. r >>= module_of) read ∙ bad)

pub text_refused : (text : List ℕ) (fault : IlTextFault) → Refuses (read_text text) fault
    → Refuses (assembled text) fault
unfolding assembled
text_refused text fault (inl none) = inl none
text_refused text fault (inr bad) = inr (ap (λ r. r >>= module_of) bad)
