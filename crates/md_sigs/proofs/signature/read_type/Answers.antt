use Rattle.std.proofs.Common.{rules, ◌≡◌, ◌∷◌, [], ℕ, List, Ok, Err, sym, subst}
use Rattle.md_sigs.specs.Grammar.{AreSpelled, AreType}
use Rattle.md_sigs.specs.Reading.{IsStopped}
use Rattle.md_sigs.specs.Refusal.{IsRefused}
use Rattle.md_sigs.specs.Signatures.{IsTold, type_blob, types_in}
use Rattle.md_sigs.specs.declared.element.Place.{Place}
use Rattle.md_sigs.specs.declared.element.Stop.{Stop}
use Rattle.md_sigs.specs.declared.fault.SigFault.{SigFault}
use Rattle.md_sigs.proofs.Exact.{type_read, type_stopped}
use Rattle.md_sigs.proofs.Whole.{refused_by, type_stops}
use Rattle.md_sigs.proofs.signature.read_type.Goals as goal

pub returns-in-Ok-Err-clause-refused : goal.returns-in-Ok-Err-clause-refused
returns-in-Ok-Err-clause-refused c =
    let m : ℕ = c.args.module in
    let blob : List ℕ = c.args.blob.now in
    let stop : Stop = c.in-Ok-Err.stop in
    let stopped : IsStopped (AreSpelled m (Place.Plain ∷ [])) blob stop =
    rw c.in-Ok-Err.field-0-is at c.in-Ok-Err.ensures.read in
    subst (IsRefused (AreType m) blob) (sym c.fault.ensures)
    (refused_by (AreType m) blob stop (type_stops m blob stop stopped))

pub returns-in-Ok-Err-clause-exact : goal.returns-in-Ok-Err-clause-exact
returns-in-Ok-Err-clause-exact c =
    let m : ℕ = c.args.module in
    let blob : List ℕ = c.args.blob.now in
    let stop : Stop = c.in-Ok-Err.stop in
    let stopped : types_in m (Place.Plain ∷ []) blob ≡ Err stop =
    rw c.in-Ok-Err.field-0-is at c.in-Ok-Err.ensures.exact in
    subst (λ (fault : SigFault). IsTold (Err fault) (type_blob m blob)) (sym c.fault.ensures)
    (type_stopped m blob stop stopped)

pub returns-in-Ok-Ok-clause-exact : goal.returns-in-Ok-Ok-clause-exact
returns-in-Ok-Ok-clause-exact c =
    let m : ℕ = c.args.module in
    let blob : List ℕ = c.args.blob.now in
    let types : types_in m (Place.Plain ∷ []) blob ≡ Ok c.in-Ok-Ok.types.items =
    rw c.in-Ok-Ok.field-0-is at c.in-Ok-Ok.ensures.exact in
    type_read m blob c.in-Ok-Ok.types.items c.only.result types c.only.ensures
