use Rattle.std.proofs.Common.{rules, ◌≡◌, ℕ, List, Ok, Err, sym, subst}
use Rattle.md_sigs.specs.Elements.{head_at}
use Rattle.md_sigs.specs.Grammar.{AreSig, AreSpelled, places_behind}
use Rattle.md_sigs.specs.Reading.{IsStopped}
use Rattle.md_sigs.specs.Refusal.{IsRefused}
use Rattle.md_sigs.specs.Signatures.{IsTold, signature, types_in}
use Rattle.md_sigs.specs.declared.element.Head.{Head}
use Rattle.md_sigs.specs.declared.element.Stop.{Stop}
use Rattle.md_sigs.specs.declared.fault.SigFault.{SigFault}
use Rattle.md_sigs.proofs.Exact.{sig_read, sig_stopped, sig_stopped_behind}
use Rattle.md_sigs.proofs.Whole.{refused_by, sig_stops, sig_stops_behind}
use Rattle.md_sigs.proofs.signature.read_sig.Goals as goal

pub returns-in-Err-clause-refused : goal.returns-in-Err-clause-refused
returns-in-Err-clause-refused c =
    let m : ℕ = c.args.module in
    let blob : List ℕ = c.args.blob.now in
    let stop : Stop = c.in-Err.stop in
    let none : head_at blob ≡ Err stop = search rules in
    subst (IsRefused (AreSig m) blob) (sym c.fault.ensures)
    (refused_by (AreSig m) blob stop (sig_stops m blob stop none))

pub returns-in-Err-clause-exact : goal.returns-in-Err-clause-exact
returns-in-Err-clause-exact c =
    let m : ℕ = c.args.module in
    let blob : List ℕ = c.args.blob.now in
    let stop : Stop = c.in-Err.stop in
    let none : head_at blob ≡ Err stop = search rules in
    subst (λ (fault : SigFault). IsTold (Err fault) (signature m blob)) (sym c.fault.ensures)
    (sig_stopped m blob stop none)

pub returns-in-Ok-Err-clause-refused : goal.returns-in-Ok-Err-clause-refused
returns-in-Ok-Err-clause-refused c =
    let m : ℕ = c.args.module in
    let blob : List ℕ = c.args.blob.now in
    let head : Head = c.in-Ok.read.0 in
    let rest : List ℕ = c.in-Ok.read.1.now in
    let stop : Stop = c.in-Ok-Err.stop in
    let begun : head_at blob ≡ Ok (head, rest) = search rules in
    let stopped : IsStopped (AreSpelled m (places_behind head)) rest stop =
    rw c.in-Ok-Err.field-0-is at c.in-Ok-Err.ensures.read in
    subst (IsRefused (AreSig m) blob) (sym c.fault-in-Ok-Err.ensures)
    (refused_by (AreSig m) blob stop (sig_stops_behind m blob rest head stop begun stopped))

pub returns-in-Ok-Err-clause-exact : goal.returns-in-Ok-Err-clause-exact
returns-in-Ok-Err-clause-exact c =
    let m : ℕ = c.args.module in
    let blob : List ℕ = c.args.blob.now in
    let head : Head = c.in-Ok.read.0 in
    let rest : List ℕ = c.in-Ok.read.1.now in
    let stop : Stop = c.in-Ok-Err.stop in
    let begun : head_at blob ≡ Ok (head, rest) = search rules in
    let stopped : types_in m (places_behind head) rest ≡ Err stop =
    rw c.in-Ok-Err.field-0-is at c.in-Ok-Err.ensures.exact in
    subst (λ (fault : SigFault). IsTold (Err fault) (signature m blob)) (sym c.fault-in-Ok-Err.ensures)
    (sig_stopped_behind m blob rest head stop begun stopped)

pub returns-in-Ok-say-clause-exact : goal.returns-in-Ok-say-clause-exact
returns-in-Ok-say-clause-exact c =
    let m : ℕ = c.args.module in
    let blob : List ℕ = c.args.blob.now in
    let head : Head = c.in-Ok.read.0 in
    let rest : List ℕ = c.in-Ok.read.1.now in
    let begun : head_at blob ≡ Ok (head, rest) = search rules in
    let types : types_in m (places_behind head) rest ≡ Ok c.in-Ok-Ok.types.items =
    rw c.in-Ok-Ok.field-0-is at c.in-Ok-Ok.ensures.exact in
    sig_read m blob rest head c.in-Ok-Ok.types.items c.in-Ok-say.sig begun types c.in-Ok-say.ensures.exact
