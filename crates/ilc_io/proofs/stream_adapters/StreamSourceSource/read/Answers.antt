use Rattle.std.proofs.Common.{◌≡◌, Some, drop, ap, ◌∙◌}
use Rattle.ilc_io.specs.Stream.{told_by}
use Rattle.ilc_io.proofs.Told.{told_known, known_after}
use Rattle.ilc_io.proofs.stream_adapters.StreamSourceSource.read.Goals as goal

pub invariant_of-self : goal.invariant_of-self
invariant_of-self g c = λ tells. known_after (drop c.in-Ok.count) _ _ (c.self.invariant tells) c.in-Ok.ensures.taken

pub returns-in-Ok-clause-exact : goal.returns-in-Ok-clause-exact
returns-in-Ok-clause-exact g c = λ left told.
    let known : told_by c.self.inside.tells (g.R.Read.remaining c.self.inside.reader) ≡ Some left =
    ap (λ s. s.told) c.self.view_is ∙ told in
    c.in-Ok.ensures.read left (told_known _ _ left known)
