use Rattle.std.proofs.Common.{sym, ap, ◌∙◌, map}
use Rattle.ty_terms.specs.declared.ty.Ty.TheVariants.{Named}
use Rattle.ty_terms.specs.Canon.{canonical, canonical_argument}
use Rattle.ty_terms.proofs.CanonLaws.{canonical_named}
use Rattle.ty_terms.proofs.canonical.+canon.Goals as goal

pub canon-returns-in_ok-args-in-Named : goal.canon-returns-in_ok-args-in-Named
canon-returns-in_ok-args-in-Named t c =
    ap (Named c.in-Named.id) (c.in_ok-args-in-Named.ensures ∙ ap (map (canonical_argument c.args.values.now))
    c.as_slice.ensures)
    ∙ sym (canonical_named c.args.values.now c.in-Named.id c.in-Named.args)
    ∙ sym (ap (canonical c.args.values.now) c.in-Named.is)
