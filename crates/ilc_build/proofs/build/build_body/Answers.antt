use Rattle.std.proofs.lemmas.Result.{IfErr-weaker}
use Rattle.ilc_build.proofs.Refused.{is_not_refused}
use Rattle.ilc_build.proofs.build.build_body.Goals as goal

pub returns-clause-complete : goal.returns-clause-complete
returns-clause-complete c body table reads =
    IfErr-weaker c.build.result _ _ (λ fault not_bare. is_not_refused c.args.bytes.now body table fault reads not_bare)
    c.build.ensures.refused
