use Rattle.std.proofs.Common.{◌∙◌, sym}
use Rattle.std.proofs.lemmas.Result.{IfOk-weaker}
use Rattle.ilc_io.proofs.Pieces.{whole_content}
use Rattle.ilc_io.proofs.whole.read_file.Goals as goal

pub returns-clause-content : goal.returns-clause-content
returns-clause-content g c = λ store told.
    IfOk-weaker c.read_content.result _ _
    (λ bytes is. whole_content _ _ bytes (sym c.in-Some.is ∙ c.in_ok-size.ensures.exact store told) is)
    (c.read_content.ensures.content store (c.in_ok-size.ensures.same_files ∙ told))
