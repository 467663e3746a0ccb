use Rattle.std.proofs.Common.{◌≡◌, ◌∙◌, ◌++◌, ℕ, List, Some, None, OnOk, subst, rules}
use Rattle.il_code.specs.Listing.{listed}
use Rattle.il_text.specs.Listing.{instructions_text}
use Rattle.il_text.proofs.Growing.{as_instructions, as_bytes}
use Rattle.il_text.proofs.body.push_code.Goals as goal

pub returns-in-Some : goal.returns-in-Some
returns-in-Some c =
    let code : List ℕ = c.args.code.now in
    let lines : List ℕ = c.in-Some.lines in
    let same : c.as_slice.result.now ≡ lines = search rules in
    let found : instructions_text code (listed code) ≡ Some lines = search rules in
    subst (λ (text : List ℕ). OnOk c.extend_from_slice.result (c.extend_from_slice.new.self ≡ c.args.out.now ++ text))
    (same ∙ as_instructions code lines found) c.extend_from_slice.ensures.ok

pub returns-in-None : goal.returns-in-None
returns-in-None c =
    let code : List ℕ = c.args.code.now in
    let found : instructions_text code (listed code) ≡ None = search rules in
    subst (λ (text : List ℕ). OnOk c.push_bytes_line.result (c.push_bytes_line.new.out ≡ c.args.out.now ++ text))
    (as_bytes code found) c.push_bytes_line.ensures.line
