use Rattle.std.proofs.Common.{rules, ◌≡◌, ◌∙◌, ◌++◌, ◌∷◌, [], ℕ, List, ap}
use Rattle.std.specs.List.{flat_map}
use Rattle.il_text.specs.Words.{spaced}
use Rattle.il_text.specs.Instructions.{target_word}
use Rattle.il_text.proofs.Targets.{next_target, targets_text}
use Rattle.il_text.proofs.instruction.push_distances.Goals as goal

pub loop-index-preserved : goal.loop-index-preserved
loop-index-preserved c =
    let next : ℕ = c.args.next in
    let index : ℕ = c.loop-index.index in
    let bytes : List ℕ = c.args.bytes.now in
    let grown : c.push_target.new.out ≡ c.loop-index.out ++ flat_map spaced
    (target_word next c.distance_in.result ∷ []) =
    search rules in
    next_target next c.args.count index bytes c.loop-index.out c.push_target.new.out
    (c.args.out.now ++ targets_text next c.args.count bytes) c.loop-index-test.true c.loop-index.invariant
    (grown ∙ ap (λ d. c.loop-index.out ++ flat_map spaced (target_word next d ∷ [])) c.distance_in.ensures)
