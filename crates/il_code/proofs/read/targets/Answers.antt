use Rattle.std.proofs.Common.{rules, ◌≡◌, ◌∙◌, ◌+◌, ◌-◌, ◌*◌, ◌∷◌, ◌++◌, [], ℕ, List, drop, ap, subst, sym}
use Rattle.byteorder.specs.Endian.{little_number, twos_complement}
use Rattle.il_code.specs.Instructions.{target_of, targets_of}
use Rattle.il_code.proofs.Targets.{next_target}
use Rattle.il_code.proofs.read.targets.Goals as goal

pub loop-index-preserved : goal.loop-index-preserved
loop-index-preserved c =
    let next : ℕ = c.args.next in
    let count : ℕ = c.args.count in
    let index : ℕ = c.loop-index.index in
    let bytes : List ℕ = c.args.bytes.now in
    let value : c.target_in-target.result ≡ target_of next (twos_complement 4
    (little_number 4 (drop (4 * index) bytes))) =
    c.target_in-target.ensures in
    let pushed : c.push.new.self ≡ c.loop-index.targets ++ c.target_in-target.result ∷ [] = search rules in
    let grown : c.push.new.self ≡ c.loop-index.targets ++ target_of next
    (twos_complement 4 (little_number 4 (drop (4 * index) bytes))) ∷ [] =
    pushed ∙ ap (λ t. c.loop-index.targets ++ t ∷ []) value in
    subst (λ done. targets_of next count bytes ≡ done ++ targets_of next (count - (index + 1))
    (drop (4 * (index + 1)) bytes)) (sym grown)
    (next_target next count index bytes c.loop-index.targets (targets_of next count bytes) c.loop-index-test.true
    c.loop-index.invariant)
