use Rattle.std.proofs.Common.{◌≡◌, ◌∙◌, ◌+◌, ◌*◌, ◌≤◌, ℕ, List, Option, length, ap, subst, ◌-◌, ◌<◌, arith}
use Rattle.std.proofs.lemmas.List.{length_push}
use Rattle.least_flow.specs.Solution.{row}
use Rattle.least_flow.specs.Telling.{heights, known_places}
use Rattle.least_flow.proofs.Rows.{heights-bound, if_known, known-bound}
use Rattle.least_flow.proofs.Looking.{ended}
use Rattle.least_flow.proofs.solve.settle.Goals as goal

smaller : (top high high' less waiting waiting' : ℕ) → high' ≤ top → waiting ≡ less + 1 → less ≤ waiting'
    → high + waiting' ≤ high' + less → 2 * (top - high') + waiting' < 2 * (top - high) + waiting
smaller top high high' less waiting waiting' below popped longer raised = omega arith

pub loop-place-smaller : goal.loop-place-smaller
loop-place-smaller g c =
    let flow = c.args.flow.now in
    let new : List (Option g.row.F-Fact.Denot) = c.look.new.table in
    let size : length new ≡ g.F.Flow.places flow = c.look.auto.table ∙ c.loop-place.invariant.size in
    let near : known_places new ≤ g.F.Flow.places flow = omega (arith, known-bound new, size) in
    let low = heights-bound (g.F.Flow.rank flow) (g.F.Flow.most flow) new
    (λ place. if_known (g.F.Flow.is_within flow (known_places new)) (λ a. g.F.Flow.rank flow a ≤ g.F.Flow.most flow)
    (λ a h. g.met.F.Flow.bounded flow a
    (g.met.F.Flow.widens flow (known_places new) (g.F.Flow.places flow) a near h)) (row new place)
    (c.in_ok-look.ensures.under_way.within place)) in
    smaller (g.F.Flow.places flow * (g.F.Flow.most flow + 1)) (heights (g.F.Flow.rank flow) c.loop-place.table)
    (heights (g.F.Flow.rank flow) new) (length c.pop.new.self.items) (length c.loop-place.waiting.items)
    (length c.look.new.waiting.items)
    (subst (λ n. heights (g.F.Flow.rank flow) new ≤ n * (g.F.Flow.most flow + 1)) size low)
    (ap length c.in-Some.ensures.items ∙ length_push c.pop.new.self.items c.in-Some.place)
    c.in_ok-look.ensures.longer c.in_ok-look.ensures.higher

pub returns : goal.returns
returns g c =
    let flow = c.args.flow.now in
    ended g.F.Flow.is_below (g.F.Flow.starts flow) (g.F.Flow.passes flow) (g.F.Flow.is_within flow) c.loop-place.table
    c.loop-place.waiting.items c.loop-place.invariant.under_way
    (omega (arith, c.loop-place.waiting.ok, c.in_default.ensures.cases.0))
