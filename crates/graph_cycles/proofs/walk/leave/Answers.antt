use Rattle.std.proofs.Common.{◌≡◌, Bool, true, false, List, ℕ, sym, subst}
use Rattle.std.specs.List.{list_all}
use Rattle.graph_cycles.specs.Ways.{targets}
use Rattle.graph_cycles.specs.Marks.{AreOff, is_done}
use Rattle.graph_cycles.proofs.Marking.{left_behind}
use Rattle.graph_cycles.proofs.walk.leave.Goals as goal

pub returns-then-are_done : goal.returns-then-are_done
returns-then-are_done c =
    let graph : List (List ℕ) = c.args.graph.now in
    let left : List Bool = c.args.left.now in
    let unseen : is_done left c.args.place ≡ false = cc (c.is_done.ensures, c.if-not-is_done.true) in
    let all : list_all (is_done left) (targets graph c.args.place) ≡ true =
    cc (c.are_done.ensures, c.if-are_done.true, c.targets.ensures) in
    subst (AreOff graph) (sym c.mark.ensures) (left_behind graph left c.args.place c.requires unseen all)
