use Rattle.std.proofs.Common.{◌≡◌, drop}
use Rattle.ilc_build.specs.Asked.{test_of}
use Rattle.ilc_build.specs.Depths.{first_against as first_against_of}
use Rattle.ilc_build.proofs.bare.first_against.Given as goal

abbrev pub invariant-loop-index : goal.invariant-loop-index
invariant-loop-index l = first_against_of (test_of l.test l.instrs) l.instrs l.table ≡ first_against_of
    (test_of l.test l.instrs) (drop l.index l.instrs) (drop l.index l.table)
