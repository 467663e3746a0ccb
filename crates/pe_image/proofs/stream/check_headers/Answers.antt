use Rattle.std.proofs.Common.{◌≡◌, ◌∙◌, ℕ, List, suc, ◌-◌, Some, sym, arith}
use Rattle.pe_image.specs.Streams.{header}
use Rattle.pe_image.proofs.Streams.{headers_on}
use Rattle.pe_image.proofs.stream.check_headers.Goals as goal

pub loop-left-preserved : goal.loop-left-preserved
loop-left-preserved c =
    let root : List ℕ = c.args.root.now in
    let found : header root c.loop-left.place ≡ Some (c.in-Some.size, c.in-Some.field-0-1) = sym c.header.ensures.value
    ∙ c.in-Some.is in
    let left : c.loop-left.left ≡ suc (c.loop-left.left - 1) = omega (arith, c.loop-left-test.true) in
    record {
      inside = c.in-Some.ensures.whole;
      same = c.loop-left.invariant.same
          ∙ headers_on c.args.at root c.loop-left.left (c.loop-left.left - 1) c.loop-left.place c.in-Some.size
          c.in-Some.field-0-1 left found;
    }
