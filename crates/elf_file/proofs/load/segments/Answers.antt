use Rattle.std.proofs.Common.{[]}
use Rattle.std.proofs.lemmas.Result.{err_from_is_err_and}
use Rattle.elf_file.specs.Elf.{with_headers}
use Rattle.elf_file.proofs.Gathering.{goes_on, ends, gathered}
use Rattle.elf_file.proofs.Sound.{with_headers-sound, no_segments}
use Rattle.elf_file.proofs.load.segments.Goals as goal

pub returns-in_err-segments-clause-exact : goal.returns-in_err-segments-clause-exact
returns-in_err-segments-clause-exact c =
    let p = err_from_is_err_and c.from_residual.result c.from_residual.ensures.1 in
    rw (p.1, p.2)
    (ends c.in_err-segments.field-0.0 c.args.file.now c.args.count c.loop.counter c.loop.place c.loop.segments
    (with_headers c.args.file.now c.args.count c.args.start []) c.loop-test.true c.in_err-segments.ensures.exact
    c.loop.invariant)

pub loop-preserved : goal.loop-preserved
loop-preserved c =
    goes_on c.args.file.now c.args.count c.loop.counter c.loop.place c.loop.segments c.in_ok-segments.segments
    (with_headers c.args.file.now c.args.count c.args.start []) c.loop-test.true c.in_ok-segments.ensures.exact
    c.loop.invariant

pub returns-clause-disjoint : goal.returns-clause-disjoint
returns-clause-disjoint c = (with_headers-sound c.args.file.now c.args.count c.args.start [] c.loop.segments no_segments
    (gathered c.args.file.now c.args.count c.loop.counter c.loop.place c.loop.segments
    (with_headers c.args.file.now c.args.count c.args.start []) c.loop-test.false c.loop.invariant)).disjoint

pub returns-clause-within : goal.returns-clause-within
returns-clause-within c = (with_headers-sound c.args.file.now c.args.count c.args.start [] c.loop.segments no_segments
    (gathered c.args.file.now c.args.count c.loop.counter c.loop.place c.loop.segments
    (with_headers c.args.file.now c.args.count c.args.start []) c.loop-test.false c.loop.invariant)).within
