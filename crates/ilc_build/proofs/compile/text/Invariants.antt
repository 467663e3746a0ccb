use Rattle.std.proofs.Common.{◌≡◌, take}
use Rattle.ilc_build.specs.Code.{text_of}
use Rattle.ilc_build.proofs.compile.text.Given as goal

abbrev pub invariant-loop-ins : goal.invariant-loop-ins
invariant-loop-ins l = l.text ≡ text_of (take l.ins-index l.code)
