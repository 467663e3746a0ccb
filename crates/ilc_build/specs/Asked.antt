-- What is asked of each instruction to which control comes.
use Rattle.std.specs.Prelude.{Bool, List}
use Rattle.il_code.specs.declared.body.Instr.{Instr}
use Rattle.ilc_build.specs.Depths.{stays_inside, has_operation, is_verified_at}
use Rattle.ilc_build.specs.Typing.{tiny_max_stack}
use Rattle.ilc_build.specs.declared.bare.Test.{Test}
use Rattle.ilc_build.specs.declared.bare.Test.TheVariants.{StaysInside, HasOperation, IsVerified}
use Rattle.ilc_build.specs.declared.depths.Known.{Known}

-- the test of each name, among these instructions
abbrev pub test_of : Test → List Instr → Known → Instr → Bool
test_of StaysInside instrs = stays_inside instrs
test_of HasOperation instrs = has_operation
test_of IsVerified instrs = is_verified_at tiny_max_stack
