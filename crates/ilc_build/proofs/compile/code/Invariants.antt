use Rattle.std.proofs.Common.{◌≡◌, ◌≤◌, ◌*◌, ◌++◌, All, drop, take, length}
use Rattle.ilc_build.specs.Code.{code_of, code_from, place_of, IsInt32Instr}
use Rattle.ilc_build.proofs.compile.code.Given as goal

abbrev pub invariant-loop-index : goal.invariant-loop-index
invariant-loop-index l = record {
  code : code_of l.instrs l.table ≡ l.code.items
      ++ code_from (place_of l.instrs l.table) (length l.code.items) (drop l.index l.instrs) (drop l.index l.table);
  constants : All IsInt32Instr (take l.index l.instrs);
  few : length l.code.items ≤ 5 * l.index;
}
