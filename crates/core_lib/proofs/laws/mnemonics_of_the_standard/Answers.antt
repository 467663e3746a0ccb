use Rattle.std.proofs.Common.{refl}
use Rattle.il_code.specs.Instructions.{opcode_row}
use Rattle.il_code.specs.Opcodes.{opcodes}
use Rattle.core_lib.proofs.laws.mnemonics_of_the_standard.Goals as goal

pub returns : goal.returns
unfolding opcode_row opcodes
returns c = (
  refl,
  (
    refl,
    (
      refl,
      (
        refl,
        (
          refl,
          (
            refl,
            (
              refl,
              (
                refl,
                (
                  refl,
                  (
                    refl,
                    (
                      refl,
                      (
                        refl,
                        (refl, (refl, (refl, (refl, (refl, (refl, (refl, (refl, (refl, (refl, (refl, (refl, (refl, tt))))))))))))),
                      ),
                    ),
                  ),
                ),
              ),
            ),
          ),
        ),
      ),
    ),
  ),
)
