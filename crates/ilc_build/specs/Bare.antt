-- Bare bodies: a file that is one tiny header and its code.
use Rattle.std.specs.Prelude.{◌≡◌, ℕ, ◌<◌, List, [], ◌∷◌, length, Option, Some, None, Ok}
use Rattle.il_code.specs.declared.body.Body.{Body}
use Rattle.il_code.specs.declared.body.Instr.{Instr}
use Rattle.il_code.specs.Listing.{listed, first_bad_target}
use Rattle.il_code.specs.Tiny.{tiny_body}
use Rattle.ilc_build.specs.Depths.{IsLeast, first_against, stays_inside, has_operation, is_verified_at}
use Rattle.ilc_build.specs.Typing.{tiny_max_stack}
use Rattle.ilc_build.specs.declared.depths.Known.{Known}

-- The offset of the first instruction from which control runs past the end of the code, and 0 of empty code.
abbrev pub first_past : List Instr → List Known → Option ℕ
first_past [] table = Some 0
first_past (i ∷ instrs) table = first_against (stays_inside (i ∷ instrs)) (i ∷ instrs) table

-- The code is that of a body under a tiny header, each target is an instruction, and the table tells what is known
-- before each of them. By it control doesn't run past the end of the code, and each instruction that it comes to has an
-- operation and doesn't fail.
pub record IsBareCode (code : List ℕ) (body : Body) (table : List Known) : Type 0 where
  pub instructions : listed code ≡ Ok body.code
  pub targets : first_bad_target body.code ≡ None
  pub least : IsLeast body.code table
  pub past : first_past body.code table ≡ None
  pub operations : first_against has_operation body.code table ≡ None
  pub verified : first_against (is_verified_at tiny_max_stack) body.code table ≡ None
  pub max_stack : body.max_stack ≡ tiny_max_stack
  pub locals : body.locals ≡ 0
  pub clauses : body.clauses ≡ []

-- A bare body is read from the bytes of a file. A tiny header has six bits for the size.
pub record ReadsBare (bytes : List ℕ) (body : Body) (table : List Known) : Type 0 where
  pub code : List ℕ
  pub header : tiny_body bytes ≡ Ok code
  pub size : length code < 64
  pub bare : IsBareCode code body table
