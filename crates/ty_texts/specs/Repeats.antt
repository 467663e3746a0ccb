-- Texts that were told so far.
use Rattle.std.specs.Prelude.{ℕ, ◌==◌, ◌&&◌, nat_lt, Bool, List, Vec}
use Rattle.std.specs.Global.{Global}
use Rattle.std.specs.List.{list_all, list_any, range_with_len}
use Rattle.std.specs.Str.{bytes_eq}
use Rattle.ty_names.specs.Modules.{World, tables_at}
use Rattle.ty_names.specs.Definitions.{enclosing, type_count}

-- whether keys have a text
abbrev pub tells : List (Vec ℕ Global) → List ℕ → Bool
tells keys text = list_any (λ key. bytes_eq text key.items) keys

-- ---- modules whose types stand behind those around them

-- each type of a module stands behind the one around it
abbrev pub are_in_order : World → ℕ → Bool
are_in_order world number =
    list_all (λ row. nat_lt (enclosing (tables_at world number) row) row)
    (range_with_len 1 (type_count (tables_at world number)))

-- the row of the type around, and the type's own name in its text
abbrev pub OwnKey : Type 0
OwnKey = ℕ × Vec ℕ Global

abbrev pub tells_own : List OwnKey → ℕ → List ℕ → Bool
tells_own keys outer own = list_any (λ key. outer == key.0 && bytes_eq own key.1.items) keys
