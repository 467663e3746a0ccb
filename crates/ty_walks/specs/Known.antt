-- Definitions that are kept in a table.
use Rattle.std.specs.Prelude.{◌≡◌, ℕ, ◌&&◌, ◌==◌, Bool, List}
use Rattle.std.specs.List.{list_any}
use Rattle.ty_terms.specs.declared.names.TypeId.{TypeId}

abbrev pub same_key : ℕ × ℕ → ℕ × ℕ → Bool
same_key a b = a.0 == b.0 && a.1 == b.1

abbrev pub key_of : TypeId → ℕ × ℕ
key_of id = (id.module, id.row)

-- a key is among these exactly where it is that of a definition
abbrev pub TellIds : List TypeId → List (ℕ × ℕ) → Type 0
TellIds ids keys = (key : ℕ × ℕ) → list_any (same_key key) keys ≡ list_any (λ id. same_key (key_of id) key) ids
