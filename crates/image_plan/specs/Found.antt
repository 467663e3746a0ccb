-- What a map of addresses tells.
use Rattle.std.specs.Prelude.{◌≡◌, ℕ, ◌==◌, ◌&&◌, Bool, cond, List, Option, Some}
use Rattle.std.specs.Map.{lookup}
use Rattle.num_core.specs.declared.fix.FixKind.{FixKind}
use Rattle.image_plan.specs.Places.{address_among, is_name, kind_number}
use Rattle.image_plan.specs.declared.names.Name.{Name}

-- addresses by the number of a kind, and an item
abbrev pub Found : Type 0
Found = List ((ℕ × ℕ) × ℕ)

abbrev pub is_key : FixKind → ℕ → ℕ × ℕ → Bool
is_key kind item key = kind_number kind == key.0 && item == key.1

-- the address that entries tell
abbrev pub address_in : Found → FixKind → ℕ → Option ℕ
address_in found kind item = lookup (is_key kind item) found

-- they tell one more, in place of one of the same name
abbrev pub TellsOneMore : Name → Found → Found → Type 0
TellsOneMore name old new =
    (kind : FixKind) (item : ℕ) → address_in new kind item
    ≡ cond (is_name kind item name) (Some name.address) (address_in old kind item)

abbrev pub TellsNames : List Name → Found → Type 0
TellsNames names found = (kind : FixKind) (item : ℕ) → address_in found kind item ≡ address_among names kind item
