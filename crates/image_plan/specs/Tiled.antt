-- How the parts of an image tile its file.
use Rattle.std.specs.Prelude.{◌≡◌, ℕ, ◌+◌, ◌≤◌, ◌==◌, ◌&&◌, Bool, true, false, nat_le, nat_lt, if◌then◌else◌, List, []}
use Rattle.std.specs.Prelude.{◌∷◌, drop, length, take, Option, Some, None}
use Rattle.std.specs.List.{list_all}
use Rattle.ty_terms.specs.declared.nodes.Part.{Part}
use Rattle.ty_terms.specs.declared.nodes.PartKind.{PartKind}
use Rattle.ty_terms.specs.declared.nodes.PartKind.TheVariants.{Header, Runtime, Code, Table, Constant, Statics}
use Rattle.ty_terms.specs.declared.nodes.PartKind.TheVariants.{Record, Pad}
use Rattle.elf_file.specs.Elf.{file_of, text_size, up_to_page}
use Rattle.elf_file.specs.declared.layout.ElfLayout.{ElfLayout}
use Rattle.image_plan.specs.Conditions.{has_nodes}

-- where the last of the parts ends, if each begins where the one in front of it ends, the first at a place
abbrev pub tiled_to : ℕ → List Part → Option ℕ
tiled_to at [] = Some at
tiled_to at (part ∷ parts) = if part.at == at then tiled_to (at + part.size) parts else None

-- the place in the file at which the second segment begins
abbrev pub second_at : ElfLayout → ℕ
second_at layout = up_to_page (text_size layout)

abbrev pub is_zero : ℕ → Bool
is_zero byte = byte == 0

-- A pad has fewer than 16 bytes, but for the one that ends where the second segment begins, which has fewer than a
-- page. It lies in the second segment or in front of it.
abbrev pub is_pad_size : ℕ → ℕ → ℕ → Bool
is_pad_size second at size =
    if nat_le second at then nat_lt size 16
    else if at + size == second then nat_lt size 4096
    else (nat_lt size 16 && nat_le (at + size) second)

-- and it is zeros
abbrev pub is_pad : ElfLayout → Part → Bool
is_pad layout part =
    list_all is_zero (take part.size (drop part.at (file_of layout)))
    && is_pad_size (second_at layout) part.at part.size

abbrev pub is_in_first : ElfLayout → Part → Bool
is_in_first layout part = nat_le (part.at + part.size) (text_size layout)

abbrev pub is_in_second : ElfLayout → Part → Bool
is_in_second layout part = nat_le (second_at layout) part.at && has_nodes part.nodes

-- what stands in which segment, and what names nodes
abbrev pub is_placed : ElfLayout → PartKind → Part → Bool
is_placed layout Header part = is_in_first layout part
is_placed layout Runtime part = is_in_first layout part
is_placed layout Code part = is_in_first layout part && has_nodes part.nodes
is_placed layout Table part = is_in_second layout part
is_placed layout Constant part = is_in_second layout part
is_placed layout Statics part = is_in_second layout part
is_placed layout Record part = is_in_second layout part
is_placed layout Pad part = is_pad layout part

abbrev pub is_placed_part : ElfLayout → Part → Bool
is_placed_part layout part = is_placed layout part.kind part

abbrev pub is_runtime : PartKind → Bool
is_runtime Header = false
is_runtime Runtime = true
is_runtime Code = false
is_runtime Table = false
is_runtime Constant = false
is_runtime Statics = false
is_runtime Record = false
is_runtime Pad = false

-- how many bytes the parts of the runtime have together
abbrev pub runtime_bytes : List Part → ℕ
runtime_bytes [] = 0
runtime_bytes (part ∷ parts) = (if is_runtime part.kind then part.size else 0) + runtime_bytes parts

-- Each byte of the file belongs to one part, and the runtime has at most 64 KiB.
pub record IsTiled (layout : ElfLayout) (parts : List Part) : Type 0 where
  pub covers : tiled_to 0 parts ≡ Some (length (file_of layout))
  pub placed : list_all (is_placed_part layout) parts ≡ true
  pub runtime : runtime_bytes parts ≤ 65536
