-- What a store of files contains, and what each call makes of it.
use Rattle.std.specs.Prelude.{◌≡◌, ◌⊎◌, ℕ, ◌<◌, List, [], ◌++◌, length, take, Option, unwrap_or}
use Rattle.std.specs.Option.{option_map}
use Rattle.std.specs.Ordering.{nat_cmp}
use Rattle.std.specs.Cmp.Lexicographic.{slice_cmp}
use Rattle.std.specs.FinMap.{FinMap, get, insert}

-- the files of a store: from the bytes of each name to the bytes of its file
abbrev pub Store : Type 0
Store = FinMap (slice_cmp nat_cmp) (List ℕ)

-- the names that `size` was asked for, each with its answer, in the order of the calls
abbrev pub Asked : Type 0
Asked = List (List ℕ × Option ℕ)

-- what a name reads as: the bytes of its file, or no bytes where there is no such file
abbrev pub content : Store → List ℕ → List ℕ
content store name = unwrap_or (get store name) []

-- the size of a file, or nothing where there is no such file
abbrev pub size_of : Store → List ℕ → Option ℕ
size_of store name = option_map length (get store name)

-- the store with these bytes as the whole file of a name, and every other file as before
abbrev pub stored : List ℕ → List ℕ → Store → Store
stored name bytes store = insert store name bytes

-- the store with these bytes added at the end of the file of a name, which they begin where there is none
abbrev pub appended : List ℕ → List ℕ → Store → Store
appended name bytes store = insert store name (content store name ++ bytes)

-- what is left of a write that broke off: the store as before, or with less than all of the bytes, from
-- the first on, as the file of the name
abbrev pub IsPartlyStored : List ℕ → List ℕ → Option Store → Option Store → Type 0
IsPartlyStored name bytes old new =
    (new ≡ old) ⊎ ((count : ℕ) × (count < length bytes) × (new ≡ option_map (stored name (take count bytes)) old))
