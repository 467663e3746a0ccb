-- The bytes of the core's signatures and bodies: ECMA-335 II.23.2, II.25.4 and III.1.2. `all` are the classes that
-- names are searched in.
use Rattle.std.specs.Prelude.{ℕ, suc, ◌+◌, ◌-◌, ◌*◌, ◌%◌, ◌^◌, ◌==◌, ◌&&◌, Bool, true, false, nat_lt}
use Rattle.std.specs.Prelude.{if◌then◌else◌, List, [], ◌∷◌, ◌++◌, length}
use Rattle.std.specs.List.{flat_map, list_any}
use Rattle.std.specs.Str.{bytes_eq}
use Rattle.byteorder.specs.Endian.{little_bytes}
use Rattle.md_heaps.specs.Heaps.{spelling}
use Rattle.il_code.specs.Instructions.{fixed_size}
use Rattle.core_lib.specs.Words.{CoreType, Element, Class, Value, Vector, Instance, Variable, MethodVariable, Mnemonic}
use Rattle.core_lib.specs.Words.{Line, At, Plain, Number, To, Text, Method, Field}
use Rattle.core_lib.specs.Words.{CoreField, CoreMethod, CoreClass}

-- ---- where things stand

-- the row of the first item that passes a test, counted from 1; where none does, the one behind the last
abbrev pub row_where : {X : Type 0} → (X → Bool) → List X → ℕ
row_where test [] = 1
row_where test (x ∷ xs) = if test x then 1 else suc (row_where test xs)

-- the row of the class of a name
abbrev pub class_row : List CoreClass → List ℕ → ℕ
class_row all name = row_where (λ class. bytes_eq class.name name) all

-- the first row of a class's own items, where each class has some
abbrev pub rows_in_front : {X : Type 0} → (CoreClass → List X) → List CoreClass → List ℕ → ℕ
rows_in_front items [] name = 0
rows_in_front items (class ∷ rest) name =
    if bytes_eq class.name name then 0 else length (items class) + rows_in_front items rest name

-- what the class of a name has
abbrev pub items_of : {X : Type 0} → (CoreClass → List X) → List CoreClass → List ℕ → List X
items_of items [] name = []
items_of items (class ∷ rest) name = if bytes_eq class.name name then items class else items_of items rest name

-- the row of the first item of a class that passes a test
abbrev pub member_row : {X : Type 0} → (CoreClass → List X) → (X → Bool) → List CoreClass → List ℕ → ℕ
member_row items test all owner = rows_in_front items all owner + row_where test (items_of items all owner)

-- the same type
abbrev pub same : CoreType → CoreType → Bool
same (Element a) (Element b) = a == b
same (Class a) (Class b) = bytes_eq a b
same (Value a) (Value b) = bytes_eq a b
same (Vector a) (Vector b) = same a b
same (Instance a x) (Instance b y) = bytes_eq a b && same x y
same Variable Variable = true
same MethodVariable MethodVariable = true
same a b = false

-- the same types, one for one
abbrev pub all_same : List CoreType → List CoreType → Bool
all_same [] [] = true
all_same (a ∷ left) (b ∷ right) = same a b && all_same left right
all_same left right = false

abbrev pub is_field : List ℕ → CoreField → Bool
is_field name field = bytes_eq field.name name

abbrev pub is_method : List ℕ → List CoreType → CoreMethod → Bool
is_method name parameters method = bytes_eq method.name name && all_same method.parameters parameters

-- ---- signatures

-- the index of a class among types that are defined, are referred to or are instances (II.23.2.8)
abbrev pub class_index : List CoreClass → List ℕ → List ℕ
class_index all name = spelling (4 * class_row all name)

-- a type (II.23.2.12)
abbrev pub type_bytes : List CoreClass → CoreType → List ℕ
type_bytes all (Element byte) = byte ∷ []
type_bytes all (Class name) = 0x12 ∷ class_index all name
type_bytes all (Value name) = 0x11 ∷ class_index all name
type_bytes all (Vector kind) = 0x1D ∷ type_bytes all kind
type_bytes all (Instance name argument) = 0x15 ∷ 0x12 ∷ (class_index all name ++ (1 ∷ type_bytes all argument))
type_bytes all Variable = 0x13 ∷ 0 ∷ []
type_bytes all MethodVariable = 0x1E ∷ 0 ∷ []

-- types behind their number
abbrev pub counted : List CoreClass → List CoreType → List ℕ
counted all types = spelling (length types) ++ flat_map (type_bytes all) types

-- FieldSig, MethodDefSig and LocalVarSig (II.23.2.4, II.23.2.1, II.23.2.6)
abbrev pub field_blob : List CoreClass → CoreField → List ℕ
field_blob all field = 0x06 ∷ type_bytes all field.kind

abbrev pub method_blob : List CoreClass → CoreMethod → List ℕ
method_blob all method =
    (if method.is_static then 0x00 else 0x20)
    ∷ (spelling (length method.parameters)
    ++ (type_bytes all method.result ++ flat_map (type_bytes all) method.parameters))

abbrev pub locals_blob : List CoreClass → List CoreType → List ℕ
locals_blob all locals = 0x07 ∷ counted all locals

-- ---- texts (II.24.2.4)

-- a text that has ASCII characters alone, as a user string: its units behind their number of bytes, and behind them a
-- byte that is 1 where a unit is one of those that sort by a rule of their own
abbrev pub is_special : ℕ → Bool
is_special unit = list_any (λ other. other == unit)
    (1 ∷ 2 ∷ 3 ∷ 4 ∷ 5 ∷ 6 ∷ 7 ∷ 8 ∷ 0x0E ∷ 0x0F ∷ 0x10 ∷ 0x11 ∷ 0x12 ∷ 0x13 ∷ 0x14 ∷ 0x15 ∷ 0x16 ∷ 0x17 ∷ 0x18 ∷ 0x19
    ∷ 0x1A ∷ 0x1B ∷ 0x1C ∷ 0x1D ∷ 0x1E ∷ 0x1F ∷ 0x27 ∷ 0x2D ∷ 0x7F ∷ [])

abbrev pub text_blob : List ℕ → List ℕ
text_blob text =
    spelling (2 * length text + 1)
    ++ (flat_map (λ unit. unit ∷ 0 ∷ []) text ++ (if list_any is_special text then 1 else 0) ∷ [])

-- the heap of these texts, behind the empty blob
abbrev pub heap_of : List (List ℕ) → List ℕ
heap_of texts = 0 ∷ flat_map text_blob texts

-- where a text stands in the heap, from a place on
abbrev pub text_place : List ℕ → List (List ℕ) → ℕ → ℕ
text_place text [] at = at
text_place text (other ∷ rest) at =
    if bytes_eq other text then at else text_place text rest (at + length (text_blob other))

-- ---- code

-- an opcode (III.1.2.1)
abbrev pub opcode_bytes : Mnemonic → List ℕ
opcode_bytes mnemonic =
    if nat_lt mnemonic.number 0x100 then mnemonic.number ∷ [] else 0xFE ∷ mnemonic.number % 0x100 ∷ []

-- how many bytes an instruction takes
abbrev pub size : Mnemonic → ℕ
size mnemonic = length (opcode_bytes mnemonic) + fixed_size mnemonic.form

abbrev pub line_size : Line → ℕ
line_size (At label) = 0
line_size (Plain mnemonic) = size mnemonic
line_size (Number mnemonic number) = size mnemonic
line_size (To mnemonic label) = size mnemonic
line_size (Text mnemonic text) = size mnemonic
line_size (Method mnemonic owner name parameters) = size mnemonic
line_size (Field mnemonic owner name) = size mnemonic

abbrev pub is_label : List ℕ → Line → Bool
is_label label (At other) = bytes_eq other label
is_label label line = false

-- the offset of a label, from an offset on
abbrev pub label_offset : List ℕ → List Line → ℕ → ℕ
label_offset label [] at = at
label_offset label (line ∷ rest) at =
    if is_label label line then at else label_offset label rest (at + line_size line)

-- an instruction and its operand, of which the lowest bytes are taken that its form has
abbrev pub instruction : Mnemonic → ℕ → List ℕ
instruction mnemonic operand = opcode_bytes mnemonic ++ little_bytes (fixed_size mnemonic.form) operand

-- The bytes of a line of this code, behind which the next begins at an offset. A branch tells the distance from there;
-- a text, a method and a field are told by their tokens (II.22, III.1.9).
abbrev pub line_bytes : List CoreClass → List (List ℕ) → List Line → ℕ → Line → List ℕ
line_bytes all texts code next (At label) = []
line_bytes all texts code next (Plain mnemonic) = opcode_bytes mnemonic
line_bytes all texts code next (Number mnemonic number) = instruction mnemonic number
line_bytes all texts code next (To mnemonic label) = instruction mnemonic (2 ^ 32 + label_offset label code 0 - next)
line_bytes all texts code next (Text mnemonic text) = instruction mnemonic (0x7000_0000 + text_place text texts 1)
line_bytes all texts code next (Method mnemonic owner name parameters) =
    instruction mnemonic (0x0600_0000 + member_row (λ class. class.methods) (is_method name parameters) all owner)
line_bytes all texts code next (Field mnemonic owner name) =
    instruction mnemonic (0x0400_0000 + member_row (λ class. class.fields) (is_field name) all owner)

-- the bytes of lines that begin at an offset of the code
abbrev pub lines_bytes : List CoreClass → List (List ℕ) → List Line → ℕ → List Line → List ℕ
lines_bytes all texts code at [] = []
lines_bytes all texts code at (line ∷ rest) =
    line_bytes all texts code (at + line_size line) line ++ lines_bytes all texts code (at + line_size line) rest

-- ---- bodies (II.25.4)

-- a tiny header, or a fat one with eight slots of stack, locals that are zeroed, and their token
abbrev pub with_header : ℕ → List ℕ → List ℕ
with_header locals code =
    if locals == 0 && nat_lt (length code) 64
    then (4 * length code + 2) ∷ code
    else 0x13 ∷ 0x30 ∷ (little_bytes 2 8 ++ (little_bytes 4 (length code) ++ (little_bytes 4 locals ++ code)))

-- the token of a list of locals among those that there are; of none it is 0
abbrev pub locals_token : List (List CoreType) → List CoreType → ℕ
locals_token lists [] = 0
locals_token lists (kind ∷ rest) = 0x1100_0000 + row_where (all_same (kind ∷ rest)) lists

abbrev pub body_of : List CoreClass → List (List ℕ) → List (List CoreType) → List CoreType → List Line → List ℕ
body_of all texts lists locals lines = with_header (locals_token lists locals) (lines_bytes all texts lines 0 lines)
