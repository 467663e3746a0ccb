-- What must hold of the classes so that the module says what they say: each name is found once, each mnemonic is an
-- opcode of the standard, and each operand fits it.
use Rattle.std.specs.Prelude.{◌≡◌, ℕ, ◌+◌, ◌-◌, ◌%◌, ◌^◌, ◌==◌, ◌&&◌, nat_lt, Bool, true, false, not, List, [], ◌∷◌}
use Rattle.std.specs.Prelude.{Option, Some, None}
use Rattle.std.specs.List.{list_any, list_all}
use Rattle.std.specs.Str.{bytes_eq}
use Rattle.il_code.specs.declared.opcode.OperandForm.{OperandForm}
use Rattle.il_code.specs.declared.opcode.OperandForm.TheVariants.{Unsigned8, Signed8, Signed32, Target8, Target32}
use Rattle.il_code.specs.Instructions.{opcode_row, fixed_size}
use Rattle.core_lib.specs.Words.{CoreType, Element, Class, Value, Vector, Instance, Variable, MethodVariable, Mnemonic}
use Rattle.core_lib.specs.Words.{Line, At, Plain, Number, To, Text, Method, Field, Code, Cil}
use Rattle.core_lib.specs.Words.{CoreField, CoreMethod, CoreClass}
use Rattle.core_lib.specs.Code.{same, all_same, is_field, is_method, is_label, items_of, label_offset, line_size}
use Rattle.core_lib.specs.Classes.{instances, local_lists, texts}

-- the opcode of the number that a mnemonic has is its own (III.1.2.1)
abbrev pub IsOpcode : Mnemonic → Type 0
IsOpcode mnemonic = opcode_row mnemonic.number ≡ Some (mnemonic.op, mnemonic.form)

abbrev pub AreOpcodes : List Mnemonic → Type 0
AreOpcodes [] = Unit {0}
AreOpcodes (mnemonic ∷ rest) = IsOpcode mnemonic × AreOpcodes rest

-- ---- no two of a kind

abbrev pub is_new : {X : Type 0} → (X → X → Bool) → X → List X → Bool
is_new alike x xs = not (list_any (alike x) xs)

abbrev pub are_distinct : {X : Type 0} → (X → X → Bool) → List X → Bool
are_distinct alike [] = true
are_distinct alike (x ∷ xs) = is_new alike x xs && are_distinct alike xs

abbrev pub same_class : CoreClass → CoreClass → Bool
same_class a b = bytes_eq a.name b.name

abbrev pub same_field : CoreField → CoreField → Bool
same_field a b = bytes_eq a.name b.name

abbrev pub same_method : CoreMethod → CoreMethod → Bool
same_method a b = bytes_eq a.name b.name && all_same a.parameters b.parameters

-- ---- what is named is there

abbrev pub is_class : List CoreClass → List ℕ → Bool
is_class all name = list_any (λ class. bytes_eq class.name name) all

abbrev pub is_type : List CoreClass → CoreType → Bool
is_type all (Element byte) = true
is_type all (Class name) = is_class all name
is_type all (Value name) = is_class all name
is_type all (Vector kind) = is_type all kind
is_type all (Instance name argument) = is_class all name && is_type all argument
is_type all Variable = true
is_type all MethodVariable = true

-- the operand of a form that a number is
abbrev pub holds : OperandForm → ℕ → Bool
holds Unsigned8 number = nat_lt number (2 ^ 8)
holds Signed8 number = nat_lt number (2 ^ 7)
holds Signed32 number = nat_lt number (2 ^ 31)
holds form number = false

-- the operand of a form that a distance is, which is told by its lowest 32 bits
abbrev pub reaches : OperandForm → ℕ → Bool
reaches Target8 distance = nat_lt ((distance + 2 ^ 7) % 2 ^ 32) (2 ^ 8)
reaches Target32 distance = true
reaches form distance = false

-- The line, behind which the next begins at an offset of its code, has an operand that its opcode can have, and names a
-- label of the code, or a text, a method or a field of the core.
abbrev pub is_line : List CoreClass → List Line → ℕ → Line → Bool
is_line all code next (At label) = true
is_line all code next (Plain mnemonic) = fixed_size mnemonic.form == 0
is_line all code next (Number mnemonic number) = holds mnemonic.form number
is_line all code next (To mnemonic label) =
    list_any (is_label label) code && reaches mnemonic.form (2 ^ 32 + label_offset label code 0 - next)
is_line all code next (Text mnemonic text) = fixed_size mnemonic.form == 4 && list_any (bytes_eq text) texts
is_line all code next (Method mnemonic owner name parameters) =
    fixed_size mnemonic.form == 4
    && list_any (is_method name parameters) (items_of (λ class. class.methods) all owner)
is_line all code next (Field mnemonic owner name) =
    fixed_size mnemonic.form == 4 && list_any (is_field name) (items_of (λ class. class.fields) all owner)

-- lines that begin at an offset of the code
abbrev pub are_lines : List CoreClass → List Line → ℕ → List Line → Bool
are_lines all code at [] = true
are_lines all code at (line ∷ rest) =
    is_line all code (at + line_size line) line && are_lines all code (at + line_size line) rest

-- locals that are among the lists that bodies have, if there are any
abbrev pub are_locals : List CoreType → Bool
are_locals [] = true
are_locals (kind ∷ rest) = list_any (all_same (kind ∷ rest)) local_lists

abbrev pub is_code : List CoreClass → Code → Bool
is_code all (Cil locals lines) = are_locals locals && are_lines all lines 0 lines
is_code all code = true

abbrev pub is_base : List CoreClass → Option (List ℕ) → Bool
is_base all None = true
is_base all (Some name) = is_class all name

-- an interface of the core, or an instance of a generic one
abbrev pub is_interface : List CoreClass → CoreType → Bool
is_interface all (Class name) = is_class all name
is_interface all kind = list_any (same kind) instances

abbrev pub is_member : List CoreClass → CoreMethod → Bool
is_member all method =
    is_type all method.result && (list_all (is_type all) method.parameters && is_code all method.code)

-- the class names what is there, and no two of its fields and of its methods are alike
abbrev pub is_sound : List CoreClass → CoreClass → Bool
is_sound all class =
    is_base all class.base && list_all (is_interface all) class.interfaces
    && (list_all (λ field. is_type all field.kind) class.fields && list_all (is_member all) class.methods)
    && (are_distinct same_field class.fields && are_distinct same_method class.methods)

-- each class is sound, and no two have one name
abbrev pub are_sound : List CoreClass → Bool
are_sound all = list_all (is_sound all) all && are_distinct same_class all
