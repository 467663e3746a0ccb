-- The words in which the core's types are written down: types as C# names them, attributes as ECMA-335 II.23.1 has
-- them, and lines of CIL with their mnemonics (partition III).
use Rattle.std.specs.Prelude.{ℕ, Bool, true, false, List, [], ◌∷◌, codes, Option, Some, None}
use Prim.Native.String.{String}
use Rattle.il_code.specs.declared.opcode.Op.{Op}
use Rattle.il_code.specs.declared.opcode.OperandForm.{OperandForm}
use Rattle.il_code.specs.declared.opcode.OperandForm.TheVariants.{Absent, Unsigned8, Signed8, Signed32, Token, Target8}
use Rattle.core_lib.specs.declared.runtime.RuntimeCall.{RuntimeCall}

-- ---- types

-- A type as a signature spells it (II.23.2.12): one that has an element type of its own, a class or a value type of the
-- core by its name, a vector, an instance of a generic class of the core with one argument, or the first variable of a
-- generic class or of a generic method.
pub data CoreType : Type 0 where
  Element : ℕ → CoreType
  Class : List ℕ → CoreType
  Value : List ℕ → CoreType
  Vector : CoreType → CoreType
  Instance : List ℕ → CoreType → CoreType
  Variable : CoreType
  MethodVariable : CoreType

-- the element types of II.23.1.16, as C# names them
abbrev pub void : CoreType
void = Element 0x01

abbrev pub bool : CoreType
bool = Element 0x02

abbrev pub char : CoreType
char = Element 0x03

abbrev pub int : CoreType
int = Element 0x08

abbrev pub long : CoreType
long = Element 0x0A

abbrev pub string : CoreType
string = Element 0x0E

abbrev pub nint : CoreType
nint = Element 0x18

abbrev pub object : CoreType
object = Element 0x1C

abbrev pub class : String → CoreType
class name = Class (codes name)

abbrev pub value : String → CoreType
value name = Value (codes name)

abbrev pub instance : String → CoreType → CoreType
instance name argument = Instance (codes name) argument

-- ---- lines of CIL

-- an opcode with the number that the standard gives it and the form of its operand (III.1.2.1)
pub record Mnemonic : Type 0 where
  pub op : Op
  pub number : ℕ
  pub form : OperandForm

abbrev mnemonic : Op → ℕ → OperandForm → Mnemonic
mnemonic op number form = record { op = op; number = number; form = form }

abbrev pub ldarg_0 : Mnemonic
ldarg_0 = mnemonic Op.Ldarg0 0x02 Absent

abbrev pub ldarg_1 : Mnemonic
ldarg_1 = mnemonic Op.Ldarg1 0x03 Absent

abbrev pub ldarg_2 : Mnemonic
ldarg_2 = mnemonic Op.Ldarg2 0x04 Absent

abbrev pub starg_s : Mnemonic
starg_s = mnemonic Op.StargS 0x10 Unsigned8

abbrev pub ldc_i4_s : Mnemonic
ldc_i4_s = mnemonic Op.LdcI4S 0x1F Signed8

abbrev pub ldc_i4 : Mnemonic
ldc_i4 = mnemonic Op.LdcI4 0x20 Signed32

abbrev pub dup : Mnemonic
dup = mnemonic Op.Dup 0x25 Absent

abbrev pub pop : Mnemonic
pop = mnemonic Op.Pop 0x26 Absent

abbrev pub call : Mnemonic
call = mnemonic Op.Call 0x28 Token

abbrev pub ret : Mnemonic
ret = mnemonic Op.Ret 0x2A Absent

abbrev pub br_s : Mnemonic
br_s = mnemonic Op.BrS 0x2B Target8

abbrev pub brtrue_s : Mnemonic
brtrue_s = mnemonic Op.BrtrueS 0x2D Target8

abbrev pub bge_s : Mnemonic
bge_s = mnemonic Op.BgeS 0x2F Target8

abbrev pub blt_s : Mnemonic
blt_s = mnemonic Op.BltS 0x32 Target8

abbrev pub bne_un_s : Mnemonic
bne_un_s = mnemonic Op.BneUnS 0x33 Target8

abbrev pub and : Mnemonic
and = mnemonic Op.And 0x5F Absent

abbrev pub or : Mnemonic
or = mnemonic Op.Or 0x60 Absent

abbrev pub shr : Mnemonic
shr = mnemonic Op.Shr 0x63 Absent

abbrev pub ldstr : Mnemonic
ldstr = mnemonic Op.Ldstr 0x72 Token

abbrev pub newobj : Mnemonic
newobj = mnemonic Op.Newobj 0x73 Token

abbrev pub throw : Mnemonic
throw = mnemonic Op.Throw 0x7A Absent

abbrev pub ldfld : Mnemonic
ldfld = mnemonic Op.Ldfld 0x7B Token

abbrev pub stfld : Mnemonic
stfld = mnemonic Op.Stfld 0x7D Token

abbrev pub stsfld : Mnemonic
stsfld = mnemonic Op.Stsfld 0x80 Token

abbrev pub ceq : Mnemonic
ceq = mnemonic Op.Ceq 0xFE01 Absent

-- all of these
abbrev pub mnemonics : List Mnemonic
mnemonics =
    ldarg_0 ∷ ldarg_1 ∷ ldarg_2 ∷ starg_s ∷ ldc_i4_s ∷ ldc_i4 ∷ dup ∷ pop ∷ call ∷ ret ∷ br_s ∷ brtrue_s ∷ bge_s ∷ blt_s
    ∷ bne_un_s ∷ and ∷ or ∷ shr ∷ ldstr ∷ newobj ∷ throw ∷ ldfld ∷ stfld ∷ stsfld ∷ ceq ∷ []

-- A line of CIL: a label, or an instruction with what it takes: nothing, a number, a label, a text, a method of a type
-- of the core by name and parameters, or a field of one by name.
pub data Line : Type 0 where
  At : List ℕ → Line
  Plain : Mnemonic → Line
  Number : Mnemonic → ℕ → Line
  To : Mnemonic → List ℕ → Line
  Text : Mnemonic → List ℕ → Line
  Method : Mnemonic → List ℕ → List ℕ → List CoreType → Line
  Field : Mnemonic → List ℕ → List ℕ → Line

-- `loop:`, `ret`, `ldc.i4 128`, `br.s loop`, `ldstr "text"`
abbrev pub at : String → Line
at label = At (codes label)

abbrev pub op : Mnemonic → Line
op mnemonic = Plain mnemonic

abbrev pub with : Mnemonic → ℕ → Line
with mnemonic number = Number mnemonic number

abbrev pub to : Mnemonic → String → Line
to mnemonic label = To mnemonic (codes label)

abbrev pub text : Mnemonic → String → Line
text mnemonic units = Text mnemonic (codes units)

-- `call Console::Write(char)`, `ldfld Exception::_message`
abbrev pub method : Mnemonic → String → String → List CoreType → Line
method mnemonic owner name parameters = Method mnemonic (codes owner) (codes name) parameters

abbrev pub field : Mnemonic → String → String → Line
field mnemonic owner name = Field mnemonic (codes owner) (codes name)

-- what a method does: nothing here, since it is abstract; a call of the runtime; or CIL
pub data Code : Type 0 where
  Abstract : Code
  Runtime : RuntimeCall → Code
  Cil : List CoreType → List Line → Code

-- ---- members

-- a field: its attributes (II.23.1.5), type and name
pub record CoreField : Type 0 where
  pub attributes : ℕ
  pub kind : CoreType
  pub name : List ℕ

-- a method: its attributes (II.23.1.10), whether it is static, its result, name and parameters, and what it does
pub record CoreMethod : Type 0 where
  pub attributes : ℕ
  pub is_static : Bool
  pub result : CoreType
  pub name : List ℕ
  pub parameters : List CoreType
  pub code : Code

-- a type: its attributes (II.23.1.15), namespace and name, whether it is generic, its base by name, its interfaces, and
-- its members
pub record CoreClass : Type 0 where
  pub attributes : ℕ
  pub namespace : List ℕ
  pub name : List ℕ
  pub is_generic : Bool
  pub base : Option (List ℕ)
  pub interfaces : List CoreType
  pub fields : List CoreField
  pub methods : List CoreMethod

-- `public int name;`, `private ..`, `internal ..`, `public static ..`, and the value of an enum (II.14.3)
abbrev field_of : ℕ → CoreType → String → CoreField
field_of attributes kind name = record { attributes = attributes; kind = kind; name = codes name }

abbrev pub private_field : CoreType → String → CoreField
private_field kind name = field_of 0x0001 kind name

abbrev pub internal_field : CoreType → String → CoreField
internal_field kind name = field_of 0x0003 kind name

abbrev pub static_read_only_field : CoreType → String → CoreField
static_read_only_field kind name = field_of 0x0036 kind name

abbrev pub enum_value : CoreType → CoreField
enum_value kind = field_of 0x0606 kind "value__"

abbrev method_of : ℕ → Bool → CoreType → String → List CoreType → Code → CoreMethod
method_of attributes is_static result name parameters code =
    record {
      attributes = attributes;
      is_static = is_static;
      result = result;
      name = codes name;
      parameters = parameters;
      code = code;
    }

-- Public methods hide by name and signature, and those with a special name are marked so.
abbrev pub constructor : List CoreType → List Line → CoreMethod
constructor parameters lines = method_of 0x1886 false void ".ctor" parameters (Cil [] lines)

abbrev pub initializer : List Line → CoreMethod
initializer lines = method_of 0x1891 true void ".cctor" [] (Cil [] lines)

abbrev pub static_method : CoreType → String → List CoreType → Code → CoreMethod
static_method result name parameters code = method_of 0x0096 true result name parameters code

abbrev pub internal_static_method : CoreType → String → List CoreType → Code → CoreMethod
internal_static_method result name parameters code = method_of 0x0093 true result name parameters code

abbrev pub virtual_method : CoreType → String → List CoreType → Code → CoreMethod
virtual_method result name parameters code = method_of 0x01C6 false result name parameters code

abbrev pub getter : CoreType → String → List CoreType → Code → CoreMethod
getter result name parameters code = method_of 0x0886 false result name parameters code

abbrev pub virtual_getter : CoreType → String → Code → CoreMethod
virtual_getter result name code = method_of 0x09C6 false result name [] code

abbrev pub interface_method : CoreType → String → List CoreType → CoreMethod
interface_method result name parameters = method_of 0x05C6 false result name parameters Abstract

abbrev pub interface_getter : CoreType → String → CoreMethod
interface_getter result name = method_of 0x0DC6 false result name [] Abstract

-- ---- types with their members

abbrev class_of : ℕ → String → String → Bool → Option (List ℕ) → List CoreType → List CoreField → List CoreMethod
    → CoreClass
class_of attributes namespace name is_generic base interfaces fields methods =
    record {
      attributes = attributes;
      namespace = codes namespace;
      name = codes name;
      is_generic = is_generic;
      base = base;
      interfaces = interfaces;
      fields = fields;
      methods = methods;
    }

-- Types are public, and but for interfaces they are initialized before a field of theirs is used first. A static class
-- is abstract and sealed, and a value type is sealed and laid out in the order of its fields.
abbrev pub open_class : String → String → String → List CoreField → List CoreMethod → CoreClass
open_class namespace name base fields methods =
    class_of 0x0010_0001 namespace name false (Some (codes base)) [] fields methods

abbrev pub abstract_class : String → String → String → List CoreField → List CoreMethod → CoreClass
abstract_class namespace name base fields methods =
    class_of 0x0010_0081 namespace name false (Some (codes base)) [] fields methods

abbrev pub sealed_class : String → String → String → List CoreField → List CoreMethod → CoreClass
sealed_class namespace name base fields methods =
    class_of 0x0010_0101 namespace name false (Some (codes base)) [] fields methods

abbrev pub static_class : String → String → List CoreMethod → CoreClass
static_class namespace name methods =
    class_of 0x0010_0181 namespace name false (Some (codes "Object")) [] [] methods

abbrev pub generic_class : String → String → List CoreField → List CoreMethod → CoreClass
generic_class namespace name fields methods =
    class_of 0x0010_0001 namespace name true (Some (codes "Object")) [] fields methods

abbrev pub struct : String → String → List CoreType → List CoreField → List CoreMethod → CoreClass
struct namespace name interfaces fields methods =
    class_of 0x0010_0109 namespace name false (Some (codes "ValueType")) interfaces fields methods

abbrev pub enum : String → String → CoreType → CoreClass
enum namespace name kind =
    class_of 0x0000_0101 namespace name false (Some (codes "Enum")) [] (enum_value kind ∷ []) []

abbrev pub interface : String → String → List CoreType → List CoreMethod → CoreClass
interface namespace name interfaces methods = class_of 0x0000_00A1 namespace name false None interfaces [] methods

abbrev pub generic_interface : String → String → List CoreType → List CoreMethod → CoreClass
generic_interface namespace name interfaces methods =
    class_of 0x0000_00A1 namespace name true None interfaces [] methods
