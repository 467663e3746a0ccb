-- The types of the core, and their members. Whoever adds a member adds a row here.
use Rattle.std.specs.Prelude.{ℕ, false, List, [], ◌∷◌, ◌++◌, codes, None}
use Prim.Native.String.{String}
use Rattle.core_lib.specs.declared.runtime.RuntimeCall.TheVariants.{ObjectGetHashCode, StringGetLength, StringGetChars}
use Rattle.core_lib.specs.declared.runtime.RuntimeCall.TheVariants.{StringNew, StringSet, InitializeArray}
use Rattle.core_lib.specs.declared.runtime.RuntimeCall.TheVariants.{ConsoleWrite, ConsoleRead}
use Rattle.core_lib.specs.Words.{CoreType, Variable, Vector, void, bool, char, int, long, string, nint, object, class}
use Rattle.core_lib.specs.Words.{value, instance, ldarg_0, ldarg_1, ldarg_2, starg_s, ldc_i4_s, ldc_i4, dup, pop, call}
use Rattle.core_lib.specs.Words.{ret, br_s, brtrue_s, bge_s, blt_s, bne_un_s, and, or, shr, ldstr, newobj, throw, ldfld}
use Rattle.core_lib.specs.Words.{stfld, stsfld, ceq, Line, at, op, with, to, text, method, field, Runtime, Cil}
use Rattle.core_lib.specs.Words.{private_field, internal_field, static_read_only_field, constructor, initializer}
use Rattle.core_lib.specs.Words.{static_method, internal_static_method, virtual_method, getter, virtual_getter}
use Rattle.core_lib.specs.Words.{interface_method, interface_getter, open_class, abstract_class, sealed_class}
use Rattle.core_lib.specs.Words.{static_class, generic_class, struct, enum, interface, generic_interface, CoreClass}

-- ---- namespace System

-- the class that stands for members outside of types (II.22.37), and the root of all classes, neither with a base
abbrev roots : List CoreClass
roots =
    record {
      attributes = 0;
      namespace = [];
      name = codes "<Module>";
      is_generic = false;
      base = None;
      interfaces = [];
      fields = [];
      methods = [];
    }
    ∷ record {
      attributes = 0x0010_0001;
      namespace = codes "System";
      name = codes "Object";
      is_generic = false;
      base = None;
      interfaces = [];
      fields = [];
      methods =
          constructor [] (op ret ∷ [])
          ∷ virtual_method string "ToString" []
          (Cil [] (method newobj "NotSupportedException" ".ctor" [] ∷ op throw ∷ []))
          ∷ virtual_method bool "Equals" (object ∷ []) (Cil [] (op ldarg_0 ∷ op ldarg_1 ∷ op ceq ∷ op ret ∷ []))
          ∷ virtual_method int "GetHashCode" [] (Runtime ObjectGetHashCode)
          ∷ static_method bool "ReferenceEquals" (object ∷ object ∷ [])
          (Cil [] (op ldarg_0 ∷ op ldarg_1 ∷ op ceq ∷ op ret ∷ []))
          ∷ [];
    }
    ∷ []

abbrev plain_struct : String → CoreClass
plain_struct name = struct "System" name [] [] []

-- a number that compares itself with others of its type
abbrev number_struct : String → CoreType → CoreClass
number_struct name kind = struct "System" name (instance "IComparable`1" kind ∷ instance "IEquatable`1" kind ∷ []) [] []

abbrev value_types : List CoreClass
value_types =
    abstract_class "System" "ValueType" "Object" [] []
    ∷ abstract_class "System" "Enum" "ValueType" [] []
    ∷ plain_struct "Void"
    ∷ plain_struct "Boolean"
    ∷ plain_struct "Char"
    ∷ plain_struct "SByte"
    ∷ plain_struct "Byte"
    ∷ plain_struct "Int16"
    ∷ plain_struct "UInt16"
    ∷ number_struct "Int32" int
    ∷ plain_struct "UInt32"
    ∷ number_struct "Int64" long
    ∷ plain_struct "UInt64"
    ∷ plain_struct "IntPtr"
    ∷ plain_struct "UIntPtr"
    ∷ []

abbrev texts_and_vectors : List CoreClass
texts_and_vectors =
    sealed_class "System" "String" "Object"
    (static_read_only_field string "Empty" ∷ [])
    (initializer (text ldstr "" ∷ field stsfld "String" "Empty" ∷ op ret ∷ [])
    ∷ getter int "get_Length" [] (Runtime StringGetLength)
    ∷ getter char "get_Chars" (int ∷ []) (Runtime StringGetChars)
    ∷ internal_static_method string "$New" (int ∷ []) (Runtime StringNew)
    ∷ internal_static_method void "$Set" (string ∷ int ∷ char ∷ []) (Runtime StringSet)
    ∷ [])
    ∷ abstract_class "System" "Array" "Object" [] []
    ∷ []

-- A byte of 128 or more is U+FFFD; the end is -1.
abbrev read_lines : List Line
read_lines =
    method call "Console" "$Read" []
    ∷ op dup
    ∷ with ldc_i4 128
    ∷ to blt_s "done"
    ∷ op pop
    ∷ with ldc_i4 0xFFFD
    ∷ at "done"
    ∷ op ret
    ∷ []

-- The unit in UTF-8: one byte below 0x80, two below 0x800, and otherwise three. A surrogate is written as U+FFFD.
abbrev write_char_lines : List Line
write_char_lines =
    op ldarg_0 ∷ with ldc_i4 0x80 ∷ to bge_s "two"
    ∷ op ldarg_0 ∷ method call "Console" "$Write" (int ∷ []) ∷ op ret
    ∷ at "two"
    ∷ op ldarg_0 ∷ with ldc_i4 0x800 ∷ to bge_s "three"
    ∷ op ldarg_0 ∷ with ldc_i4_s 6 ∷ op shr ∷ with ldc_i4 0xC0 ∷ op or
    ∷ method call "Console" "$Write" (int ∷ []) ∷ to br_s "last"
    ∷ at "three"
    ∷ op ldarg_0 ∷ with ldc_i4 0xF800 ∷ op and ∷ with ldc_i4 0xD800 ∷ to bne_un_s "whole"
    ∷ with ldc_i4 0xFFFD ∷ with starg_s 0
    ∷ at "whole"
    ∷ op ldarg_0 ∷ with ldc_i4_s 12 ∷ op shr ∷ with ldc_i4 0xE0 ∷ op or ∷ method call "Console" "$Write" (int ∷ [])
    ∷ op ldarg_0 ∷ with ldc_i4_s 6 ∷ op shr ∷ with ldc_i4_s 0x3F ∷ op and ∷ with ldc_i4 0x80 ∷ op or
    ∷ method call "Console" "$Write" (int ∷ [])
    ∷ at "last"
    ∷ op ldarg_0 ∷ with ldc_i4_s 0x3F ∷ op and ∷ with ldc_i4 0x80 ∷ op or
    ∷ method call "Console" "$Write" (int ∷ []) ∷ op ret
    ∷ []

abbrev static_classes : List CoreClass
static_classes =
    static_class "System" "Console"
    (internal_static_method void "$Write" (int ∷ []) (Runtime ConsoleWrite)
    ∷ internal_static_method int "$Read" [] (Runtime ConsoleRead)
    ∷ static_method void "Write" (char ∷ []) (Cil [] write_char_lines)
    ∷ static_method int "Read" [] (Cil [] read_lines)
    ∷ [])
    ∷ static_class "System" "Math" []
    ∷ static_class "System" "Environment" []
    ∷ static_class "System" "Activator" []
    ∷ static_class "System.Runtime.CompilerServices" "RuntimeHelpers"
    (static_method void "InitializeArray" (class "Array" ∷ value "RuntimeFieldHandle" ∷ []) (Runtime InitializeArray)
    ∷ [])
    ∷ []

-- ---- exceptions

-- the three constructors of an exception call those of its base
abbrev exception : String → String → String → CoreClass
exception namespace name base =
    open_class namespace name base []
    (constructor [] (op ldarg_0 ∷ method call base ".ctor" [] ∷ op ret ∷ [])
    ∷ constructor (string ∷ [])
    (op ldarg_0 ∷ op ldarg_1 ∷ method call base ".ctor" (string ∷ []) ∷ op ret ∷ [])
    ∷ constructor (string ∷ class "Exception" ∷ [])
    (op ldarg_0 ∷ op ldarg_1 ∷ op ldarg_2 ∷ method call base ".ctor" (string ∷ class "Exception" ∷ []) ∷ op ret ∷ [])
    ∷ [])

-- the message is the empty text where none was given
abbrev exceptions : List CoreClass
exceptions =
    open_class "System" "Exception" "Object"
    (private_field string "_message" ∷ private_field (class "Exception") "_inner" ∷ [])
    (constructor [] (op ldarg_0 ∷ method call "Object" ".ctor" [] ∷ op ret ∷ [])
    ∷ constructor (string ∷ [])
    (op ldarg_0 ∷ method call "Object" ".ctor" []
    ∷ op ldarg_0 ∷ op ldarg_1 ∷ field stfld "Exception" "_message"
    ∷ op ret ∷ [])
    ∷ constructor (string ∷ class "Exception" ∷ [])
    (op ldarg_0 ∷ method call "Object" ".ctor" []
    ∷ op ldarg_0 ∷ op ldarg_1 ∷ field stfld "Exception" "_message"
    ∷ op ldarg_0 ∷ op ldarg_2 ∷ field stfld "Exception" "_inner"
    ∷ op ret ∷ [])
    ∷ virtual_getter string "get_Message"
    (Cil [] (op ldarg_0 ∷ field ldfld "Exception" "_message" ∷ op dup ∷ to brtrue_s "given"
    ∷ op pop ∷ text ldstr ""
    ∷ at "given"
    ∷ op ret ∷ []))
    ∷ getter (class "Exception") "get_InnerException" []
    (Cil [] (op ldarg_0 ∷ field ldfld "Exception" "_inner" ∷ op ret ∷ []))
    ∷ [])
    ∷ exception "System" "SystemException" "Exception"
    ∷ exception "System" "ApplicationException" "Exception"
    ∷ exception "System" "ArithmeticException" "SystemException"
    ∷ exception "System" "NullReferenceException" "SystemException"
    ∷ exception "System" "IndexOutOfRangeException" "SystemException"
    ∷ exception "System" "ArrayTypeMismatchException" "SystemException"
    ∷ exception "System" "InvalidCastException" "SystemException"
    ∷ exception "System" "TypeInitializationException" "SystemException"
    ∷ exception "System" "ArgumentException" "SystemException"
    ∷ exception "System" "InvalidOperationException" "SystemException"
    ∷ exception "System" "NotSupportedException" "SystemException"
    ∷ exception "System" "NotImplementedException" "SystemException"
    ∷ exception "System" "FormatException" "SystemException"
    ∷ exception "System" "MemberAccessException" "SystemException"
    ∷ exception "System.Reflection" "AmbiguousMatchException" "SystemException"
    ∷ exception "System" "OverflowException" "ArithmeticException"
    ∷ exception "System" "DivideByZeroException" "ArithmeticException"
    ∷ exception "System" "ArgumentNullException" "ArgumentException"
    ∷ exception "System" "ArgumentOutOfRangeException" "ArgumentException"
    ∷ exception "System" "MissingMemberException" "MemberAccessException"
    ∷ exception "System" "MissingMethodException" "MissingMemberException"
    ∷ exception "System.Reflection" "TargetInvocationException" "ApplicationException"
    ∷ []

-- ---- types of the runtime

abbrev runtime_types : List CoreClass
runtime_types =
    abstract_class "System" "Type" "Object" [] []
    ∷ sealed_class "System" "RuntimeType" "Type" [] []
    ∷ struct "System" "RuntimeTypeHandle" [] (internal_field (class "Type") "$type" ∷ []) []
    ∷ struct "System" "RuntimeFieldHandle" [] (internal_field nint "$blob" ∷ []) []
    ∷ abstract_class "System.Reflection" "MethodBase" "Object" [] []
    ∷ abstract_class "System.Reflection" "MethodInfo" "MethodBase" [] []
    ∷ sealed_class "System.Reflection" "RuntimeMethodInfo" "MethodInfo" [] []
    ∷ []

-- ---- interfaces

abbrev interfaces : List CoreClass
interfaces =
    interface "System" "IDisposable" [] (interface_method void "Dispose" [] ∷ [])
    ∷ generic_interface "System" "IComparable`1" [] (interface_method int "CompareTo" (Variable ∷ []) ∷ [])
    ∷ generic_interface "System" "IEquatable`1" [] (interface_method bool "Equals" (Variable ∷ []) ∷ [])
    ∷ interface "System.Collections" "IEnumerable" []
    (interface_method (class "IEnumerator") "GetEnumerator" [] ∷ [])
    ∷ interface "System.Collections" "IEnumerator" []
    (interface_method bool "MoveNext" []
    ∷ interface_getter object "get_Current"
    ∷ interface_method void "Reset" []
    ∷ [])
    ∷ generic_interface "System.Collections.Generic" "IEnumerable`1" (class "IEnumerable" ∷ [])
    (interface_method (instance "IEnumerator`1" Variable) "GetEnumerator" [] ∷ [])
    ∷ generic_interface "System.Collections.Generic" "IEnumerator`1" (class "IDisposable" ∷ class "IEnumerator" ∷ [])
    (interface_getter Variable "get_Current" ∷ [])
    ∷ []

-- ---- collections, texts that grow, and attributes

abbrev others : List CoreClass
others =
    generic_class "System.Collections.Generic" "List`1"
    (private_field (Vector Variable) "_items" ∷ private_field int "_size" ∷ []) []
    ∷ sealed_class "System.Text" "StringBuilder" "Object"
    (private_field (Vector char) "_chars" ∷ private_field int "_length" ∷ []) []
    ∷ abstract_class "System" "Attribute" "Object" [] []
    ∷ sealed_class "System.Diagnostics.CodeAnalysis" "DynamicallyAccessedMembersAttribute" "Attribute" [] []
    ∷ enum "System.Diagnostics.CodeAnalysis" "DynamicallyAccessedMemberTypes" int
    ∷ sealed_class "System.Diagnostics.CodeAnalysis" "RequiresUnreferencedCodeAttribute" "Attribute" [] []
    ∷ []

-- all of them, in the order of their rows
unfoldable pub classes : List CoreClass
classes =
    roots ++ (value_types ++ (texts_and_vectors ++ (static_classes ++ (exceptions ++ (runtime_types ++ (interfaces
    ++ others))))))

-- the instances of generic types that interfaces and code name
unfoldable pub instances : List CoreType
instances =
    instance "IComparable`1" int ∷ instance "IEquatable`1" int ∷ instance "IComparable`1" long
    ∷ instance "IEquatable`1" long ∷ []

-- the lists of locals that bodies have
unfoldable pub local_lists : List (List CoreType)
local_lists = []

-- the texts that code loads
unfoldable pub texts : List (List ℕ)
texts = codes "" ∷ []
