-- The names of instructions: ECMA-335 III.2 to III.4, in the order of their opcodes.
use Rattle.std.specs.Prelude.{ℕ, ◌==◌, List, [], ◌∷◌, ◌++◌, codes, find, Option}
use Rattle.il_code.specs.declared.opcode.OperandForm.{OperandForm}
use Rattle.il_code.specs.declared.opcode.OperandForm.TheVariants.{Absent, Unsigned8, Unsigned16, Signed8, Signed32}
use Rattle.il_code.specs.declared.opcode.OperandForm.TheVariants.{Signed64, Token, Target8, Target32, Targets}
use Rattle.il_text.specs.declared.mnemonic.Mnemonic.{Mnemonic}

-- The number of each opcode that a program may have, which is its byte, or 0xFE00 and its second byte, its name, and
-- the form of its operand.

-- arguments, locals, constants, the stack, calls and the return
unfoldable pub loads : List (ℕ × List ℕ × OperandForm)
loads =
    (0x00, codes "nop", Absent) ∷
    (0x01, codes "break", Absent) ∷
    (0x02, codes "ldarg.0", Absent) ∷
    (0x03, codes "ldarg.1", Absent) ∷
    (0x04, codes "ldarg.2", Absent) ∷
    (0x05, codes "ldarg.3", Absent) ∷
    (0x06, codes "ldloc.0", Absent) ∷
    (0x07, codes "ldloc.1", Absent) ∷
    (0x08, codes "ldloc.2", Absent) ∷
    (0x09, codes "ldloc.3", Absent) ∷
    (0x0A, codes "stloc.0", Absent) ∷
    (0x0B, codes "stloc.1", Absent) ∷
    (0x0C, codes "stloc.2", Absent) ∷
    (0x0D, codes "stloc.3", Absent) ∷
    (0x0E, codes "ldarg.s", Unsigned8) ∷
    (0x0F, codes "ldarga.s", Unsigned8) ∷
    (0x10, codes "starg.s", Unsigned8) ∷
    (0x11, codes "ldloc.s", Unsigned8) ∷
    (0x12, codes "ldloca.s", Unsigned8) ∷
    (0x13, codes "stloc.s", Unsigned8) ∷
    (0x14, codes "ldnull", Absent) ∷
    (0x15, codes "ldc.i4.m1", Absent) ∷
    (0x16, codes "ldc.i4.0", Absent) ∷
    (0x17, codes "ldc.i4.1", Absent) ∷
    (0x18, codes "ldc.i4.2", Absent) ∷
    (0x19, codes "ldc.i4.3", Absent) ∷
    (0x1A, codes "ldc.i4.4", Absent) ∷
    (0x1B, codes "ldc.i4.5", Absent) ∷
    (0x1C, codes "ldc.i4.6", Absent) ∷
    (0x1D, codes "ldc.i4.7", Absent) ∷
    (0x1E, codes "ldc.i4.8", Absent) ∷
    (0x1F, codes "ldc.i4.s", Signed8) ∷
    (0x20, codes "ldc.i4", Signed32) ∷
    (0x21, codes "ldc.i8", Signed64) ∷
    (0x25, codes "dup", Absent) ∷
    (0x26, codes "pop", Absent) ∷
    (0x28, codes "call", Token) ∷
    (0x2A, codes "ret", Absent) ∷
    []

-- branches
unfoldable pub branches : List (ℕ × List ℕ × OperandForm)
branches =
    (0x2B, codes "br.s", Target8) ∷
    (0x2C, codes "brfalse.s", Target8) ∷
    (0x2D, codes "brtrue.s", Target8) ∷
    (0x2E, codes "beq.s", Target8) ∷
    (0x2F, codes "bge.s", Target8) ∷
    (0x30, codes "bgt.s", Target8) ∷
    (0x31, codes "ble.s", Target8) ∷
    (0x32, codes "blt.s", Target8) ∷
    (0x33, codes "bne.un.s", Target8) ∷
    (0x34, codes "bge.un.s", Target8) ∷
    (0x35, codes "bgt.un.s", Target8) ∷
    (0x36, codes "ble.un.s", Target8) ∷
    (0x37, codes "blt.un.s", Target8) ∷
    (0x38, codes "br", Target32) ∷
    (0x39, codes "brfalse", Target32) ∷
    (0x3A, codes "brtrue", Target32) ∷
    (0x3B, codes "beq", Target32) ∷
    (0x3C, codes "bge", Target32) ∷
    (0x3D, codes "bgt", Target32) ∷
    (0x3E, codes "ble", Target32) ∷
    (0x3F, codes "blt", Target32) ∷
    (0x40, codes "bne.un", Target32) ∷
    (0x41, codes "bge.un", Target32) ∷
    (0x42, codes "bgt.un", Target32) ∷
    (0x43, codes "ble.un", Target32) ∷
    (0x44, codes "blt.un", Target32) ∷
    (0x45, codes "switch", Targets) ∷
    []

-- loads and stores by an address, arithmetic and conversions
unfoldable pub arithmetic : List (ℕ × List ℕ × OperandForm)
arithmetic =
    (0x46, codes "ldind.i1", Absent) ∷
    (0x47, codes "ldind.u1", Absent) ∷
    (0x48, codes "ldind.i2", Absent) ∷
    (0x49, codes "ldind.u2", Absent) ∷
    (0x4A, codes "ldind.i4", Absent) ∷
    (0x4B, codes "ldind.u4", Absent) ∷
    (0x4C, codes "ldind.i8", Absent) ∷
    (0x4D, codes "ldind.i", Absent) ∷
    (0x50, codes "ldind.ref", Absent) ∷
    (0x51, codes "stind.ref", Absent) ∷
    (0x52, codes "stind.i1", Absent) ∷
    (0x53, codes "stind.i2", Absent) ∷
    (0x54, codes "stind.i4", Absent) ∷
    (0x55, codes "stind.i8", Absent) ∷
    (0x58, codes "add", Absent) ∷
    (0x59, codes "sub", Absent) ∷
    (0x5A, codes "mul", Absent) ∷
    (0x5B, codes "div", Absent) ∷
    (0x5C, codes "div.un", Absent) ∷
    (0x5D, codes "rem", Absent) ∷
    (0x5E, codes "rem.un", Absent) ∷
    (0x5F, codes "and", Absent) ∷
    (0x60, codes "or", Absent) ∷
    (0x61, codes "xor", Absent) ∷
    (0x62, codes "shl", Absent) ∷
    (0x63, codes "shr", Absent) ∷
    (0x64, codes "shr.un", Absent) ∷
    (0x65, codes "neg", Absent) ∷
    (0x66, codes "not", Absent) ∷
    (0x67, codes "conv.i1", Absent) ∷
    (0x68, codes "conv.i2", Absent) ∷
    (0x69, codes "conv.i4", Absent) ∷
    (0x6A, codes "conv.i8", Absent) ∷
    (0x6D, codes "conv.u4", Absent) ∷
    (0x6E, codes "conv.u8", Absent) ∷
    []

-- objects and fields, and conversions of unsigned numbers that are checked
unfoldable pub objects : List (ℕ × List ℕ × OperandForm)
objects =
    (0x6F, codes "callvirt", Token) ∷
    (0x70, codes "cpobj", Token) ∷
    (0x71, codes "ldobj", Token) ∷
    (0x72, codes "ldstr", Token) ∷
    (0x73, codes "newobj", Token) ∷
    (0x74, codes "castclass", Token) ∷
    (0x75, codes "isinst", Token) ∷
    (0x79, codes "unbox", Token) ∷
    (0x7A, codes "throw", Absent) ∷
    (0x7B, codes "ldfld", Token) ∷
    (0x7C, codes "ldflda", Token) ∷
    (0x7D, codes "stfld", Token) ∷
    (0x7E, codes "ldsfld", Token) ∷
    (0x7F, codes "ldsflda", Token) ∷
    (0x80, codes "stsfld", Token) ∷
    (0x81, codes "stobj", Token) ∷
    (0x82, codes "conv.ovf.i1.un", Absent) ∷
    (0x83, codes "conv.ovf.i2.un", Absent) ∷
    (0x84, codes "conv.ovf.i4.un", Absent) ∷
    (0x85, codes "conv.ovf.i8.un", Absent) ∷
    (0x86, codes "conv.ovf.u1.un", Absent) ∷
    (0x87, codes "conv.ovf.u2.un", Absent) ∷
    (0x88, codes "conv.ovf.u4.un", Absent) ∷
    (0x89, codes "conv.ovf.u8.un", Absent) ∷
    (0x8A, codes "conv.ovf.i.un", Absent) ∷
    (0x8B, codes "conv.ovf.u.un", Absent) ∷
    (0x8C, codes "box", Token) ∷
    (0x8D, codes "newarr", Token) ∷
    (0x8E, codes "ldlen", Absent) ∷
    (0x8F, codes "ldelema", Token) ∷
    []

-- elements of vectors, what is checked, and the ends of handlers
unfoldable pub elements : List (ℕ × List ℕ × OperandForm)
elements =
    (0x90, codes "ldelem.i1", Absent) ∷
    (0x91, codes "ldelem.u1", Absent) ∷
    (0x92, codes "ldelem.i2", Absent) ∷
    (0x93, codes "ldelem.u2", Absent) ∷
    (0x94, codes "ldelem.i4", Absent) ∷
    (0x95, codes "ldelem.u4", Absent) ∷
    (0x96, codes "ldelem.i8", Absent) ∷
    (0x97, codes "ldelem.i", Absent) ∷
    (0x9A, codes "ldelem.ref", Absent) ∷
    (0x9B, codes "stelem.i", Absent) ∷
    (0x9C, codes "stelem.i1", Absent) ∷
    (0x9D, codes "stelem.i2", Absent) ∷
    (0x9E, codes "stelem.i4", Absent) ∷
    (0x9F, codes "stelem.i8", Absent) ∷
    (0xA2, codes "stelem.ref", Absent) ∷
    (0xA3, codes "ldelem", Token) ∷
    (0xA4, codes "stelem", Token) ∷
    (0xA5, codes "unbox.any", Token) ∷
    (0xB3, codes "conv.ovf.i1", Absent) ∷
    (0xB4, codes "conv.ovf.u1", Absent) ∷
    (0xB5, codes "conv.ovf.i2", Absent) ∷
    (0xB6, codes "conv.ovf.u2", Absent) ∷
    (0xB7, codes "conv.ovf.i4", Absent) ∷
    (0xB8, codes "conv.ovf.u4", Absent) ∷
    (0xB9, codes "conv.ovf.i8", Absent) ∷
    (0xBA, codes "conv.ovf.u8", Absent) ∷
    (0xD0, codes "ldtoken", Token) ∷
    (0xD1, codes "conv.u2", Absent) ∷
    (0xD2, codes "conv.u1", Absent) ∷
    (0xD3, codes "conv.i", Absent) ∷
    (0xD4, codes "conv.ovf.i", Absent) ∷
    (0xD5, codes "conv.ovf.u", Absent) ∷
    (0xD6, codes "add.ovf", Absent) ∷
    (0xD7, codes "add.ovf.un", Absent) ∷
    (0xD8, codes "mul.ovf", Absent) ∷
    (0xD9, codes "mul.ovf.un", Absent) ∷
    (0xDA, codes "sub.ovf", Absent) ∷
    (0xDB, codes "sub.ovf.un", Absent) ∷
    (0xDC, codes "endfinally", Absent) ∷
    (0xDD, codes "leave", Target32) ∷
    (0xDE, codes "leave.s", Target8) ∷
    (0xDF, codes "stind.i", Absent) ∷
    (0xE0, codes "conv.u", Absent) ∷
    []

-- opcodes of two bytes
unfoldable pub prefixed : List (ℕ × List ℕ × OperandForm)
prefixed =
    (0xFE01, codes "ceq", Absent) ∷
    (0xFE02, codes "cgt", Absent) ∷
    (0xFE03, codes "cgt.un", Absent) ∷
    (0xFE04, codes "clt", Absent) ∷
    (0xFE05, codes "clt.un", Absent) ∷
    (0xFE09, codes "ldarg", Unsigned16) ∷
    (0xFE0A, codes "ldarga", Unsigned16) ∷
    (0xFE0B, codes "starg", Unsigned16) ∷
    (0xFE0C, codes "ldloc", Unsigned16) ∷
    (0xFE0D, codes "ldloca", Unsigned16) ∷
    (0xFE0E, codes "stloc", Unsigned16) ∷
    (0xFE13, codes "volatile.", Absent) ∷
    (0xFE15, codes "initobj", Token) ∷
    (0xFE16, codes "constrained.", Token) ∷
    (0xFE1A, codes "rethrow", Absent) ∷
    (0xFE1C, codes "sizeof", Token) ∷
    (0xFE1E, codes "readonly.", Absent) ∷
    []

-- The instructions that have names in a text, in the order of their opcodes. Any other is written as its bytes.
unfoldable pub mnemonics : List (ℕ × List ℕ × OperandForm)
mnemonics = loads ++ (branches ++ (arithmetic ++ (objects ++ (elements ++ prefixed))))

-- the row of an opcode in a table
abbrev pub row_numbered_in : List (ℕ × List ℕ × OperandForm) → ℕ → Option (ℕ × List ℕ × OperandForm)
row_numbered_in rows number = find (λ row. row.0 == number) rows

unfoldable pub row_numbered : ℕ → Option (ℕ × List ℕ × OperandForm)
row_numbered number = row_numbered_in mnemonics number

-- what a row of the code's table says
abbrev pub row_of : Mnemonic → ℕ × List ℕ × OperandForm
row_of row = (row.0, row.1.now, row.2)
