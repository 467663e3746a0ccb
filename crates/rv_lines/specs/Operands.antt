-- How operands come to registers and results to slots. Within an operation x5, x6 and x7 take two operands and a
-- result, x28 and x29 what is needed on the way. x2 has the address of the frame.
use Rattle.std.specs.Prelude.{ℕ, ◌-◌, ◌/◌, ◌%◌, ◌^◌, nat_lt, Bool, true, if◌then◌else◌, ℤ, pos}
use Rattle.std.specs.Prelude.{List, [], ◌∷◌, ◌++◌, Option, Some, None}
use Rattle.num_core.specs.declared.kind.Narrow.{Narrow}
use Rattle.num_core.specs.declared.kind.Narrow.TheVariants.{I1, U1, I2, U2, I4, U4, I8, U8}
use Rattle.rv_isa.specs.declared.ins.Ins.{Ins}
use Rattle.rv_isa.specs.declared.ins.Ins.TheVariants.{Add, Addi, Addiw, Lb, Lbu, Ld, Lh, Lhu, Lui, Lw, Ori, Sb, Sd, Sh}
use Rattle.rv_isa.specs.declared.ins.Ins.TheVariants.{Slli, Sw}
use Rattle.rt_code.specs.Code.{lower, upper}
use Rattle.rv_lines.specs.Frame.{slot_place}
use Rattle.rv_lines.specs.declared.line.Line.{Line}
use Rattle.rv_lines.specs.declared.line.Line.TheVariants.{Single}

-- ---- constants

-- whether 12 bits with their sign extended are the word, and whether 32 are
abbrev pub is_of_12_bits : ℕ → Bool
is_of_12_bits word = if nat_lt word 2048 then true else nat_lt (2 ^ 64 - 2049) word

abbrev pub is_of_32_bits : ℕ → Bool
is_of_32_bits word = if nat_lt word (2 ^ 31) then true else nat_lt (2 ^ 64 - 2 ^ 31 - 1) word

-- a register gets 32 bits with their sign extended
unfoldable pub loads_32_bits : ℕ → ℕ → List Line
loads_32_bits rd word = Single (Lui rd (upper word)) ∷ Single (Addiw rd rd (lower word)) ∷ []

-- and then moves up by so many bits, with those of a number in their place
abbrev pub takes_bits : ℕ → ℕ → ℕ → List Line
takes_bits rd count number = Single (Slli rd rd count) ∷ Single (Ori rd rd (pos number)) ∷ []

unfoldable pub takes_lower_bits : ℕ → ℕ → List Line
takes_lower_bits rd word =
    takes_bits rd 11 (word / 2 ^ 21 % 2048)
    ++ (takes_bits rd 11 (word / 2 ^ 10 % 2048) ++ takes_bits rd 10 (word % 1024))

abbrev pub loads_64_bits : ℕ → ℕ → List Line
loads_64_bits rd word = loads_32_bits rd (word / 2 ^ 32) ++ takes_lower_bits rd word

-- a register gets a word: by 12 bits, by 32, or by the upper 32 and then 11, 11 and 10 more
unfoldable pub loads_constant : ℕ → ℕ → List Line
loads_constant rd word =
    if is_of_12_bits word then Single (Addi rd 0 (lower (word % 2 ^ 32))) ∷ []
    else if is_of_32_bits word then loads_32_bits rd (word % 2 ^ 32) else loads_64_bits rd word

-- ---- memory behind the address that a register has

-- whether an instruction itself can go so many bytes behind an address
abbrev pub is_near : ℕ → Bool
is_near offset = nat_lt offset 2048

-- a register gets the address that lies so many bytes behind that which another has; x28 takes the distance
abbrev pub adds_far : ℕ → ℕ → ℕ → List Line
adds_far rd base offset = loads_constant 28 offset ++ Single (Add rd 28 base) ∷ []

abbrev pub gets_address : ℕ → ℕ → ℕ → List Line
gets_address rd base offset =
    if is_near offset then Single (Addi rd base (pos offset)) ∷ [] else adds_far rd base offset

-- A number of a type to a register, and from one. A number of four bytes is held with its sign extended, whether its
-- type has one or not.
abbrev pub loads : Narrow → ℕ → ℕ → ℤ → Ins
loads I1 rd base offset = Lb rd base offset
loads U1 rd base offset = Lbu rd base offset
loads I2 rd base offset = Lh rd base offset
loads U2 rd base offset = Lhu rd base offset
loads I4 rd base offset = Lw rd base offset
loads U4 rd base offset = Lw rd base offset
loads I8 rd base offset = Ld rd base offset
loads U8 rd base offset = Ld rd base offset

abbrev pub stores : Narrow → ℕ → ℕ → ℤ → Ins
stores I1 rs base offset = Sb base rs offset
stores U1 rs base offset = Sb base rs offset
stores I2 rs base offset = Sh base rs offset
stores U2 rs base offset = Sh base rs offset
stores I4 rs base offset = Sw base rs offset
stores U4 rs base offset = Sw base rs offset
stores I8 rs base offset = Sd base rs offset
stores U8 rs base offset = Sd base rs offset

-- the same so many bytes behind the address
abbrev pub loads_behind : Narrow → ℕ → ℕ → ℕ → List Line
loads_behind narrow rd base offset =
    if is_near offset then Single (loads narrow rd base (pos offset)) ∷ []
    else (adds_far 28 base offset ++ Single (loads narrow rd 28 (pos 0)) ∷ [])

abbrev pub stores_behind : Narrow → ℕ → ℕ → ℕ → List Line
stores_behind narrow rs base offset =
    if is_near offset then Single (stores narrow rs base (pos offset)) ∷ []
    else (adds_far 28 base offset ++ Single (stores narrow rs 28 (pos 0)) ∷ [])

-- ---- slots, each with its home, if it has one

-- the register with what a slot holds: its home, or another one, to which it is read
abbrev pub register_or : Option ℕ → ℕ → ℕ
register_or (Some register) other = register
register_or None other = other

abbrev pub reads_slot : Option ℕ → ℕ → ℕ → List Line
reads_slot (Some register) other slot = []
reads_slot None other slot = loads_behind I8 other 2 (slot_place slot)

-- what a register has becomes that of a slot, where it isn't the slot's home
abbrev pub writes_slot : Option ℕ → ℕ → ℕ → List Line
writes_slot (Some register) other slot = []
writes_slot None other slot = stores_behind I8 other 2 (slot_place slot)

-- a given register gets what a slot holds
abbrev pub gets_slot : Option ℕ → ℕ → ℕ → List Line
gets_slot (Some register) rd slot = Single (Addi rd register (pos 0)) ∷ []
gets_slot None rd slot = loads_behind I8 rd 2 (slot_place slot)

-- and a slot what a given register has
abbrev pub puts_slot : Option ℕ → ℕ → ℕ → List Line
puts_slot (Some register) rs slot = Single (Addi register rs (pos 0)) ∷ []
puts_slot None rs slot = stores_behind I8 rs 2 (slot_place slot)
