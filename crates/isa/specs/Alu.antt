-- What the operations of RV32IM compute: from two words, a word.
use Rattle.std.specs.Prelude.{ℕ, ◌+◌, ◌-◌, ◌*◌, ◌/◌, ◌%◌, ◌^◌, Bool, if◌then◌else◌, ℤ, pos, ◌*ℤ◌, ◌==◌, bit_and, bit_or, bit_xor, int_div, int_lt, int_rem, nat_lt}
use Rattle.std.specs.Int.Signed.{shr_z}
use Rattle.std.specs.Int.{w32, w64, cast_signed, cast_unsigned}
use Rattle.isa.specs.declared.alu.AluOp.{AluOp}
use Rattle.isa.specs.declared.alu.AluOp.TheVariants.{Add, Sub, Sll, Slt, Sltu, Xor, Srl, Sra, Or, And, Mul, Mulh, Mulhsu, Mulhu, Div, Divu, Rem, Remu}

-- a word read as a signed number, in two's complement
abbrev pub signed : ℕ → ℤ
signed n = cast_signed w32 n

-- the word of a signed number
abbrev pub word_of : ℤ → ℕ
word_of z = cast_unsigned w32 z

-- the upper word of a signed number of 64 bits
abbrev pub upper : ℤ → ℕ
upper z = cast_unsigned w64 z / 2 ^ 32

-- a truth value as a word
abbrev pub flag : Bool → ℕ
flag b = if b then 1 else 0

-- the result of an operation on two words
abbrev pub alu_result : AluOp → ℕ → ℕ → ℕ
alu_result Add a b = (a + b) % 2 ^ 32
alu_result Sub a b = (a + (2 ^ 32 - b)) % 2 ^ 32
alu_result Sll a b = (a * 2 ^ (b % 32)) % 2 ^ 32
alu_result Slt a b = flag (int_lt (signed a) (signed b))
alu_result Sltu a b = flag (nat_lt a b)
alu_result Xor a b = bit_xor a b
alu_result Srl a b = a / 2 ^ (b % 32)
alu_result Sra a b = word_of (shr_z (signed a) (2 ^ (b % 32)))
alu_result Or a b = bit_or a b
alu_result And a b = bit_and a b
alu_result Mul a b = (a * b) % 2 ^ 32
alu_result Mulh a b = upper (signed a *ℤ signed b)
alu_result Mulhsu a b = upper (signed a *ℤ pos b)
alu_result Mulhu a b = a * b / 2 ^ 32
alu_result Div a b = if b == 0 then 2 ^ 32 - 1 else word_of (int_div (signed a) (signed b))
alu_result Divu a b = if b == 0 then 2 ^ 32 - 1 else a / b
alu_result Rem a b = if b == 0 then a else word_of (int_rem (signed a) (signed b))
alu_result Remu a b = if b == 0 then a else a % b
