-- The fields of an instruction word, and its immediates by format.
use Rattle.std.specs.Prelude.{ℕ, ◌+◌, ◌-◌, ◌*◌, ◌/◌, ◌%◌, ◌^◌, if◌then◌else◌, nat_lt}

-- n bits of a word, from bit i up
abbrev pub bits : ℕ → ℕ → ℕ → ℕ
bits w i n = w / 2 ^ i % 2 ^ n

-- bits 6 to 0
abbrev pub opcode : ℕ → ℕ
opcode w = bits w 0 7

-- bits 11 to 7
abbrev pub rd : ℕ → ℕ
rd w = bits w 7 5

-- bits 14 to 12
abbrev pub f3 : ℕ → ℕ
f3 w = bits w 12 3

-- bits 19 to 15
abbrev pub rs1 : ℕ → ℕ
rs1 w = bits w 15 5

-- bits 24 to 20
abbrev pub rs2 : ℕ → ℕ
rs2 w = bits w 20 5

-- bits 31 to 25
abbrev pub f7 : ℕ → ℕ
f7 w = bits w 25 7

-- bits 31 to 20
abbrev pub csr : ℕ → ℕ
csr w = bits w 20 12

-- a number as a word, where its top bit, of the value given, is its sign
abbrev pub sign_extended : ℕ → ℕ → ℕ
sign_extended sign n = if nat_lt n sign then n else n + (2 ^ 32 - 2 * sign)

-- imm[11:0] in bits 31 to 20
abbrev pub imm_i : ℕ → ℕ
imm_i w = sign_extended (2 ^ 11) (bits w 20 12)

-- imm[11:5] in bits 31 to 25, imm[4:0] in bits 11 to 7
abbrev pub imm_s : ℕ → ℕ
imm_s w = sign_extended (2 ^ 11) (bits w 25 7 * 2 ^ 5 + bits w 7 5)

-- imm[12] in bit 31, imm[11] in bit 7, imm[10:5] in bits 30 to 25, imm[4:1] in bits 11 to 8
abbrev pub imm_b : ℕ → ℕ
imm_b w = sign_extended (2 ^ 12) (bits w 31 1 * 2 ^ 12 + bits w 7 1 * 2 ^ 11 + bits w 25 6 * 2 ^ 5 + bits w 8 4 * 2)

-- imm[31:12] in bits 31 to 12
abbrev pub imm_u : ℕ → ℕ
imm_u w = bits w 12 20 * 2 ^ 12

-- imm[20] in bit 31, imm[19:12] in bits 19 to 12, imm[11] in bit 20, imm[10:1] in bits 30 to 21
abbrev pub imm_j : ℕ → ℕ
imm_j w = sign_extended (2 ^ 20) (bits w 31 1 * 2 ^ 20 + bits w 12 8 * 2 ^ 12 + bits w 20 1 * 2 ^ 11 + bits w 21 10 * 2)
