-- Encoding and decoding undo one another.
use Rattle.std.specs.Prelude.{◌≡◌, ℕ, ◌+◌, ◌-◌, ◌*◌, ◌/◌, ◌%◌, ◌^◌, ◌<◌, ◌≤◌, if◌then◌else◌, ◌⊎◌, ◌==◌, ◌≢◌}
use Rattle.isa.specs.declared.instruction.Instruction.{Instruction}
use Rattle.isa.specs.declared.instruction.Instruction.TheVariants.{Lui, Auipc, Jal, Jalr, Branch, Load, Store, Immediate, Op, Csr, CsrImmediate, Fence, FenceI, Ecall, Ebreak, Mret, Wfi, Unknown}
use Rattle.isa.specs.Decode.{decoded}
use Rattle.isa_laws.specs.Encoding.{Form, twelve, five, none, code_of, encoded}

-- the number of a register
abbrev pub Register : ℕ → Type 0
Register r = r < 32

-- the word of a signed number that is at least -m and below m
abbrev pub Short : (m v : ℕ) → Type 0
Short m v = (v < m) ⊎ ((2 ^ 32 - m ≤ v) × (v < 2 ^ 32))

-- a multiple of 2
abbrev pub Even : ℕ → Type 0
Even v = v % 2 ≡ 0

-- a word whose low twelve bits are 0
abbrev pub Upper : ℕ → Type 0
Upper v = (v < 2 ^ 32) × (v % 2 ^ 12 ≡ 0)

-- an immediate that a form has room for
abbrev pub ImmediateFits : Form → ℕ → Type 0
ImmediateFits twelve v = Short (2 ^ 11) v
ImmediateFits five v = v < 32
ImmediateFits none v = ⊥

-- a known instruction whose operands are in range
abbrev pub Encodable : Instruction → Type 0
Encodable (Lui d v) = Register d × Upper v
Encodable (Auipc d v) = Register d × Upper v
Encodable (Jal d v) = Register d × Short (2 ^ 20) v × Even v
Encodable (Jalr d s v) = Register d × Register s × Short (2 ^ 11) v
Encodable (Branch c s t v) = Register s × Register t × Short (2 ^ 12) v × Even v
Encodable (Load l d s v) = Register d × Register s × Short (2 ^ 11) v
Encodable (Store k s t v) = Register s × Register t × Short (2 ^ 11) v
Encodable (Immediate o d s v) = Register d × Register s × ImmediateFits (code_of o).form v
Encodable (Op o d s t) = Register d × Register s × Register t
Encodable (Csr o d s n) = Register d × Register s × (n < 2 ^ 12)
Encodable (CsrImmediate o d v n) = Register d × (v < 32) × (n < 2 ^ 12)
Encodable Fence = Unit {0}
Encodable FenceI = Unit {0}
Encodable Ecall = Unit {0}
Encodable Ebreak = Unit {0}
Encodable Mret = Unit {0}
Encodable Wfi = Unit {0}
Encodable Unknown = ⊥

-- the bits of a word that count: of opcode 0x0f, FENCE and FENCE.I, only the opcode and f3
abbrev pub counted : ℕ → ℕ
counted w = if w % 2 ^ 7 == 0x0f then w % 2 ^ 7 + w / 2 ^ 12 % 2 ^ 3 * 2 ^ 12 else w

-- an instruction whose operands fit is encoded as a word, and this word decodes to it
abbrev pub DecodeInvertsEncode : Type 0
DecodeInvertsEncode = (i : Instruction) → Encodable i → (encoded i < 2 ^ 32) × (decoded (encoded i) ≡ i)

-- a known word is the encoding of what it decodes to, in the bits that count
abbrev pub EncodeInvertsDecode : Type 0
EncodeInvertsDecode = (w : ℕ) → w < 2 ^ 32 → (decoded w ≢ Unknown) → encoded (decoded w) ≡ counted w

-- the operands of a known word fit
abbrev pub OperandsFit : Type 0
OperandsFit = (w : ℕ) → w < 2 ^ 32 → (decoded w ≢ Unknown) → Encodable (decoded w)

-- a word with opcode 0x0f is FENCE at f3 0 and FENCE.I at f3 1, whatever its other fields hold
abbrev pub FencesIgnoreFields : Type 0
FencesIgnoreFields =
    (w : ℕ) → w % 2 ^ 7 ≡ 0x0f → (w / 2 ^ 12 % 2 ^ 3 ≡ 0 → decoded w ≡ Fence) × (w / 2 ^ 12 % 2 ^ 3 ≡ 1 → decoded w ≡ FenceI)
