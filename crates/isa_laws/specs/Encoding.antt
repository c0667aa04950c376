-- The word that encodes an instruction, by the manual's formats.
use Rattle.std.specs.Prelude.{ℕ, ◌+◌, ◌*◌, ◌/◌, ◌%◌, ◌^◌}
use Rattle.isa.specs.declared.alu.AluOp.{AluOp}
use Rattle.isa.specs.declared.alu.AluOp.TheVariants.{Add, Sub, Sll, Slt, Sltu, Xor, Srl, Sra, Or, And, Mul, Mulh, Mulhsu, Mulhu, Div, Divu, Rem, Remu}
use Rattle.isa.specs.declared.branch.Condition.{Condition}
use Rattle.isa.specs.declared.branch.Condition.TheVariants.{Eq, Ne, Lt, Ge, Ltu, Geu}
use Rattle.isa.specs.declared.instruction.Instruction.{Instruction}
use Rattle.isa.specs.declared.instruction.Instruction.TheVariants.{Lui, Auipc, Jal, Jalr, Branch, Load, Store, Immediate, Op, Csr, CsrImmediate, Fence, FenceI, Ecall, Ebreak, Mret, Wfi, Unknown}
use Rattle.isa.specs.declared.kind.CsrOp.{CsrOp}
use Rattle.isa.specs.declared.kind.CsrOp.TheVariants.{Write, Set, Clear}
use Rattle.isa.specs.declared.kind.Load.{Load as LoadKind}
use Rattle.isa.specs.declared.kind.Load.TheVariants as load
use Rattle.isa.specs.declared.kind.Store.{Store as StoreKind}
use Rattle.isa.specs.declared.kind.Store.TheVariants as store

-- n bits of an immediate from bit i up, put at bit j of a word
abbrev pub field : (imm i n j : ℕ) → ℕ
field v i n j = v / 2 ^ i % 2 ^ n * 2 ^ j

-- the format of operations on registers
abbrev pub format_r : (opcode rd f3 rs1 rs2 f7 : ℕ) → ℕ
format_r o d f s t g = o + d * 2 ^ 7 + f * 2 ^ 12 + s * 2 ^ 15 + t * 2 ^ 20 + g * 2 ^ 25

-- the format of immediates of twelve bits
abbrev pub format_i : (opcode rd f3 rs1 imm : ℕ) → ℕ
format_i o d f s v = o + d * 2 ^ 7 + f * 2 ^ 12 + s * 2 ^ 15 + field v 0 12 20

-- the format of stores
abbrev pub format_s : (opcode f3 rs1 rs2 imm : ℕ) → ℕ
format_s o f s t v = o + field v 0 5 7 + f * 2 ^ 12 + s * 2 ^ 15 + t * 2 ^ 20 + field v 5 7 25

-- the format of branches
abbrev pub format_b : (opcode f3 rs1 rs2 imm : ℕ) → ℕ
format_b o f s t v = o + field v 11 1 7 + field v 1 4 8 + f * 2 ^ 12 + s * 2 ^ 15 + t * 2 ^ 20 + field v 5 6 25 + field v 12 1 31

-- the format of upper immediates
abbrev pub format_u : (opcode rd imm : ℕ) → ℕ
format_u o d v = o + d * 2 ^ 7 + field v 12 20 12

-- the format of JAL
abbrev pub format_j : (opcode rd imm : ℕ) → ℕ
format_j o d v = o + d * 2 ^ 7 + field v 12 8 12 + field v 11 1 20 + field v 1 10 21 + field v 20 1 31

-- f3 of a branch
abbrev pub condition_code : Condition → ℕ
condition_code Eq = 0
condition_code Ne = 1
condition_code Lt = 4
condition_code Ge = 5
condition_code Ltu = 6
condition_code Geu = 7

-- f3 of a load
abbrev pub load_code : LoadKind → ℕ
load_code load.Byte = 0
load_code load.Half = 1
load_code load.Word = 2
load_code load.ByteUnsigned = 4
load_code load.HalfUnsigned = 5

-- f3 of a store
abbrev pub store_code : StoreKind → ℕ
store_code store.Byte = 0
store_code store.Half = 1
store_code store.Word = 2

-- f3 of an instruction on a control register; with an immediate it is 4 more
abbrev pub csr_code : CsrOp → ℕ
csr_code Write = 1
csr_code Set = 2
csr_code Clear = 3

-- how an operation takes an immediate: as a signed number of twelve bits, as an amount of five bits, or not at all
pub data Form : Type 0 where
  twelve : Form
  five : Form
  none : Form

-- f3 and f7 of an operation, and the form of its immediate
pub record Code : Type 0 where
  pub f3 : ℕ
  pub f7 : ℕ
  pub form : Form

-- a code from its parts
abbrev pub coded : ℕ → ℕ → Form → Code
coded f g m = record { f3 = f; f7 = g; form = m }

-- the code of an operation
abbrev pub code_of : AluOp → Code
code_of Add = coded 0 0 twelve
code_of Sub = coded 0 0x20 none
code_of Sll = coded 1 0 five
code_of Slt = coded 2 0 twelve
code_of Sltu = coded 3 0 twelve
code_of Xor = coded 4 0 twelve
code_of Srl = coded 5 0 five
code_of Sra = coded 5 0x20 five
code_of Or = coded 6 0 twelve
code_of And = coded 7 0 twelve
code_of Mul = coded 0 1 none
code_of Mulh = coded 1 1 none
code_of Mulhsu = coded 2 1 none
code_of Mulhu = coded 3 1 none
code_of Div = coded 4 1 none
code_of Divu = coded 5 1 none
code_of Rem = coded 6 1 none
code_of Remu = coded 7 1 none

-- an operation with an immediate: a shift's amount stands where rs2 would
abbrev pub with_immediate : Form → (f3 f7 rd rs1 imm : ℕ) → ℕ
with_immediate twelve f g d s v = format_i 0x13 d f s v
with_immediate five f g d s v = format_r 0x13 d f s v g
with_immediate none f g d s v = 0

-- the word of an instruction
abbrev pub encoded : Instruction → ℕ
encoded (Lui d v) = format_u 0x37 d v
encoded (Auipc d v) = format_u 0x17 d v
encoded (Jal d v) = format_j 0x6f d v
encoded (Jalr d s v) = format_i 0x67 d 0 s v
encoded (Branch c s t v) = format_b 0x63 (condition_code c) s t v
encoded (Load l d s v) = format_i 0x03 d (load_code l) s v
encoded (Store k s t v) = format_s 0x23 (store_code k) s t v
encoded (Immediate o d s v) = with_immediate (code_of o).form (code_of o).f3 (code_of o).f7 d s v
encoded (Op o d s t) = format_r 0x33 d (code_of o).f3 s t (code_of o).f7
encoded (Csr o d s n) = format_i 0x73 d (csr_code o) s n
encoded (CsrImmediate o d v n) = format_i 0x73 d (4 + csr_code o) v n
encoded Fence = 0x0000000f
encoded FenceI = 0x0000100f
encoded Ecall = 0x00000073
encoded Ebreak = 0x00100073
encoded Mret = 0x30200073
encoded Wfi = 0x10500073
encoded Unknown = 0
