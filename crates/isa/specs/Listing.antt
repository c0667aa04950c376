-- The listing of RV32I, Zifencei, Zicsr and M, and the kinds that it gives.
use Rattle.std.specs.Prelude.{ℕ, ◌+◌, ◌*◌, Bool, true, if◌then◌else◌, ◌&&◌, List, [], ◌∷◌, ◌==◌}
use Rattle.isa.specs.declared.alu.AluOp.TheVariants.{Add, Sub, Sll, Slt, Sltu, Xor, Srl, Sra, Or, And, Mul, Mulh, Mulhsu, Mulhu, Div, Divu, Rem, Remu}
use Rattle.isa.specs.declared.branch.Condition.TheVariants as condition
use Rattle.isa.specs.declared.kind.CsrOp.TheVariants as csr
use Rattle.isa.specs.declared.kind.Kind.{Kind}
use Rattle.isa.specs.declared.kind.Kind.TheVariants as k
use Rattle.isa.specs.declared.kind.Load.TheVariants as load
use Rattle.isa.specs.declared.kind.Store.TheVariants as store

-- what a line asks of f3 or of f7: nothing, or a value
pub data Ask : Type 0 where
  any : Ask
  is : ℕ → Ask

-- whether a field meets what a line asks of it
abbrev pub meets : Ask → ℕ → Bool
meets any n = true
meets (is m) n = m == n

-- a line of the listing
pub record Line : Type 0 where
  pub opcode : ℕ
  pub f3 : Ask
  pub f7 : Ask
  pub kind : Kind

-- a line from its parts
abbrev pub at : ℕ → Ask → Ask → Kind → Line
at o f g c = record { opcode = o; f3 = f; f7 = g; kind = c }

-- the instructions as the manual lists them: opcode, f3, f7
abbrev pub listing : List Line
listing =
    at 0x37 any any k.Lui  -- LUI
    ∷ at 0x17 any any k.Auipc  -- AUIPC
    ∷ at 0x6f any any k.Jal  -- JAL
    ∷ at 0x67 (is 0) any k.Jalr  -- JALR
    ∷ at 0x63 (is 0) any (k.Branch condition.Eq)  -- BEQ
    ∷ at 0x63 (is 1) any (k.Branch condition.Ne)  -- BNE
    ∷ at 0x63 (is 4) any (k.Branch condition.Lt)  -- BLT
    ∷ at 0x63 (is 5) any (k.Branch condition.Ge)  -- BGE
    ∷ at 0x63 (is 6) any (k.Branch condition.Ltu)  -- BLTU
    ∷ at 0x63 (is 7) any (k.Branch condition.Geu)  -- BGEU
    ∷ at 0x03 (is 0) any (k.Load load.Byte)  -- LB
    ∷ at 0x03 (is 1) any (k.Load load.Half)  -- LH
    ∷ at 0x03 (is 2) any (k.Load load.Word)  -- LW
    ∷ at 0x03 (is 4) any (k.Load load.ByteUnsigned)  -- LBU
    ∷ at 0x03 (is 5) any (k.Load load.HalfUnsigned)  -- LHU
    ∷ at 0x23 (is 0) any (k.Store store.Byte)  -- SB
    ∷ at 0x23 (is 1) any (k.Store store.Half)  -- SH
    ∷ at 0x23 (is 2) any (k.Store store.Word)  -- SW
    ∷ at 0x13 (is 0) any (k.Immediate Add)  -- ADDI
    ∷ at 0x13 (is 2) any (k.Immediate Slt)  -- SLTI
    ∷ at 0x13 (is 3) any (k.Immediate Sltu)  -- SLTIU
    ∷ at 0x13 (is 4) any (k.Immediate Xor)  -- XORI
    ∷ at 0x13 (is 6) any (k.Immediate Or)  -- ORI
    ∷ at 0x13 (is 7) any (k.Immediate And)  -- ANDI
    ∷ at 0x13 (is 1) (is 0) (k.Shift Sll)  -- SLLI
    ∷ at 0x13 (is 5) (is 0) (k.Shift Srl)  -- SRLI
    ∷ at 0x13 (is 5) (is 0x20) (k.Shift Sra)  -- SRAI
    ∷ at 0x33 (is 0) (is 0) (k.Op Add)  -- ADD
    ∷ at 0x33 (is 0) (is 0x20) (k.Op Sub)  -- SUB
    ∷ at 0x33 (is 1) (is 0) (k.Op Sll)  -- SLL
    ∷ at 0x33 (is 2) (is 0) (k.Op Slt)  -- SLT
    ∷ at 0x33 (is 3) (is 0) (k.Op Sltu)  -- SLTU
    ∷ at 0x33 (is 4) (is 0) (k.Op Xor)  -- XOR
    ∷ at 0x33 (is 5) (is 0) (k.Op Srl)  -- SRL
    ∷ at 0x33 (is 5) (is 0x20) (k.Op Sra)  -- SRA
    ∷ at 0x33 (is 6) (is 0) (k.Op Or)  -- OR
    ∷ at 0x33 (is 7) (is 0) (k.Op And)  -- AND
    ∷ at 0x0f (is 0) any k.Fence  -- FENCE
    ∷ at 0x73 (is 0) any k.System  -- ECALL, EBREAK, MRET, WFI
    ∷ at 0x0f (is 1) any k.FenceI  -- FENCE.I
    ∷ at 0x73 (is 1) any (k.Csr csr.Write)  -- CSRRW
    ∷ at 0x73 (is 2) any (k.Csr csr.Set)  -- CSRRS
    ∷ at 0x73 (is 3) any (k.Csr csr.Clear)  -- CSRRC
    ∷ at 0x73 (is 5) any (k.CsrImmediate csr.Write)  -- CSRRWI
    ∷ at 0x73 (is 6) any (k.CsrImmediate csr.Set)  -- CSRRSI
    ∷ at 0x73 (is 7) any (k.CsrImmediate csr.Clear)  -- CSRRCI
    ∷ at 0x33 (is 0) (is 1) (k.Op Mul)  -- MUL
    ∷ at 0x33 (is 1) (is 1) (k.Op Mulh)  -- MULH
    ∷ at 0x33 (is 2) (is 1) (k.Op Mulhsu)  -- MULHSU
    ∷ at 0x33 (is 3) (is 1) (k.Op Mulhu)  -- MULHU
    ∷ at 0x33 (is 4) (is 1) (k.Op Div)  -- DIV
    ∷ at 0x33 (is 5) (is 1) (k.Op Divu)  -- DIVU
    ∷ at 0x33 (is 6) (is 1) (k.Op Rem)  -- REM
    ∷ at 0x33 (is 7) (is 1) (k.Op Remu)  -- REMU
    ∷ []

-- the kind of the first line that the fields meet
abbrev pub listed : List Line → ℕ → ℕ → ℕ → Kind
listed [] o f g = k.Unknown
listed (l ∷ ls) o f g = if l.opcode == o && (meets l.f3 f && meets l.f7 g) then l.kind else listed ls o f g

-- the kind of the words with an opcode, f3 and f7
unfoldable pub kind_of : ℕ → ℕ → ℕ → Kind
kind_of o f g = listed listing o f g

-- the class of f7
unfoldable pub class_of : ℕ → ℕ
class_of g = if g == 0 then 0 else if g == 1 then 1 else if g == 0x20 then 2 else 3

-- a value of f7 in each class
unfoldable pub sample : ℕ → ℕ
sample c = if c == 0 then 0 else if c == 1 then 1 else if c == 2 then 0x20 else 2

-- the table's rule, by bits 6 to 2, f3 and class: the listing's kind for these fields
abbrev pub kind_at : (o f c : ℕ) → Kind
kind_at o f c = kind_of (o * 4 + 3) f (sample c)
