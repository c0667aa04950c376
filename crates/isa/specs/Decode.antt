-- The instruction that a word encodes.
use Rattle.std.specs.Prelude.{ℕ, if◌then◌else◌, ◌==◌}
use Rattle.isa.specs.declared.kind.Kind.{Kind}
use Rattle.isa.specs.declared.kind.Kind.TheVariants.{Lui, Auipc, Jal, Jalr, Branch, Load, Store, Immediate, Shift, Op, Csr, CsrImmediate, Fence, FenceI, System, Unknown}
use Rattle.isa.specs.declared.instruction.Instruction.{Instruction}
use Rattle.isa.specs.declared.instruction.Instruction.TheVariants as to
use Rattle.isa.specs.Fields.{opcode, rd, f3, rs1, rs2, f7, csr, imm_i, imm_s, imm_b, imm_u, imm_j}
use Rattle.isa.specs.Listing.{kind_of}

-- the kind of a word, by its fields
abbrev pub word_kind : ℕ → Kind
word_kind w = kind_of (opcode w) (f3 w) (f7 w)

-- the words with opcode 0x73 and f3 0
abbrev pub system_of : ℕ → Instruction
system_of w =
    if w == 0x00000073 then to.Ecall
    else if w == 0x00100073 then to.Ebreak
    else if w == 0x30200073 then to.Mret
    else if w == 0x10500073 then to.Wfi else to.Unknown

-- the immediate of a word, by the format of its kind; a shift's amount stands in the place of rs2
abbrev pub imm_of : Kind → ℕ → ℕ
imm_of Lui w = imm_u w
imm_of Auipc w = imm_u w
imm_of Jal w = imm_j w
imm_of Jalr w = imm_i w
imm_of (Branch c) w = imm_b w
imm_of (Load l) w = imm_i w
imm_of (Store s) w = imm_s w
imm_of (Immediate o) w = imm_i w
imm_of (Shift o) w = rs2 w
imm_of (Op o) w = 0
imm_of (Csr o) w = 0
imm_of (CsrImmediate o) w = 0
imm_of Fence w = 0
imm_of FenceI w = 0
imm_of System w = 0
imm_of Unknown w = 0

-- the instruction of a word of a kind, with its immediate
abbrev pub formed : Kind → (w imm : ℕ) → Instruction
formed Lui w v = to.Lui (rd w) v
formed Auipc w v = to.Auipc (rd w) v
formed Jal w v = to.Jal (rd w) v
formed Jalr w v = to.Jalr (rd w) (rs1 w) v
formed (Branch c) w v = to.Branch c (rs1 w) (rs2 w) v
formed (Load l) w v = to.Load l (rd w) (rs1 w) v
formed (Store s) w v = to.Store s (rs1 w) (rs2 w) v
formed (Immediate o) w v = to.Immediate o (rd w) (rs1 w) v
formed (Shift o) w v = to.Immediate o (rd w) (rs1 w) v
formed (Op o) w v = to.Op o (rd w) (rs1 w) (rs2 w)
formed (Csr o) w v = to.Csr o (rd w) (rs1 w) (csr w)
formed (CsrImmediate o) w v = to.CsrImmediate o (rd w) (rs1 w) (csr w)
formed Fence w v = to.Fence
formed FenceI w v = to.FenceI
formed System w v = system_of w
formed Unknown w v = to.Unknown

-- the instruction of a word
abbrev pub decoded : ℕ → Instruction
decoded w = let c = word_kind w in formed c w (imm_of c w)
