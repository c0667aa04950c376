-- What is read of a control register after a write, and when none is written.
use Rattle.std.specs.Prelude.{◌≡◌, ℕ, ◌+◌, ◌-◌, ◌*◌, ◌/◌, ◌%◌, ◌≤◌, true, false, ◌≢◌, Some, bit_and}
use Rattle.hart.specs.declared.control.Control.{Control}
use Rattle.hart.specs.Control.{reading, written}
use Rattle.hart.specs.Execute.{executed}
use Rattle.hart.specs.State.{State}
use Rattle.isa.specs.declared.instruction.Instruction.TheVariants.{Csr, CsrImmediate}
use Rattle.isa.specs.declared.kind.CsrOp.TheVariants.{Set, Clear}

module _ (c : Control) (v : ℕ) where
  -- v can be written to register n, which then reads w
  abbrev pub ReadsBack : (n w : ℕ) → Type 0
  ReadsBack n w = ((written c n v).0 ≡ true) × (reading (written c n v).1 n ≡ Some w)

  -- what each register reads after a write of v
  pub record Writes : Type 0 where
    -- bits 12 and 11 are 1, and bits 7 and 3 are those of v
    pub mstatus : ReadsBack 0x300 (0x1800 + v / 8 % 2 * 8 + v / 128 % 2 * 128)
    pub misa : ReadsBack 0x301 0x40001100
    -- bits 11, 7 and 3
    pub mie : ReadsBack 0x304 (bit_and v 0x888)
    pub mtvec : ReadsBack 0x305 (v - v % 4)
    pub mscratch : ReadsBack 0x340 v
    pub mepc : ReadsBack 0x341 (v - v % 4)
    pub mcause : ReadsBack 0x342 v
    pub mtval : ReadsBack 0x343 v
    -- mip holds the lines, whatever is written
    pub mip : ReadsBack 0x344 c.pending
    -- 0xF11 to 0xF14 read 0 and cannot be written
    pub read_only : (n : ℕ) → 0xf11 ≤ n → n ≤ 0xf14 → (reading c n ≡ Some 0) × ((written c n v).0 ≡ false)
    -- no other register changes
    pub others : (n k : ℕ) → k ≢ n → reading (written c n v).1 k ≡ reading c k

-- at all control registers and values
abbrev pub WritesReadBack : Type 0
WritesReadBack = (c : Control) (v : ℕ) → Writes c v

-- whatever control register is named, CSRRS and CSRRC from x0, and from the immediate 0, leave all of them
pub record ZeroSourceOnlyReads (w rd n : ℕ) (s : State) : Type 0 where
  pub set_x0 : (executed w (Csr Set rd 0 n) s).1.control ≡ s.control
  pub clear_x0 : (executed w (Csr Clear rd 0 n) s).1.control ≡ s.control
  pub set_0 : (executed w (CsrImmediate Set rd 0 n) s).1.control ≡ s.control
  pub clear_0 : (executed w (CsrImmediate Clear rd 0 n) s).1.control ≡ s.control

-- of all words, registers and states
abbrev pub ZeroSourcesOnlyRead : Type 0
ZeroSourcesOnlyRead = (w rd n : ℕ) (s : State) → ZeroSourceOnlyReads w rd n s
