-- The exceptions: what mcause and mtval take.
use Rattle.std.specs.Prelude.{ℕ}
use Rattle.hart.specs.declared.exception.Exception.{Exception}
use Rattle.hart.specs.declared.exception.Exception.TheVariants.{MisalignedTarget, FetchFault, Illegal, Breakpoint, MisalignedLoad, LoadFault, MisalignedStore, StoreFault, Ecall}

-- the cause
abbrev pub cause_of : Exception → ℕ
cause_of (MisalignedTarget a) = 0
cause_of FetchFault = 1
cause_of (Illegal w) = 2
cause_of Breakpoint = 3
cause_of (MisalignedLoad a) = 4
cause_of (LoadFault a) = 5
cause_of (MisalignedStore a) = 6
cause_of (StoreFault a) = 7
cause_of Ecall = 11

-- the trap value, for an instruction at pc
abbrev pub value_of : Exception → (pc : ℕ) → ℕ
value_of (MisalignedTarget a) pc = a
value_of FetchFault pc = pc
value_of (Illegal w) pc = w
value_of Breakpoint pc = pc
value_of (MisalignedLoad a) pc = a
value_of (LoadFault a) pc = a
value_of (MisalignedStore a) pc = a
value_of (StoreFault a) pc = a
value_of Ecall pc = 0
