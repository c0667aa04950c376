-- What a hart holds.
use Rattle.std.specs.Prelude.{◌≡◌, ℕ, ◌+◌, ◌%◌, ◌^◌, if◌then◌else◌, List, replicate, Some, None, Ok, Err, Option, Result, ◌==◌, nat_lt, slice_index, slice_set}
use Rattle.bus.specs.declared.access.Fault.{Fault}
use Rattle.bus.specs.Kind.{word_of}
use Rattle.bus.specs.Numbers.{FaultNumbers, fault_numbers}
use Rattle.hart.specs.declared.control.Control.{Control}
use Rattle.hart.specs.declared.hart.Trap.{Trap}
use Rattle.hart.specs.declared.refusal.RegisterRefusal.TheVariants.{NoSuchRegister}
use Rattle.hart.specs.Control.{fresh_control}
use Rattle.hart.specs.Refusals.{register_refusal_number}

-- the fault of a trap in numbers, if one caused it
abbrev pub faults_of : Option Fault → Option FaultNumbers
faults_of (Some f) = Some (fault_numbers f)
faults_of None = None

-- the record of a trap, with its fault in numbers
pub record TrapNumbers : Type 0 where
  pub mcause : ℕ
  pub mepc : ℕ
  pub mtval : ℕ
  pub fault : Option FaultNumbers

-- the last trap in numbers, if there was one
abbrev pub trap_numbers : Option Trap → Option TrapNumbers
trap_numbers (Some t) = Some record { mcause = t.mcause; mepc = t.mepc; mtval = t.mtval; fault = faults_of t.fault }
trap_numbers None = None

-- what a hart holds
pub record State : Type 0 where
  pub pc : ℕ
  pub x : List ℕ
  pub control : Control
  pub trap : Option TrapNumbers

-- what holds of every hart: x0 is 0, and pc the address of a word
abbrev pub Invariant : State → Type 0
Invariant s = (slice_index s.x 0 ≡ 0) × (s.pc % 4 ≡ 0)

-- a fresh hart's state: the entry with its low two bits dropped, all else 0, and no trap
abbrev pub fresh : ℕ → State
fresh entry = record { pc = word_of entry; x = replicate 32 0; control = fresh_control; trap = None }

-- the state with another pc
abbrev pub go_to : ℕ → State → State
go_to a s = record s { pc = a }

-- with other registers
abbrev pub with_x : List ℕ → State → State
with_x x s = record s { x = x }

-- with other control registers
abbrev pub with_control : Control → State → State
with_control c s = record s { control = c }

-- the register that five bits of an instruction name
abbrev pub read : State → ℕ → ℕ
read s i = slice_index s.x (i % 32)

-- that register written; x0 keeps its 0
abbrev pub put : (i v : ℕ) → State → State
put i v s = with_x (if i % 32 == 0 then s.x else slice_set s.x (i % 32) v) s

-- a sum of words, which wraps
abbrev pub plus : ℕ → ℕ → ℕ
plus a b = (a + b) % 2 ^ 32

-- on to the next instruction
abbrev pub next : State → State
next s = go_to (plus s.pc 4) s

-- the answer to a question for a register
abbrev pub register_answer : ℕ → State → Result ℕ ℕ
register_answer i s = if nat_lt 31 i then Err (register_refusal_number NoSuchRegister) else Ok (slice_index s.x i)
