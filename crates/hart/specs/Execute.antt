-- What an instruction does to a hart, and what it asks of the bus: at most one access.
use Rattle.std.specs.Prelude.{ℕ, ◌-◌, ◌*◌, ◌/◌, ◌%◌, ◌^◌, Bool, true, false, if◌then◌else◌, not, ◌||◌, Some, None, Ok, Err, Option, Result, ◌==◌, bit_and, bit_or}
use Rattle.bus.specs.declared.access.Width.{Width}
use Rattle.bus.specs.Numbers.{FaultNumbers, size}
use Rattle.isa.specs.declared.instruction.Instruction.{Instruction}
use Rattle.isa.specs.declared.instruction.Instruction.TheVariants.{Lui, Auipc, Jal, Jalr, Branch, Load, Store, Immediate, Op, Csr, CsrImmediate, Fence, FenceI, Ecall, Ebreak, Mret, Wfi, Unknown}
use Rattle.isa.specs.declared.kind.CsrOp.{CsrOp}
use Rattle.isa.specs.declared.kind.CsrOp.TheVariants.{Write, Set, Clear}
use Rattle.isa.specs.declared.kind.Load.{Load as LoadKind}
use Rattle.isa.specs.Alu.{alu_result}
use Rattle.isa.specs.Branch.{holds}
use Rattle.hart.specs.declared.control.Control.{Control}
use Rattle.hart.specs.declared.exception.Exception.{Exception}
use Rattle.hart.specs.declared.exception.Exception.TheVariants as ex
use Rattle.hart.specs.declared.request.Request.{Request}
use Rattle.hart.specs.declared.request.Request.TheVariants as ask
use Rattle.hart.specs.Control.{reading, written}
use Rattle.hart.specs.State.{State, read, put, plus, next, go_to, with_control}
use Rattle.hart.specs.Traps.{raised, returned}
use Rattle.hart.specs.Widths.{load_width, store_width, load_value}

-- what an instruction asks or the exception that stops it, and the state with it
abbrev pub Outcome : Type 0
Outcome = Result Request Exception × State

-- the instruction is carried out but for what it asks
abbrev pub asks : Request → State → Outcome
asks r s = (Ok r, s)

-- nothing is asked
abbrev pub goes : State → Outcome
goes s = asks ask.Nothing s

-- an exception leaves the state to the trap
abbrev pub raises : Exception → State → Outcome
raises e s = (Err e, s)

-- a jump to the target with a state, unless the target is misaligned
abbrev pub jumped : (target : ℕ) → (from to : State) → Outcome
jumped t s u = if t % 4 == 0 then goes (go_to t u) else raises (ex.MisalignedTarget t) s

-- a branch, taken or not
abbrev pub branched : Bool → ℕ → State → Outcome
branched taken t s = if taken then jumped t s s else goes (next s)

-- a jump with the address of the next instruction in rd
abbrev pub linked : (rd target : ℕ) → State → Outcome
linked rd t s = jumped t s (put rd (plus s.pc 4) s)

-- CSRRW writes whatever its source is
abbrev pub writes_always : CsrOp → Bool
writes_always Write = true
writes_always Set = false
writes_always Clear = false

-- what is written
abbrev pub combined : CsrOp → (old source : ℕ) → ℕ
combined Write old v = v
combined Set old v = bit_or old v
combined Clear old v = bit_and old (2 ^ 32 - 1 - v)

-- a write that was taken or not
abbrev pub csr_stored : Bool × Control → (rd old : ℕ) → State → Bool × State
csr_stored (true, c) rd old s = (true, next (put rd old (with_control c s)))
csr_stored (false, c) rd old s = (false, s)

-- the source of a write, or none where nothing is written
abbrev pub source_if : Bool → ℕ → Option ℕ
source_if writes v = if writes then Some v else None

-- a control register that reads a value, or none, and a source, or none
abbrev pub csr_read : Option ℕ → CsrOp → (rd : ℕ) → (source : Option ℕ) → ℕ → State → Bool × State
csr_read None op rd source n s = (false, s)
csr_read (Some old) op rd None n s = (true, next (put rd old s))
csr_read (Some old) op rd (Some v) n s = csr_stored (written s.control n (combined op old v)) rd old s

-- whether a control register has such a use, and the state then
abbrev pub csr_done : CsrOp → (rd : ℕ) → (source : Option ℕ) → ℕ → State → Bool × State
csr_done op rd source n s = csr_read (reading s.control n) op rd source n s

-- nothing is asked, or the word is illegal
abbrev pub legal_if : ℕ → Bool → Result Request Exception
legal_if w done = if done then Ok ask.Nothing else Err (ex.Illegal w)

-- and the state with it
abbrev pub legal : ℕ → Bool × State → Outcome
legal w (done, s) = (legal_if w done, s)

-- an access, unless its address is no multiple of its width
abbrev pub asked : Width → (address : ℕ) → Request → Exception → Result Request Exception
asked n a r e = if a % size n == 0 then Ok r else Err e

-- a load
abbrev pub asked_load : LoadKind → (rd address : ℕ) → Result Request Exception
asked_load l rd a = asked (load_width l) a (ask.Load l rd a) (ex.MisalignedLoad a)

-- a store
abbrev pub asked_store : Width → (address value : ℕ) → Result Request Exception
asked_store n a v = asked n a (ask.Store n a v) (ex.MisalignedStore a)

-- an instruction, whose word is w, up to its access
abbrev pub executed : ℕ → Instruction → State → Outcome
executed w (Lui rd v) s = goes (next (put rd v s))
executed w (Auipc rd v) s = goes (next (put rd (plus s.pc v) s))
executed w (Jal rd v) s = linked rd (plus s.pc v) s
executed w (Jalr rd rs1 v) s = linked rd (plus (read s rs1) v / 2 * 2) s
executed w (Branch c rs1 rs2 v) s = branched (holds c (read s rs1) (read s rs2)) (plus s.pc v) s
executed w (Load l rd rs1 v) s = (asked_load l rd (plus (read s rs1) v), s)
executed w (Store k rs1 rs2 v) s = (asked_store (store_width k) (plus (read s rs1) v) (read s rs2), s)
executed w (Immediate o rd rs1 v) s = goes (next (put rd (alu_result o (read s rs1) v) s))
executed w (Op o rd rs1 rs2) s = goes (next (put rd (alu_result o (read s rs1) (read s rs2)) s))
executed w (Csr o rd rs1 n) s = legal w (csr_done o rd (source_if (not (rs1 == 0) || writes_always o) (read s rs1)) n s)
executed w (CsrImmediate o rd v n) s = legal w (csr_done o rd (source_if (not (v == 0) || writes_always o) v) n s)
executed w Fence s = goes (next s)
executed w FenceI s = asks ask.Fence (next s)
executed w Wfi s = goes (next s)
executed w Ecall s = raises ex.Ecall s
executed w Ebreak s = raises ex.Breakpoint s
executed w Mret s = goes (returned s)
executed w Unknown s = raises (ex.Illegal w) s

-- an exception is taken as a trap
abbrev pub settled : Outcome → Request × State
settled (Ok r, s) = (r, s)
settled (Err e, s) = (ask.Nothing, raised e None s)

-- an instruction up to its access: what it asks, and the state then
unfoldable pub begun : ℕ → Instruction → State → Request × State
begun w i s = settled (executed w i s)

-- the state after what the bus answered to a load
unfoldable pub loaded : LoadKind → (rd address : ℕ) → Result ℕ FaultNumbers → State → State
loaded l rd a (Ok v) s = next (put rd (load_value l v) s)
loaded l rd a (Err f) s = raised (ex.LoadFault a) (Some f) s

-- after the answer to a store
unfoldable pub stored : (address : ℕ) → Result (Unit {0}) FaultNumbers → State → State
stored a (Ok u) s = next s
stored a (Err f) s = raised (ex.StoreFault a) (Some f) s

-- after a fetch that was refused
unfoldable pub unfetched : FaultNumbers → State → State
unfetched f s = raised ex.FetchFault (Some f) s
