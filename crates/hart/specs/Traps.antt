-- Traps, interrupts and the return from them.
use Rattle.std.specs.Prelude.{ℕ, ◌+◌, ◌*◌, ◌^◌, Bool, true, false, if◌then◌else◌, Some, None, Option, bit_and}
use Rattle.bus.specs.declared.access.Lines.{Lines}
use Rattle.bus.specs.Kind.{word_of}
use Rattle.bus.specs.Numbers.{FaultNumbers}
use Rattle.isa.specs.Alu.{flag}
use Rattle.hart.specs.declared.exception.Exception.{Exception}
use Rattle.hart.specs.Control.{bit, status, saved, with_status, with_pending, with_saved}
use Rattle.hart.specs.Exceptions.{cause_of, value_of}
use Rattle.hart.specs.State.{State, go_to, with_control}

-- a trap: pc and the cause are saved, interrupts are off, and the handler follows
abbrev pub trapped : (mcause mtval : ℕ) → Option FaultNumbers → State → State
trapped cause value fault s =
    let c = s.control in
    record s {
      pc = word_of c.mtvec;
      control = with_status (status false c.status.mie) (with_saved (saved s.pc cause value) c);
      trap = Some record { mcause = cause; mepc = s.pc; mtval = value; fault = fault };
    }

-- an exception, with the fault of the bus if one caused it
abbrev pub raised : Exception → Option FaultNumbers → State → State
raised e fault s = trapped (cause_of e) (value_of e s.pc) fault s

-- MRET
abbrev pub returned : State → State
returned s =
    let c = s.control in
    go_to (word_of c.saved.mepc) (with_control (with_status (status c.status.mpie true) c) s)

-- the lines as the bits of mip
abbrev pub mip_of : Lines → ℕ
mip_of l = flag l.software * 8 + flag l.timer * 128 + flag l.external * 2048

-- the lines are read into mip
abbrev pub sensed : Lines → State → State
sensed l s = with_control (with_pending (mip_of l) s.control) s

-- which of the interrupts that are ready is taken, if they are on: 11 before 3 before 7
abbrev pub chosen : (on : Bool) → (ready : ℕ) → Option ℕ
chosen false ready = None
chosen true ready =
    if bit 11 ready then Some 11
    else if bit 3 ready then Some 3
    else if bit 7 ready then Some 7
    else None

-- the number of the interrupt to take, if any
abbrev pub interrupt : State → Option ℕ
interrupt s = let c = s.control in chosen c.status.mie (bit_and c.pending c.enabled)

-- whether an interrupt is taken, and the state then; bit 31 of mcause tells interrupts
abbrev pub taking : Option ℕ → State → Bool × State
taking (Some n) s = (true, trapped (2 ^ 31 + n) 0 None s)
taking None s = (false, s)

-- an interrupt is taken if one is due
abbrev pub interrupted : State → Bool × State
interrupted s = taking (interrupt s) s

-- the start of a step: the lines are read, and an interrupt is taken if one is due
unfoldable pub latched : Lines → State → Bool × State
latched l s = interrupted (sensed l s)
