-- The control registers: what each reads, and what a write leaves.
use Rattle.std.specs.Prelude.{◌≡◌, ℕ, ◌+◌, ◌*◌, Bool, true, false, if◌then◌else◌, ◌&&◌, Some, None, Option, Result, MatchResult, ◌==◌, bit_and, nat_le}
use Rattle.bus.specs.Kind.{word_of}
use Rattle.isa.specs.Alu.{flag}
use Rattle.isa.specs.Fields.{bits}
use Rattle.hart.specs.declared.control.Control.{Control}
use Rattle.hart.specs.declared.control.Saved.{Saved}
use Rattle.hart.specs.declared.control.Status.{Status}
use Rattle.hart.specs.declared.control_register.ControlRefusal.{ControlRefusal}
use Rattle.hart.specs.declared.control_register.ControlRegister.{ControlRegister}
use Rattle.hart.specs.declared.control_register.ControlRegister.TheVariants.{Mstatus, Misa, Mie, Mtvec, Mscratch, Mepc, Mcause, Mtval, Mip, Mvendorid, Marchid, Mimpid, Mhartid}

-- bit i of a word
abbrev pub bit : ℕ → ℕ → Bool
bit i w = bits w i 1 == 1

-- the two bits of mstatus
abbrev pub status : (mie mpie : Bool) → Status
status i p = record { mie = i; mpie = p }

-- what a trap saves
abbrev pub saved : (mepc mcause mtval : ℕ) → Saved
saved e c v = record { mepc = e; mcause = c; mtval = v }

-- the control registers of a fresh hart
abbrev pub fresh_control : Control
fresh_control = record { status = status false false; enabled = 0; pending = 0; mtvec = 0; mscratch = 0; saved = saved 0 0 0 }

-- the control registers with another mstatus
abbrev pub with_status : Status → Control → Control
with_status v c = record c { status = v }

-- with another mie
abbrev pub with_enabled : ℕ → Control → Control
with_enabled v c = record c { enabled = v }

-- with another mip
abbrev pub with_pending : ℕ → Control → Control
with_pending v c = record c { pending = v }

-- with another mtvec
abbrev pub with_mtvec : ℕ → Control → Control
with_mtvec v c = record c { mtvec = v }

-- with another mscratch
abbrev pub with_mscratch : ℕ → Control → Control
with_mscratch v c = record c { mscratch = v }

-- with another mepc, mcause and mtval
abbrev pub with_saved : Saved → Control → Control
with_saved v c = record c { saved = v }

-- the number of a register
abbrev pub control_number : ControlRegister → ℕ
control_number Mstatus = 0x300
control_number Misa = 0x301
control_number Mie = 0x304
control_number Mtvec = 0x305
control_number Mscratch = 0x340
control_number Mepc = 0x341
control_number Mcause = 0x342
control_number Mtval = 0x343
control_number Mip = 0x344
control_number Mvendorid = 0xf11
control_number Marchid = 0xf12
control_number Mimpid = 0xf13
control_number Mhartid = 0xf14

-- what mstatus reads: bits 12 and 11 stand
abbrev pub status_word : Status → ℕ
status_word v = 0x1800 + flag v.mie * 8 + flag v.mpie * 128

-- what the register of a number reads, if there is one
abbrev pub reading : Control → ℕ → Option ℕ
reading c n =
    if n == 0x300 then Some (status_word c.status)
    else if n == 0x301 then Some 0x40001100
    else if n == 0x304 then Some c.enabled
    else if n == 0x305 then Some c.mtvec
    else if n == 0x340 then Some c.mscratch
    else if n == 0x341 then Some c.saved.mepc
    else if n == 0x342 then Some c.saved.mcause
    else if n == 0x343 then Some c.saved.mtval
    else if n == 0x344 then Some c.pending
    else if nat_le 0xf11 n && nat_le n 0xf14 then Some 0
    else None

-- the register with a number, or none: no register can be read there
abbrev pub Names : ℕ → Result ControlRegister ControlRefusal → Type 0
Names n r = MatchResult r (λ c. control_number c ≡ n) (λ e. (c : Control) → reading c n ≡ None)

-- whether a write is taken, and the registers then
abbrev pub written : Control → ℕ → ℕ → Bool × Control
written c n v =
    let t = c.saved in
    if n == 0x300 then (true, with_status (status (bit 3 v) (bit 7 v)) c)
    else if n == 0x301 then (true, c)
    else if n == 0x304 then (true, with_enabled (bit_and v 0x888) c)
    else if n == 0x305 then (true, with_mtvec (word_of v) c)
    else if n == 0x340 then (true, with_mscratch v c)
    else if n == 0x341 then (true, with_saved (saved (word_of v) t.mcause t.mtval) c)
    else if n == 0x342 then (true, with_saved (saved t.mepc v t.mtval) c)
    else if n == 0x343 then (true, with_saved (saved t.mepc t.mcause v) c)
    else if n == 0x344 then (true, c)
    else (false, c)
