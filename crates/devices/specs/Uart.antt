-- The serial port: bytes come in by a queue and go out to a console, under eight byte registers.
use Rattle.std.specs.Prelude.{ℕ, ◌+◌, ◌%◌, Bool, false, ◌&&◌, [], Some, None, Err, Option, Result, ◌==◌, nat_le, if◌then◌else◌}
use Rattle.bus.specs.declared.access.Cause.{Cause}
use Rattle.bus.specs.declared.access.Cause.TheVariants.{Malformed}
use Rattle.bus.specs.declared.access.Device.TheVariants.{Uart as UartDevice}
use Rattle.bus.specs.declared.access.Width.{Width}
use Rattle.bus.specs.declared.access.Width.TheVariants.{Byte, Half, Word}
use Rattle.bus.specs.Kind.{Kind, Answer}
use Rattle.devices.specs.declared.uart.Uart.{Uart}
use Rattle.devices.specs.declared.uart.Registers.{Registers}
use Rattle.devices.specs.declared.uart.register.Register.{Register}
use Rattle.devices.specs.declared.uart.register.Register.TheVariants.{Data, InterruptEnable, DivisorLow, DivisorHigh, Identification, LineControl, ModemControl, LineStatus, ModemStatus, Scratch}
use Rattle.devices.specs.Device.{faulted, answered, access, mapped, no_code}
use Rattle.devices.specs.Receiver.{Receiving, idle, waits, fed, oldest, oldest_taken, seen, bit0, switched}
use Rattle.devices.specs.Transmitter.{Sending, sending, has_room, sent_on, sent_at}

-- what a serial port holds
abbrev pub serial : Receiving → Sending → Registers → Uart
serial r t s = record { receiver = r; transmitter = t; registers = s }

-- nothing waits, nothing was sent, and every kept bit is 0
abbrev pub fresh : ℕ → Uart
fresh n = serial idle (sending [] n) (record { interrupt_enable = 0; divisor_low = 0; divisor_high = 0; line_control = 0; modem_control = 0; scratch = 0 })

-- the external line: a byte waits, and its interrupt is enabled
abbrev pub raised : Uart → Bool
raised m = waits m.receiver && bit0 m.registers.interrupt_enable

abbrev pub flag : Bool → ℕ → ℕ
flag b n = if b then n else 0

-- what interrupts, and in bits 6 and 7 that the queue is switched on
abbrev pub identification : Uart → ℕ
identification m = (if raised m then 4 else 1) + flag m.receiver.fifo 0xC0

-- bit 0 a byte waits, bit 1 one was lost, bits 5 and 6 the console has room
abbrev pub line_status : Uart → ℕ
line_status m = flag (waits m.receiver) 1 + flag m.receiver.overrun 2 + flag (has_room m.transmitter) 0x60

-- a load that changes nothing
abbrev pub only : Uart → ℕ → Answer ℕ Uart
only m v = record { value = v; next = m }

-- a load from a register
abbrev pub loaded : Uart → Register → Answer ℕ Uart
loaded m Data = record { value = oldest m.receiver; next = record m { receiver = oldest_taken m.receiver } }
loaded m InterruptEnable = only m m.registers.interrupt_enable
loaded m DivisorLow = only m m.registers.divisor_low
loaded m DivisorHigh = only m m.registers.divisor_high
loaded m Identification = only m (identification m)
loaded m LineControl = only m m.registers.line_control
loaded m ModemControl = only m m.registers.modem_control
loaded m LineStatus = record { value = line_status m; next = record m { receiver = seen m.receiver } }
loaded m ModemStatus = only m 0
loaded m Scratch = only m m.registers.scratch

-- a byte stored to a register
abbrev pub stored : Uart → Register → ℕ → Uart
stored m Data b = record m { transmitter = sent_on m.transmitter b }
stored m InterruptEnable b = record m { registers = record m.registers { interrupt_enable = b % 16 } }
stored m DivisorLow b = record m { registers = record m.registers { divisor_low = b } }
stored m DivisorHigh b = record m { registers = record m.registers { divisor_high = b } }
stored m Identification b = record m { receiver = switched m.receiver b }
stored m LineControl b = record m { registers = record m.registers { line_control = b } }
stored m ModemControl b = record m { registers = record m.registers { modem_control = b } }
stored m LineStatus b = m
stored m ModemStatus b = m
stored m Scratch b = record m { registers = record m.registers { scratch = b } }

-- the register at an address; with the divisor latch open, the first two are the divisor's
abbrev pub register_at : Bool → ℕ → Option Register
register_at latch a =
    if a == 0x10000000 then Some (if latch then DivisorLow else Data)
    else if a == 0x10000001 then Some (if latch then DivisorHigh else InterruptEnable)
    else if a == 0x10000002 then Some Identification
    else if a == 0x10000003 then Some LineControl
    else if a == 0x10000004 then Some ModemControl
    else if a == 0x10000005 then Some LineStatus
    else if a == 0x10000006 then Some ModemStatus
    else if a == 0x10000007 then Some Scratch
    else None

-- bit 7 of the line control register opens the divisor latch
abbrev pub register_of : Uart → ℕ → Result Register Cause
register_of m a = mapped (register_at (nat_le 128 m.registers.line_control) a)

-- the register that an access reaches: bytes only
abbrev pub register_for : Uart → ℕ → Width → Result Register Cause
register_for m a Byte = register_of m a
register_for m a Half = Err Malformed
register_for m a Word = Err Malformed

abbrev pub uart : Kind
uart = record {
  Meaning = Uart;
  fetch = λ m a. faulted UartDevice a (if a % 4 == 0 then no_code (register_of m a) else Err Malformed);
  load = λ m a n. answered UartDevice a (access m (register_for m a n) (loaded m));
  store = λ m a n v. answered UartDevice a (access m (register_for m a n) (λ r. record { value = tt; next = stored m r (v % 256) }));
  tick = λ m. m;
  lines = λ m. record { software = false; timer = false; external = raised m };
  steady = λ m a. false;
  feed = λ m b. record { value = (fed m.receiver b).value; next = record m { receiver = (fed m.receiver b).next } };
  sent = λ m. sent_at m.transmitter;
}
