-- What goes in and out of the serial port, and its registers.
use Rattle.std.specs.Prelude.{◌≡◌, ℕ, ◌+◌, ◌-◌, ◌%◌, ◌<◌, ◌≤◌, true, false, ◌≢◌, ◌⊎◌, List, [], ◌∷◌, ◌++◌, map, length, take, is_ok, Some, None, Ok, nat_lt, slice_index, if◌then◌else◌}
use Rattle.bus.specs.declared.access.Width.{Width}
use Rattle.bus.specs.declared.access.Width.TheVariants.{Byte}
use Rattle.bus.specs.Numbers.{size}
use Rattle.devices.specs.declared.uart.Uart.{Uart}
use Rattle.devices.specs.Receiver.{receiving}
use Rattle.devices.specs.Uart.{serial, uart, fresh}
use Rattle.device_laws.specs.Runs.{store, feed, after, taken, loads, refused}

-- the divisor latch is closed while bit 7 of register 3 is 0
abbrev pub Closed : Uart → Type 0
Closed m = m.registers.line_control < 128

-- bytes are loaded in the order in which they were taken
abbrev pub FirstInFirstOut : Type 0
FirstInFirstOut =
    (bs : List ℕ) (m : Uart) → Closed m →
    let all = m.receiver.queue ++ taken uart bs m in
    loads uart (length all) 0x10000000 (after uart (map feed bs) m) ≡ map Ok all

-- 16 bytes can wait, or 1 while the queue is switched off
abbrev pub RoomTakes : Type 0
RoomTakes = (bs : List ℕ) (m : Uart) → length m.receiver.queue + length bs ≤ (if m.receiver.fifo then 16 else 1) → taken uart bs m ≡ bs

-- and the next is lost and marked
abbrev pub OverrunMarks : Type 0
OverrunMarks =
    (b : ℕ) (m : Uart) → (if m.receiver.fifo then 16 else 1) ≤ length m.receiver.queue →
    (taken uart (b ∷ []) m ≡ []) × ((uart.feed m b).next ≡ serial (receiving m.receiver.queue m.receiver.fifo true) m.transmitter m.registers)

-- the bytes sent stand in the order sent, as many as the console has room for
abbrev pub SentInOrder : Type 0
SentInOrder =
    (bs : List ℕ) (m : Uart) → Closed m →
    (after uart (map (λ b. store 0x10000000 Byte b) bs) m).transmitter.console ≡ m.transmitter.console ++ map (λ b. b % 256) (take (m.transmitter.room - length m.transmitter.console) bs)

-- and are answered by their number
pub record Sent (m : Uart) (i : ℕ) : Type 0 where
  pub there : i < length m.transmitter.console → uart.sent m i ≡ Some (slice_index m.transmitter.console i)
  pub past : length m.transmitter.console ≤ i → uart.sent m i ≡ None

-- register 2 and the external line: a byte waits and bit 0 of register 1 stands
pub record Interrupts (m : Uart) : Type 0 where
  pub up : 0 < length m.receiver.queue → m.registers.interrupt_enable % 2 ≡ 1 → ((uart.load m 0x10000002 Byte).value ≡ Ok (if m.receiver.fifo then 0xC4 else 4)) × ((uart.lines m).external ≡ true)
  pub idle : m.receiver.queue ≡ [] → ((uart.load m 0x10000002 Byte).value ≡ Ok (if m.receiver.fifo then 0xC1 else 1)) × ((uart.lines m).external ≡ false)
  pub masked : m.registers.interrupt_enable % 2 ≡ 0 → ((uart.load m 0x10000002 Byte).value ≡ Ok (if m.receiver.fifo then 0xC1 else 1)) × ((uart.lines m).external ≡ false)
  pub others : ((uart.lines m).software ≡ false) × ((uart.lines m).timer ≡ false)

-- register 5: bit 0 a byte waits, bit 1 one was lost, bits 5 and 6 the console has room; the load clears bit 1 and nothing else
pub record LineStatus (m : Uart) : Type 0 where
  pub bits : (uart.load m 0x10000005 Byte).value ≡ Ok ((if nat_lt 0 (length m.receiver.queue) then 1 else 0) + (if m.receiver.overrun then 2 else 0) + (if nat_lt (length m.transmitter.console) m.transmitter.room then 0x60 else 0))
  pub clears : (uart.load m 0x10000005 Byte).next ≡ serial (receiving m.receiver.queue m.receiver.fifo false) m.transmitter m.registers

-- the queue switch, bit 0 of a store to register 2: a change empties the queue, and so does bit 1 together with it
pub record Switch (m : Uart) (b : ℕ) : Type 0 where
  pub on : m.receiver.fifo ≡ false → b % 2 ≡ 1 → (uart.store m 0x10000002 Byte b).next ≡ serial (receiving [] true m.receiver.overrun) m.transmitter m.registers
  pub off : m.receiver.fifo ≡ true → b % 2 ≡ 0 → (uart.store m 0x10000002 Byte b).next ≡ serial (receiving [] false m.receiver.overrun) m.transmitter m.registers
  pub emptied : m.receiver.fifo ≡ true → b % 4 ≡ 3 → (uart.store m 0x10000002 Byte b).next ≡ serial (receiving [] true m.receiver.overrun) m.transmitter m.registers
  pub stays_on : m.receiver.fifo ≡ true → b % 4 ≡ 1 → (uart.store m 0x10000002 Byte b).next ≡ m
  pub stays_off : m.receiver.fifo ≡ false → b % 2 ≡ 0 → (uart.store m 0x10000002 Byte b).next ≡ m

-- what was stored at an address is loaded there
abbrev pub ReadsBack : Uart → ℕ → ℕ → ℕ → Type 0
ReadsBack m a b v = (uart.load (uart.store m a Byte b).next a Byte).value ≡ Ok v

-- the plain registers keep bytes, register 1 keeps four bits, register 6 reads 0, and registers 5 and 6 ignore stores
pub record RegistersKeep (m : Uart) (b : ℕ) : Type 0 where
  pub interrupt_enable_reads : Closed m → ReadsBack m 0x10000001 b (b % 16)
  pub divisor_low_reads : (Closed m → ⊥) → ReadsBack m 0x10000000 b (b % 256)
  pub divisor_high_reads : (Closed m → ⊥) → ReadsBack m 0x10000001 b (b % 256)
  pub divisor_sends_nothing : (Closed m → ⊥) → (uart.store m 0x10000000 Byte b).next.transmitter ≡ m.transmitter
  pub divisor_takes_nothing : (Closed m → ⊥) → (uart.load m 0x10000000 Byte).next ≡ m
  pub line_control_reads : ReadsBack m 0x10000003 b (b % 256)
  pub modem_control_reads : ReadsBack m 0x10000004 b (b % 256)
  pub scratch : ReadsBack m 0x10000007 b (b % 256)
  pub modem_status_reads : (uart.load m 0x10000006 Byte).value ≡ Ok 0
  pub status_stores : ((uart.store m 0x10000005 Byte b).next ≡ m) × ((uart.store m 0x10000006 Byte b).next ≡ m)

abbrev pub PortRegisters : Type 0
PortRegisters = (m : Uart) (b : ℕ) → Interrupts m × LineStatus m × Switch m b × RegistersKeep m b

-- a fresh port: nothing waits, nothing was lost or sent, and every kept bit is 0
pub record FreshPort (n : ℕ) : Type 0 where
  pub received : (uart.load (fresh n) 0x10000000 Byte).value ≡ Ok 0
  pub interrupt_enable_reads : (uart.load (fresh n) 0x10000001 Byte).value ≡ Ok 0
  pub identification : (uart.load (fresh n) 0x10000002 Byte).value ≡ Ok 1
  pub line_control_reads : (uart.load (fresh n) 0x10000003 Byte).value ≡ Ok 0
  pub modem_control_reads : (uart.load (fresh n) 0x10000004 Byte).value ≡ Ok 0
  pub line_status_reads : 0 < n → (uart.load (fresh n) 0x10000005 Byte).value ≡ Ok 0x60
  pub scratch : (uart.load (fresh n) 0x10000007 Byte).value ≡ Ok 0
  pub divisor : ((fresh n).registers.divisor_low ≡ 0) × ((fresh n).registers.divisor_high ≡ 0)
  pub console : ((fresh n).transmitter.console ≡ []) × ((fresh n).transmitter.room ≡ n)

-- bytes only, at the eight registers only, and no code: 3 before 1 before 4
pub record Refuses (m : Uart) (a : ℕ) : Type 0 where
  pub wide_load : (n : Width) → size n ≢ 1 → (uart.load m a n).value ≡ refused 3 a 3
  pub wide_store : (n : Width) (v : ℕ) → size n ≢ 1 → (uart.store m a n v).value ≡ refused 3 a 3
  pub unmapped_load : (a < 0x10000000) ⊎ (0x10000008 ≤ a) → (uart.load m a Byte).value ≡ refused 1 a 3
  pub unmapped_store : (v : ℕ) → (a < 0x10000000) ⊎ (0x10000008 ≤ a) → (uart.store m a Byte v).value ≡ refused 1 a 3
  pub served_load : 0x10000000 ≤ a → a < 0x10000008 → is_ok (uart.load m a Byte).value ≡ true
  pub served_store : (v : ℕ) → 0x10000000 ≤ a → a < 0x10000008 → is_ok (uart.store m a Byte v).value ≡ true
  pub unaligned_fetch : a % 4 ≢ 0 → uart.fetch m a ≡ refused 3 a 3
  pub unmapped_fetch : a % 4 ≡ 0 → (a < 0x10000000) ⊎ (0x10000008 ≤ a) → uart.fetch m a ≡ refused 1 a 3
  pub no_code : a % 4 ≡ 0 → 0x10000000 ≤ a → a < 0x10000008 → uart.fetch m a ≡ refused 4 a 3

abbrev pub UartRefuses : Type 0
UartRefuses = (m : Uart) (a : ℕ) → Refuses m a
