-- What goes in and out of the serial port.
use Rattle.std.proofs.Common.{◌≡◌, ℕ, zero, suc, ◌-◌, ◌%◌, List, [], ◌∷◌, ◌++◌, map, length, take, Ok, sym, refl, arith}
use Rattle.std.proofs.Math.Seq.{take-nil}
use Rattle.std.proofs.lemmas.Grind.{common_steps}
use Rattle.std.proofs.lemmas.List.{append-nil}
use Rattle.bus.specs.declared.access.Width.TheVariants.{Byte}
use Rattle.devices.specs.declared.uart.Uart.{Uart}
use Rattle.devices.specs.Transmitter.{sent_on}
use Rattle.devices.specs.Uart.{uart}
use Rattle.device_laws.specs.Runs.{store, feed, after, taken, loads}
use Rattle.device_laws.specs.SerialPort.{Closed, FirstInFirstOut, RoomTakes, OverrunMarks, SentInOrder}

-- the queue is what waited and then what was taken
waiting : (bs : List ℕ) (m : Uart) → ((after uart (map feed bs) m).receiver.queue ≡ m.receiver.queue ++ taken uart bs m) × ((after uart (map feed bs) m).registers ≡ m.registers)
unfolding after taken
waiting [] m = (sym (append-nil m.receiver.queue), refl)
waiting (b ∷ bs) m = grind (arith, common_steps, waiting bs)

queue-out : (xs : List ℕ) (m : Uart) → Closed m → m.receiver.queue ≡ xs → loads uart (length xs) 0x10000000 m ≡ map Ok xs
unfolding loads
queue-out [] m h e = refl
queue-out (x ∷ xs) m h e = grind (arith, common_steps, queue-out xs)

pub first_in_first_out : FirstInFirstOut
first_in_first_out bs m h =
    let w = waiting bs m in
    queue-out (m.receiver.queue ++ taken uart bs m) (after uart (map feed bs) m) (rw w.1 h) w.0

pub room_takes : RoomTakes
unfolding taken
room_takes [] m h = refl
room_takes (b ∷ bs) m h = grind (arith, common_steps, room_takes bs)

pub overrun_marks : OverrunMarks
unfolding taken
overrun_marks b m h = grind (arith, common_steps)

-- of the bytes sent, the console takes the first n, where it has room for n more
sent_first : (n : ℕ) (bs : List ℕ) (m : Uart) → Closed m → n ≡ m.transmitter.room - length m.transmitter.console → (after uart (map (λ b. store 0x10000000 Byte b) bs) m).transmitter.console ≡ m.transmitter.console ++ map (λ b. b % 256) (take n bs)
unfolding after
sent_first n [] m h e = rw take-nil (sym (append-nil m.transmitter.console))
sent_first zero (b ∷ bs) m h e = grind (arith, common_steps, sent_first zero bs m)
sent_first (suc n) (b ∷ bs) m h e = grind (arith, common_steps, sent_first n bs (record m { transmitter = sent_on m.transmitter (b % 256) }))

pub sent_in_order : SentInOrder
sent_in_order bs m h = sent_first _ bs m h refl
