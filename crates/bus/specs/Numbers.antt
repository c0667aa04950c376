-- The numbers by which widths, causes, devices and answers to a feed are known outside.
use Rattle.std.specs.Prelude.{ℕ, Ok, Err, Result}
use Rattle.bus.specs.declared.access.Cause.{Cause}
use Rattle.bus.specs.declared.access.Cause.TheVariants.{Unmapped, ReadOnly, Malformed, NoCode}
use Rattle.bus.specs.declared.access.Device.{Device}
use Rattle.bus.specs.declared.access.Device.TheVariants.{Ram, Rom, Uart, Clint}
use Rattle.bus.specs.declared.access.Fault.{Fault}
use Rattle.bus.specs.declared.access.FeedRefusal.{FeedRefusal}
use Rattle.bus.specs.declared.access.FeedRefusal.TheVariants.{NoReceiver, Overrun}
use Rattle.bus.specs.declared.access.Width.{Width}
use Rattle.bus.specs.declared.access.Width.TheVariants.{Byte, Half, Word}

-- how many bytes a width has
abbrev pub size : Width → ℕ
size Byte = 1
size Half = 2
size Word = 4

-- the cause of a refusal
abbrev pub cause_number : Cause → ℕ
cause_number Unmapped = 1
cause_number ReadOnly = 2
cause_number Malformed = 3
cause_number NoCode = 4

-- the device that refused
abbrev pub device_number : Device → ℕ
device_number Ram = 1
device_number Rom = 2
device_number Uart = 3
device_number Clint = 4

-- why a fed byte was not taken
abbrev pub feed_refusal_number : FeedRefusal → ℕ
feed_refusal_number NoReceiver = 16
feed_refusal_number Overrun = 17

-- what became of a fed byte: 0 where it was taken, else the refusal
abbrev pub feed_number : Result (Unit {0}) FeedRefusal → ℕ
feed_number (Ok _) = 0
feed_number (Err e) = feed_refusal_number e

-- a fault in numbers
pub record FaultNumbers : Type 0 where
  pub cause : ℕ
  pub address : ℕ
  pub device : ℕ
  pub depth : ℕ

abbrev pub fault_numbers : Fault → FaultNumbers
fault_numbers f = record { cause = cause_number f.cause; address = f.address; device = device_number f.device; depth = f.depth }

-- an answer with its refusal in numbers
abbrev pub numbered : {R : Type 0} → Result R Fault → Result R FaultNumbers
numbered (Ok x) = Ok x
numbered (Err f) = Err (fault_numbers f)
