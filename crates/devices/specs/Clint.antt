-- The core-local interruptor: a software interrupt bit, and a clock with a time to compare it with.
use Rattle.std.specs.Prelude.{ℕ, ◌+◌, ◌-◌, ◌*◌, ◌/◌, ◌%◌, ◌^◌, Bool, false, Some, None, Err, Option, Result, ◌==◌, nat_le, if◌then◌else◌}
use Rattle.bus.specs.declared.access.Cause.{Cause}
use Rattle.bus.specs.declared.access.Cause.TheVariants.{Malformed}
use Rattle.bus.specs.declared.access.Device.TheVariants.{Clint as ClintDevice}
use Rattle.bus.specs.declared.access.FeedRefusal.TheVariants.{NoReceiver}
use Rattle.bus.specs.declared.access.Width.{Width}
use Rattle.bus.specs.declared.access.Width.TheVariants.{Byte, Half as HalfWord, Word}
use Rattle.bus.specs.Kind.{Kind}
use Rattle.devices.specs.declared.clint.Clint.{Clint}
use Rattle.devices.specs.declared.clint.Register.{Register}
use Rattle.devices.specs.declared.clint.Register.TheVariants.{Software, Compare, Time}
use Rattle.devices.specs.declared.clint.Half.{Half}
use Rattle.devices.specs.declared.clint.Half.TheVariants.{Low, High}
use Rattle.devices.specs.Device.{faulted, answered, access, mapped, no_code}

-- msip, mtimecmp and mtime
abbrev pub timer : Bool → ℕ → ℕ → Clint
timer b c t = record { msip = b; mtimecmp = c; mtime = t }

abbrev pub fresh : Clint
fresh = timer false (2 ^ 64 - 1) 0

-- the register at an address
abbrev pub register_at : ℕ → Option Register
register_at a =
    if a == 0x02000000 then Some Software
    else if a == 0x02004000 then Some (Compare Low)
    else if a == 0x02004004 then Some (Compare High)
    else if a == 0x0200BFF8 then Some (Time Low)
    else if a == 0x0200BFFC then Some (Time High)
    else None

-- the register that an access reaches: words only
abbrev pub register_for : ℕ → Width → Result Register Cause
register_for a Byte = Err Malformed
register_for a HalfWord = Err Malformed
register_for a Word = if a % 4 == 0 then mapped (register_at a) else Err Malformed

-- a half of a number of 64 bits
abbrev pub half_of : Half → ℕ → ℕ
half_of Low x = x % 2 ^ 32
half_of High x = x / 2 ^ 32

-- the number with that half replaced
abbrev pub with_half : Half → ℕ → ℕ → ℕ
with_half Low x v = x / 2 ^ 32 * 2 ^ 32 + v
with_half High x v = v * 2 ^ 32 + x % 2 ^ 32

-- what a register reads
abbrev pub read_of : Clint → Register → ℕ
read_of t Software = if t.msip then 1 else 0
read_of t (Compare h) = half_of h t.mtimecmp
read_of t (Time h) = half_of h t.mtime

-- what a store to a register leaves
abbrev pub written : Clint → Register → ℕ → Clint
written t Software v = record t { msip = v % 2 == 1 }
written t (Compare h) v = record t { mtimecmp = with_half h t.mtimecmp v }
written t (Time h) v = record t { mtime = with_half h t.mtime v }

abbrev pub clint : Kind
clint = record {
  Meaning = Clint;
  fetch = λ t a. faulted ClintDevice a (no_code (register_for a Word));
  load = λ t a n. answered ClintDevice a (access t (register_for a n) (λ r. record { value = read_of t r; next = t }));
  store = λ t a n v. answered ClintDevice a (access t (register_for a n) (λ r. record { value = tt; next = written t r v }));
  tick = λ t. record t { mtime = (t.mtime + 1) % 2 ^ 64 };
  lines = λ t. record { software = t.msip; timer = nat_le t.mtimecmp t.mtime; external = false };
  steady = λ t a. false;
  feed = λ t b. record { value = Err NoReceiver; next = t };
  sent = λ t i. None;
}
