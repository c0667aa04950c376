-- What the devices have in common: how a refusal becomes a fault, and what a device without registers does not do.
use Rattle.std.specs.Prelude.{ℕ, Bool, false, Some, None, Ok, Err, Option, Result}
use Rattle.bus.specs.declared.access.Cause.{Cause}
use Rattle.bus.specs.declared.access.Cause.TheVariants.{Unmapped, NoCode}
use Rattle.bus.specs.declared.access.Device.{Device}
use Rattle.bus.specs.declared.access.FeedRefusal.TheVariants.{NoReceiver}
use Rattle.bus.specs.declared.access.Lines.{Lines}
use Rattle.bus.specs.declared.access.Width.{Width}
use Rattle.bus.specs.Numbers.{cause_number, device_number, FaultNumbers}
use Rattle.bus.specs.Kind.{Kind, Answer}

-- a refusal by a device at an address, with no split above it
abbrev pub refusal : Device → ℕ → Cause → FaultNumbers
refusal d a c = record { cause = cause_number c; address = a; device = device_number d; depth = 0 }

-- a device's answer at an address, its refusal as a fault
abbrev pub faulted : {R : Type 0} → Device → ℕ → Result R Cause → Result R FaultNumbers
faulted d a (Ok x) = Ok x
faulted d a (Err c) = Err (refusal d a c)

abbrev pub answered : {R M : Type 0} → Device → ℕ → Answer (Result R Cause) M → Answer (Result R FaultNumbers) M
answered d a x = record { value = faulted d a x.value; next = x.next }

-- an access to what was found, or its refusal, which changes nothing
abbrev pub access : {X R M : Type 0} → M → Result X Cause → (X → Answer R M) → Answer (Result R Cause) M
access m (Ok x) f = record { value = Ok (f x).value; next = (f x).next }
access m (Err c) f = record { value = Err c; next = m }

-- a register, or nothing at this address
abbrev pub mapped : {X : Type 0} → Option X → Result X Cause
mapped (Some x) = Ok x
mapped None = Err Unmapped

-- a register holds no code
abbrev pub no_code : {X : Type 0} → Result X Cause → Result ℕ Cause
no_code (Ok x) = Err NoCode
no_code (Err c) = Err c

-- no line is up
abbrev pub down : Lines
down = record { software = false; timer = false; external = false }

-- a kind that ignores ticks, has its lines down and no receiver, sends nothing, and is not changed by a load
abbrev pub still : (M : Type 0) → (M → ℕ → Result ℕ FaultNumbers) → (M → ℕ → Width → Result ℕ FaultNumbers) → (M → ℕ → Width → ℕ → Answer (Result (Unit {0}) FaultNumbers) M) → (M → ℕ → Bool) → Kind
still M f l s y = record {
  Meaning = M;
  fetch = f;
  load = λ m a n. record { value = l m a n; next = m };
  store = s;
  tick = λ m. m;
  lines = λ m. down;
  steady = y;
  feed = λ m b. record { value = Err NoReceiver; next = m };
  sent = λ m i. None;
}
