-- RAM and ROM: bytes from a base address on.
use Rattle.std.specs.Prelude.{ℕ, ◌+◌, ◌-◌, ◌*◌, ◌/◌, ◌%◌, ◌^◌, min, Bool, true, false, ◌&&◌, List, length, is_ok, Ok, Err, Result, ◌==◌, nat_le, slice_index, slice_set, if◌then◌else◌}
use Rattle.bus.specs.declared.access.Cause.{Cause}
use Rattle.bus.specs.declared.access.Cause.TheVariants.{Unmapped, ReadOnly, Malformed}
use Rattle.bus.specs.declared.access.Device.{Device}
use Rattle.bus.specs.declared.access.Device.TheVariants.{Ram as RamDevice, Rom as RomDevice}
use Rattle.bus.specs.declared.access.Width.{Width}
use Rattle.bus.specs.declared.access.Width.TheVariants.{Byte, Half, Word}
use Rattle.bus.specs.Numbers.{size}
use Rattle.bus.specs.Kind.{Kind, Answer, word_of}
use Rattle.devices.specs.Device.{faulted, answered, access, still}

-- what a memory holds: its base address, and all the bytes that it was given
pub record Holding : Type 0 where
  pub base : ℕ
  pub bytes : List ℕ

abbrev pub holding : ℕ → List ℕ → Holding
holding b xs = record { base = b; bytes = xs }

-- how many of the bytes are served: whole words that fit below 2^32
abbrev pub served : Holding → ℕ
served m = min (word_of (length m.bytes)) (2 ^ 32 - m.base)

-- the index of an access's first byte among len bytes from a base on, or why it is refused
abbrev pub place_in : ℕ → ℕ → ℕ → Width → Result ℕ Cause
place_in base len a n = if a % size n == 0 then (if nat_le base a && nat_le (a - base + size n) len then Ok (a - base) else Err Unmapped) else Err Malformed

abbrev pub place : Holding → ℕ → Width → Result ℕ Cause
place m = place_in m.base (served m)

abbrev pub has_word : Holding → ℕ → Bool
has_word m a = is_ok (place m a Word)

abbrev pub byte_at : List ℕ → ℕ → ℕ
byte_at xs i = slice_index xs i % 256

-- the bytes from index i on, the first one lowest
abbrev pub read : List ℕ → ℕ → Width → ℕ
read xs i Byte = byte_at xs i
read xs i Half = byte_at xs i + byte_at xs (i + 1) * 256
read xs i Word = byte_at xs i + byte_at xs (i + 1) * 256 + byte_at xs (i + 2) * 65536 + byte_at xs (i + 3) * 16777216

-- the list with the low bytes of v from index i on
abbrev pub write : List ℕ → ℕ → Width → ℕ → List ℕ
write xs i Byte v = slice_set xs i (v % 256)
write xs i Half v = slice_set (slice_set xs i (v % 256)) (i + 1) (v / 256 % 256)
write xs i Word v = slice_set (slice_set (slice_set (slice_set xs i (v % 256)) (i + 1) (v / 256 % 256)) (i + 2) (v / 65536 % 256)) (i + 3) (v / 16777216 % 256)

abbrev pub read_by : List ℕ → Width → Result ℕ Cause → Result ℕ Cause
read_by xs n (Ok i) = Ok (read xs i n)
read_by xs n (Err c) = Err c

abbrev pub read_at : Holding → ℕ → Width → Result ℕ Cause
read_at m a n = read_by m.bytes n (place m a n)

abbrev pub write_at : Holding → ℕ → Width → ℕ → Answer (Result (Unit {0}) Cause) Holding
write_at m a n v = access m (place m a n) (λ i. record { value = tt; next = holding m.base (write m.bytes i n v) })

-- a place that can be read, and takes no store
abbrev pub read_only : Result ℕ Cause → Result (Unit {0}) Cause
read_only (Ok i) = Err ReadOnly
read_only (Err c) = Err c

-- a store: written, or refused by a memory that takes none
abbrev pub store_at : Bool → Holding → ℕ → Width → ℕ → Answer (Result (Unit {0}) Cause) Holding
store_at true m a n v = write_at m a n v
store_at false m a n v = record { value = read_only (place m a n); next = m }

-- a memory under a device's number, with stores of its own; fetches and loads read it
abbrev pub memory_of : Device → (Holding → ℕ → Width → ℕ → Answer (Result (Unit {0}) Cause) Holding) → Kind
memory_of d s = still Holding (λ m a. faulted d a (read_at m a Word)) (λ m a n. faulted d a (read_at m a n)) (λ m a n v. answered d a (s m a n v)) has_word

-- one that takes stores or not
abbrev pub memory : Device → Bool → Kind
memory d w = memory_of d (store_at w)

abbrev pub ram : Kind
ram = memory RamDevice true

abbrev pub rom : Kind
rom = memory RomDevice false
