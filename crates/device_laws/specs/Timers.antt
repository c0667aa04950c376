-- The clock, its registers and its lines.
use Rattle.std.specs.Prelude.{◌≡◌, ℕ, ◌+◌, ◌/◌, ◌%◌, ◌^◌, ◌<◌, ◌≤◌, true, false, ◌≢◌, ◌⊎◌, replicate, Ok, if◌then◌else◌}
use Rattle.bus.specs.declared.access.Width.{Width}
use Rattle.bus.specs.declared.access.Width.TheVariants.{Word}
use Rattle.bus.specs.Numbers.{size}
use Rattle.devices.specs.declared.clint.Clint.{Clint}
use Rattle.devices.specs.Clint.{timer, clint, fresh}
use Rattle.device_laws.specs.Runs.{tick, after, refused}

-- n ticks move the clock by n modulo 2^64, and nothing else
abbrev pub TicksCount : Type 0
TicksCount = (n : ℕ) (t : Clint) → t.mtime < 2 ^ 64 → after clint (replicate n tick) t ≡ timer t.msip t.mtimecmp ((t.mtime + n) % 2 ^ 64)

-- the timer line is up exactly while the clock is at or past the time to compare with, and the software line is msip
pub record LinesFollow (t : Clint) : Type 0 where
  pub due : t.mtimecmp ≤ t.mtime → (clint.lines t).timer ≡ true
  pub early : t.mtime < t.mtimecmp → (clint.lines t).timer ≡ false
  pub software : (clint.lines t).software ≡ t.msip
  pub external : (clint.lines t).external ≡ false

-- what the five registers read: the low half stands first
pub record Reads (t : Clint) : Type 0 where
  pub msip : (clint.load t 0x02000000 Word).value ≡ Ok (if t.msip then 1 else 0)
  pub compare_low : (clint.load t 0x02004000 Word).value ≡ Ok (t.mtimecmp % 2 ^ 32)
  pub compare_high : (clint.load t 0x02004004 Word).value ≡ Ok (t.mtimecmp / 2 ^ 32)
  pub time_low : (clint.load t 0x0200BFF8 Word).value ≡ Ok (t.mtime % 2 ^ 32)
  pub time_high : (clint.load t 0x0200BFFC Word).value ≡ Ok (t.mtime / 2 ^ 32)

-- a register of 64 bits, its low half at a and its high half 4 above: each half is read back as it was written, and the other stays
pub record HalvesReadBack (a : ℕ) (t : Clint) (v : ℕ) : Type 0 where
  pub low : (clint.load (clint.store t a Word v).next a Word).value ≡ Ok v
  pub low_keeps_high : (clint.load (clint.store t a Word v).next (a + 4) Word).value ≡ (clint.load t (a + 4) Word).value
  pub high : (clint.load (clint.store t (a + 4) Word v).next (a + 4) Word).value ≡ Ok v
  pub high_keeps_low : (clint.load (clint.store t (a + 4) Word v).next a Word).value ≡ (clint.load t a Word).value

-- a store changes its own register alone, and msip keeps bit 0
pub record Writes (t : Clint) (v : ℕ) : Type 0 where
  pub msip : (clint.load (clint.store t 0x02000000 Word v).next 0x02000000 Word).value ≡ Ok (v % 2)
  pub msip_alone : ((clint.store t 0x02000000 Word v).next.mtimecmp ≡ t.mtimecmp) × ((clint.store t 0x02000000 Word v).next.mtime ≡ t.mtime)
  pub compare : v < 2 ^ 32 → HalvesReadBack 0x02004000 t v
  pub compare_low_alone : ((clint.store t 0x02004000 Word v).next.msip ≡ t.msip) × ((clint.store t 0x02004000 Word v).next.mtime ≡ t.mtime)
  pub compare_high_alone : ((clint.store t 0x02004004 Word v).next.msip ≡ t.msip) × ((clint.store t 0x02004004 Word v).next.mtime ≡ t.mtime)
  pub time : v < 2 ^ 32 → HalvesReadBack 0x0200BFF8 t v
  pub time_low_alone : ((clint.store t 0x0200BFF8 Word v).next.msip ≡ t.msip) × ((clint.store t 0x0200BFF8 Word v).next.mtimecmp ≡ t.mtimecmp)
  pub time_high_alone : ((clint.store t 0x0200BFFC Word v).next.msip ≡ t.msip) × ((clint.store t 0x0200BFFC Word v).next.mtimecmp ≡ t.mtimecmp)

-- a fresh clock stands at 0, and the time to compare with is all ones
abbrev pub FreshClock : Type 0
FreshClock = fresh ≡ timer false 0xFFFFFFFFFFFFFFFF 0

abbrev pub RegistersKeep : Type 0
RegistersKeep = (t : Clint) (v : ℕ) → Reads t × Writes t v

-- a fetch, a load and a store of a word are refused with one cause
pub record Refuse (c : ℕ) (t : Clint) (a : ℕ) : Type 0 where
  pub fetch : clint.fetch t a ≡ refused c a 4
  pub load : (clint.load t a Word).value ≡ refused c a 4
  pub store : (v : ℕ) → (clint.store t a Word v).value ≡ refused c a 4

-- the five words that there are
abbrev pub Register : ℕ → Type 0
Register a = (a ≡ 0x02000000) ⊎ ((a ≡ 0x02004000) ⊎ ((a ≡ 0x02004004) ⊎ ((a ≡ 0x0200BFF8) ⊎ (a ≡ 0x0200BFFC))))

-- words only, at multiples of 4 only, at the registers only, and no code: 3 before 1 before 4
pub record Refuses (t : Clint) (a : ℕ) : Type 0 where
  pub narrow_load : (n : Width) → size n ≢ 4 → (clint.load t a n).value ≡ refused 3 a 4
  pub narrow_store : (n : Width) (v : ℕ) → size n ≢ 4 → (clint.store t a n v).value ≡ refused 3 a 4
  pub unaligned : a % 4 ≢ 0 → Refuse 3 t a
  pub unmapped : a % 4 ≡ 0 → (Register a → ⊥) → Refuse 1 t a
  pub no_code : Register a → clint.fetch t a ≡ refused 4 a 4

abbrev pub ClintRefuses : Type 0
ClintRefuses = (t : Clint) (a : ℕ) → Refuses t a
