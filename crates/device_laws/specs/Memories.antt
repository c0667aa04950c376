-- What RAM and ROM keep, serve and refuse.
use Rattle.std.specs.Prelude.{◌≡◌, ℕ, ◌+◌, ◌-◌, ◌*◌, ◌/◌, ◌%◌, ◌^◌, ◌≤◌, true, ◌≢◌, ◌⊎◌, List, length, is_ok, Ok, slice_index}
use Rattle.bus.specs.declared.access.Width.{Width}
use Rattle.bus.specs.declared.access.Width.TheVariants.{Byte, Word}
use Rattle.bus.specs.Numbers.{size}
use Rattle.devices.specs.Memory.{Holding, ram, rom}
use Rattle.device_laws.specs.Runs.{Call, load, store, tick, feed, after, Each, refused}

-- k bytes from b on lie apart from n bytes from a on
abbrev pub Apart : ℕ → ℕ → ℕ → ℕ → Type 0
Apart a n b k = (b + k ≤ a) ⊎ (a + n ≤ b)

-- a call that stores nothing into them
abbrev pub Misses : ℕ → ℕ → Call → Type 0
Misses a n (load b k) = Unit {0}
Misses a n (store b k v) = Apart a n b (size k)
Misses a n tick = Unit {0}
Misses a n (feed b) = Unit {0}

-- what was stored is loaded again, whatever calls come between that store nothing there
abbrev pub LastStored : Type 0
LastStored =
    (m : Holding) (a : ℕ) (n : Width) (v : ℕ) (cs : List Call) → is_ok (ram.store m a n v).value ≡ true → Each (Misses a (size n)) cs →
    (ram.load (after ram cs (ram.store m a n v).next) a n).value ≡ Ok (v % 256 ^ size n)

-- a store moves nothing else: not the base, the length, a byte outside of what it stores, or what is loaded from there
pub record Stays (m : Holding) (a : ℕ) (n : Width) (v : ℕ) : Type 0 where
  pub base : (ram.store m a n v).next.base ≡ m.base
  pub length : length (ram.store m a n v).next.bytes ≡ length m.bytes
  pub bytes : (i : ℕ) → Apart a (size n) (m.base + i) 1 → slice_index (ram.store m a n v).next.bytes i ≡ slice_index m.bytes i
  pub loads : (b : ℕ) (k : Width) → Apart a (size n) b (size k) → (ram.load (ram.store m a n v).next b k).value ≡ (ram.load m b k).value

abbrev pub NothingElseMoves : Type 0
NothingElseMoves = (m : Holding) (a : ℕ) (n : Width) (v : ℕ) → Stays m a n v

-- no list of calls changes a ROM
abbrev pub RomNeverChanges : Type 0
RomNeverChanges = (cs : List Call) (m : Holding) → after rom cs m ≡ m

-- an access lies in the whole words of a memory, and below 2^32
abbrev pub Inside : Holding → ℕ → ℕ → Type 0
Inside m a n = (m.base ≤ a) × (a + n ≤ m.base + length m.bytes / 4 * 4) × (a + n ≤ 2 ^ 32)

-- both memories refuse an access with one cause
pub record Refuse (c : ℕ) (m : Holding) (a : ℕ) (n : Width) : Type 0 where
  pub ram_load : (ram.load m a n).value ≡ refused c a 1
  pub ram_store : (v : ℕ) → (ram.store m a n v).value ≡ refused c a 1
  pub rom_load : (rom.load m a n).value ≡ refused c a 2
  pub rom_store : (v : ℕ) → (rom.store m a n v).value ≡ refused c a 2

-- RAM serves an access, and ROM refuses the store alone
pub record Serve (m : Holding) (a : ℕ) (n : Width) : Type 0 where
  pub ram_load : is_ok (ram.load m a n).value ≡ true
  pub ram_store : (v : ℕ) → (ram.store m a n v).value ≡ Ok tt
  pub rom_load : (rom.load m a n).value ≡ (ram.load m a n).value
  pub rom_store : (v : ℕ) → (rom.store m a n v).value ≡ refused 2 a 2

-- which accesses are served: cause 3 comes before 1, and 1 before 2; a fetch is a load of a word
pub record Serves (m : Holding) (a : ℕ) (n : Width) : Type 0 where
  pub malformed : a % size n ≢ 0 → Refuse 3 m a n
  pub unmapped : a % size n ≡ 0 → (Inside m a (size n) → ⊥) → Refuse 1 m a n
  pub served : a % size n ≡ 0 → Inside m a (size n) → Serve m a n
  pub byte : Inside m a 1 → (ram.load m a Byte).value ≡ Ok (slice_index m.bytes (a - m.base) % 256)
  pub ram_fetch : ram.fetch m a ≡ (ram.load m a Word).value
  pub rom_fetch : rom.fetch m a ≡ (rom.load m a Word).value

abbrev pub MemoriesServe : Type 0
MemoriesServe = (m : Holding) (a : ℕ) (n : Width) → Serves m a n
