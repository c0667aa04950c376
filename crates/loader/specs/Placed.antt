-- What a load that was not refused leaves in the steady words of a bus, of whatever kind.
use Rattle.std.specs.Prelude.{◌≡◌, ℕ, ◌+◌, ◌-◌, ◌%◌, ◌<◌, ◌≤◌, true, List, Ok, slice_index}
use Rattle.bus.specs.declared.access.Width.TheVariants.{Byte}
use Rattle.bus.specs.Kind.{Kind, word_of}
use Rattle.image.specs.Headers.{header_at, table_count}
use Rattle.image.specs.WellFormed.{LoadedAt}

-- the byte at place i of a file; as every byte is below 256, the remainder is the byte
abbrev pub byte_of : List ℕ → ℕ → ℕ
byte_of s i = slice_index s i % 256

-- segment i is the last load segment that covers address a
pub record LastAt (s : List ℕ) (i a : ℕ) : Type 0 where
  pub among : i < table_count s
  pub covers : LoadedAt (header_at s i) a
  pub none_later : (k : ℕ) → i < k → k < table_count s → LoadedAt (header_at s k) a → ⊥

-- at an address in a steady word a byte then reads as the file has it, or as 0 past the segment's bytes in the file;
-- where no segment covers the address it reads as before
pub record Placed (K : Kind) (s : List ℕ) (m m' : K.Meaning) : Type 0 where
  pub file_bytes : (i a : ℕ) → K.steady m (word_of a) ≡ true → LastAt s i a → a - (header_at s i).vaddr < (header_at s i).filesz
      → (K.load m' a Byte).value ≡ Ok (byte_of s ((header_at s i).offset + (a - (header_at s i).vaddr)))
  pub zero_bytes : (i a : ℕ) → K.steady m (word_of a) ≡ true → LastAt s i a → (header_at s i).filesz ≤ a - (header_at s i).vaddr
      → (K.load m' a Byte).value ≡ Ok 0
  pub other_bytes : (a : ℕ) → K.steady m (word_of a) ≡ true → ((k : ℕ) → k < table_count s → LoadedAt (header_at s k) a → ⊥)
      → (K.load m' a Byte).value ≡ (K.load m a Byte).value
