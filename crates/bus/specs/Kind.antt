-- What a bus may be: its calls as functions of what it holds, and the rules that every kind of bus keeps.
use Rattle.std.specs.Prelude.{◌≡◌, ℕ, ◌+◌, ◌*◌, ◌/◌, ◌%◌, ◌^◌, ◌<◌, Bool, true, false, ◌≢◌, is_ok, Ok, Err, Option, Result}
use Rattle.bus.specs.declared.access.FeedRefusal.{FeedRefusal}
use Rattle.bus.specs.declared.access.FeedRefusal.TheVariants.{NoReceiver}
use Rattle.bus.specs.declared.access.Lines.{Lines}
use Rattle.bus.specs.declared.access.Width.{Width}
use Rattle.bus.specs.Numbers.{size, FaultNumbers}

-- the address of the word that an address lies in
abbrev pub word_of : ℕ → ℕ
word_of a = a / 4 * 4

-- the bytes of the word w from its byte k on, as many as the width says
abbrev pub part : ℕ → ℕ → Width → ℕ
part w k n = w / 256 ^ k % 256 ^ size n

-- the word w with those bytes replaced by the low bytes of v
abbrev pub patch : ℕ → ℕ → Width → ℕ → ℕ
patch w k n v = w % 256 ^ k + v % 256 ^ size n * 256 ^ k + w / 256 ^ (k + size n) * 256 ^ (k + size n)

-- what a call answers, and what the bus then holds
pub record Answer (R M : Type 0) : Type 0 where
  pub value : R
  pub next : M

-- A kind of bus. Each call follows from what the bus holds and the call's numbers alone; those that answer no next
-- meaning leave it as it is.
pub record Kind : Type 1 where
  pub Meaning : Type 0
  pub fetch : Meaning → ℕ → Result ℕ FaultNumbers
  pub load : Meaning → ℕ → Width → Answer (Result ℕ FaultNumbers) Meaning
  pub store : Meaning → ℕ → Width → ℕ → Answer (Result (Unit {0}) FaultNumbers) Meaning
  pub tick : Meaning → Meaning
  pub lines : Meaning → Lines
  pub steady : Meaning → ℕ → Bool
  pub feed : Meaning → ℕ → Answer (Result (Unit {0}) FeedRefusal) Meaning
  pub sent : Meaning → ℕ → Option ℕ

-- What holds of every kind, whatever the bus holds.
pub record Rules (K : Kind) : Type 0 where
  -- a refused access, and a byte fed where there is no receiver, change nothing
  pub refused_load_changes_nothing : (m : K.Meaning) (a : ℕ) (n : Width) → is_ok (K.load m a n).value ≡ false → (K.load m a n).next ≡ m
  pub refused_store_changes_nothing : (m : K.Meaning) (a : ℕ) (n : Width) (v : ℕ) → is_ok (K.store m a n v).value ≡ false → (K.store m a n v).next ≡ m
  pub feed_without_receiver_changes_nothing : (m : K.Meaning) (b : ℕ) → (K.feed m b).value ≡ Err NoReceiver → (K.feed m b).next ≡ m
  -- no call changes which words are steady
  pub load_keeps_steady : (m : K.Meaning) (a : ℕ) (n : Width) (x : ℕ) → K.steady (K.load m a n).next x ≡ K.steady m x
  pub store_keeps_steady : (m : K.Meaning) (a : ℕ) (n : Width) (v x : ℕ) → K.steady (K.store m a n v).next x ≡ K.steady m x
  pub tick_keeps_steady : (m : K.Meaning) (x : ℕ) → K.steady (K.tick m) x ≡ K.steady m x
  pub feed_keeps_steady : (m : K.Meaning) (b x : ℕ) → K.steady (K.feed m b).next x ≡ K.steady m x
  -- only at a multiple of 4 is a word steady
  pub steady_is_aligned : (m : K.Meaning) (x : ℕ) → K.steady m x ≡ true → x % 4 ≡ 0
  -- a steady word can be fetched, and has 32 bits
  pub steady_word_is_fetched : (m : K.Meaning) (x : ℕ) → K.steady m x ≡ true → (w : ℕ) × (K.fetch m x ≡ Ok w) × (w < 2 ^ 32)
  -- an aligned load inside a steady word answers its bytes
  pub load_answers_its_bytes : (m : K.Meaning) (a : ℕ) (n : Width) (w : ℕ) → K.steady m (word_of a) ≡ true → a % size n ≡ 0 → K.fetch m (word_of a) ≡ Ok w → (K.load m a n).value ≡ Ok (part w (a % 4) n)
  -- a taken store inside a steady word replaces exactly the bytes stored
  pub store_replaces_its_bytes : (m : K.Meaning) (a : ℕ) (n : Width) (v w : ℕ) → K.steady m (word_of a) ≡ true → is_ok (K.store m a n v).value ≡ true → K.fetch m (word_of a) ≡ Ok w → K.fetch (K.store m a n v).next (word_of a) ≡ Ok (patch w (a % 4) n v)
  -- and nothing else changes a steady word
  pub store_keeps_other_words : (m : K.Meaning) (a : ℕ) (n : Width) (v x : ℕ) → K.steady m x ≡ true → word_of a ≢ x → K.fetch (K.store m a n v).next x ≡ K.fetch m x
  pub load_keeps_words : (m : K.Meaning) (a : ℕ) (n : Width) (x : ℕ) → K.steady m x ≡ true → K.fetch (K.load m a n).next x ≡ K.fetch m x
  pub tick_keeps_words : (m : K.Meaning) (x : ℕ) → K.steady m x ≡ true → K.fetch (K.tick m) x ≡ K.fetch m x
  pub feed_keeps_words : (m : K.Meaning) (b x : ℕ) → K.steady m x ≡ true → K.fetch (K.feed m b).next x ≡ K.fetch m x
