-- Reading and writing bytes of a memory, and the places that accesses have in it.
use Rattle.std.specs.Prelude.{◌≡◌, ℕ, ◌+◌, ◌-◌, ◌%◌, ◌^◌, ◌<◌, ◌≤◌, min, true, ◌≢◌, ◌⊎◌, List, length, is_ok, Ok, Err, Result, slice_index, refl}
use Rattle.std.proofs.Common.{ap, arith}
use Rattle.std.proofs.lemmas.Bool.Decides.{nat_tests}
use Rattle.std.proofs.lemmas.Bool.{cases_lt, false≢true}
use Rattle.std.proofs.lemmas.List.{get_or-set_same, get_or-set_other, length-set}
use Rattle.bus.specs.declared.access.Cause.{Cause}
use Rattle.bus.specs.declared.access.Width.{Width}
use Rattle.bus.specs.declared.access.Width.TheVariants.{Byte, Half, Word}
use Rattle.bus.specs.Numbers.{size}
use Rattle.bus.specs.Kind.{Answer, word_of, part, patch}
use Rattle.devices.specs.Device.{access}
use Rattle.devices.specs.Memory.{Holding, holding, served, place_in, place, has_word, read, write}

-- a write keeps the length, and every byte outside of it
pub write-length : (xs : List ℕ) (i : ℕ) (n : Width) (v : ℕ) → length (write xs i n v) ≡ length xs
write-length xs i Byte v = simp length-set
write-length xs i Half v = simp length-set
write-length xs i Word v = simp length-set

pub write-out : (xs : List ℕ) (i : ℕ) (n : Width) (v t : ℕ) → (t < i) ⊎ (i + size n ≤ t) → slice_index (write xs i n v) t ≡ slice_index xs t
write-out xs i Byte v t o = grind (arith, get_or-set_other)
write-out xs i Half v t o = grind (arith, get_or-set_other)
write-out xs i Word v t o = grind (arith, get_or-set_other)

-- so what is read apart from it is as before
pub read_out : (xs : List ℕ) (j : ℕ) (n : Width) (v i : ℕ) (k : Width) → (i + size k ≤ j) ⊎ (j + size n ≤ i) → read (write xs j n v) i k ≡ read xs i k
read_out xs j n v i Byte o = grind (arith, write-out)
read_out xs j n v i Half o = grind (arith, write-out)
read_out xs j n v i Word o = grind (arith, write-out)

-- and what was written is read there
pub read-in : (xs : List ℕ) (i : ℕ) (n : Width) (v : ℕ) → i + size n ≤ length xs → read (write xs i n v) i n ≡ v % 256 ^ size n
read-in xs i Byte v h = grind (arith, get_or-set_same)
read-in xs i Half v h = grind (arith, get_or-set_other, get_or-set_same, length-set)
read-in xs i Word v h = grind (arith, get_or-set_other, get_or-set_same, length-set)

-- the bytes of a word from its byte k on
pub part_of : (xs : List ℕ) (i k : ℕ) (n : Width) → k < 4 → k % size n ≡ 0 → read xs (i + k) n ≡ part (read xs i Word) k n
part_of xs i k Byte h e = grind arith
part_of xs i k Half h e = grind arith
part_of xs i k Word h e = grind arith

-- a word after a write from its byte k on
pub patch-of : (xs : List ℕ) (i k : ℕ) (n : Width) (v : ℕ) → i + 4 ≤ length xs → k < 4 → k % size n ≡ 0 → read (write xs (i + k) n v) i Word ≡ patch (read xs i Word) k n v
patch-of xs i k Byte v l h e = grind (arith, get_or-set_other, get_or-set_same, length-set)
patch-of xs i k Half v l h e = grind (arith, get_or-set_other, get_or-set_same, length-set)
patch-of xs i k Word v l h e = grind (arith, get_or-set_other, get_or-set_same, length-set)

pub word_below : (xs : List ℕ) (i : ℕ) → read xs i Word < 2 ^ 32
word_below xs i = omega arith

-- where an access is served
pub place_ok : (b len a i : ℕ) (n : Width) → place_in b len a n ≡ Ok i → (b + i ≡ a) × (i + size n ≤ len) × (a % size n ≡ 0)
place_ok b len a i Byte e = grind (arith, nat_tests)
place_ok b len a i Half e = grind (arith, nat_tests)
place_ok b len a i Word e = grind (arith, nat_tests)

pub place-in : (b len a i : ℕ) (n : Width) → b + i ≡ a → i + size n ≤ len → a % size n ≡ 0 → place_in b len a n ≡ Ok i
place-in b len a i Byte p q r = grind (arith, nat_tests)
place-in b len a i Half p q r = grind (arith, nat_tests)
place-in b len a i Word p q r = grind (arith, nat_tests)

-- what is served was given
pub served-given : (m : Holding) → served m ≤ length m.bytes
served-given m = omega arith

-- the memory after a write at index i, and what a store answers and leaves, by the place that it has
abbrev pub wrote : Holding → ℕ → Width → ℕ → Holding
wrote m i n v = holding m.base (write m.bytes i n v)

abbrev pub stored : Holding → Width → ℕ → Result ℕ Cause → Answer (Result (Unit {0}) Cause) Holding
stored m n v r = access m r (λ i. record { value = tt; next = wrote m i n v })

-- accesses have the same places after it
pub wrote-place : (m : Holding) (i : ℕ) (n : Width) (v a : ℕ) (k : Width) → place (wrote m i n v) a k ≡ place m a k
wrote-place m i n v a k = ap (λ l. place_in m.base (min (word_of l) (2 ^ 32 - m.base)) a k) (write-length m.bytes i n v)

-- a steady word's place
pub word_at : (m : Holding) (x : ℕ) → has_word m x ≡ true → (i : ℕ) × (place m x Word ≡ Ok i)
word_at m x = elim (place m x Word) as (λ r. is_ok r ≡ true → (i : ℕ) × (r ≡ Ok i)) [ Ok i ↦ λ s. (i, refl) | Err c ↦ λ s. absurd (false≢true s) ]

-- an access inside a served word, so many bytes into it
pub inside : (b len a i : ℕ) (n : Width) → place_in b len (word_of a) Word ≡ Ok i → a % size n ≡ 0 → place_in b len a n ≡ Ok (i + a % 4)
inside b len a i Byte p d = grind (arith, place_ok, place-in)
inside b len a i Half p d = grind (arith, place_ok, place-in)
inside b len a i Word p d = grind (arith, place_ok, place-in)

pub offset : (a : ℕ) (n : Width) → a % size n ≡ 0 → a % 4 % size n ≡ 0
offset a Byte d = omega arith
offset a Half d = omega arith
offset a Word d = omega arith

-- an access outside of a served word
pub disjoint : (b len a x j i : ℕ) (n : Width) → place_in b len a n ≡ Ok j → place_in b len x Word ≡ Ok i → word_of a ≢ x → (i + 4 ≤ j) ⊎ (j + size n ≤ i)
disjoint b len a x j i Byte p q ne = grind (arith, place_ok, cases_lt i j)
disjoint b len a x j i Half p q ne = grind (arith, place_ok, cases_lt i j)
disjoint b len a x j i Word p q ne = grind (arith, place_ok, cases_lt i j)
