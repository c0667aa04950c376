-- What RAM and ROM keep.
use Rattle.std.proofs.Common.{◌≡◌, ℕ, ◌+◌, ◌%◌, ◌^◌, true, List, [], ◌∷◌, length, get_or, is_ok, Ok, Err, Result, refl, ap, ◌∙◌, inl, inr, ⊎_elim, arith}
use Rattle.std.proofs.lemmas.Bool.{false≢true}
use Rattle.std.proofs.lemmas.Grind.{common_steps}
use Rattle.bus.specs.declared.access.Cause.{Cause}
use Rattle.bus.specs.declared.access.Device.TheVariants.{Ram}
use Rattle.bus.specs.declared.access.Width.{Width}
use Rattle.bus.specs.Numbers.{size}
use Rattle.devices.specs.Device.{faulted}
use Rattle.devices.specs.Memory.{Holding, served, place, write, read_by, read_at, ram, rom}
use Rattle.devices.specs.Accesses.{write-length, write-out, read_out, read-in, place_ok, served-given, stored, wrote-place}
use Rattle.device_laws.specs.Runs.{Call, load, store, tick, feed, after_call, after, Each}
use Rattle.device_laws.specs.Memories.{Apart, Misses, LastStored, NothingElseMoves, RomNeverChanges}

module _ (m : Holding) (a : ℕ) (n : Width) (v : ℕ) where
  -- an access apart from a store at index i reads as before
  reads-apart : (i : ℕ) → place m a n ≡ Ok i → (b : ℕ) (k : Width) → Apart a (size n) b (size k) → (r : Result ℕ Cause) → place m b k ≡ r → read_by (write m.bytes i n v) k r ≡ read_by m.bytes k r
  reads-apart i e b k o (Err c) q = refl
  reads-apart i e b k o (Ok j) q =
      let p = (place_ok m.base (served m) a i n e).0 in
      let t = (place_ok m.base (served m) b j k q).0 in
      ap Ok (read_out m.bytes i n v j k (⊎_elim (λ h. inl (omega arith)) (λ h. inr (omega arith)) o))

  stays : (r : Result ℕ Cause) → place m a n ≡ r → ((stored m n v r).next.base ≡ m.base) × (length (stored m n v r).next.bytes ≡ length m.bytes)
      × ((i : ℕ) → Apart a (size n) (m.base + i) 1 → get_or (stored m n v r).next.bytes i 0 ≡ get_or m.bytes i 0)
      × ((b : ℕ) (k : Width) → Apart a (size n) b (size k) → read_at (stored m n v r).next b k ≡ read_at m b k)
  stays (Err c) e = (refl, refl, λ i o. refl, λ b k o. refl)
  stays (Ok j) e = grind (arith, common_steps, place_ok, write-length, write-out, wrote-place, reads-apart j)

  there : (r : Result ℕ Cause) → place m a n ≡ r → is_ok (faulted Ram a (stored m n v r).value) ≡ true → read_at (stored m n v r).next a n ≡ Ok (v % 256 ^ size n)
  there (Err c) e h = absurd (false≢true h)
  there (Ok i) e h = grind (arith, place_ok, served-given, wrote-place, read-in)

pub nothing_else_moves : NothingElseMoves
nothing_else_moves m a n v =
    let s = stays m a n v (place m a n) refl in
    record { base = s.0; length = s.1; bytes = s.2; loads = λ b k o. ap (faulted Ram b) (s.3 b k o) }

-- a call that misses some bytes leaves what is loaded from there
call-misses : (c : Call) (m : Holding) (a : ℕ) (n : Width) → Misses a (size n) c → read_at (after_call ram c m) a n ≡ read_at m a n
call-misses (load b k) m a n o = refl
call-misses (store b k v) m a n o = (stays m b k v (place m b k) refl).3 a n (⊎_elim inr inl o)
call-misses tick m a n o = refl
call-misses (feed b) m a n o = refl

calls-miss : (cs : List Call) (m : Holding) (a : ℕ) (n : Width) → Each (Misses a (size n)) cs → read_at (after ram cs m) a n ≡ read_at m a n
unfolding after Each
calls-miss [] m a n o = refl
calls-miss (c ∷ cs) m a n o = calls-miss cs (after_call ram c m) a n o.1 ∙ call-misses c m a n o.0

pub last_stored : LastStored
last_stored m a n v cs h o = ap (faulted Ram a) (calls-miss cs (ram.store m a n v).next a n o ∙ there m a n v (place m a n) refl h)

rom-call : (c : Call) (m : Holding) → after_call rom c m ≡ m
rom-call (load a n) m = refl
rom-call (store a n v) m = refl
rom-call tick m = refl
rom-call (feed b) m = refl

pub rom_stays : RomNeverChanges
unfolding after
rom_stays [] m = refl
rom_stays (c ∷ cs) m = rom_stays cs (after_call rom c m) ∙ rom-call c m
