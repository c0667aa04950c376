-- What a split does with each call.
use Rattle.std.specs.Prelude.{◌≡◌, ℕ, ◌+◌, ◌*◌, ◌/◌, ◌<◌, ◌≤◌, min, ◌||◌, ◌≢◌, Some, None, Ok, Err, Result}
use Rattle.bus.specs.declared.access.FeedRefusal.TheVariants.{NoReceiver}
use Rattle.bus.specs.declared.access.Width.{Width}
use Rattle.bus.specs.Numbers.{FaultNumbers}
use Rattle.bus.specs.Kind.{Kind}
use Rattle.bus.specs.Split.{split, Halves}

-- an answer as the split passes it on: the same, with the count of splits above the device one more, at most 255
abbrev pub Passes : {R : Type 0} → Result R FaultNumbers → Result R FaultNumbers → Type 0
Passes (Ok x) r = r ≡ Ok x
Passes (Err f) r = r ≡ Err (record { cause = f.cause; address = f.address; device = f.device; depth = min (f.depth + 1) 255 })

module _ (L H : Kind) where
  abbrev pub Both : Type 0
  Both = Halves L.Meaning H.Meaning

  -- an access goes to the low bus, and leaves the high one
  pub record GoesLow (m : Both) (a : ℕ) : Type 0 where
    pub fetch : Passes (L.fetch m.low a) ((split L H).fetch m a)
    pub steady : (split L H).steady m a ≡ L.steady m.low a
    pub load : (n : Width) → Passes (L.load m.low a n).value ((split L H).load m a n).value
    pub load_low : (n : Width) → ((split L H).load m a n).next.low ≡ (L.load m.low a n).next
    pub load_high : (n : Width) → ((split L H).load m a n).next.high ≡ m.high
    pub store : (n : Width) (v : ℕ) → Passes (L.store m.low a n v).value ((split L H).store m a n v).value
    pub store_low : (n : Width) (v : ℕ) → ((split L H).store m a n v).next.low ≡ (L.store m.low a n v).next
    pub store_high : (n : Width) (v : ℕ) → ((split L H).store m a n v).next.high ≡ m.high

  -- and the other way round
  pub record GoesHigh (m : Both) (a : ℕ) : Type 0 where
    pub fetch : Passes (H.fetch m.high a) ((split L H).fetch m a)
    pub steady : (split L H).steady m a ≡ H.steady m.high a
    pub load : (n : Width) → Passes (H.load m.high a n).value ((split L H).load m a n).value
    pub load_low : (n : Width) → ((split L H).load m a n).next.low ≡ m.low
    pub load_high : (n : Width) → ((split L H).load m a n).next.high ≡ (H.load m.high a n).next
    pub store : (n : Width) (v : ℕ) → Passes (H.store m.high a n v).value ((split L H).store m a n v).value
    pub store_low : (n : Width) (v : ℕ) → ((split L H).store m a n v).next.low ≡ m.low
    pub store_high : (n : Width) (v : ℕ) → ((split L H).store m a n v).next.high ≡ (H.store m.high a n v).next

  -- what is below the address, rounded down to a multiple of 4, is the low bus's
  abbrev pub PassesOn : Type 0
  PassesOn = (m : Both) (a : ℕ) → (a < m.at / 4 * 4 → GoesLow m a) × (m.at / 4 * 4 ≤ a → GoesHigh m a)

  -- ticks and lines are both sides'; a byte is the high bus's only if the low one has no receiver, or has not sent it
  pub record Shares (m : Both) : Type 0 where
    pub tick_low : ((split L H).tick m).low ≡ L.tick m.low
    pub tick_high : ((split L H).tick m).high ≡ H.tick m.high
    pub software : ((split L H).lines m).software ≡ (L.lines m.low).software || (H.lines m.high).software
    pub timer : ((split L H).lines m).timer ≡ (L.lines m.low).timer || (H.lines m.high).timer
    pub external : ((split L H).lines m).external ≡ (L.lines m.low).external || (H.lines m.high).external
    pub feed_low : (b : ℕ) → (L.feed m.low b).value ≢ Err NoReceiver → (((split L H).feed m b).value ≡ (L.feed m.low b).value) × (((split L H).feed m b).next.low ≡ (L.feed m.low b).next) × (((split L H).feed m b).next.high ≡ m.high)
    pub feed_high : (b : ℕ) → (L.feed m.low b).value ≡ Err NoReceiver → (((split L H).feed m b).value ≡ (H.feed m.high b).value) × (((split L H).feed m b).next.low ≡ m.low) × (((split L H).feed m b).next.high ≡ (H.feed m.high b).next)
    pub sent_low : (i b : ℕ) → L.sent m.low i ≡ Some b → (split L H).sent m i ≡ Some b
    pub sent_high : (i : ℕ) → L.sent m.low i ≡ None → (split L H).sent m i ≡ H.sent m.high i
