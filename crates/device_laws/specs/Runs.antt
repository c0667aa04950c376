-- Lists of calls on a bus of any kind, and a device's refusal in numbers.
use Rattle.std.specs.Prelude.{ℕ, zero, suc, List, [], ◌∷◌, Ok, Err, Result}
use Rattle.bus.specs.declared.access.Width.{Width}
use Rattle.bus.specs.declared.access.Width.TheVariants.{Byte}
use Rattle.bus.specs.Numbers.{FaultNumbers}
use Rattle.bus.specs.Kind.{Kind}
use Rattle.bus.specs.Split.{Fed}

-- a refusal by the device itself, which no split has passed on
abbrev pub refused : {R : Type 0} → ℕ → ℕ → ℕ → Result R FaultNumbers
refused c a d = Err (record { cause = c; address = a; device = d; depth = 0 })

-- the calls that may change what a bus holds
pub data Call : Type 0 where
  load : ℕ → Width → Call
  store : ℕ → Width → ℕ → Call
  tick : Call
  feed : ℕ → Call

-- what holds of each call of a list
unfoldable pub Each : (Call → Type 0) → List Call → Type 0
Each P [] = Unit {0}
Each P (c ∷ cs) = P c × Each P cs

module _ (K : Kind) where
  abbrev pub after_call : Call → K.Meaning → K.Meaning
  after_call (load a n) m = (K.load m a n).next
  after_call (store a n v) m = (K.store m a n v).next
  after_call tick m = K.tick m
  after_call (feed b) m = (K.feed m b).next

  -- what the bus holds after a list of calls
  unfoldable pub after : List Call → K.Meaning → K.Meaning
  after [] m = m
  after (c ∷ cs) m = after cs (after_call c m)

  abbrev pub if_taken : Fed → ℕ → List ℕ → List ℕ
  if_taken (Ok u) b bs = b ∷ bs
  if_taken (Err e) b bs = bs

  -- those of the bytes fed that are taken
  unfoldable pub taken : List ℕ → K.Meaning → List ℕ
  taken [] m = []
  taken (b ∷ bs) m = if_taken (K.feed m b).value b (taken bs (K.feed m b).next)

  -- what n loads of the byte at an address answer
  unfoldable pub loads : ℕ → ℕ → K.Meaning → List (Result ℕ FaultNumbers)
  loads zero a m = []
  loads (suc n) a m = (K.load m a Byte).value ∷ loads n a (K.load m a Byte).next
