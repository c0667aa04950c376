-- What a machine did, the newest first.
use Rattle.std.specs.Prelude.{ℕ, suc, List, [], ◌∷◌}
use Rattle.machine.specs.declared.system.Effect.{Effect}
use Rattle.machine.specs.declared.system.Effect.TheVariants.{Nothing, Stored, Cleared}

-- what can happen
pub data Event : Type 0 where
  -- the word at this address came from the bus
  fetched : ℕ → Event
  -- the bus took a store at this address
  stored : ℕ → Event
  -- FENCE.I or flush
  cleared : Event
  -- the bus ticked: the end of a step
  ticked : Event

-- the event of an effect
abbrev pub events_of : Effect → List Event
events_of Nothing = []
events_of (Stored a) = stored a ∷ []
events_of Cleared = cleared ∷ []

-- how many words came from the bus
abbrev pub fetches : List Event → ℕ
fetches [] = 0
fetches (fetched a ∷ es) = suc (fetches es)
fetches (stored a ∷ es) = fetches es
fetches (cleared ∷ es) = fetches es
fetches (ticked ∷ es) = fetches es
