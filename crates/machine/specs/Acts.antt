-- What an instruction, a poke and a feed do on a bus of any kind.
use Rattle.std.specs.Prelude.{ℕ, ◌%◌, if◌then◌else◌, Ok, Err, Result, ◌==◌}
use Rattle.bus.specs.declared.access.FeedRefusal.{FeedRefusal}
use Rattle.bus.specs.declared.access.FeedRefusal.TheVariants.{Overrun, NoReceiver}
use Rattle.bus.specs.declared.access.Width.TheVariants.{Word}
use Rattle.bus.specs.Kind.{Kind, Answer}
use Rattle.bus.specs.Numbers.{FaultNumbers}
use Rattle.hart.specs.declared.request.Request.{Request}
use Rattle.hart.specs.declared.request.Request.TheVariants.{Nothing, Fence, Load, Store}
use Rattle.hart.specs.Execute.{loaded, stored}
use Rattle.hart.specs.State.{State}
use Rattle.hart.specs.Widths.{load_width}
use Rattle.machine.specs.declared.answer.Refusal.TheVariants as why
use Rattle.machine.specs.declared.system.Effect.{Effect}
use Rattle.machine.specs.declared.system.Effect.TheVariants as did
use Rattle.machine.specs.Numbers.{RefusalNumbers, refusal_numbers, refused_by_bus}

-- a store has an effect only if the bus took it
abbrev pub effect_of : {E : Type 0} → ℕ → Result (Unit {0}) E → Effect
effect_of a (Ok u) = did.Stored a
effect_of a (Err f) = did.Nothing

-- an instruction that was executed: the hart and the bus then, and its effect
pub record Acted (M : Type 0) : Type 0 where
  pub hart : State
  pub meaning : M
  pub did : Effect

module _ {M : Type 0} where
  -- one from its parts
  abbrev pub acted : State → M → Effect → Acted M
  acted s m e = record { hart = s; meaning = m; did = e }

  -- a poke by what the bus answered; a refusal changes nothing
  abbrev pub poked_as : (old new : M) → Result (Unit {0}) FaultNumbers → Answer (Result (Unit {0}) RefusalNumbers) M
  poked_as m n (Ok u) = record { value = Ok tt; next = n }
  poked_as m n (Err f) = record { value = Err (refused_by_bus f); next = m }

  -- a feed by what the bus answered; the bus marks an overrun, and a bus without receiver is not changed
  abbrev pub fed_as : (old new : M) → Result (Unit {0}) FeedRefusal → Answer (Result (Unit {0}) RefusalNumbers) M
  fed_as m n (Ok u) = record { value = Ok tt; next = n }
  fed_as m n (Err Overrun) = record { value = Err (refusal_numbers (why.Feed Overrun)); next = n }
  fed_as m n (Err NoReceiver) = record { value = Err (refusal_numbers (why.Feed NoReceiver)); next = m }

module _ (K : Kind) where
  -- the access that an instruction asks for, and the hart after its answer
  abbrev pub act : Request × State → K.Meaning → Acted K.Meaning
  act (Nothing, s) m = acted s m did.Nothing
  act (Fence, s) m = acted s m did.Cleared
  act (Load l rd a, s) m = let t = K.load m a (load_width l) in acted (loaded l rd a t.value s) t.next did.Nothing
  act (Store n a v, s) m = let t = K.store m a n v in acted (stored a t.value s) t.next (effect_of a t.value)

  -- a word is stored at a multiple of 4
  abbrev pub poked : K.Meaning → ℕ → ℕ → Answer (Result (Unit {0}) RefusalNumbers) K.Meaning
  poked m a v =
      let t = K.store m a Word v in
      if a % 4 == 0 then poked_as m t.next t.value else record { value = Err (refusal_numbers why.Misaligned); next = m }

  -- a byte is passed to the bus
  abbrev pub fed : K.Meaning → ℕ → Answer (Result (Unit {0}) RefusalNumbers) K.Meaning
  fed m b = let t = K.feed m b in fed_as m t.next t.value
