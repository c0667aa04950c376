-- The plain machine over a bus of any kind.
use Rattle.std.specs.Prelude.{ℕ, Bool, true, false, List, [], ◌∷◌, ◌++◌, Ok, Err, Result}
use Rattle.bus.specs.Kind.{Kind}
use Rattle.bus.specs.Numbers.{FaultNumbers}
use Rattle.hart.specs.Execute.{begun, unfetched}
use Rattle.hart.specs.State.{State, fresh}
use Rattle.hart.specs.Traps.{latched}
use Rattle.isa.specs.Decode.{decoded}
use Rattle.machine.specs.declared.answer.Fetched.{Fetched}
use Rattle.machine.specs.declared.plain.Plain.{Plain}
use Rattle.machine.specs.Acts.{Acted, act, poked, fed, effect_of}
use Rattle.machine.specs.Events.{Event, fetched, cleared, ticked, events_of, fetches}
use Rattle.machine.specs.Numbers.{RefusalNumbers, RunNumbers}
use Rattle.machine.specs.Runs.{Moved, Called, run_call}

-- what a plain machine holds: its hart, and what its bus holds
pub record PlainState (M : Type 0) : Type 0 where
  pub hart : State
  pub meaning : M

module _ {M : Type 0} where
  -- a machine from its parts
  abbrev pub plain : State → M → PlainState M
  plain s m = record { hart = s; meaning = m }

  -- what a machine holds, by the meaning of its bus
  abbrev pub plain_of : {B : Type 0} {g : _} → (B → M) → Plain B g → PlainState M
  plain_of meaning p = plain p.system.hart (meaning p.system.bus)

  -- a machine with a fresh hart
  abbrev pub plain_fresh : (entry : ℕ) → M → PlainState M
  plain_fresh entry m = plain (fresh entry) m

  -- where a machine is
  abbrev pub pc_of : PlainState M → ℕ
  pc_of p = p.hart.pc

  -- a word from address a was executed
  abbrev pub plain_acted : ℕ → Acted M → Moved (PlainState M)
  plain_acted a r = record { next = plain r.hart r.meaning; events = events_of r.did ++ fetched a ∷ [] }

  -- nothing is done, and yet it is an event
  abbrev pub plain_flush : PlainState M → Called (Unit {0}) (PlainState M)
  plain_flush p = record { answer = tt; state = p; events = cleared ∷ [] }

-- the words fetched
abbrev pub fetched_in : List Event → Fetched
fetched_in es = record { fetched = fetches es }

module _ (K : Kind) where
  -- parts 4 and 5 of a step, by the answer to the fetch: the word is decoded and executed
  abbrev pub plain_fetched : PlainState K.Meaning → Result ℕ FaultNumbers → Moved (PlainState K.Meaning)
  plain_fetched p (Ok w) = plain_acted p.hart.pc (act K (begun w (decoded w) p.hart) p.meaning)
  plain_fetched p (Err f) = record { next = plain (unfetched f p.hart) p.meaning; events = [] }

  -- part 3: the word at pc is fetched
  unfoldable pub plain_instruction : PlainState K.Meaning → Moved (PlainState K.Meaning)
  plain_instruction p = plain_fetched p (K.fetch p.meaning p.hart.pc)

  -- parts 1 and 2 were done: with an interrupt taken, the step goes on at part 6
  abbrev pub plain_latched : Bool × State → K.Meaning → Moved (PlainState K.Meaning)
  plain_latched (true, s) m = record { next = plain s m; events = [] }
  plain_latched (false, s) m = plain_instruction (plain s m)

  -- part 6: the bus ticks
  abbrev pub plain_ticked : Moved (PlainState K.Meaning) → Moved (PlainState K.Meaning)
  plain_ticked t = record { next = plain t.next.hart (K.tick t.next.meaning); events = ticked ∷ t.events }

  -- one step: the lines are read and an interrupt is taken if one is due (1 and 2), else the word at pc is fetched,
  -- decoded and executed (3, 4 and 5), and then the bus ticks (6)
  unfoldable pub plain_step : PlainState K.Meaning → Moved (PlainState K.Meaning)
  plain_step p = plain_ticked (plain_latched (latched (K.lines p.meaning) p.hart) p.meaning)

  -- a run
  abbrev pub plain_run : PlainState K.Meaning → (budget stop : ℕ) → Called (Result (RunNumbers Fetched) RefusalNumbers) (PlainState K.Meaning)
  plain_run = run_call pc_of plain_step fetched_in

  -- a byte is passed to the bus
  abbrev pub plain_feed : PlainState K.Meaning → (byte : ℕ) → Called (Result (Unit {0}) RefusalNumbers) (PlainState K.Meaning)
  plain_feed p b = let t = fed K p.meaning b in record { answer = t.value; state = plain p.hart t.next; events = [] }

  -- a word is stored
  abbrev pub plain_poke : PlainState K.Meaning → (address value : ℕ) → Called (Result (Unit {0}) RefusalNumbers) (PlainState K.Meaning)
  plain_poke p a v = let t = poked K p.meaning a v in record { answer = t.value; state = plain p.hart t.next; events = events_of (effect_of a t.value) }
