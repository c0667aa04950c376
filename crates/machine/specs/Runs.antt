-- Runs and calls of a machine, by its step and its pc.
use Rattle.std.specs.Prelude.{ℕ, zero, suc, ◌+◌, if◌then◌else◌, List, [], ◌++◌, Ok, Err, Result, ◌==◌, nat_le}
use Rattle.machine.specs.declared.answer.End.{End}
use Rattle.machine.specs.declared.answer.End.TheVariants.{BudgetUsed, Stopped}
use Rattle.machine.specs.declared.answer.Refusal.TheVariants.{Budget}
use Rattle.machine.specs.Events.{Event}
use Rattle.machine.specs.Numbers.{RefusalNumbers, RunNumbers, end_number, refusal_numbers}

-- the state after a step, and what was done in it
pub record Moved (S : Type 0) : Type 0 where
  pub next : S
  pub events : List Event

-- a run that was taken
pub record Ran (S : Type 0) : Type 0 where
  pub end : End
  pub steps : ℕ
  pub next : S
  pub events : List Event

-- a call: what it answers, the state that it leaves, and what was done
pub record Called (R S : Type 0) : Type 0 where
  pub answer : R
  pub state : S
  pub events : List Event

-- a run from its parts
abbrev pub ended : {S : Type 0} → End → ℕ → S → List Event → Ran S
ended e k s es = record { end = e; steps = k; next = s; events = es }

-- k steps with the events es, and then r
abbrev pub resumed : {S : Type 0} → ℕ → List Event → Ran S → Ran S
resumed k es r = ended r.end (k + r.steps) r.next (r.events ++ es)

module _ {S : Type 0} (pc : S → ℕ) (step : S → Moved S) where
  -- before each step: an end if the budget is used, else one if pc is the stop address
  unfoldable pub run : (budget stop : ℕ) → S → Ran S
  run zero stop s = ended BudgetUsed 0 s []
  run (suc n) stop s = if pc s == stop then ended Stopped 0 s [] else resumed 1 (step s).events (run n stop (step s).next)

-- the answer to a run that was taken, by what is counted of its events
abbrev pub run_of : {W S : Type 0} → (List Event → W) → Ran S → RunNumbers W
run_of count r = record { end = end_number r.end; steps = r.steps; words = count r.events }

-- the call of a run that was taken
abbrev pub answered : {W S : Type 0} → (List Event → W) → Ran S → Called (Result (RunNumbers W) RefusalNumbers) S
answered count r = record { answer = Ok (run_of count r); state = r.next; events = r.events }

-- a run, refused above 1,000,000 steps
abbrev pub run_call : {W S : Type 0} → (S → ℕ) → (S → Moved S) → (List Event → W) → S → (budget stop : ℕ) → Called (Result (RunNumbers W) RefusalNumbers) S
run_call pc step count s budget stop =
    if nat_le budget 1000000 then answered count (run pc step budget stop s) else record { answer = Err (refusal_numbers Budget); state = s; events = [] }
