-- The numbers by which ends and refusals are known outside.
use Rattle.std.specs.Prelude.{ℕ, List, ◌++◌, codes, decimal, Some, None, Ok, Err, Option, Result}
use Rattle.bus.specs.Numbers.{FaultNumbers, fault_numbers, feed_refusal_number}
use Rattle.machine.specs.declared.answer.End.{End}
use Rattle.machine.specs.declared.answer.End.TheVariants.{BudgetUsed, Stopped}
use Rattle.machine.specs.declared.answer.Refusal.{Refusal}
use Rattle.machine.specs.declared.answer.Refusal.TheVariants.{Misaligned, Bus, Budget, Feed}
use Rattle.machine.specs.declared.answer.Run.{Run}

-- how a run ended
abbrev pub end_number : End → ℕ
end_number BudgetUsed = 1
end_number Stopped = 2

-- a refusal in numbers, with the fault of the bus if one caused it
pub record RefusalNumbers : Type 0 where
  pub number : ℕ
  pub fault : Option FaultNumbers

-- a refusal of which the bus knows nothing
abbrev pub refused : ℕ → RefusalNumbers
refused n = record { number = n; fault = None }

-- a refusal by the bus
abbrev pub refused_by_bus : FaultNumbers → RefusalNumbers
refused_by_bus f = record { number = 11; fault = Some f }

-- the numbers of a refusal
abbrev pub refusal_numbers : Refusal → RefusalNumbers
refusal_numbers Misaligned = refused 10
refusal_numbers (Bus f) = refused_by_bus (fault_numbers f)
refusal_numbers Budget = refused 12
refusal_numbers (Feed e) = refused (feed_refusal_number e)

-- a refusal as it is printed
abbrev pub refusal_text : Refusal → List ℕ
refusal_text e = codes "refused " ++ decimal (refusal_numbers e).number

-- an answer with its refusal in numbers
abbrev pub told : {R : Type 0} → Result R Refusal → Result R RefusalNumbers
told (Ok x) = Ok x
told (Err e) = Err (refusal_numbers e)

-- a run with its end by number
pub record RunNumbers (W : Type 0) : Type 0 where
  pub end : ℕ
  pub steps : ℕ
  pub words : W

-- the numbers of a run
abbrev pub run_numbers : {W : Type 0} → Run W → RunNumbers W
run_numbers r = record { end = end_number r.end; steps = r.steps; words = r.words }

-- the answer to a run, in numbers
abbrev pub run_told : {W : Type 0} → Result (Run W) Refusal → Result (RunNumbers W) RefusalNumbers
run_told (Ok r) = Ok (run_numbers r)
run_told (Err e) = Err (refusal_numbers e)
