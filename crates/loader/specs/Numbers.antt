-- What a load answers: done, or refused with its number and the fault.
use Rattle.std.specs.Prelude.{ℕ, Ok, Err, Result}
use Rattle.bus.specs.Numbers.{FaultNumbers, fault_numbers}
use Rattle.loader.specs.declared.refusal.LoadRefusal.{LoadRefusal}
use Rattle.loader.specs.declared.refusal.LoadRefusal.TheVariants.{Store}

abbrev pub load_refusal_number : LoadRefusal → ℕ
load_refusal_number (Store f) = 9

abbrev pub fault_in : LoadRefusal → FaultNumbers
fault_in (Store f) = fault_numbers f

pub data LoadTold : Type 0 where
  done : LoadTold
  refused : (number : ℕ) (fault : FaultNumbers) → LoadTold

abbrev pub load_told : Result (Unit {0}) LoadRefusal → LoadTold
load_told (Ok _) = done
load_told (Err e) = refused (load_refusal_number e) (fault_in e)

-- a store that the bus refused ends the load with 9
abbrev pub ends_with : Result (Unit {0}) FaultNumbers → LoadTold
ends_with (Ok _) = done
ends_with (Err f) = refused 9 f
