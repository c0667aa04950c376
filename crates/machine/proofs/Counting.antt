-- Counting events.
use Rattle.std.proofs.Common.{◌≡◌, ◌+◌, ◌≤◌, Bool, true, false, List, [], ◌∷◌, ◌++◌, refl, arith}
use Rattle.isa.specs.Alu.{flag}
use Rattle.machine.specs.declared.system.Effect.{Effect}
use Rattle.machine.specs.declared.system.Effect.TheVariants.{Nothing, Stored, Cleared}
use Rattle.machine.specs.Events.{Event, fetched, stored, cleared, ticked, events_of, fetches}

pub fetches-++ : (es ds : List Event) → fetches (es ++ ds) ≡ fetches es + fetches ds
fetches-++ [] ds = omega arith
fetches-++ (fetched a ∷ es) ds = let h = fetches-++ es ds in omega arith
fetches-++ (stored a ∷ es) ds = fetches-++ es ds
fetches-++ (cleared ∷ es) ds = fetches-++ es ds
fetches-++ (ticked ∷ es) ds = fetches-++ es ds

-- what an instruction did is no word that came
pub fetches-did : (d : Effect) (es : List Event) → fetches (events_of d ++ es) ≡ fetches es
fetches-did Nothing es = refl
fetches-did (Stored a) es = refl
fetches-did Cleared es = refl

pub flag-le : (b : Bool) → flag b ≤ 1
flag-le true = omega arith
flag-le false = omega arith
