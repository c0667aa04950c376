-- With the lemma on a `using` line of the function instead, `returns` stays open.
use Rattle.isa_laws.proofs.Shifts.{shifting}
use Rattle.isa_laws.proofs.arithmetic.shifts_scale.Goals as goal

pub returns : goal.returns
returns c = shifting
