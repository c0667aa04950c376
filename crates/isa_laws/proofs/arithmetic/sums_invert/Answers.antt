-- With the lemma on a `using` line of the function instead, `returns` stays open.
use Rattle.isa_laws.proofs.Sums.{addition}
use Rattle.isa_laws.proofs.arithmetic.sums_invert.Goals as goal

pub returns : goal.returns
returns c = addition
