-- With the lemma on a `using` line of the function instead, `returns` stays open.
use Rattle.isa_laws.proofs.Sums.{logic}
use Rattle.isa_laws.proofs.arithmetic.logic_is_bitwise.Goals as goal

pub returns : goal.returns
returns c = logic
