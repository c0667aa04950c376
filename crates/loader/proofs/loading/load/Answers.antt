-- What a load leaves follows from the rules of the bus alone. They are those of the bound on the bus, which a `using` line cannot name.
use Rattle.loader.proofs.Placing.{placed}
use Rattle.loader.proofs.loading.load.Goals as goal

pub returns-clause-placed : goal.returns-clause-placed
returns-clause-placed g c = λ _. placed g.B.Bus.kind g.met.B.Bus.rules _ _ _ c.in_ok-load_all.ensures.value c.in_ok-load_all.ensures.next
