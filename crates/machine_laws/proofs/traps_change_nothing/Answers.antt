use Rattle.machine_laws.proofs.Traps.{traps_change_nothing}
use Rattle.machine_laws.proofs.traps_change_nothing.Goals as goal

-- an answer: it cites the rules of the bound's bus, which a `using` line cannot name
pub returns : goal.returns
returns g c = traps_change_nothing g.B.Bus.kind g.met.B.Bus.rules
