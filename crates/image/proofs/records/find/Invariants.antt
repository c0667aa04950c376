use Rattle.image.specs.Records.{FindsIn}
use Rattle.image.proofs.records.find.Given as goal

abbrev pub invariant-loop-i : goal.invariant-loop-i
invariant-loop-i g l = FindsIn (g.T.RecordTable.records l.table) l.i l.a l.best
