use Rattle.loader.specs.Loading.{load_segment}
use Rattle.loader.proofs.Steps.{Ran}
use Rattle.loader.proofs.loading.load_all.Given as goal

abbrev pub invariant-loop-i : goal.invariant-loop-i
invariant-loop-i g l =
    Ran (load_segment g.B.Bus.kind l.image.bytes.now) (g.B.Bus.meaning l.initial.bus) l.i (g.B.Bus.meaning l.bus)
