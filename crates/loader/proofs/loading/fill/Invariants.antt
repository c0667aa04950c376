use Rattle.std.proofs.Common.{◌+◌, get_or}
use Rattle.bus.specs.declared.access.Width.TheVariants.{Byte}
use Rattle.loader.proofs.Steps.{Ran}
use Rattle.loader.proofs.loading.fill.Given as goal

abbrev pub invariant-loop-i : goal.invariant-loop-i
invariant-loop-i g l =
    Ran (λ i w. g.B.Bus.kind.store w (l.address + i) Byte (get_or l.bytes i 0)) (g.B.Bus.meaning l.initial.bus) l.i (g.B.Bus.meaning l.bus)
