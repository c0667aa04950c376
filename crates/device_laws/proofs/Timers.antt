-- The clock over many ticks.
use Rattle.std.proofs.Common.{zero, suc, mod-eq_of_lt, arith}
use Rattle.device_laws.specs.Runs.{after}
use Rattle.device_laws.specs.Timers.{TicksCount}

pub ticks_count : TicksCount
unfolding after
ticks_count zero t h = grind (arith, mod-eq_of_lt)
ticks_count (suc n) t h = grind (arith, ticks_count n)
