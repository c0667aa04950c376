-- The interrupts, by their numbers.
use Rattle.std.specs.Prelude.{ℕ}
use Rattle.hart.specs.declared.interrupt.Interrupt.{Interrupt}
use Rattle.hart.specs.declared.interrupt.Interrupt.TheVariants.{Software, Timer, External}

-- the number of an interrupt, which is that of its bit in mie and mip
abbrev pub interrupt_number : Interrupt → ℕ
interrupt_number Software = 3
interrupt_number Timer = 7
interrupt_number External = 11
