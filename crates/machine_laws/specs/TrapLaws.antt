-- What a trap leaves, and what the return from it restores.
use Rattle.std.specs.Prelude.{◌≡◌, ℕ, ◌-◌, ◌%◌, true, false, ◌⊎◌, Option}
use Rattle.bus.specs.Kind.{Kind}
use Rattle.bus.specs.Numbers.{FaultNumbers}
use Rattle.hart.specs.State.{State}
use Rattle.hart.specs.Traps.{returned, trapped}
use Rattle.machine.specs.PlainSteps.{PlainState, plain_step}

-- the step from p is a trap and nothing else: the registers are left, the bus only ticks, and the hart goes to its
-- handler with interrupts off
pub record OnlyTraps (K : Kind) (p q : PlainState K.Meaning) : Type 0 where
  pub registers : q.hart.x ≡ p.hart.x
  pub bus : q.meaning ≡ K.tick p.meaning
  pub handler : q.hart.pc ≡ p.hart.control.mtvec - p.hart.control.mtvec % 4
  pub return_address : q.hart.control.saved.mepc ≡ p.hart.pc
  pub off : q.hart.control.status.mie ≡ false
  pub before : q.hart.control.status.mpie ≡ p.hart.control.status.mie

-- a step leaves the record of the last trap as it is, or is a trap and nothing else
abbrev pub TrapsChangeNothing : Kind → Type 0
TrapsChangeNothing K = (p : PlainState K.Meaning) → let q = (plain_step K p).next in (q.hart.trap ≡ p.hart.trap) ⊎ OnlyTraps K p q

-- what MRET restores of the state before a trap
pub record Restored (s r : State) : Type 0 where
  pub pc : r.pc ≡ s.pc
  pub registers : r.x ≡ s.x
  pub interrupts : r.control.status.mie ≡ s.control.status.mie
  pub before : r.control.status.mpie ≡ true

-- MRET right after a trap
abbrev pub ReturnUndoesTrap : Type 0
ReturnUndoesTrap = (s : State) (mcause mtval : ℕ) (fault : Option FaultNumbers) → s.pc % 4 ≡ 0 → Restored s (returned (trapped mcause mtval fault s))
