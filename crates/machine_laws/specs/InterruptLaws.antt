-- When an interrupt is taken, and which.
use Rattle.std.specs.Prelude.{◌≡◌, ℕ, ◌+◌, ◌/◌, ◌%◌, ◌^◌, true, false, None}
use Rattle.bus.specs.declared.access.Lines.{Lines}
use Rattle.hart.specs.State.{State}
use Rattle.hart.specs.Traps.{latched, sensed, trapped}

module _ (l : Lines) (s : State) where
  -- interrupt n is enabled: bit n of mie stands
  abbrev pub Enabled : ℕ → Type 0
  Enabled n = s.control.enabled / 2 ^ n % 2 ≡ 1

  -- the external line is up and its interrupt enabled
  abbrev pub External : Type 0
  External = (l.external ≡ true) × Enabled 11

  -- the same of the software line
  abbrev pub Software : Type 0
  Software = (l.software ≡ true) × Enabled 3

  -- the same of the timer
  abbrev pub Timer : Type 0
  Timer = (l.timer ≡ true) × Enabled 7

  -- interrupt n is taken: mcause has bit 31 set, and mtval is 0
  abbrev pub Taken : ℕ → Type 0
  Taken n = latched l s ≡ (true, trapped (2 ^ 31 + n) 0 None (sensed l s))

  -- none is taken: the lines are read, and that is all
  abbrev pub NoneTaken : Type 0
  NoneTaken = latched l s ≡ (false, sensed l s)

  -- the external interrupt before the software's before the timer's
  pub record InOrder : Type 0 where
    pub disabled : s.control.status.mie ≡ false → NoneTaken
    pub external : s.control.status.mie ≡ true → External → Taken 11
    pub software : s.control.status.mie ≡ true → (External → ⊥) → Software → Taken 3
    pub timer : s.control.status.mie ≡ true → (External → ⊥) → (Software → ⊥) → Timer → Taken 7
    pub none : (External → ⊥) → (Software → ⊥) → (Timer → ⊥) → NoneTaken

-- for all lines and states
abbrev pub InterruptsAreOrdered : Type 0
InterruptsAreOrdered = (l : Lines) (s : State) → InOrder l s
