-- What holds of every hart, and is kept by every step.
use Rattle.std.specs.Prelude.{◌≡◌, ℕ, ◌%◌, slice_index}
use Rattle.bus.specs.Kind.{Kind}
use Rattle.hart.specs.State.{State, fresh}
use Rattle.machine.specs.PlainSteps.{PlainState, plain_step}

-- x0 is 0, and pc is the address of a word
pub record Sound (s : State) : Type 0 where
  pub zero_register : slice_index s.x 0 ≡ 0
  pub aligned : s.pc % 4 ≡ 0

-- a fresh hart is sound, and every step keeps it so
pub record StepsStaySound (K : Kind) : Type 0 where
  pub at_first : (entry : ℕ) → Sound (fresh entry)
  pub then : (p : PlainState K.Meaning) → Sound p.hart → Sound (plain_step K p).next.hart
