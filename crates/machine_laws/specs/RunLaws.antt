-- Runs of the plain machine: where they stop, and that they can be cut.
use Rattle.std.specs.Prelude.{◌≡◌, ℕ, zero, suc, ◌+◌, ◌<◌, ◌⊎◌, ◌≢◌}
use Rattle.bus.specs.Kind.{Kind}
use Rattle.machine.specs.declared.answer.End.TheVariants.{BudgetUsed, Stopped}
use Rattle.machine.specs.PlainSteps.{PlainState, pc_of, plain_step}
use Rattle.machine.specs.Runs.{Moved, Ran, resumed, run}

-- the state after n steps
unfoldable pub after : {S : Type 0} → (S → Moved S) → ℕ → S → S
after step zero s = s
after step (suc n) s = after step n (step s).next

module _ {S : Type 0} (pc : S → ℕ) (step : S → Moved S) where
  -- r is the run from s that stops at the first step at which it must
  pub record StopsFirst (budget stop : ℕ) (s : S) (r : Ran S) : Type 0 where
    -- it took as many steps as it says
    pub state : r.next ≡ after step r.steps s
    -- the stop address was not met before
    pub not_before : (k : ℕ) → k < r.steps → pc (after step k s) ≢ stop
    -- the budget is used, or it is not and the stop address is met
    pub why : ((r.end ≡ BudgetUsed) × (r.steps ≡ budget)) ⊎ ((r.end ≡ Stopped) × (r.steps < budget) × (pc r.next ≡ stop))

  -- a run of n that used its budget, and a run of k from there, are the run of n + k; one that stopped is the run of n + k
  pub record Cut (n k stop : ℕ) (s : S) : Type 0 where
    pub goes_on : (run pc step n stop s).end ≡ BudgetUsed
        → run pc step (n + k) stop s ≡ resumed (run pc step n stop s).steps (run pc step n stop s).events (run pc step k stop (run pc step n stop s).next)
    pub stays : (run pc step n stop s).end ≡ Stopped → run pc step (n + k) stop s ≡ run pc step n stop s

-- every run of the plain machine does
abbrev pub RunsStopFirst : Kind → Type 0
RunsStopFirst K = (budget stop : ℕ) (p : PlainState K.Meaning) → StopsFirst pc_of (plain_step K) budget stop p (run pc_of (plain_step K) budget stop p)

-- every run of the plain machine can be cut
abbrev pub RunsCanBeCut : Kind → Type 0
RunsCanBeCut K = (n k stop : ℕ) (p : PlainState K.Meaning) → Cut pc_of (plain_step K) n k stop p
