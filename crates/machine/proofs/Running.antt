-- A run, step by step.
use Rattle.std.proofs.Common.{◌≡◌, ℕ, suc, ◌+◌, ◌-◌, ◌<◌, List, [], ◌++◌, refl, ◌∙◌, append_assoc, append-nil, arith}
use Rattle.std.proofs.Math.Nat.{add_assoc, add-zero, zero-add}
use Rattle.std.proofs.lemmas.Bool.{eq-eqb, ne_eqb}
use Rattle.machine.specs.declared.answer.End.TheVariants.{BudgetUsed, Stopped}
use Rattle.machine.specs.Events.{Event}
use Rattle.machine.specs.Runs.{Moved, Ran, ended, resumed, run}

module _ {S : Type 0} where
  -- no step, and then a run
  pub whole : (r : Ran S) → resumed 0 [] r ≡ r
  whole r = simp (zero-add, append-nil)

  -- steps, more steps, and then a run
  pub twice : (j k : ℕ) (es ds : List Event) (r : Ran S) → resumed j es (resumed k ds r) ≡ resumed (j + k) (ds ++ es) r
  twice j k es ds r = simp (add_assoc, append_assoc)

module _ {S : Type 0} (pc : S → ℕ) (step : S → Moved S) (b stop : ℕ) (start : S) where
  -- the whole run is k steps with the events es, and then the rest of it from s
  abbrev pub Sofar : ℕ → List Event → S → Type 0
  Sofar k es s = run pc step b stop start ≡ resumed k es (run pc step (b - k) stop s)

  module _ (k : ℕ) (es : List Event) (s : S) where
    pub stops : k < b → pc s ≡ stop → Sofar k es s → run pc step b stop start ≡ ended Stopped k s es
    unfolding run
    stops h e i = let n : b - k ≡ suc (b - suc k) = omega arith in i ∙ rw (n, eq-eqb (pc s) stop e, add-zero k) refl

    pub ends : k ≡ b → Sofar k es s → run pc step b stop start ≡ ended BudgetUsed b s es
    unfolding run
    ends h i = let n : b - k ≡ 0 = omega arith in i ∙ rw (n, add-zero k, h) refl

    pub more : (t : S) → k < b → (pc s ≡ stop → ⊥) → t ≡ (step s).next → Sofar k es s → Sofar (k + 1) ((step s).events ++ es) t
    unfolding run
    more t h e q i =
        let n : b - k ≡ suc (b - (k + 1)) = omega arith in
        i ∙ rw (n, ne_eqb (pc s) stop e, q) (twice k 1 es (step s).events (run pc step (b - (k + 1)) stop (step s).next))
