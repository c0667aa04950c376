-- Runs stop at the first step at which they must, and can be cut.
use Rattle.std.proofs.Common.{◌≡◌, ℕ, zero, suc, ◌+◌, ◌<◌, Bool, true, false, eqb, ◌⊎◌, [], sym, refl, ap, ◌∙◌, inl, inr, ⊎_elim, suc-add, zero-add, arith}
use Rattle.std.proofs.lemmas.Bool.{cond_both, cases_Bool, true≢false, false≢true, eqb-true, eqb-false}
use Rattle.machine.specs.declared.answer.End.{End}
use Rattle.machine.specs.declared.answer.End.TheVariants.{BudgetUsed, Stopped}
use Rattle.machine.specs.Runs.{Moved, Ran, ended, resumed, run}
use Rattle.machine.proofs.Running.{whole, twice}
use Rattle.machine_laws.specs.RunLaws.{after, StopsFirst, Cut}

abbrev is_stopped : End → Bool
is_stopped BudgetUsed = false
is_stopped Stopped = true

module _ {S : Type 0} (pc : S → ℕ) (step : S → Moved S) where
  -- a step, and then a run that stops where it must
  later : (n stop : ℕ) (s : S) → (pc s ≡ stop → ⊥) → (r : Ran S) → StopsFirst pc step n stop (step s).next r → StopsFirst pc step (suc n) stop s (resumed 1 (step s).events r)
  unfolding after
  later n stop s away r h =
      let z : suc r.steps ≡ 1 + r.steps = omega arith in
      record {
        state = h.state ∙ ap (λ (k : ℕ). after step k s) z;
        not_before = before;
        why = reason h.why;
      }
    where
      before : (k : ℕ) → k < 1 + r.steps → pc (after step k s) ≡ stop → ⊥
      before zero l e = away e
      before (suc k) l e = h.not_before k (omega arith) e

      reason : ((r.end ≡ BudgetUsed) × (r.steps ≡ n)) ⊎ ((r.end ≡ Stopped) × (r.steps < n) × (pc r.next ≡ stop))
          → ((r.end ≡ BudgetUsed) × (1 + r.steps ≡ suc n)) ⊎ ((r.end ≡ Stopped) × (1 + r.steps < suc n) × (pc r.next ≡ stop))
      reason (inl (e, q)) = inl (e, omega arith)
      reason (inr (e, l, q)) = inr (e, omega arith, q)

  pub stops_first : (n stop : ℕ) (s : S) → StopsFirst pc step n stop s (run pc step n stop s)
  unfolding run after
  stops_first zero stop s = record { state = refl; not_before = λ k l e. absurd (omega arith); why = inl (refl, refl) }
  stops_first (suc n) stop s =
      cond_both (eqb (pc s) stop) (ended Stopped 0 s []) (resumed 1 (step s).events (run pc step n stop (step s).next)) (StopsFirst pc step (suc n) stop s)
      (λ t. record { state = refl; not_before = λ k l e. absurd (omega arith); why = inr (refl, omega arith, eqb-true (pc s) stop t) })
      (λ t. later n stop s (eqb-false (pc s) stop t) (run pc step n stop (step s).next) (stops_first n stop (step s).next))

  goes-on-at : (n k stop : ℕ) (s : S) → (run pc step n stop s).end ≡ BudgetUsed
      → run pc step (n + k) stop s ≡ resumed (run pc step n stop s).steps (run pc step n stop s).events (run pc step k stop (run pc step n stop s).next)
  unfolding run
  goes-on-at zero k stop s e = rw (zero-add k) (sym (whole (run pc step k stop s)))
  goes-on-at (suc n) k stop s e =
      let q = (step s).next in
      let r = run pc step n stop q in
      rw (suc-add n k)
      (⊎_elim
      (λ t. absurd (true≢false (ap is_stopped (rw t at e))))
      (λ t. rw t (ap (resumed 1 (step s).events) (goes-on-at n k stop q (rw t at e)) ∙ twice 1 r.steps (step s).events r.events (run pc step k stop r.next)))
      (cases_Bool (eqb (pc s) stop)))

  stays_at : (n k stop : ℕ) (s : S) → (run pc step n stop s).end ≡ Stopped → run pc step (n + k) stop s ≡ run pc step n stop s
  unfolding run
  stays_at zero k stop s e = absurd (false≢true (ap is_stopped e))
  stays_at (suc n) k stop s e =
      rw (suc-add n k)
      (⊎_elim
      (λ t. rw t refl)
      (λ t. rw t (ap (resumed 1 (step s).events) (stays_at n k stop (step s).next (rw t at e))))
      (cases_Bool (eqb (pc s) stop)))

  pub cut : (n k stop : ℕ) (s : S) → Cut pc step n k stop s
  cut n k stop s = record { goes_on = goes-on-at n k stop s; stays = stays_at n k stop s }
