-- Steps up to the first that is refused, as a loop takes them.
use Rattle.std.proofs.Common.{◌≡◌, ℕ, zero, suc, ◌+◌, ◌≤◌, Ok, Err, sym, refl, ap, ◌∙◌, ⊎_elim, add-one, arith}
use Rattle.std.proofs.lemmas.Bool.{cases_lt}
use Rattle.bus.specs.Numbers.{FaultNumbers}
use Rattle.loader.specs.Loading.{Outcome, unchanged, go_on, steps}

module _ {M : Type 0} (f : ℕ → M → Outcome M) (m : M) where
  -- so far nothing was refused, and w is left
  abbrev pub Ran : ℕ → M → Type 0
  Ran i w = steps f m i ≡ unchanged w

  pub ran_none : Ran 0 m
  unfolding steps
  ran_none = refl

  -- one step more
  more : (i : ℕ) (w : M) → Ran i w → steps f m (i + 1) ≡ f i w
  unfolding steps
  more i w e = rw add-one (ap (λ x. go_on x.value x.next (f i)) e)

  pub ran_more : (i : ℕ) (w v : M) → Ran i w → Ok tt ≡ (f i w).value → v ≡ (f i w).next → Ran (i + 1) v
  ran_more i w v e p q = more i w e ∙ ap (λ x. record { value = x; next = (f i w).next }) (sym p) ∙ ap unchanged (sym q)

  -- after a refusal nothing changes any more
  stopped : (i n : ℕ) (w : M) (e : FaultNumbers) → i ≤ n → steps f m i ≡ record { value = Err e; next = w } → steps f m n ≡ record { value = Err e; next = w }
  unfolding steps
  stopped i zero w e l h = let z : i ≡ 0 = omega arith in rw z at h
  stopped i (suc n) w e l h =
      ⊎_elim
      (λ lt. ap (λ x. go_on x.value x.next (f n)) (stopped i n w e (omega arith) h))
      (λ ge. let z : i ≡ suc n = omega arith in rw z at h)
      (cases_lt i (suc n))

  pub refused : (i n : ℕ) (w v : M) (e : FaultNumbers) → i + 1 ≤ n → Ran i w → Err e ≡ (f i w).value → v ≡ (f i w).next → (Err e ≡ (steps f m n).value) × (v ≡ (steps f m n).next)
  refused i n w v e l r p q =
      let at = stopped (i + 1) n v e l (more i w r ∙ ap (λ x. record { value = x; next = (f i w).next }) (sym p) ∙ ap (λ x. record { value = Err e; next = x }) (sym q)) in
      (sym (ap (λ x. x.value) at), sym (ap (λ x. x.next) at))
