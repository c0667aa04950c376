-- What a load that was not refused leaves.
use Rattle.std.proofs.Common.{◌≡◌, ℕ, zero, suc, ◌+◌, ◌-◌, ◌%◌, ◌<◌, ◌≤◌, true, false, eqb, ◌⊎◌, List, get_or, drop, is_ok, Ok, Err, sym, refl, ap, ◌∙◌, subst, inl, inr, ⊎_elim, arith}
use Rattle.std.proofs.lemmas.List.{get_or-take, get_or-drop, get_or_past, length-take}
use Rattle.std.proofs.lemmas.Bool.{cases_eq, cases_lt, cases_Bool, eqb-true, eq-eqb, cond-true, cond-false}
use Rattle.bus.specs.declared.access.Width.TheVariants.{Byte}
use Rattle.bus.specs.Kind.{Kind, Rules, word_of}
use Rattle.image.specs.Headers.{header_at, table_count, part}
use Rattle.image.specs.WellFormed.{LoadedAt}
use Rattle.loader.specs.Loading.{Outcome, unchanged, go_on, steps, fill, load_segment, load_all}
use Rattle.loader.specs.Placed.{Placed}
use Rattle.loader.proofs.Bytes.{byte_at, Steady, stored_here, stored_there}

-- the last of some steps of which none was refused
ran : {M : Type 0} (x : Outcome M) (next : M → Outcome M) (m' : M) → go_on x.value x.next next ≡ unchanged m' → (x ≡ unchanged x.next) × (next x.next ≡ unchanged m')
ran x next m' =
    elim x.value as (λ v. go_on v x.next next ≡ unchanged m' → (record { value = v; next = x.next } ≡ unchanged x.next) × (next x.next ≡ unchanged m'))
    [ Ok t ↦ λ e. (refl, e) | Err f ↦ λ e. let q = ap (λ y. is_ok y.value) e in let z : ◌≡◌ {A = ℕ} 0 1 = cc in absurd (omega arith) ]

module _ (K : Kind) (rules : Rules K) where
  -- which words are steady stays as it is
  abbrev SameSteady : K.Meaning → K.Meaning → Type 0
  SameSteady m m' = (x : ℕ) → K.steady m' x ≡ K.steady m x

  -- n bytes from address a on
  pub record Filled (t : List ℕ) (a n : ℕ) (m m' : K.Meaning) : Type 0 where
    pub steady : SameSteady m m'
    pub there : (j : ℕ) → j < n → Steady K rules m (a + j) → byte_at K rules m' (a + j) ≡ Ok (get_or t j 0 % 256)
    pub elsewhere : (x : ℕ) → Steady K rules m x → (x < a) ⊎ (a + n ≤ x) → byte_at K rules m' x ≡ byte_at K rules m x

  filled : (t : List ℕ) (a n : ℕ) (m m' : K.Meaning) → fill K t a n m ≡ unchanged m' → Filled t a n m m'
  unfolding steps
  filled t a zero m m' e =
      let q : m ≡ m' = ap (λ x. x.next) e in
      record {
        steady = λ x. ap (λ w. K.steady w x) (sym q);
        there = λ j h s. absurd (omega arith);
        elsewhere = λ x s o. ap (λ w. byte_at K rules w x) (sym q);
      }
  filled t a (suc n) m m' e =
      let w = (fill K t a n m).next in
      let v = get_or t n 0 in
      let r = ran (fill K t a n m) (λ u. K.store u (a + n) Byte v) m' e in
      let i = filled t a n m w r.0 in
      let q : (K.store w (a + n) Byte v).next ≡ m' = ap (λ x. x.next) r.1 in
      let ok : is_ok (K.store w (a + n) Byte v).value ≡ true = ap (λ x. is_ok x.value) r.1 in
      let still : (x : ℕ) → Steady K rules m x → Steady K rules w x = λ x s. i.steady (word_of x) ∙ s in
      record {
        steady = λ x. ap (λ u. K.steady u x) (sym q) ∙ rules.store_keeps_steady w (a + n) Byte v x ∙ i.steady x;
        there = λ j h s. ap (λ u. byte_at K rules u (a + j)) (sym q) ∙ ⊎_elim
            (λ (here : j ≡ n). rw here (stored_here K rules w (a + n) v ok (subst (λ k. Steady K rules w (a + k)) here (still (a + j) s))))
            (λ ne. stored_there K rules w (a + n) v ok (a + j) (still (a + j) s) (λ p. ne (omega arith)) ∙ i.there j (omega arith) s)
            (cases_eq j n);
        elsewhere = λ x s o. ap (λ u. byte_at K rules u x) (sym q)
            ∙ stored_there K rules w (a + n) v ok x (still x s) (⊎_elim (λ lt p. omega arith) (λ ge p. omega arith) o)
            ∙ i.elsewhere x s (⊎_elim (λ lt. inl lt) (λ ge. inr (omega arith)) o);
      }

  -- one segment
  module _ (s : List ℕ) (i : ℕ) where
    segment-filled : (m m' : K.Meaning) → (header_at s i).kind ≡ 1 → load_segment K s i m ≡ unchanged m'
        → Filled (part s (header_at s i)) (header_at s i).vaddr (header_at s i).memsz m m'
    segment-filled m m' k e = filled _ _ _ m m' (sym (cond-true _ _ _ (eq-eqb (header_at s i).kind 1 k)) ∙ e)

    segment-skipped : (m m' : K.Meaning) → eqb (header_at s i).kind 1 ≡ false → load_segment K s i m ≡ unchanged m' → m ≡ m'
    segment-skipped m m' k e = ap (λ x. x.next) (sym (cond-false _ _ _ k) ∙ e)

    segment-steady : (m m' : K.Meaning) → load_segment K s i m ≡ unchanged m' → SameSteady m m'
    segment-steady m m' e x =
        ⊎_elim
        (λ t. (segment-filled m m' (eqb-true (header_at s i).kind 1 t) e).steady x)
        (λ f. ap (λ w. K.steady w x) (sym (segment-skipped m m' f e)))
        (cases_Bool (eqb (header_at s i).kind 1))

    segment-there : (m m' : K.Meaning) (a : ℕ) → Steady K rules m a → LoadedAt (header_at s i) a → load_segment K s i m ≡ unchanged m'
        → byte_at K rules m' a ≡ Ok (get_or (part s (header_at s i)) (a - (header_at s i).vaddr) 0 % 256)
    segment-there m m' a p l e =
        let back : (header_at s i).vaddr + (a - (header_at s i).vaddr) ≡ a = omega (arith, l.from) in
        let f = (segment-filled m m' l.is_load e).there (a - (header_at s i).vaddr) (omega (arith, l.from, l.below)) in
        subst (λ x. Steady K rules m x → byte_at K rules m' x ≡ Ok (get_or (part s (header_at s i)) (a - (header_at s i).vaddr) 0 % 256)) back f p

    segment-elsewhere : (m m' : K.Meaning) (x : ℕ) → Steady K rules m x → (LoadedAt (header_at s i) x → ⊥) → load_segment K s i m ≡ unchanged m' → byte_at K rules m' x ≡ byte_at K rules m x
    segment-elsewhere m m' x p none e =
        ⊎_elim
        (λ t. let k = eqb-true (header_at s i).kind 1 t in
        (segment-filled m m' k e).elsewhere x p
        (⊎_elim inl
        (λ ge. ⊎_elim (λ lt. absurd (none record { is_load = k; from = ge; below = lt })) inr (cases_lt x ((header_at s i).vaddr + (header_at s i).memsz)))
        (cases_lt x (header_at s i).vaddr)))
        (λ f. ap (λ w. byte_at K rules w x) (sym (segment-skipped m m' f e)))
        (cases_Bool (eqb (header_at s i).kind 1))

  -- the first n segments
  module _ (s : List ℕ) (m : K.Meaning) where
    abbrev loaded : ℕ → Outcome K.Meaning
    loaded n = steps (load_segment K s) m n

    same-steady : (n : ℕ) (m' : K.Meaning) → loaded n ≡ unchanged m' → SameSteady m m'
    unfolding steps
    same-steady zero m' e x = ap (λ o. K.steady o.next x) (sym e)
    same-steady (suc n) m' e x =
        let r = ran (loaded n) (load_segment K s n) m' e in
        segment-steady s n (loaded n).next m' r.1 x ∙ same-steady n (loaded n).next r.0 x

    covered : (n : ℕ) (m' : K.Meaning) → loaded n ≡ unchanged m' → (i a : ℕ) → i < n → Steady K rules m a → LoadedAt (header_at s i) a
        → ((k : ℕ) → i < k → k < n → LoadedAt (header_at s k) a → ⊥)
        → byte_at K rules m' a ≡ Ok (get_or (part s (header_at s i)) (a - (header_at s i).vaddr) 0 % 256)
    unfolding steps
    covered zero m' e i a l p c later = absurd (omega arith)
    covered (suc n) m' e i a l p c later =
        let r = ran (loaded n) (load_segment K s n) m' e in
        let still : Steady K rules (loaded n).next a = same-steady n (loaded n).next r.0 (word_of a) ∙ p in
        ⊎_elim
        (λ (q : i ≡ n). segment-there s i (loaded n).next m' a still c (subst (λ k. load_segment K s k (loaded n).next ≡ unchanged m') (sym q) r.1))
        (λ ne. segment-elsewhere s n (loaded n).next m' a still (later n (omega arith) (omega arith)) r.1
        ∙ covered n (loaded n).next r.0 i a (omega arith) p c (λ k b u. later k b (omega arith)))
        (cases_eq i n)

    uncovered : (n : ℕ) (m' : K.Meaning) → loaded n ≡ unchanged m' → (a : ℕ) → Steady K rules m a → ((k : ℕ) → k < n → LoadedAt (header_at s k) a → ⊥) → byte_at K rules m' a ≡ byte_at K rules m a
    unfolding steps
    uncovered zero m' e a p none = ap (λ o. byte_at K rules o.next a) (sym e)
    uncovered (suc n) m' e a p none =
        let r = ran (loaded n) (load_segment K s n) m' e in
        segment-elsewhere s n (loaded n).next m' a (same-steady n (loaded n).next r.0 (word_of a) ∙ p) (none n (omega arith)) r.1
        ∙ uncovered n (loaded n).next r.0 a p (λ k u. none k (omega arith))

  pub placed : (s : List ℕ) (m m' : K.Meaning) → Ok tt ≡ (load_all K s m).value → m' ≡ (load_all K s m).next → Placed K s m m'
  placed s m m' ok next =
      let e : load_all K s m ≡ unchanged m' = ap (λ x. record { value = x; next = (load_all K s m).next }) (sym ok) ∙ ap unchanged (sym next) in
      record {
        file_bytes = λ i a p l f.
            let h = header_at s i in
            covered s m (table_count s) m' e i a l.among p l.covers l.none_later
            ∙ ap (λ b. Ok (b % 256)) (get_or-take h.filesz (drop h.offset s) (a - h.vaddr) 0 f ∙ get_or-drop h.offset s (a - h.vaddr) 0);
        zero_bytes = λ i a p l f.
            let h = header_at s i in
            covered s m (table_count s) m' e i a l.among p l.covers l.none_later
            ∙ ap (λ b. Ok (b % 256)) (get_or_past (part s h) (a - h.vaddr) 0 (simp length-take (omega arith)));
        other_bytes = uncovered s m (table_count s) m' e;
      }
