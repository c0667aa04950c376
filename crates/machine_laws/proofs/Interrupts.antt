-- Interrupts are taken in their order.
use Rattle.std.proofs.Common.{◌≡◌, ℕ, ◌+◌, ◌*◌, ◌/◌, ◌%◌, ◌^◌, ◌<◌, min, Bool, true, false, if◌then◌else◌, ◌&&◌, eqb, Some, None, Option, refl, ap, ◌∙◌, arith}
use lib.Bits.{bit_and}
use Rattle.std.specs.Int.{bit_at}
use Rattle.std.proofs.lemmas.Bool.Decides.{nat_tests}
use Rattle.std.proofs.lemmas.Nat.Bits.{bit_at_and, bit_at-lt}
use Rattle.std.proofs.lemmas.Bool.{eq-eqb, eqb-true}
use Rattle.bus.specs.declared.access.Lines.{Lines}
use Rattle.hart.specs.Control.{bit}
use Rattle.hart.specs.State.{State}
use Rattle.hart.specs.Traps.{chosen, sensed, interrupt, taking, latched}
use Rattle.isa.specs.Alu.{flag}
use Rattle.machine_laws.specs.InterruptLaws.{Enabled, InOrder}

-- a bit of a conjunction
bit-and : (i a b : ℕ) → bit i (bit_and a b) ≡ (bit i a && bit i b)
bit-and i a b = rw (bit_at_and a b i) (both (bit_at a i) (bit_at b i) (bit_at-lt a i) (bit_at-lt b i))
  where
    both : (x y : ℕ) → x < 2 → y < 2 → eqb (min x y) 1 ≡ (eqb x 1 && eqb y 1)
    both x y p q = grind (arith, nat_tests)

-- the lines as they stand in mip
abbrev mip : Bool → Bool → Bool → ℕ
mip a b c = flag a * 8 + flag b * 128 + flag c * 2048

in-mip : (a b c : Bool) → (bit 3 (mip a b c) ≡ a) × (bit 7 (mip a b c) ≡ b) × (bit 11 (mip a b c) ≡ c)
in-mip a b c = (grind (arith, nat_tests), grind (arith, nat_tests), grind (arith, nat_tests))

-- the choice among three
abbrev pick : Bool → Bool → Bool → Bool → Option ℕ
pick false x y z = None
pick true x y z = if x then Some 11 else if y then Some 3 else if z then Some 7 else None

picked : (on : Bool) (r : ℕ) (x y z : Bool) → bit 11 r ≡ x → bit 3 r ≡ y → bit 7 r ≡ z → chosen on r ≡ pick on x y z
picked false r x y z p q t = refl
picked true r x y z p q t = rw (p, q, t) refl

none-chosen : (on : Bool) → pick on false false false ≡ None
none-chosen true = refl
none-chosen false = refl

module _ (l : Lines) (s : State) where
  abbrev enabled : ℕ → Bool
  enabled n = bit n s.control.enabled

  -- not both a line up and its interrupt enabled
  not-both : (x : Bool) (n : ℕ) → ((x ≡ true) × Enabled l s n → ⊥) → (x && enabled n) ≡ false
  not-both x n h = down x (enabled n) (λ p q. h (p, eqb-true (s.control.enabled / 2 ^ n % 2) 1 q))
    where
      down : (x y : Bool) → (x ≡ true → y ≡ true → ⊥) → (x && y) ≡ false
      down true true k = absurd (k refl refl)
      down true false k = refl
      down false y k = refl

  is-enabled : (n : ℕ) → Enabled l s n → enabled n ≡ true
  is-enabled n e = eq-eqb (s.control.enabled / 2 ^ n % 2) 1 e

  choice : interrupt (sensed l s) ≡ pick s.control.status.mie (l.external && enabled 11) (l.software && enabled 3) (l.timer && enabled 7)
  choice =
      let p = mip l.software l.timer l.external in
      let q = in-mip l.software l.timer l.external in
      let x = bit-and 11 p s.control.enabled ∙ ap (λ b. b && enabled 11) q.2 in
      let y = bit-and 3 p s.control.enabled ∙ ap (λ b. b && enabled 3) q.0 in
      let z = bit-and 7 p s.control.enabled ∙ ap (λ b. b && enabled 7) q.1 in
      picked s.control.status.mie (bit_and p s.control.enabled) _ _ _ x y z

  by-choice : (o : Option ℕ) → interrupt (sensed l s) ≡ o → latched l s ≡ taking o (sensed l s)
  unfolding latched
  by-choice o e = ap (λ (x : Option ℕ). taking x (sensed l s)) e

  pub in_order : InOrder l s
  in_order =
      record {
        disabled = λ d. by-choice None (choice ∙ rw d);
        external = λ d (a, b). by-choice (Some 11) (choice ∙ rw (d, a, is-enabled 11 b));
        software = λ d x (a, b). by-choice (Some 3) (choice ∙ rw (d, not-both l.external 11 x, a, is-enabled 3 b));
        timer = λ d x y (a, b). by-choice (Some 7) (choice ∙ rw (d, not-both l.external 11 x, not-both l.software 3 y, a, is-enabled 7 b));
        none = λ x y z. by-choice None (choice ∙ rw (not-both l.external 11 x, not-both l.software 3 y, not-both l.timer 7 z) (none-chosen s.control.status.mie));
      }
