-- Quotients and remainders.
use Rattle.std.proofs.Common.{◌≡◌, ℕ, zero, suc, ◌-◌, ◌/◌, ◌^◌, ◌<◌, ℤ, pos, negsuc, neg_ℤ, nat_abs, ◌≤ℤ◌, refl, ap, ⊎_elim, mod-lt, div-add-mod', div-le_self, div-one, arith, w32, SFits, of_z}
use native.Mathlib.Nat.{zero-mod, div-lt_self}
use lib.Signed.{quot_z, rem_z, mag_rem}
use borrow.Author.Differences.{neg_is, mag_is, at_most_in}
use Rattle.std.proofs.lemmas.Int.{ints, to_z-of_z, to_z_pos, of_z-to_z, quot-rem, rem_below}
use Rattle.std.proofs.lemmas.Bool.{cases_lt, ne_eqb}
use Rattle.isa.specs.Alu.{signed}
use Rattle.isa_laws.specs.ArithmeticLaws.{Division, DivisionSpecial}
use Rattle.isa_laws.proofs.Readings.{high, fits, mag-neg}

not-negative-of : (x y : ℤ) → pos 0 ≤ℤ x → pos 0 ≤ℤ rem_z x y
not-negative-of (pos a) y h = omega (arith, ints)
not-negative-of (negsuc a) y h = absurd (omega (arith, ints))

not-positive-of : (x y : ℤ) → x ≤ℤ pos 0 → rem_z x y ≤ℤ pos 0
not-positive-of (pos a) y h = let z : a ≡ 0 = omega (arith, ints) in at_most_in _ _ (rw z (omega (arith, zero-mod (nat_abs y))))
not-positive-of (negsuc a) y h = omega (arith, ints)

-- the quotient fits, unless it is that of the least number by -1
quotient_fits : (x y : ℤ) → SFits w32 x → (x ≡ negsuc (2 ^ 31 - 1) → y ≡ negsuc 0 → ⊥) → SFits w32 (quot_z x y)
quotient_fits (pos a) (pos b) f n = record { sfits = omega (arith, f.sfits, div-le_self a b) }
quotient_fits (pos a) (negsuc b) f n = record { sfits = omega (arith, f.sfits, div-le_self a (suc b), mag-neg (a / suc b)) }
quotient_fits (negsuc a) (pos b) f n = record { sfits = omega (arith, f.sfits, div-le_self (suc a) b, mag_is (neg_ℤ (pos (suc a / b))), neg_is (pos (suc a / b))) }
quotient_fits (negsuc a) (negsuc zero) f n =
    let k : a ≡ 2 ^ 31 - 1 → ⊥ = λ e. n (ap negsuc e) refl in
    record { sfits = omega (arith, f.sfits, div-one (suc a), k) }
quotient_fits (negsuc a) (negsuc (suc b)) f n = record { sfits = omega (arith, f.sfits, div-lt_self {n = suc a} {k = suc (suc b)} (omega arith) (omega arith)) }

-- which words are the two of the overflow
least : (a : ℕ) → a < 2 ^ 32 → signed a ≡ negsuc (2 ^ 31 - 1) → a ≡ 2 ^ 31
least a h e = omega (arith, of_z-to_z w32 a h, ap (of_z w32) e)

minus_one : (b : ℕ) → b < 2 ^ 32 → signed b ≡ negsuc 0 → b ≡ 2 ^ 32 - 1
minus_one b h e = omega (arith, of_z-to_z w32 b h, ap (of_z w32) e)

not-zero : (b : ℕ) → b < 2 ^ 32 → 0 < b → 0 < nat_abs (signed b)
not-zero b h p = ⊎_elim (λ lt. rw (to_z_pos w32 b lt) p) (λ ge. rw (high b ge) (omega arith)) (cases_lt b (2 ^ 31))

pub division : Division
division = (
  λ a b ha hb h. let z = ne_eqb b 0 (omega arith) in record { whole = rw z (div-add-mod' a b); small = rw z (mod-lt a h) },
  λ a b ha hb h over.
      let z = ne_eqb b 0 (omega arith) in
      let x = signed a in
      let y = signed b in
      let q = to_z-of_z w32 (quot_z x y) (quotient_fits x y (fits a ha) (λ p r. over (least a ha p) (minus_one b hb r))) in
      let r = to_z-of_z w32 (rem_z x y) record { sfits = omega (arith, mag_rem x y, (fits a ha).sfits) } in
      record {
        whole = rw (z, q, r) (quot-rem x y);
        small = rw (z, r) (rem_below x y (not-zero b hb h));
        not_negative = λ s. rw (z, r) (not-negative-of x y s);
        not_positive = λ s. rw (z, r) (not-positive-of x y s);
      },
)

pub division_special : DivisionSpecial
division_special = (λ a. record { quotient = refl; quotient_unsigned = refl; remainder = refl; remainder_unsigned = refl }, refl, refl)
