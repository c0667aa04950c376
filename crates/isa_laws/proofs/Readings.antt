-- Words read as signed numbers.
use Rattle.std.proofs.Common.{◌≡◌, ℕ, zero, suc, ◌+◌, ◌-◌, ◌*◌, ◌^◌, ◌<◌, ◌≤◌, pos, negsuc, ◌*ℤ◌, neg_ℤ, refl, ⊎_elim, zero-mul, arith, w32, SFits}
use lib.Signed.{mag}
use borrow.Author.Differences.{up, down, same_in, sum_is_lem}
use Rattle.std.proofs.Math.Facts.{sfits_to_z}
use Rattle.std.proofs.lemmas.Int.{to_z_pos}
use Rattle.std.proofs.lemmas.Bool.{cases_lt, le-ltb}
use Rattle.isa.specs.Alu.{signed}
use Rattle.isa_laws.specs.ArithmeticLaws.{SignedReading}

-- a word from the middle on counts down from the end
pub high : (n : ℕ) → 2 ^ 31 ≤ n → signed n ≡ negsuc (2 ^ 32 - suc n)
high n h = rw (le-ltb n (2 ^ 31) h)

pub reading : SignedReading
reading n = (
  λ h. to_z_pos w32 n h,
  λ h k. rw (high n h) (same_in _ _ (omega (arith, sum_is_lem (negsuc (2 ^ 32 - suc n)) (pos (2 ^ 32))))),
)

module _ (a : ℕ) (h : a < 2 ^ 32) where
  pub fits : SFits w32 (signed a)
  fits = sfits_to_z {w = w32} record { fits = h }

  -- a word read as signed is the word, less 2 ^ 32 where its top bit is set
  pub wrap : (t : ℕ) × (up (signed a) + t * 2 ^ 32 ≡ down (signed a) + a)
  wrap = ⊎_elim (λ lt. rw (to_z_pos w32 a lt) (0, omega arith)) (λ ge. rw (high a ge) (1, omega arith)) (cases_lt a (2 ^ 31))

-- products of a negated number
pub neg-pos : (q b : ℕ) → neg_ℤ (pos q) *ℤ pos b ≡ neg_ℤ (pos (q * b))
neg-pos zero b = rw zero-mul
neg-pos (suc q) b = refl

pub neg-neg : (q b : ℕ) → neg_ℤ (pos q) *ℤ negsuc b ≡ pos (q * suc b)
neg-neg zero b = rw zero-mul
neg-neg (suc q) b = refl

-- the size of a negated number
pub mag-neg : (n : ℕ) → mag (neg_ℤ (pos n)) ≤ n
mag-neg zero = omega arith
mag-neg (suc n) = omega arith
