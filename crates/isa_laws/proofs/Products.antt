-- The halves of a product make up the product.
use Rattle.std.proofs.Common.{◌≡◌, ℕ, suc, ◌+◌, ◌-◌, ◌*◌, ◌/◌, ◌%◌, ◌^◌, ◌<◌, ℤ, pos, negsuc, ◌+ℤ◌, ◌*ℤ◌, ap, div-add-mod', arith, w32, w64, SFits}
use borrow.Author.Differences.{up, down, same_in, sum_is_lem, product_is}
use Rattle.std.proofs.lemmas.Int.{to_z_pos, fits_signed_mul}
use lib.Signed.{nat_abs-le}
use Rattle.isa.specs.Alu.{signed, upper}
use Rattle.isa_laws.specs.ArithmeticLaws.{Multiplication}
use Rattle.isa_laws.proofs.Readings.{high, fits, wrap}

-- the two words of a number of 64 bits, where p has its lower word
halves : (z : ℤ) (p k j : ℕ) → SFits w64 z → up z + k * 2 ^ 32 ≡ down z + p + j * 2 ^ 32 → signed (upper z) *ℤ pos (2 ^ 32) +ℤ pos (p % 2 ^ 32) ≡ z
halves (pos n) p k j f e =
    rw (to_z_pos w32 (n / 2 ^ 32) (omega (arith, f.sfits))) (ap pos (omega arith))
halves (negsuc n) p k j f e =
    let u = (2 ^ 64 - suc n) / 2 ^ 32 in
    rw (high u (omega (arith, f.sfits)))
    (same_in _ _ (omega (arith, sum_is_lem (negsuc (2 ^ 32 - suc u) *ℤ pos (2 ^ 32)) (pos (p % 2 ^ 32)), product_is (negsuc (2 ^ 32 - suc u)) (pos (2 ^ 32)), f.sfits)))

pub product-fits : (x y : ℤ) → SFits w32 x → SFits w32 y → SFits w64 (x *ℤ y)
product-fits x y f g = fits_signed_mul w64 x y (2 ^ 31) (2 ^ 31) (nat_abs-le x f.sfits) (nat_abs-le y g.sfits) (omega arith)

-- a signed word times an unsigned one
pub signed_by : (x : ℤ) (b : ℕ) → SFits w32 x → b < 2 ^ 32 → SFits w64 (x *ℤ pos b)
signed_by x b f h = fits_signed_mul w64 x (pos b) (2 ^ 31) (2 ^ 32 - 1) (nat_abs-le x f.sfits) (omega arith) (omega arith)

pub multiplication : Multiplication
multiplication a b ha hb =
    let s = wrap a ha in
    let t = wrap b hb in
    let x = signed a in
    let y = signed b in
    record {
      unsigned = div-add-mod' (a * b) (2 ^ 32);
      both_signed = halves (x *ℤ y) (a * b) (s.0 * b + t.0 * a) (s.0 * t.0 * 2 ^ 32) (product-fits x y (fits a ha) (fits b hb))
          (omega (arith, product_is x y, ap (λ n. n * up y) s.1, ap (λ n. n * down y) s.1, ap (λ n. a * n) t.1, ap (λ n. s.0 * n) t.1));
      first_signed = halves (x *ℤ pos b) (a * b) (s.0 * b) 0 (signed_by x b (fits a ha) hb)
          (omega (arith, product_is x (pos b), ap (λ n. n * b) s.1));
    }
