-- Shifts multiply, and divide rounding down.
use Rattle.std.proofs.Common.{◌≡◌, ℕ, ◌*◌, ◌/◌, ◌%◌, ◌^◌, ◌<◌, ℤ, pos, negsuc, ◌+ℤ◌, neg_ℤ, div-add-mod', arith, pow_pos, w32, SFits}
use native.Mathlib.Nat.{lt-div-mul-add}
use lib.Signed.{shr_z, mag_shr}
use borrow.Author.Differences.{same_in, sum_is_lem, product_is, neg_is, at_most_in, below_in}
use Rattle.std.proofs.lemmas.Int.{to_z-of_z}
use Rattle.isa.specs.Alu.{signed}
use Rattle.isa_laws.specs.ArithmeticLaws.{Floor, SignedFloor, Shifting}
use Rattle.isa_laws.proofs.Readings.{fits, neg-pos}
use Rattle.isa_laws.proofs.Sums.{wraps}

one_up : (q : ℕ) → negsuc q +ℤ pos 1 ≡ neg_ℤ (pos q)
one_up q = same_in _ _ (omega (arith, sum_is_lem (negsuc q) (pos 1), neg_is (pos q)))

floor-of : (n d : ℕ) → 0 < d → Floor n d (n / d)
floor-of n d h = (omega (arith, div-add-mod' n d), omega (arith, lt-div-mul-add {a = n} {b = d} h))

signed-floor-of : (z : ℤ) (d : ℕ) → 0 < d → SignedFloor z d (shr_z z d)
signed-floor-of (pos n) d h = let e = floor-of n d h in (at_most_in _ _ (omega arith), below_in _ _ (omega arith))
signed-floor-of (negsuc n) d h =
    let e = floor-of n d h in (
      at_most_in _ _ (omega (arith, product_is (negsuc (n / d)) (pos d))),
      rw (one_up (n / d), neg-pos (n / d) d) (below_in _ _ (omega (arith, neg_is (pos (n / d * d))))),
    )

pub shifting : Shifting
shifting a b ha hb =
    let d = 2 ^ (b % 32) in
    let f : SFits w32 (shr_z (signed a) d) = record { sfits = omega (arith, mag_shr (signed a) d, (fits a ha).sfits) } in
    record {
      left = wraps (a * d);
      right = floor-of a d (pow_pos (b % 32));
      arithmetic = rw (to_z-of_z w32 (shr_z (signed a) d) f) (signed-floor-of (signed a) d (pow_pos (b % 32)));
    }
