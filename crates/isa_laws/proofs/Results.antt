-- Every operation gives a word.
use Rattle.std.proofs.Common.{suc, ◌+◌, ◌-◌, ◌*◌, ◌/◌, ◌%◌, ◌^◌, ◌≤◌, ℤ, pos, negsuc, div-le_self, arith, w32, w64, SFits}
use native.Mathlib.Nat.{mod-le}
use lib.Signed.{mag, quot_z, rem_z, shr_z, mag_rem, mag_shr}
use Rattle.std.proofs.lemmas.Nat.{mul-le, and_le_l, or_lt, xor_lt, mod_below, shr_le}
use Rattle.std.proofs.lemmas.Bool.Decides.{nat_tests}
use Rattle.isa.specs.declared.alu.AluOp.TheVariants.{Add, Sub, Sll, Slt, Sltu, Xor, Srl, Sra, Or, And, Mul, Mulh, Mulhsu, Mulhu, Div, Divu, Rem, Remu}
use Rattle.isa.specs.Alu.{signed, word_of, upper}
use Rattle.isa_laws.specs.ArithmeticLaws.{Word, ResultsAreWords}
use Rattle.isa_laws.proofs.Readings.{fits, mag-neg}
use Rattle.isa_laws.proofs.Products.{product-fits, signed_by}

word_below : (z : ℤ) → mag z ≤ 2 ^ 31 → Word (word_of z)
word_below (pos n) h = omega arith
word_below (negsuc n) h = omega arith

upper-below : (z : ℤ) → SFits w64 z → Word (upper z)
upper-below (pos n) f = omega (arith, f.sfits)
upper-below (negsuc n) f = omega (arith, f.sfits)

quotient-below : (x y : ℤ) → SFits w32 x → mag (quot_z x y) ≤ 2 ^ 31
quotient-below (pos a) (pos b) f = omega (arith, f.sfits, div-le_self a b)
quotient-below (pos a) (negsuc b) f = omega (arith, f.sfits, div-le_self a (suc b), mag-neg (a / suc b))
quotient-below (negsuc a) (pos b) f = omega (arith, f.sfits, div-le_self (suc a) b, mag-neg (suc a / b))
quotient-below (negsuc a) (negsuc b) f = omega (arith, f.sfits, div-le_self (suc a) (suc b))

pub results_are_words : ResultsAreWords
results_are_words Add a b ha hb = mod_below (a + b) (2 ^ 32) (omega arith)
results_are_words Sub a b ha hb = mod_below (a + (2 ^ 32 - b)) (2 ^ 32) (omega arith)
results_are_words Sll a b ha hb = mod_below (a * 2 ^ (b % 32)) (2 ^ 32) (omega arith)
results_are_words Slt a b ha hb = grind (arith, nat_tests)
results_are_words Sltu a b ha hb = grind (arith, nat_tests)
results_are_words Xor a b ha hb = xor_lt 32 a b ha hb
results_are_words Srl a b ha hb = omega (arith, shr_le a (b % 32))
results_are_words Sra a b ha hb = word_below (shr_z (signed a) (2 ^ (b % 32))) (omega (arith, mag_shr (signed a) (2 ^ (b % 32)), (fits a ha).sfits))
results_are_words Or a b ha hb = or_lt 32 a b ha hb
results_are_words And a b ha hb = omega (arith, and_le_l a b)
results_are_words Mul a b ha hb = mod_below (a * b) (2 ^ 32) (omega arith)
results_are_words Mulh a b ha hb = upper-below _ (product-fits (signed a) (signed b) (fits a ha) (fits b hb))
results_are_words Mulhsu a b ha hb = upper-below _ (signed_by (signed a) b (fits a ha) hb)
results_are_words Mulhu a b ha hb = omega (arith, mul-le a b (2 ^ 32 - 1) (2 ^ 32 - 1) (omega arith) (omega arith))
results_are_words Div a b ha hb = let q = word_below (quot_z (signed a) (signed b)) (quotient-below (signed a) (signed b) (fits a ha)) in grind (arith, nat_tests)
results_are_words Divu a b ha hb = let q = div-le_self a b in grind (arith, nat_tests)
results_are_words Rem a b ha hb = let q = word_below (rem_z (signed a) (signed b)) (omega (arith, mag_rem (signed a) (signed b), (fits a ha).sfits)) in grind (arith, nat_tests)
results_are_words Remu a b ha hb = let q = mod-le a b in grind (arith, nat_tests)
