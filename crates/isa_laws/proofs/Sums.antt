-- Sums, and logic bit by bit.
use Rattle.std.proofs.Common.{ℕ, ◌+◌, ◌/◌, ◌%◌, ◌^◌, sym, div-add-mod', arith}
use Rattle.std.proofs.lemmas.Nat.{mod_below}
use Rattle.std.proofs.lemmas.Nat.Bits.{bit_at-lt, bit_at_and, bit_at_or, bit_at_xor}
use Rattle.std.proofs.lemmas.Bool.Decides.{nat_tests}
use Rattle.isa_laws.specs.ArithmeticLaws.{WrapsTo, Addition, Logic}

pub wraps : (n : ℕ) → WrapsTo n (n % 2 ^ 32)
wraps n = (mod_below n (2 ^ 32) (omega arith), (n / 2 ^ 32, sym (div-add-mod' n (2 ^ 32))))

pub addition : Addition
addition a b ha hb = record { sum = wraps (a + b); taken_off = omega arith; put_back = omega arith }

pub logic : Logic
logic a b i =
    let p = bit_at-lt a i in
    let q = bit_at-lt b i in
    record {
      conjunction = let e = bit_at_and a b i in grind (arith, nat_tests);
      disjunction = let e = bit_at_or a b i in grind (arith, nat_tests);
      difference = let e = bit_at_xor a b i in grind (arith, nat_tests);
    }
