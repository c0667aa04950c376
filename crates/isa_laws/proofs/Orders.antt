-- Comparisons and branch conditions.
use Rattle.std.proofs.Common.{arith}
use Rattle.std.proofs.lemmas.Int.{ints}
use Rattle.std.proofs.lemmas.Bool.Decides.{nat_tests}
use Rattle.isa_laws.specs.ArithmeticLaws.{Comparison, Branching}

pub comparison : Comparison
comparison a b =
    record {
      less = λ h. grind (arith, ints, nat_tests);
      not_less = λ h. grind (arith, ints, nat_tests);
      less_unsigned = λ h. grind (arith, nat_tests);
      not_less_unsigned = λ h. grind (arith, nat_tests);
    }

pub branching : Branching
branching a b =
    record {
      equal = (λ h. grind (arith, nat_tests), λ h. grind (arith, nat_tests));
      not_equal = (λ h e. grind (arith, nat_tests), λ h. grind (arith, nat_tests));
      less = (λ h. grind (arith, ints, nat_tests), λ h. grind (arith, ints, nat_tests));
      not_less = (λ h. grind (arith, ints, nat_tests), λ h. grind (arith, ints, nat_tests));
      less_unsigned = (λ h. grind (arith, nat_tests), λ h. grind (arith, nat_tests));
      not_less_unsigned = (λ h. grind (arith, nat_tests), λ h. grind (arith, nat_tests));
    }
