-- When a branch is taken.
use Rattle.std.specs.Prelude.{ℕ, Bool, not, ◌==◌, int_le, int_lt, nat_le, nat_lt}
use Rattle.isa.specs.declared.branch.Condition.{Condition}
use Rattle.isa.specs.declared.branch.Condition.TheVariants.{Eq, Ne, Lt, Ge, Ltu, Geu}
use Rattle.isa.specs.Alu.{signed}

-- whether a condition holds of two words
abbrev pub holds : Condition → ℕ → ℕ → Bool
holds Eq a b = a == b
holds Ne a b = not (a == b)
holds Lt a b = int_lt (signed a) (signed b)
holds Ge a b = int_le (signed b) (signed a)
holds Ltu a b = nat_lt a b
holds Geu a b = nat_le b a
