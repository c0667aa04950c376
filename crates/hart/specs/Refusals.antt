-- The refused question for a register, by its number.
use Rattle.std.specs.Prelude.{ℕ, List, ◌++◌, codes, decimal, Ok, Err, Result}
use Rattle.hart.specs.declared.refusal.RegisterRefusal.{RegisterRefusal}
use Rattle.hart.specs.declared.refusal.RegisterRefusal.TheVariants.{NoSuchRegister}

-- the number of a refusal
abbrev pub register_refusal_number : RegisterRefusal → ℕ
register_refusal_number NoSuchRegister = 18

-- a refusal as it is printed
abbrev pub register_refusal_text : RegisterRefusal → List ℕ
register_refusal_text e = codes "refused " ++ decimal (register_refusal_number e)

-- an answer with its refusal by number
abbrev pub register_told : Result ℕ RegisterRefusal → Result ℕ ℕ
register_told (Ok v) = Ok v
register_told (Err e) = Err (register_refusal_number e)
