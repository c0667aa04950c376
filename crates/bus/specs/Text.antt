-- How a fault is printed.
use Rattle.std.specs.Prelude.{ℕ, ◌-◌, List, ◌++◌, length, replicate, codes, false}
use Rattle.std.specs.Fmt.{decimal, digits}
use Rattle.bus.specs.Numbers.{FaultNumbers}

-- a word in eight hexadecimal digits
abbrev pub word_text : ℕ → List ℕ
word_text n = replicate (8 - length (digits 16 false n)) 48 ++ digits 16 false n

abbrev pub fault_text : FaultNumbers → List ℕ
fault_text f = decimal f.cause ++ (codes " address " ++ (word_text f.address ++ (codes " device " ++ (decimal f.device ++ (codes " depth " ++ decimal f.depth)))))
