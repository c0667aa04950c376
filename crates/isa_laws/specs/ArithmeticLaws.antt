-- Laws of the operations and of the branch conditions, on words a and b.
use Rattle.std.specs.Prelude.{◌≡◌, ℕ, ◌+◌, ◌-◌, ◌*◌, ◌/◌, ◌%◌, ◌^◌, ◌<◌, ◌≤◌, Bool, not, ◌&&◌, ◌||◌, ℤ, pos, ◌+ℤ◌, ◌*ℤ◌, ◌≤ℤ◌, ◌<ℤ◌, IsTrue, ◌↔◌, ◌==◌, ◌≢◌, unsigned_abs}
use Rattle.std.specs.Bool.{beq}
use Rattle.isa.specs.declared.alu.AluOp.{AluOp}
use Rattle.isa.specs.declared.alu.AluOp.TheVariants.{Add, Sub, Sll, Slt, Sltu, Xor, Srl, Sra, Or, And, Mul, Mulh, Mulhsu, Mulhu, Div, Divu, Rem, Remu}
use Rattle.isa.specs.declared.branch.Condition.TheVariants.{Eq, Ne, Lt, Ge, Ltu, Geu}
use Rattle.isa.specs.Alu.{signed, alu_result}
use Rattle.isa.specs.Branch.{holds}

-- a number of 32 bits
abbrev pub Word : ℕ → Type 0
Word n = n < 2 ^ 32

-- of all words
abbrev pub ForWords : (ℕ → ℕ → Type 0) → Type 0
ForWords P = (a b : ℕ) → Word a → Word b → P a b

-- a word below 2^31 is read as itself, another as 2^32 less
abbrev pub SignedReading : Type 0
SignedReading = (n : ℕ) → (n < 2 ^ 31 → signed n ≡ pos n) × (2 ^ 31 ≤ n → Word n → signed n +ℤ pos (2 ^ 32) ≡ pos n)

-- every operation gives a word
abbrev pub ResultsAreWords : Type 0
ResultsAreWords = (o : AluOp) → ForWords (λ a b. Word (alu_result o a b))

-- r is n modulo 2^32
abbrev pub WrapsTo : (n r : ℕ) → Type 0
WrapsTo n r = Word r × ((c : ℕ) × (n ≡ c * 2 ^ 32 + r))

-- ADD is the sum modulo 2^32, and ADD and SUB of one word undo one another
pub record Sums (a b : ℕ) : Type 0 where
  pub sum : WrapsTo (a + b) (alu_result Add a b)
  pub taken_off : alu_result Sub (alu_result Add a b) b ≡ a
  pub put_back : alu_result Add (alu_result Sub a b) b ≡ a

-- the law of ADD and SUB
abbrev pub Addition : Type 0
Addition = ForWords Sums

-- whether bit i of a word is set
abbrev pub bit : (i w : ℕ) → Bool
bit i w = w / 2 ^ i % 2 == 1

-- bit i of the results is that of the operands' bits i
pub record Bitwise (a b i : ℕ) : Type 0 where
  pub conjunction : bit i (alu_result And a b) ≡ (bit i a && bit i b)
  pub disjunction : bit i (alu_result Or a b) ≡ (bit i a || bit i b)
  pub difference : bit i (alu_result Xor a b) ≡ not (beq (bit i a) (bit i b))

-- the law of AND, OR and XOR
abbrev pub Logic : Type 0
Logic = (a b i : ℕ) → Bitwise a b i

-- q is the greatest integer with q * d ≤ n
abbrev pub Floor : (n d q : ℕ) → Type 0
Floor n d q = (q * d ≤ n) × (n < (q + 1) * d)

-- the same of signed numbers
abbrev pub SignedFloor : (n : ℤ) (d : ℕ) (q : ℤ) → Type 0
SignedFloor n d q = ((q *ℤ pos d) ≤ℤ n) × (n <ℤ ((q +ℤ pos 1) *ℤ pos d))

-- a shift multiplies or divides by 2 to the amount, the low five bits of b
pub record Shifts (a b : ℕ) : Type 0 where
  pub left : WrapsTo (a * 2 ^ (b % 2 ^ 5)) (alu_result Sll a b)
  pub right : Floor a (2 ^ (b % 2 ^ 5)) (alu_result Srl a b)
  pub arithmetic : SignedFloor (signed a) (2 ^ (b % 2 ^ 5)) (signed (alu_result Sra a b))

-- the law of SLL, SRL and SRA
abbrev pub Shifting : Type 0
Shifting = ForWords Shifts

-- 1 where the first word is less, else 0
pub record Compares (a b : ℕ) : Type 0 where
  pub less : signed a <ℤ signed b → alu_result Slt a b ≡ 1
  pub not_less : signed b ≤ℤ signed a → alu_result Slt a b ≡ 0
  pub less_unsigned : a < b → alu_result Sltu a b ≡ 1
  pub not_less_unsigned : b ≤ a → alu_result Sltu a b ≡ 0

-- the law of SLT and SLTU
abbrev pub Comparison : Type 0
Comparison = (a b : ℕ) → Compares a b

-- each condition holds just where its relation does
pub record Branches (a b : ℕ) : Type 0 where
  pub equal : IsTrue (holds Eq a b) ↔ (a ≡ b)
  pub not_equal : IsTrue (holds Ne a b) ↔ (a ≢ b)
  pub less : IsTrue (holds Lt a b) ↔ (signed a <ℤ signed b)
  pub not_less : IsTrue (holds Ge a b) ↔ (signed b ≤ℤ signed a)
  pub less_unsigned : IsTrue (holds Ltu a b) ↔ (a < b)
  pub not_less_unsigned : IsTrue (holds Geu a b) ↔ (b ≤ a)

-- the law of the branch conditions
abbrev pub Branching : Type 0
Branching = (a b : ℕ) → Branches a b

-- the upper and the lower word of a product make up the product, whichever operand is signed
pub record Products (a b : ℕ) : Type 0 where
  pub unsigned : alu_result Mulhu a b * 2 ^ 32 + alu_result Mul a b ≡ a * b
  pub both_signed : signed (alu_result Mulh a b) *ℤ pos (2 ^ 32) +ℤ pos (alu_result Mul a b) ≡ signed a *ℤ signed b
  pub first_signed : signed (alu_result Mulhsu a b) *ℤ pos (2 ^ 32) +ℤ pos (alu_result Mul a b) ≡ signed a *ℤ pos b

-- the law of MUL, MULH, MULHSU and MULHU
abbrev pub Multiplication : Type 0
Multiplication = ForWords Products

-- quotient times divisor plus remainder is the dividend, and the remainder is smaller than the divisor
pub record DividesUnsigned (a b : ℕ) : Type 0 where
  pub whole : alu_result Divu a b * b + alu_result Remu a b ≡ a
  pub small : alu_result Remu a b < b

-- the same of signed words; the remainder has the dividend's sign
pub record DividesSigned (a b : ℕ) : Type 0 where
  pub whole : signed (alu_result Div a b) *ℤ signed b +ℤ signed (alu_result Rem a b) ≡ signed a
  pub small : unsigned_abs (signed (alu_result Rem a b)) < unsigned_abs (signed b)
  pub not_negative : pos 0 ≤ℤ signed a → pos 0 ≤ℤ signed (alu_result Rem a b)
  pub not_positive : signed a ≤ℤ pos 0 → signed (alu_result Rem a b) ≤ℤ pos 0

-- the law of DIV, DIVU, REM and REMU, apart from the special cases
abbrev pub Division : Type 0
Division =
    ForWords (λ a b. 0 < b → DividesUnsigned a b)
    × ForWords (λ a b. 0 < b → (a ≡ 2 ^ 31 → b ≢ 2 ^ 32 - 1) → DividesSigned a b)

-- division by zero: all ones, and the dividend
pub record ByZero (a : ℕ) : Type 0 where
  pub quotient : alu_result Div a 0 ≡ 0xFFFFFFFF
  pub quotient_unsigned : alu_result Divu a 0 ≡ 0xFFFFFFFF
  pub remainder : alu_result Rem a 0 ≡ a
  pub remainder_unsigned : alu_result Remu a 0 ≡ a

-- the special cases: division by zero, and -2^31 by -1
abbrev pub DivisionSpecial : Type 0
DivisionSpecial =
    ((a : ℕ) → ByZero a) × (alu_result Div 0x80000000 0xFFFFFFFF ≡ 0x80000000) × (alu_result Rem 0x80000000 0xFFFFFFFF ≡ 0)
