-- The number of each refusal.
use Rattle.std.specs.Prelude.{ℕ, Ok, Err, Result}
use Rattle.image.specs.declared.refusal.Refusal.{Refusal}
use Rattle.image.specs.declared.refusal.Refusal.TheVariants.{Size, Identification, FileKind, ProgramTable, SegmentBounds, EntryPoint, Index}

abbrev pub refusal_number : Refusal → ℕ
refusal_number Size = 1
refusal_number Identification = 2
refusal_number FileKind = 3
refusal_number ProgramTable = 4
refusal_number SegmentBounds = 5
refusal_number EntryPoint = 6
refusal_number Index = 19

-- the number that an answer carries: 0 where nothing was refused
abbrev pub number_of : {X : Type 0} → Result X Refusal → ℕ
number_of (Ok _) = 0
number_of (Err e) = refusal_number e
