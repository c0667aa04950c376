-- Loading an image over a kind of bus: its stores in order, up to the first that is refused.
use Rattle.std.specs.Prelude.{ℕ, zero, suc, ◌+◌, if◌then◌else◌, List, Ok, Err, Result, ◌==◌, slice_index}
use Rattle.bus.specs.declared.access.Width.TheVariants.{Byte}
use Rattle.bus.specs.Kind.{Kind, Answer}
use Rattle.bus.specs.Numbers.{FaultNumbers}
use Rattle.image.specs.Headers.{header_at, table_count, part}

-- what is left of a bus, and whether a store was refused
abbrev pub Outcome : Type 0 → Type 0
Outcome M = Answer (Result (Unit {0}) FaultNumbers) M

abbrev pub unchanged : {M : Type 0} → M → Outcome M
unchanged m = record { value = Ok tt; next = m }

-- go on only where nothing was refused
abbrev pub go_on : {M : Type 0} → Result (Unit {0}) FaultNumbers → M → (M → Outcome M) → Outcome M
go_on (Ok _) m next = next m
go_on (Err f) m next = record { value = Err f; next = m }

-- the first n steps, each on what the one before left
unfoldable pub steps : {M : Type 0} → (ℕ → M → Outcome M) → M → ℕ → Outcome M
steps f m zero = unchanged m
steps f m (suc i) = go_on (steps f m i).value (steps f m i).next (f i)

-- n bytes from address a on: those of t, then zeros
abbrev pub fill : (K : Kind) → List ℕ → ℕ → ℕ → K.Meaning → Outcome K.Meaning
fill K t a n m = steps (λ i w. K.store w (a + i) Byte (slice_index t i)) m n

-- segment i of the file s, if it is a load
abbrev pub load_segment : (K : Kind) → List ℕ → ℕ → K.Meaning → Outcome K.Meaning
load_segment K s i m =
    let h = header_at s i in
    if h.kind == 1 then fill K (part s h) h.vaddr h.memsz m else unchanged m

-- every segment, in the order of the program headers
abbrev pub load_all : (K : Kind) → List ℕ → K.Meaning → Outcome K.Meaning
load_all K s m = steps (load_segment K s) m (table_count s)
