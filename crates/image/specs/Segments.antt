-- What is told of a segment: its bytes, as a part of the file, with the part's place.
use Rattle.std.specs.Prelude.{ℕ, ◌+◌, ◌^◌, ◌≤◌, if◌then◌else◌, List, length, Ok, Err, Result, ◌==◌, nat_lt}
use Rattle.image.specs.declared.header.ProgramHeader.{ProgramHeader}
use Rattle.image.specs.declared.refusal.Refusal.{Refusal}
use Rattle.image.specs.declared.segment.Segment.{Segment}
use Rattle.image.specs.declared.segment.Segment.TheVariants.{Load, Note, Other}
use Rattle.image.specs.Headers.{header_at, table_count, part}
use Rattle.image.specs.Numbers.{refusal_number}

pub data SegmentTold : Type 0 where
  load : (bytes : List ℕ) (place address size : ℕ) → SegmentTold
  note : (bytes : List ℕ) (place : ℕ) → SegmentTold
  other : SegmentTold
  refused : (number : ℕ) → SegmentTold

-- the values of each case, and the number of a refusal
abbrev pub segment_values : Segment → SegmentTold
segment_values (Load b p a n) = load b.now p a n
segment_values (Note b p) = note b.now p
segment_values Other = other

abbrev pub segment_told : Result Segment Refusal → SegmentTold
segment_told (Ok x) = segment_values x
segment_told (Err e) = refused (refusal_number e)

abbrev pub segment_by : List ℕ → ProgramHeader → SegmentTold
segment_by s h =
    if h.kind == 1 then load (part s h) h.offset h.vaddr h.memsz
    else if h.kind == 4 then note (part s h) h.offset else other

-- segment i of a file; past the table it is refused with 19
abbrev pub segment_at : List ℕ → ℕ → SegmentTold
segment_at s i = if nat_lt i (table_count s) then segment_by s (header_at s i) else refused 19

-- a load's memory holds its bytes and ends by 2^32
abbrev pub Bounded : Segment → Type 0
Bounded (Load b p a n) = (length b.now ≤ n) × (a + n ≤ 2 ^ 32)
Bounded (Note b p) = Unit {0}
Bounded Other = Unit {0}
