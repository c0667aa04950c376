-- Which files are taken, as plain sentences about the file.
use Rattle.std.specs.Prelude.{◌≡◌, ℕ, ◌+◌, ◌*◌, ◌%◌, ◌^◌, ◌<◌, ◌≤◌, ◌⊎◌, List, [], ◌∷◌, length, take}
use Rattle.image.specs.declared.header.ProgramHeader.{ProgramHeader}
use Rattle.image.specs.Fields.{half_at, word_at}
use Rattle.image.specs.Headers.{entry_of, table_place, table_count, header_at}

-- the file has a whole header and is not too long
pub record RightSize (s : List ℕ) : Type 0 where
  pub long_enough : 52 ≤ length s
  pub short_enough : length s ≤ 65536

-- it says that it is a 32-bit little-endian ELF file of version 1
abbrev pub RightIdentification : List ℕ → Type 0
RightIdentification s = take 7 s ≡ 0x7f ∷ 0x45 ∷ 0x4c ∷ 0x46 ∷ 1 ∷ 1 ∷ 1 ∷ []

pub record RightKind (s : List ℕ) : Type 0 where
  pub executable : half_at s 16 ≡ 2
  pub risc_v : half_at s 18 ≡ 243
  pub version : word_at s 20 ≡ 1
  pub no_flags : word_at s 36 ≡ 0

pub record RightTable (s : List ℕ) : Type 0 where
  pub entry_size : half_at s 42 ≡ 32
  pub not_empty : 0 < table_count s
  pub not_long : table_count s ≤ 16
  pub inside : table_place s + 32 * table_count s ≤ length s

-- the bytes of a load or note segment lie in the file, and a load segment's memory holds them and ends by 2^32
pub record SegmentFits (size : ℕ) (h : ProgramHeader) : Type 0 where
  pub inside : (h.kind ≡ 1) ⊎ (h.kind ≡ 4) → h.offset + h.filesz ≤ size
  pub holds : h.kind ≡ 1 → h.filesz ≤ h.memsz
  pub ends : h.kind ≡ 1 → h.vaddr + h.memsz ≤ 2 ^ 32

abbrev pub RightSegments : List ℕ → Type 0
RightSegments s = (k : ℕ) → k < table_count s → SegmentFits (length s) (header_at s k)

-- an address lies in the memory of a load segment
pub record LoadedAt (h : ProgramHeader) (a : ℕ) : Type 0 where
  pub is_load : h.kind ≡ 1
  pub from : h.vaddr ≤ a
  pub below : a < h.vaddr + h.memsz

pub record RightEntry (s : List ℕ) : Type 0 where
  pub aligned : entry_of s % 4 ≡ 0
  pub loaded : (k : ℕ) × (k < table_count s) × LoadedAt (header_at s k) (entry_of s)

pub record WellFormed (s : List ℕ) : Type 0 where
  pub size : RightSize s
  pub identification : RightIdentification s
  pub kind : RightKind s
  pub table : RightTable s
  pub segments : RightSegments s
  pub entry : RightEntry s

-- a file is taken, with 0, exactly when it is well formed; else the number is that of the first sentence that fails
pub record Judged (s : List ℕ) (number : ℕ) : Type 0 where
  pub taken : number ≡ 0 → WellFormed s
  pub takes : WellFormed s → number ≡ 0
  pub refused_1 : number ≡ 1 → RightSize s → ⊥
  pub refused_2 : number ≡ 2 → RightSize s × (RightIdentification s → ⊥)
  pub refused_3 : number ≡ 3 → RightSize s × RightIdentification s × (RightKind s → ⊥)
  pub refused_4 : number ≡ 4 → RightSize s × RightIdentification s × RightKind s × (RightTable s → ⊥)
  pub refused_5 : number ≡ 5 → RightSize s × RightIdentification s × RightKind s × RightTable s × (RightSegments s → ⊥)
  pub refused_6 : number ≡ 6 → RightSize s × RightIdentification s × RightKind s × RightTable s × RightSegments s × (RightEntry s → ⊥)
  pub no_other : number < 7
