-- The fields of a file by their place. A place past the end reads as 0.
use Rattle.std.specs.Prelude.{ℕ, ◌+◌, ◌*◌, Bool, ◌&&◌, List, drop, ◌==◌, slice_index}
use Rattle.std.specs.Simd.{first_chunks}

-- the little-endian number in the two bytes from place i
unfoldable pub half_at : List ℕ → ℕ → ℕ
half_at s i = slice_index s i + slice_index s (i + 1) * 256

-- the little-endian number in the four bytes from place i
unfoldable pub word_at : List ℕ → ℕ → ℕ
word_at s i = slice_index s i + slice_index s (i + 1) * 256 + slice_index s (i + 2) * 65536 + slice_index s (i + 3) * 16777216

-- the first n rows of m bytes each from place i on
abbrev pub rows_at : ℕ → List ℕ → ℕ → ℕ → List (List ℕ)
rows_at m s i n = first_chunks m n (drop i s)

-- the file begins with the bytes 7f 45 4c 46 01 01 01
abbrev pub identified : List ℕ → Bool
identified s =
    (slice_index s 0 == 0x7f)
    && (slice_index s 1 == 0x45
    && (slice_index s 2 == 0x4c
    && (slice_index s 3 == 0x46
    && (slice_index s 4 == 1
    && (slice_index s 5 == 1
    && slice_index s 6 == 1)))))
