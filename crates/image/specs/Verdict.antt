-- Which refusal a file gets, by its bytes; 0 where it is taken.
use Rattle.std.specs.Prelude.{ℕ, ◌+◌, ◌*◌, ◌%◌, ◌^◌, Bool, true, if◌then◌else◌, ◌&&◌, List, length, ◌==◌, nat_le, nat_lt}
use Rattle.std.specs.List.{list_all, list_any}
use Rattle.image.specs.declared.header.ProgramHeader.{ProgramHeader}
use Rattle.image.specs.Below.{every, some}
use Rattle.image.specs.Fields.{half_at, word_at, identified}
use Rattle.image.specs.Headers.{entry_of, header_from, table_place, table_count, header_at}

-- a whole file header, and at most 64 KiB
abbrev pub size_fits : List ℕ → Bool
size_fits s = nat_le 52 (length s) && nat_le (length s) 65536

-- e_type executable, e_machine RISC-V, e_version 1, e_flags 0
abbrev pub kind_fits : List ℕ → Bool
kind_fits s = half_at s 16 == 2 && (half_at s 18 == 243 && (word_at s 20 == 1 && word_at s 36 == 0))

-- e_phentsize 32, e_phnum 1 to 16, and the table inside the file
abbrev pub table_fits : List ℕ → Bool
table_fits s =
    (half_at s 42 == 32)
    && (nat_lt 0 (table_count s) && (nat_le (table_count s) 16 && nat_le (table_place s + 32 * table_count s) (length s)))

-- the header's bytes lie in a file of n bytes
abbrev pub inside : ℕ → ProgramHeader → Bool
inside n h = nat_le (h.offset + h.filesz) n

-- so do those of a load (1) and a note (4), and a load's memory holds its bytes and ends by 2^32
abbrev pub segment_fits : ℕ → ProgramHeader → Bool
segment_fits n h =
    if h.kind == 1 then (inside n h && (nat_le h.filesz h.memsz && nat_le (h.vaddr + h.memsz) (2 ^ 32)))
    else if h.kind == 4 then inside n h else true

abbrev pub segments_fit : List ℕ → Bool
segments_fit s = every (λ k. segment_fits (length s) (header_at s k)) (table_count s)

-- the same of each row of a table
unfoldable pub rows_fit : ℕ → List (List ℕ) → Bool
rows_fit n rows = list_all (λ row. segment_fits n (header_from row 0)) rows

-- address a lies in the memory of load header h
abbrev pub covers : ℕ → ProgramHeader → Bool
covers a h = h.kind == 1 && (nat_le h.vaddr a && nat_lt a (h.vaddr + h.memsz))

abbrev pub covered : List ℕ → ℕ → Bool
covered s a = some (λ k. covers a (header_at s k)) (table_count s)

-- the same of a row of a table
unfoldable pub rows_cover : ℕ → List (List ℕ) → Bool
rows_cover a rows = list_any (λ row. covers a (header_from row 0)) rows

abbrev pub entry_fits : List ℕ → Bool
entry_fits s = entry_of s % 4 == 0 && covered s (entry_of s)

-- the conditions in the order in which they are asked
unfoldable pub verdict : List ℕ → ℕ
verdict s =
    if size_fits s then
    (if identified s then
    (if kind_fits s then
    (if table_fits s then
    (if segments_fit s then (if entry_fits s then 0 else 6) else 5)
    else 4)
    else 3)
    else 2)
    else 1
