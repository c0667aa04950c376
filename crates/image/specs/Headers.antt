-- The ELF32 file header and its program headers.
use Rattle.std.specs.Prelude.{ℕ, ◌+◌, ◌*◌, List, take, drop}
use Rattle.image.specs.declared.header.ProgramHeader.{ProgramHeader}
use Rattle.image.specs.Fields.{half_at, word_at, rows_at}

-- e_entry, e_phoff and e_phnum
abbrev pub entry_of : List ℕ → ℕ
entry_of s = word_at s 24

abbrev pub table_place : List ℕ → ℕ
table_place s = word_at s 28

abbrev pub table_count : List ℕ → ℕ
table_count s = half_at s 44

-- the program header at place p
abbrev pub header_from : List ℕ → ℕ → ProgramHeader
header_from s p =
    record {
      kind = word_at s p;
      offset = word_at s (p + 4);
      vaddr = word_at s (p + 8);
      filesz = word_at s (p + 16);
      memsz = word_at s (p + 20);
    }

-- program header i
abbrev pub header_at : List ℕ → ℕ → ProgramHeader
header_at s i = header_from s (table_place s + 32 * i)

-- the rows of the program header table
abbrev pub header_rows : List ℕ → List (List ℕ)
header_rows s = rows_at 32 s (table_place s) (table_count s)

-- the bytes of the file that a program header names
abbrev pub part : List ℕ → ProgramHeader → List ℕ
part s h = take h.filesz (drop h.offset s)
