-- The built-in image: one load segment with the words 0x00500093 and 0x0000006f at 0x80000000, its entry.
use Rattle.std.specs.Prelude.{ℕ, List, [], ◌∷◌, ◌++◌}

-- the file header: program table at 52, one entry
abbrev pub file_header : List ℕ
file_header =
    0x7f ∷ 0x45 ∷ 0x4c ∷ 0x46 ∷ 1 ∷ 1 ∷ 1 ∷ 0 ∷ 0 ∷ 0 ∷ 0 ∷ 0 ∷ 0 ∷ 0 ∷ 0 ∷ 0 ∷
    2 ∷ 0 ∷ 243 ∷ 0 ∷ 1 ∷ 0 ∷ 0 ∷ 0 ∷ 0 ∷ 0 ∷ 0 ∷ 0x80 ∷ 52 ∷ 0 ∷ 0 ∷ 0 ∷
    0 ∷ 0 ∷ 0 ∷ 0 ∷ 0 ∷ 0 ∷ 0 ∷ 0 ∷ 52 ∷ 0 ∷ 32 ∷ 0 ∷ 1 ∷ 0 ∷ 40 ∷ 0 ∷
    0 ∷ 0 ∷ 0 ∷ 0 ∷ []

-- load 8 bytes from place 84 to 0x80000000, readable and executable
abbrev pub load_header : List ℕ
load_header =
    1 ∷ 0 ∷ 0 ∷ 0 ∷ 84 ∷ 0 ∷ 0 ∷ 0 ∷ 0 ∷ 0 ∷ 0 ∷ 0x80 ∷ 0 ∷ 0 ∷ 0 ∷ 0x80 ∷
    8 ∷ 0 ∷ 0 ∷ 0 ∷ 8 ∷ 0 ∷ 0 ∷ 0 ∷ 5 ∷ 0 ∷ 0 ∷ 0 ∷ 4 ∷ 0 ∷ 0 ∷ 0 ∷ []

-- addi x1, x0, 5; jal x0, 0
abbrev pub words : List ℕ
words = 0x93 ∷ 0 ∷ 0x50 ∷ 0 ∷ 0x6f ∷ 0 ∷ 0 ∷ 0 ∷ []

abbrev pub built_in : List ℕ
built_in = file_header ++ (load_header ++ words)
