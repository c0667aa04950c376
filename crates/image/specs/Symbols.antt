-- The symbols of an image: the entries of its first symbol section, and the bytes of their names.
use Rattle.std.specs.Prelude.{◌≡◌, ℕ, ◌+◌, ◌*◌, ◌/◌, ◌%◌, Bool, if◌then◌else◌, not, ◌&&◌, List, [], length, take, drop, Some, None, Ok, Err, Option, Result, ◌==◌, nat_le, nat_lt, slice_index}
use Rattle.std.specs.List.{prefix_len}
use Rattle.image.specs.declared.refusal.Refusal.{Refusal}
use Rattle.image.specs.declared.section.Section.{Section}
use Rattle.image.specs.declared.symbol.Entry.{Entry}
use Rattle.image.specs.declared.symbol.Symbol.{Symbol}
use Rattle.image.specs.Below.{least}
use Rattle.image.specs.Fields.{half_at, word_at, rows_at}
use Rattle.image.specs.Numbers.{refusal_number}
use Rattle.image.specs.Records.{Records, Finds}

-- e_shoff and e_shnum
abbrev pub sections_place : List ℕ → ℕ
sections_place s = word_at s 32

abbrev pub sections_count : List ℕ → ℕ
sections_count s = half_at s 48

-- the section header at place p
abbrev pub section_from : List ℕ → ℕ → Section
section_from s p =
    record {
      kind = word_at s (p + 4);
      offset = word_at s (p + 16);
      size = word_at s (p + 20);
      link = word_at s (p + 24);
    }

-- section header i
abbrev pub section_at : List ℕ → ℕ → Section
section_at s i = section_from s (sections_place s + 40 * i)

-- the rows of the section header table
abbrev pub section_rows : List ℕ → List (List ℕ)
section_rows s = rows_at 40 s (sections_place s) (sections_count s)

-- the bytes of a section
abbrev pub section_part : List ℕ → Section → List ℕ
section_part s h = take h.size (drop h.offset s)

-- e_shentsize 40, and the section table inside the file
abbrev pub sections_fit : List ℕ → Bool
sections_fit s = half_at s 46 == 40 && nat_le (sections_place s + 40 * sections_count s) (length s)

abbrev pub section_inside : List ℕ → Section → Bool
section_inside s h = nat_le (h.offset + h.size) (length s)

-- the number of the first symbol section (type 2), or that of all sections
abbrev pub symbol_index : List ℕ → ℕ
symbol_index s = least (λ i. (section_at s i).kind == 2) (sections_count s)

abbrev pub symbol_section : List ℕ → Section
symbol_section s = section_at s (symbol_index s)

-- the section that holds the names is the one that the symbol section links
abbrev pub name_section : List ℕ → Section
name_section s = section_at s (symbol_section s).link

abbrev pub has_symbols : List ℕ → Bool
has_symbols s =
    sections_fit s
    && (nat_lt (symbol_index s) (sections_count s)
    && (section_inside s (symbol_section s)
    && (nat_lt (symbol_section s).link (sections_count s) && section_inside s (name_section s))))

unfoldable pub entries_of : List ℕ → List ℕ
entries_of s = if has_symbols s then section_part s (symbol_section s) else []

unfoldable pub names_of : List ℕ → List ℕ
names_of s = if has_symbols s then section_part s (name_section s) else []

-- the bytes up to a 0 byte, or all
abbrev pub up_to_zero : List ℕ → List ℕ
up_to_zero t = take (prefix_len (λ b. not (b == 0)) t) t

-- the name at place p
abbrev pub name_at : List ℕ → ℕ → List ℕ
name_at t p = up_to_zero (drop p t)

-- the symbol entry at place p
abbrev pub entry_from : List ℕ → ℕ → Entry
entry_from t p =
    record {
      name = word_at t p;
      value = word_at t (p + 4);
      size = word_at t (p + 8);
      info = slice_index t (p + 12);
    }

-- a symbol's type is the low half of its info byte; 2 is a function
abbrev pub is_function : ℕ → Bool
is_function info = info % 16 == 2

-- the symbols as records, functions by value and size; any other symbol has size 0
abbrev pub symbol_records : List ℕ → Records
symbol_records t =
    record {
      count = length t / 16;
      at = λ i. record { start = word_at t (16 * i + 4); size = if is_function (slice_index t (16 * i + 12)) then word_at t (16 * i + 8) else 0 };
    }

-- what is told of a symbol
pub data SymbolTold : Type 0 where
  found : (name : List ℕ) (value size info : ℕ) → SymbolTold
  refused : (number : ℕ) → SymbolTold

abbrev pub symbol_values : Symbol → SymbolTold
symbol_values x = found x.name.now x.value x.size x.info

abbrev pub symbol_told : Result Symbol Refusal → SymbolTold
symbol_told (Ok x) = symbol_values x
symbol_told (Err e) = refused (refusal_number e)

-- symbol i; past the table it is refused with 19
abbrev pub symbol_at : List ℕ → List ℕ → ℕ → SymbolTold
symbol_at t names i =
    if nat_lt i (length t / 16)
    then found (name_at names (word_at t (16 * i))) (word_at t (16 * i + 4)) (word_at t (16 * i + 8)) (slice_index t (16 * i + 12))
    else refused 19

-- the function that holds an address is the symbol that the search finds
abbrev pub FunctionAt : List ℕ → List ℕ → ℕ → Option Symbol → Type 0
FunctionAt t names a None = Finds (symbol_records t) a None
FunctionAt t names a (Some x) = (i : ℕ) × Finds (symbol_records t) a (Some i) × (symbol_values x ≡ symbol_at t names i)
