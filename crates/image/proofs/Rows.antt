-- The rows of a table, and what stands in them by its place in the file.
use Rattle.std.proofs.Common.{◌≡◌, ℕ, zero, suc, ◌+◌, ◌-◌, ◌*◌, ◌/◌, ◌%◌, ◌==◌, ◌&&◌, nat_lt, map, ◌<◌, ◌≤◌, List, [], ◌∷◌, length, get_or, take, drop, Some, None, Option, option_map, if◌then◌else◌, nat_le, Bor, sym, refl, ap, ◌∙◌, ⊎_elim, take_all, add-zero, arith}
use Rattle.std.specs.Simd.{first_chunks}
use Rattle.std.specs.List.{slice_range, PartBy, find}
use Rattle.std.proofs.lemmas.List.{get_or-take, get_or-drop, get_or-map, drop-drop, length-drop, length-map}
use Rattle.std.proofs.lemmas.Nat.{le-div, div-add-mod', mul-le}
use Rattle.std.proofs.lemmas.Bool.{cases_lt, le-leb, lt-leb}
use Rattle.image.specs.Fields.{word_at, rows_at}
use Rattle.image.specs.Headers.{header_from, header_at, header_rows, entry_of, table_place, table_count}
use Rattle.image.specs.Verdict.{segment_fits, segments_fit, rows_fit, covers, rows_cover, entry_fits}
use Rattle.image.proofs.Tests.{list_all_every, list_any_some, find_least}
use Rattle.image.specs.Symbols.{section_from, section_at, section_rows, sections_place, sections_count, symbol_index, symbol_section, entry_from}

pub length_chunks : (m n : ℕ) (s : List ℕ) → length (first_chunks m n s) ≡ n
length_chunks m zero s = refl
length_chunks m (suc n) s = ap (λ k. suc k) (length_chunks m n (drop m s))

-- row k
pub chunk_at : (m n k : ℕ) (s : List ℕ) (d : List ℕ) → k < n → get_or (first_chunks m n s) k d ≡ take m (drop (m * k) s)
chunk_at m zero k s d h = absurd (omega arith)
chunk_at m (suc n) zero s d h = let none : 0 ≡ m * 0 = omega arith in ap (λ p. take m (drop p s)) none
chunk_at m (suc n) (suc k) s d h =
    chunk_at m n k (drop m s) d (omega arith)
    ∙ (let next : m + m * k ≡ m * suc k = omega arith in ap (take m) (drop-drop (m * k) m s ∙ ap (λ p. drop p s) next))

take_chunks : (m n k : ℕ) (s : List ℕ) → n ≤ k → take n (first_chunks m k s) ≡ first_chunks m n s
take_chunks m zero k s h = refl
take_chunks m (suc n) zero s h = absurd (omega arith)
take_chunks m (suc n) (suc k) s h = ap (λ l. take m s ∷ l) (take_chunks m n k (drop m s) (omega arith))

-- a field in a row
pub word_in : (m j p : ℕ) (s : List ℕ) → j + 4 ≤ m → word_at (take m (drop p s)) j ≡ word_at s (p + j)
unfolding word_at
word_in m j p s h =
    let at : (i q : ℕ) → i < m → q ≡ p + i → get_or (take m (drop p s)) i 0 ≡ get_or s q 0 =
    λ i q l e. get_or-take m (drop p s) i 0 l ∙ get_or-drop p s i 0 ∙ ap (λ k. get_or s k 0) (sym e) in
    rw (at j (p + j) (omega arith) refl, at (j + 1) (p + j + 1) (omega arith) (omega arith), at (j + 2) (p + j + 2) (omega arith) (omega arith), at (j + 3) (p + j + 3) (omega arith) (omega arith))

pub header_in : (p : ℕ) (s : List ℕ) → header_from (take 32 (drop p s)) 0 ≡ header_from s p
header_in p s =
    rw (word_in 32 0 p s (omega arith), word_in 32 4 p s (omega arith), word_in 32 8 p s (omega arith), word_in 32 16 p s (omega arith), word_in 32 20 p s (omega arith), add-zero)

pub section_in : (p : ℕ) (s : List ℕ) → section_from (take 40 (drop p s)) 0 ≡ section_from s p
section_in p s =
    rw (word_in 40 4 p s (omega arith), word_in 40 16 p s (omega arith), word_in 40 20 p s (omega arith), word_in 40 24 p s (omega arith))

pub entry_in : (p : ℕ) (s : List ℕ) → entry_from (take 16 (drop p s)) 0 ≡ entry_from s p
entry_in p s =
    rw (word_in 16 0 p s (omega arith), word_in 16 4 p s (omega arith), word_in 16 8 p s (omega arith), get_or-take 16 (drop p s) 12 0 (omega arith), get_or-drop p s 12 0, add-zero)

-- what is in row k of the tables
row_at : (m i n : ℕ) (s : List ℕ) (k : ℕ) (d : List ℕ) → k < n → get_or (rows_at m s i n) k d ≡ take m (drop (i + m * k) s)
row_at m i n s k d h = chunk_at m n k (drop i s) d h ∙ ap (take m) (drop-drop (m * k) i s)

pub header_row : (s : List ℕ) (k : ℕ) (d : List ℕ) → k < table_count s → header_from (get_or (header_rows s) k d) 0 ≡ header_at s k
header_row s k d h =
    ap (λ r. header_from r 0) (row_at 32 (table_place s) (table_count s) s k d h) ∙ header_in (table_place s + 32 * k) s

pub section_row : (s : List ℕ) (k : ℕ) (d : List ℕ) → k < sections_count s → section_from (get_or (section_rows s) k d) 0 ≡ section_at s k
section_row s k d h =
    ap (λ r. section_from r 0) (row_at 40 (sections_place s) (sections_count s) s k d h) ∙ section_in (sections_place s + 40 * k) s

pub entry_row : (t : List ℕ) (n k : ℕ) (d : List ℕ) → k < n → entry_from (get_or (first_chunks 16 n t) k d) 0 ≡ entry_from t (16 * k)
entry_row t n k d h = ap (λ r. entry_from r 0) (chunk_at 16 n k t d h) ∙ entry_in (16 * k) t

-- the first rows of what follows a place
pub cut : (m at n : ℕ) (s t : List ℕ) (all : List (List ℕ)) (r : Option (Bor (List (List ℕ))))
    → 0 < m → at ≤ length s → t ≡ slice_range s at (length s) → all ≡ first_chunks m (length t / m) t → PartBy (λ x. x.now) all 0 n r
    → option_map (λ x. x.now) r ≡ (if nat_le (at + m * n) (length s) then Some (rows_at m s at n) else None)
cut m at n s t all r pos low part chunks told =
    let rest : t ≡ drop at s = part ∙ take_all (length s - at) (drop at s) (let l = length-drop at s in omega arith) in
    let long : length t ≡ length s - at = ap length rest ∙ length-drop at s in
    let count : length all ≡ length t / m = ap length chunks ∙ length_chunks m (length t / m) t in
    elim r as (λ r. PartBy (λ (x : Bor (List (List ℕ))). x.now) all 0 n r → option_map (λ x. x.now) r ≡ (if nat_le (at + m * n) (length s) then Some (rows_at m s at n) else None)) [
      | None ↦ λ e.
          ⊎_elim (λ l. rw (lt-leb (at + m * n) (length s) l) refl)
          (λ ge. let fits = le-div n (length t) m pos (omega arith) in ⊎_elim (λ z. absurd (omega arith)) (λ z. absurd (omega arith)) e.0)
          (cases_lt (length s) (at + m * n))
      | Some x ↦ λ e.
          let whole = div-add-mod' (length t) m in
          let below = mul-le n m (length t / m) m (let b = e.0.1 in omega arith) (omega arith) in
          rw (le-leb (at + m * n) (length s) (omega arith))
          (ap Some (
          e.0.2 ∙ (let all_n : n - 0 ≡ n = omega arith in ap (λ k. take k all) all_n) ∙ ap (take n) chunks ∙ take_chunks m n (length t / m) t (let b = e.0.1 in omega arith) ∙ ap (first_chunks m n) rest))
    ]
    told

-- tests of all rows of a file's table are those of its headers
pub fit_rows : (s : List ℕ) → rows_fit (length s) (header_rows s) ≡ segments_fit s
unfolding rows_fit
fit_rows s =
    list_all_every _ _ (header_rows s) (table_count s) (length_chunks 32 (table_count s) (drop (table_place s) s)) (λ k d h. ap (segment_fits (length s)) (header_row s k d h)) []

pub entry_rows : (s : List ℕ) (e : ℕ) → e ≡ entry_of s → (e % 4 == 0 && rows_cover e (header_rows s)) ≡ entry_fits s
unfolding rows_cover
entry_rows s e q =
    rw q (ap (λ b. entry_of s % 4 == 0 && b) (list_any_some _ _ (header_rows s) (table_count s) (length_chunks 32 (table_count s) (drop (table_place s) s)) (λ k d h. ap (covers (entry_of s)) (header_row s k d h)) []))

-- the first symbol section is at the least number of one
pub first_symbols : (s : List ℕ) → find (λ h. h.kind == 2) (map (λ row. section_from row 0) (section_rows s)) ≡ (if nat_lt (symbol_index s) (sections_count s) then Some (symbol_section s) else None)
first_symbols s =
    let l = length_chunks 40 (sections_count s) (drop (sections_place s) s) in
    find_least (λ h. h.kind == 2) (map (λ row. section_from row 0) (section_rows s)) (section_at s) (sections_count s)
    (length-map (section_rows s) (λ row. section_from row 0) ∙ l)
    (λ k d h. get_or-map (λ row. section_from row 0) (section_rows s) k [] d (omega arith) ∙ section_row s k [] h)
