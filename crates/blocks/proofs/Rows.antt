-- What a change of one row does to the blocks that a store means.
use Rattle.std.proofs.Common.{◌≡◌, ℕ, zero, suc, ◌-◌, ◌*◌, ◌/◌, ◌%◌, ◌^◌, ◌<◌, ◌≤◌, Bool, true, false, if◌then◌else◌, eqb, List, [], map, length, get_or, set, take, drop, ◌++◌, ◌+◌, replicate, Some, None, Option, sym, refl, ap, ◌∙◌, ⊎_elim, get_or-set_other, get_or-set_same, add-one, arith}
use mathlib.Core.Path.{fun_ext, Cosingl, contract'}
use lib.Count.{ones, ones-le}
use lib.Bits.{bit_and, bit_or}
use lib.ListN
use lib.ListN.{length-map}
use Rattle.std.specs.Option.{option_map}
use Rattle.std.specs.List.{sum_by}
use Rattle.std.proofs.lemmas.Nat.{and_mask}
use Rattle.std.proofs.lemmas.List.{map-set, get_or-map, get_or_default, take_all}
use Rattle.std.proofs.lemmas.List.Sums.{sum_by_more}
use Rattle.std.proofs.lemmas.List.Edits.{map_over_more}
use Rattle.std.proofs.lemmas.Bool.{cases_eq, eq-eqb, ne_eqb}
use Rattle.isa.specs.Decode.{decoded}
use Rattle.blocks.specs.declared.row.Row.{Row}
use Rattle.blocks.specs.declared.slot.Decoded.{Decoded}
use Rattle.blocks.specs.declared.slot.Slot.{Slot}
use Rattle.blocks.specs.Marks.{marked}
use Rattle.blocks.specs.Slots.{decoded_of, slot_of}
use Rattle.blocks.specs.Blocks.{Block, Blocks, bare, changed, filled, forgotten, filled_block, forgotten_block, emptied, flushed, sum_to, one, marks_of, held_of, fresh, word_in, kept_at, row_of, place_of, tag_of}
use Rattle.blocks.specs.Seen.{seen, block_of, blocks_in}
use Rattle.blocks.proofs.Bit.{marked-none, marked-set, marked-clear, ones-marks}

-- a choice by whether two numbers are equal
by-eq : {X : Type 0} (k i : ℕ) (x a b : X) → (k ≡ i → x ≡ a) → ((k ≡ i → ⊥) → x ≡ b) → x ≡ (if eqb k i then a else b)
by-eq k i x a b p q = ⊎_elim (λ e. rw (eq-eqb k i e) (p e)) (λ n. rw (ne_eqb k i n) (q n)) (cases_eq k i)

-- ---- one row

-- the slot's word where it is marked
abbrev word_at : ℕ → List Decoded → ℕ → Option ℕ
word_at m slots k = if marked m k then Some (get_or slots k (decoded_of 0)).word else None

abbrev block : ℕ → (ℕ → Option ℕ) → Block
block t f = record { tag = t; word = f }

-- a slot is filled and marked
pub fills : (t m j : ℕ) (slots : List Decoded) (s : Decoded) → j < 8 → j < length slots
    → seen t (bit_or m (1 * 2 ^ j % 2 ^ 8)) (set slots j s) ≡ filled_block (seen t m slots) t j s.word
unfolding seen filled_block
fills t m j slots s h len =
    ap (block t)
    (fun_ext
    (λ k.
    by-eq k j _ _ _
    (λ e. rw (marked-set m j k h, eq-eqb k j e, e, get_or-set_same slots j s (decoded_of 0) len))
    (λ n. rw (marked-set m j k h, ne_eqb k j n, eq-eqb t t refl, get_or-set_other slots j k s (decoded_of 0) n))))

-- in a row of another tag, as in an empty one
pub fills_other : (u m : ℕ) (slots : List Decoded) (t j w : ℕ) → (u ≡ t → ⊥) → filled_block (seen u m slots) t j w ≡ filled_block (seen t 0 slots) t j w
unfolding seen filled_block
fills_other u m slots t j w n = ap (block t) (fun_ext (λ k. rw (ne_eqb u t n, eq-eqb t t refl, marked-none k)))

pub clears : (t m j : ℕ) (slots : List Decoded) → m < 256 → j < 8
    → seen t (bit_and m (255 - 1 * 2 ^ j % 2 ^ 8)) slots ≡ forgotten_block (seen t m slots) t j
unfolding seen forgotten_block
clears t m j slots mh h =
    ap (block t)
    (fun_ext (λ k. rw (eq-eqb t t refl) (by-eq k j _ _ _ (λ q. rw (marked-clear m j k mh h, eq-eqb k j q)) (λ n. rw (marked-clear m j k mh h, ne_eqb k j n)))))

pub clears_other : (t m : ℕ) (slots : List Decoded) (u j : ℕ) → (t ≡ u → ⊥) → forgotten_block (seen t m slots) u j ≡ seen t m slots
unfolding seen forgotten_block
clears_other t m slots u j n = ap (block t) (fun_ext (λ k. rw (ne_eqb t u n)))

pub empties : (t m : ℕ) (slots : List Decoded) → emptied (seen t m slots) ≡ seen t 0 slots
unfolding seen emptied
empties t m slots = ap (block t) (fun_ext (λ k. rw (marked-none k)))

pub nothing : (slots : List Decoded) → seen 0 0 slots ≡ bare
unfolding seen
nothing slots = ap (block 0) (fun_ext (λ k. rw (marked-none k)))

-- a slot is that of its word: its form is the decoding of its word, whether a mark stands or not
pub slot_is : (s : Decoded) → s ≡ decoded_of s.word
slot_is s = sym (ap (λ (q : Cosingl (decoded s.word)). record { word = s.word; form = q.0; decodes = q.1 }) (contract' s.decodes))

pub finds_word : (t m j u : ℕ) (slots : List Decoded) (d : Decoded) → j < length slots → t ≡ u → bit_and (m / 2 ^ j) 1 ≡ 1
    → Some (slot_of (get_or slots j d).word) ≡ option_map slot_of (word_in (seen t m slots) u j)
unfolding seen marked
finds_word t m j u slots d len e h =
    rw (eq-eqb t u e, eq-eqb (m / 2 ^ j % 2) 1 (sym (and_mask (m / 2 ^ j) 1) ∙ h))
    (ap (λ (z : Decoded). Some (slot_of z.word)) (get_or_default slots j d (decoded_of 0) len))

pub finds : (t m j u : ℕ) (slots : List Decoded) (d : Decoded) → j < length slots → t ≡ u → bit_and (m / 2 ^ j) 1 ≡ 1
    → Some (record { word = (get_or slots j d).word; form = (get_or slots j d).form }) ≡ option_map slot_of (word_in (seen t m slots) u j)
finds t m j u slots d len e h =
    let s : Decoded = get_or slots j d in
    let whole : ◌≡◌ {A = Option Slot} (Some (record { word = s.word; form = s.form })) (Some (slot_of s.word)) = ap (λ (z : Decoded). Some (record { word = z.word; form = z.form })) (slot_is s) in
    whole ∙ finds_word t m j u slots d len e h

pub misses : (t m j u : ℕ) (slots : List Decoded) → (bit_and (m / 2 ^ j) 1 ≡ 1 → ⊥) → None ≡ option_map slot_of (word_in (seen t m slots) u j)
unfolding seen marked
misses t m j u slots n =
    rw (ne_eqb (m / 2 ^ j % 2) 1 (λ q. n (and_mask (m / 2 ^ j) 1 ∙ q))) (none (eqb t u))
  where
    none : (c : Bool) → None ≡ option_map slot_of (if c then None else None)
    none true = refl
    none false = refl

pub misses_other : (t m j u : ℕ) (slots : List Decoded) → (t ≡ u → ⊥) → None ≡ option_map slot_of (word_in (seen t m slots) u j)
unfolding seen
misses_other t m j u slots n = rw (ne_eqb t u n)

-- the ones of a row's map are the words that it keeps
pub counts : (t m : ℕ) (slots : List Decoded) → m < 256 → ones m ≡ marks_of (seen t m slots)
unfolding seen marks_of
counts t m slots h =
    ones-marks m h ∙ ap (sum_to 8) (fun_ext (λ j. counted (marked m j) (get_or slots j (decoded_of 0)).word))
  where
    counted : (c : Bool) (w : ℕ) → (if c then 1 else 0) ≡ one (if c then Some w else None)
    counted true w = refl
    counted false w = refl

pub few : (m : ℕ) → m < 256 → ones m ≤ 8
few m h = ones-le 8 m h

-- ---- all rows

pub row_at : (rows : List Row) (i : ℕ) (d : Row) → i < length rows → block_of (get_or rows i d) ≡ blocks_in rows i
unfolding blocks_in
row_at rows i d h = sym (get_or-map block_of rows i d bare h)

-- block i is replaced
unfoldable pub put : Blocks → ℕ → Block → Blocks
put s i b = changed s i (λ _. b)

pub puts : (rows : List Row) (i : ℕ) (r : Row) → i < length rows → blocks_in (set rows i r) ≡ put (blocks_in rows) i (block_of r)
unfolding blocks_in put
puts rows i r h =
    fun_ext
    (λ k.
    by-eq k i _ _ _
    (λ q. rw (q, map-set block_of rows i r, get_or-set_same (map block_of rows) i (block_of r) bare (rw length-map h)))
    (λ ne. rw (map-set block_of rows i r, get_or-set_other (map block_of rows) i k (block_of r) bare ne)))

-- a row that f leaves as it is
pub same_row : (rows : List Row) (i n : ℕ) (d : Row) (f : Block → Block) → i ≡ n → i < length rows
    → block_of (get_or rows i d) ≡ f (block_of (get_or rows i d))
    → blocks_in rows ≡ changed (blocks_in rows) n f
same_row rows i n d f same h e =
    let s : Blocks = blocks_in rows in
    let r : s i ≡ block_of (get_or rows i d) = sym (row_at rows i d h) in
    fun_ext
    (λ k.
    by-eq k n (s k) (f (s k)) (s k)
    (λ q. let p : k ≡ i = q ∙ sym same in ap s p ∙ r ∙ e ∙ ap f (sym r) ∙ ap (λ (m : ℕ). f (s m)) (sym p))
    (λ ne. refl))

changes : (s : Blocks) (i : ℕ) (f : Block → Block) → changed s i f ≡ put s i (f (s i))
unfolding put
changes s i f = fun_ext (λ k. sym (by-eq k i _ _ _ (λ q. rw (eq-eqb k i q, q)) (λ n. rw (ne_eqb k i n))))

pub fills_row : (s : Blocks) (a w : ℕ) → filled s a w ≡ put s (row_of a) (filled_block (s (row_of a)) (tag_of a) (place_of a) w)
unfolding filled
fills_row s a w = changes s (row_of a) (λ b. filled_block b (tag_of a) (place_of a) w)

pub forgets_row : (s : Blocks) (a : ℕ) → forgotten s a ≡ put s (row_of a) (forgotten_block (s (row_of a)) (tag_of a) (place_of a))
unfolding forgotten
forgets_row s a = changes s (row_of a) (λ b. forgotten_block b (tag_of a) (place_of a))

pub looks_up : (s : Blocks) (a : ℕ) → kept_at s a ≡ word_in (s (row_of a)) (tag_of a) (place_of a)
unfolding kept_at
looks_up s a = refl

pub all-emptied : (rows items : List Row) → map block_of items ≡ map emptied (map block_of rows) → blocks_in items ≡ flushed (blocks_in rows)
unfolding blocks_in flushed emptied
all-emptied rows items e = fun_ext (λ k. rw e (ListN.get_or-map emptied (map block_of rows) k bare))

pub all_fresh : (n : ℕ) (r : Row) → block_of r ≡ bare → blocks_in (replicate n r) ≡ fresh
unfolding blocks_in fresh
all_fresh n r e = fun_ext (λ k. go n k)
  where
    go : (n k : ℕ) → get_or (map block_of (replicate n r)) k bare ≡ bare
    go zero k = refl
    go (suc n) zero = e
    go (suc n) (suc k) = go n k

-- a row with nothing in it, which no reading within the rows gives
empty_row : Row
empty_row = record { tag = 0; map = 0; slots = [] }

abbrev held_by : Row → ℕ
held_by r = marks_of (block_of r)

-- the words that the first n rows keep
held_first : (rows : List Row) (d : Row) (n : ℕ) → n ≤ length rows → sum_to n (λ i. marks_of (blocks_in rows i)) ≡ sum_by held_by (take n rows)
unfolding blocks_in
held_first rows d zero le = refl
held_first rows d (suc n) le =
    let more : sum_by held_by (take (n + 1) rows) ≡ sum_by held_by (take n rows) + held_by (get_or rows n d) = sum_by_more held_by rows n d le in
    rw (← add-one n, more, held_first rows d n (omega arith), get_or-map block_of rows n d bare le)

pub held_rows : (rows : List Row) → length rows ≡ 128 → sum_by held_by rows ≡ held_of (blocks_in rows)
unfolding held_of
held_rows rows full = sym (held_first rows empty_row 128 (omega arith) ∙ ap (sum_by held_by) (take_all 128 rows (omega arith)))

-- one row more is emptied
pub one_more : (rows items : List Row) (i : ℕ) (x r : Row) → i < length rows → length items ≡ length rows
    → map block_of items ≡ map emptied (take i (map block_of rows)) ++ drop i (map block_of rows)
    → block_of r ≡ emptied (block_of (get_or items i x))
    → map block_of (set items i r) ≡ map emptied (take (i + 1) (map block_of rows)) ++ drop (i + 1) (map block_of rows)
one_more rows items i x r h le inv e =
    let hi : i < length items = omega arith in
    map-set block_of items i r ∙ ap (set (map block_of items) i) e
    ∙ map_over_more emptied (map block_of rows) (map block_of items) i (block_of (get_or items i x)) (rw length-map h) inv (sym (get_or-map block_of items i x _ hi))
