-- The places of the table hold what the listing tells of a word.
use Rattle.std.proofs.Common.{◌≡◌, ℕ, ◌%◌, ◌<◌, Bool, true, false, ◌&&◌, ◌||◌, eqb, List, [], ◌∷◌, map, get_or, sym, refl, ap, ◌∙◌, arith}
use Rattle.std.specs.List.{range_with_len}
use Rattle.std.proofs.lemmas.List.FromFn.{get_or-map-range_with_len}
use Rattle.std.proofs.lemmas.Bool.{ne_eqb, and_parts, eqb-true}
use Rattle.std.proofs.lemmas.Bool.Decides.{nat_tests}
use Rattle.isa.specs.declared.kind.Kind.{Kind}
use Rattle.isa.specs.declared.kind.Kind.TheVariants.{Unknown}
use Rattle.isa.specs.Listing.{Ask, any, is, meets, Line, listing, listed, kind_of, class_of, sample, kind_at}

-- every opcode of the listing ends in 11, so a word that does not is on no line
abbrev full : List Line → Bool
full [] = true
full (l ∷ ls) = eqb (l.opcode % 4) 3 && full ls

unlisted : (ls : List Line) → full ls ≡ true → (o f n : ℕ) → (o % 4 ≡ 3 → ⊥) → listed ls o f n ≡ Unknown
unlisted [] t o f n h = refl
unlisted (l ∷ ls) t o f n h =
    let p = and_parts (eqb (l.opcode % 4) 3) (full ls) t in
    let k = eqb-true (l.opcode % 4) 3 p.0 in
    let e : eqb l.opcode o ≡ false = ne_eqb l.opcode o (λ q. h (ap (λ m. m % 4) (sym q) ∙ k)) in
    rw e (unlisted ls p.1 o f n h)

pub unknown : (o f n : ℕ) → (o % 4 ≡ 3 → ⊥) → kind_of o f n ≡ Unknown
unfolding kind_of
unknown o f n h = unlisted listing refl o f n h

-- a line asks of f7 for 0, 1 or 0x20 or for nothing, so no line tells two values of one class apart
abbrev usual : Ask → Bool
usual any = true
usual (is k) = eqb k 0 || (eqb k 1 || eqb k 0x20)

abbrev plain : List Line → Bool
plain [] = true
plain (l ∷ ls) = usual l.f7 && plain ls

same-ask : (a : Ask) → usual a ≡ true → (n : ℕ) → meets a (sample (class_of n)) ≡ meets a n
unfolding class_of sample
same-ask any t n = refl
same-ask (is k) t n = grind (arith, nat_tests)

same-listed : (ls : List Line) → plain ls ≡ true → (o f n : ℕ) → listed ls o f (sample (class_of n)) ≡ listed ls o f n
same-listed [] t o f n = refl
same-listed (l ∷ ls) t o f n =
    let p = and_parts (usual l.f7) (plain ls) t in
    let e = same-ask l.f7 p.0 n in
    let r = same-listed ls p.1 o f n in
    cc

-- a kind by the class of f7 alone
pub by_class : (o f n : ℕ) → kind_of o f (sample (class_of n)) ≡ kind_of o f n
unfolding kind_of
by_class o f n = same-listed listing refl o f n

pub class_below : (n : ℕ) → class_of n < 4
unfolding class_of
class_below n = grind (arith, nat_tests)

-- the listing's kinds as a table
abbrev by_f7 : ℕ → ℕ → List Kind
by_f7 o f = map (kind_at o f) (range_with_len 0 4)

abbrev by_f3 : ℕ → List (List Kind)
by_f3 o = map (by_f7 o) (range_with_len 0 8)

pub entries : (o f c : ℕ) (k : List (List Kind)) (l : List Kind) (m : Kind) → o < 32 → f < 8 → c < 4
    → get_or (get_or (get_or (map by_f3 (range_with_len 0 32)) o k) f l) c m ≡ kind_at o f c
entries o f c k l m p q r =
    ap (λ (x : List (List Kind)). get_or (get_or x f l) c m) (get_or-map-range_with_len by_f3 0 32 o o k p (omega arith))
    ∙ ap (λ (x : List Kind). get_or x c m) (get_or-map-range_with_len (by_f7 o) 0 8 f f l q (omega arith))
    ∙ get_or-map-range_with_len (kind_at o f) 0 4 c c m r (omega arith)
