-- The verdict on a file is that of the plain sentences about it.
use Rattle.std.proofs.Common.{◌≡◌, ℕ, ◌%◌, ◌<◌, ◌≤◌, Bool, true, false, if◌then◌else◌, eqb, List, [], ◌∷◌, length, get_or, take, Decides, Ok, Err, Result, IsOk, sym, refl, ap, ◌∙◌, subst, ⊎_elim, arith, rules, below_none, below_more}
use Rattle.std.proofs.lemmas.Bool.{and_parts, and_from, eqb-true, eq-eqb, cases_lt}
use Rattle.std.proofs.lemmas.List.{get_or-take, get_or_past, length-take}
use Rattle.std.proofs.lemmas.Grind.{same_number_lists}
use Rattle.std.proofs.lemmas.Bool.Decides.{nat_tests, Decides-below_and, Decides-below_or, not_from_Decides}
use Rattle.image.specs.declared.header.ProgramHeader.{ProgramHeader}
use Rattle.image.specs.Below.{every, some}
use Rattle.image.specs.Fields.{identified}
use Rattle.image.specs.Headers.{entry_of, table_count, header_at}
use Rattle.image.specs.Numbers.{number_of}
use Rattle.image.specs.declared.refusal.Refusal.{Refusal}
use Rattle.image.specs.declared.refusal.Refusal.TheVariants.{Size, Identification, FileKind, ProgramTable, SegmentBounds, EntryPoint, Index}
use Rattle.image.specs.Verdict.{verdict, size_fits, kind_fits, table_fits, segments_fit, entry_fits, segment_fits, covers}
use Rattle.image.specs.WellFormed.{SegmentFits, LoadedAt, RightSize, RightIdentification, RightKind, RightTable, RightEntry, Judged}

-- each test with what it tells
pub decides_fits : (n : ℕ) (h : ProgramHeader) → Decides (segment_fits n h) (SegmentFits n h)
decides_fits n h = (
  λ e. record { inside = λ k. grind (arith, nat_tests); holds = λ k. grind (arith, nat_tests); ends = λ k. grind (arith, nat_tests) },
  λ f. let i = f.inside in let o = f.holds in let b = f.ends in grind (arith, nat_tests),
)

decides-loaded : (a : ℕ) (h : ProgramHeader) → Decides (covers a h) (LoadedAt h a)
decides-loaded a h = (
  λ e. record { is_load = grind (arith, nat_tests); from = grind (arith, nat_tests); below = grind (arith, nat_tests) },
  λ f. let k = f.is_load in let p = f.from in let q = f.below in grind (arith, nat_tests),
)

all_fit : (s : List ℕ) (n : ℕ) → Decides (every (λ k. segment_fits (length s) (header_at s k)) n) ((k : ℕ) → k < n → SegmentFits (length s) (header_at s k))
unfolding every
all_fit s n = Decides-below_and (λ k. segment_fits (length s) (header_at s k)) _ (every (λ k. segment_fits (length s) (header_at s k))) (λ k. decides_fits (length s) (header_at s k)) refl (λ n. refl) n

some-load : (s : List ℕ) (a n : ℕ) → Decides (some (λ k. covers a (header_at s k)) n) ((k : ℕ) × (k < n) × LoadedAt (header_at s k) a)
unfolding some
some-load s a n = Decides-below_or (λ k. covers a (header_at s k)) (λ k. LoadedAt (header_at s k) a) (some (λ k. covers a (header_at s k))) (λ k. decides-loaded a (header_at s k)) refl (λ n. refl) n

abbrev magic : List ℕ
magic = 0x7f ∷ 0x45 ∷ 0x4c ∷ 0x46 ∷ 1 ∷ 1 ∷ 1 ∷ []

magic-at : (s : List ℕ) → identified s ≡ true → (i : ℕ) → i < 7 → get_or s i 0 ≡ get_or magic i 0
magic-at s e =
    let p0 = and_parts (eqb (get_or s 0 0) 0x7f) _ e in
    let p1 = and_parts (eqb (get_or s 1 0) 0x45) _ p0.1 in
    let p2 = and_parts (eqb (get_or s 2 0) 0x4c) _ p1.1 in
    let p3 = and_parts (eqb (get_or s 3 0) 0x46) _ p2.1 in
    let p4 = and_parts (eqb (get_or s 4 0) 1) _ p3.1 in
    let p5 = and_parts (eqb (get_or s 5 0) 1) _ p4.1 in
    below_more _ 6 (below_more _ 5 (below_more _ 4 (below_more _ 3 (below_more _ 2 (below_more _ 1 (below_more _ 0 (below_none _)
    (eqb-true _ _ p0.0)) (eqb-true _ _ p1.0)) (eqb-true _ _ p2.0)) (eqb-true _ _ p3.0)) (eqb-true _ _ p4.0)) (eqb-true _ _ p5.0)) (eqb-true _ _ p5.1)

begins : (s : List ℕ) → take 7 s ≡ magic → identified s ≡ true
begins s e =
    let at : (i : ℕ) → i < 7 → get_or s i 0 ≡ get_or magic i 0 = λ i h. sym (get_or-take 7 s i 0 h) ∙ ap (λ l. get_or l i 0) e in
    rw (at 0 (omega arith), at 1 (omega arith), at 2 (omega arith), at 3 (omega arith), at 4 (omega arith), at 5 (omega arith), at 6 (omega arith))

-- the six tests
decides-size : (s : List ℕ) → Decides (size_fits s) (RightSize s)
decides-size s = (
  λ e. record { long_enough = grind (arith, nat_tests); short_enough = grind (arith, nat_tests) },
  λ r. let p = r.long_enough in let q = r.short_enough in grind (arith, nat_tests),
)

decides-identification : (s : List ℕ) → Decides (identified s) (RightIdentification s)
decides-identification s = (
  λ e. let at = magic-at s e in let last = at 6 (omega arith) in
      let long : 7 ≤ length s = ⊎_elim (λ lt. lt) (λ ge. absurd (omega (arith, last, get_or_past s 6 0 ge))) (cases_lt 6 (length s)) in
      let front : length (take 7 s) ≡ 7 = simp length-take (omega arith) in
      same_number_lists (take 7 s) magic front (λ i l. get_or-take 7 s i 0 (omega arith) ∙ at i (omega arith)),
  begins s,
)

decides-kind : (s : List ℕ) → Decides (kind_fits s) (RightKind s)
decides-kind s = (
  λ e. record { executable = grind (arith, nat_tests); risc_v = grind (arith, nat_tests); version = grind (arith, nat_tests); no_flags = grind (arith, nat_tests) },
  λ r. let p = r.executable in let q = r.risc_v in let v = r.version in let f = r.no_flags in grind (arith, nat_tests),
)

pub decides-table : (s : List ℕ) → Decides (table_fits s) (RightTable s)
decides-table s = (
  λ e. record { entry_size = grind (arith, nat_tests); not_empty = grind (arith, nat_tests); not_long = grind (arith, nat_tests); inside = grind (arith, nat_tests) },
  λ r. let p = r.entry_size in let q = r.not_empty in let v = r.not_long in let f = r.inside in grind (arith, nat_tests),
)

decides-entry : (s : List ℕ) → Decides (entry_fits s) (RightEntry s)
decides-entry s = (
  λ e. let p = and_parts (eqb (entry_of s % 4) 0) _ e in record { aligned = eqb-true (entry_of s % 4) 0 p.0; loaded = (some-load s (entry_of s) (table_count s)).0 p.1 },
  λ r. and_from _ _ (eq-eqb _ _ r.aligned) ((some-load s (entry_of s) (table_count s)).1 r.loaded),
)

-- the number of the first test that fails
abbrev first : Bool → Bool → Bool → Bool → Bool → Bool → ℕ
first a b c d e f = if a then (if b then (if c then (if d then (if e then (if f then 0 else 6) else 5) else 4) else 3) else 2) else 1

module _ (a b c d e f : Bool) where
  none : first a b c d e f ≡ 0 → (a ≡ true) × (b ≡ true) × (c ≡ true) × (d ≡ true) × (e ≡ true) × (f ≡ true)
  none h = (grind (arith, nat_tests), grind (arith, nat_tests), grind (arith, nat_tests), grind (arith, nat_tests), grind (arith, nat_tests), grind (arith, nat_tests))

  at_1 : first a b c d e f ≡ 1 → a ≡ false
  at_1 h = grind (arith, nat_tests)

  at_2 : first a b c d e f ≡ 2 → (a ≡ true) × (b ≡ false)
  at_2 h = (grind (arith, nat_tests), grind (arith, nat_tests))

  at_3 : first a b c d e f ≡ 3 → (a ≡ true) × (b ≡ true) × (c ≡ false)
  at_3 h = (grind (arith, nat_tests), grind (arith, nat_tests), grind (arith, nat_tests))

  at_4 : first a b c d e f ≡ 4 → (a ≡ true) × (b ≡ true) × (c ≡ true) × (d ≡ false)
  at_4 h = (grind (arith, nat_tests), grind (arith, nat_tests), grind (arith, nat_tests), grind (arith, nat_tests))

  at_5 : first a b c d e f ≡ 5 → (a ≡ true) × (b ≡ true) × (c ≡ true) × (d ≡ true) × (e ≡ false)
  at_5 h = (grind (arith, nat_tests), grind (arith, nat_tests), grind (arith, nat_tests), grind (arith, nat_tests), grind (arith, nat_tests))

  at_6 : first a b c d e f ≡ 6 → (a ≡ true) × (b ≡ true) × (c ≡ true) × (d ≡ true) × (e ≡ true) × (f ≡ false)
  at_6 h = (grind (arith, nat_tests), grind (arith, nat_tests), grind (arith, nat_tests), grind (arith, nat_tests), grind (arith, nat_tests), grind (arith, nat_tests))

  below : first a b c d e f < 7
  below = grind (arith, nat_tests)

pub judged : (s : List ℕ) → Judged s (verdict s)
unfolding verdict
judged s =
    let a = size_fits s in let b = identified s in let c = kind_fits s in let d = table_fits s in let e = segments_fit s in let f = entry_fits s in
    let da = decides-size s in let db = decides-identification s in let dc = decides-kind s in let dd = decides-table s in let de = all_fit s (table_count s) in let df = decides-entry s in
    record {
      taken = λ h. let p = none a b c d e f h in
          record { size = da.0 p.0; identification = db.0 p.1; kind = dc.0 p.2; table = dd.0 p.3; segments = de.0 p.4; entry = df.0 p.5 };
      takes = λ w. rw (da.1 w.size, db.1 w.identification, dc.1 w.kind, dd.1 w.table, de.1 w.segments, df.1 w.entry);
      refused_1 = λ h. not_from_Decides a da (at_1 a b c d e f h);
      refused_2 = λ h. let p = at_2 a b c d e f h in (da.0 p.0, not_from_Decides b db p.1);
      refused_3 = λ h. let p = at_3 a b c d e f h in (da.0 p.0, db.0 p.1, not_from_Decides c dc p.2);
      refused_4 = λ h. let p = at_4 a b c d e f h in (da.0 p.0, db.0 p.1, dc.0 p.2, not_from_Decides d dd p.3);
      refused_5 = λ h. let p = at_5 a b c d e f h in (da.0 p.0, db.0 p.1, dc.0 p.2, dd.0 p.3, not_from_Decides e de p.4);
      refused_6 = λ h. let p = at_6 a b c d e f h in (da.0 p.0, db.0 p.1, dc.0 p.2, dd.0 p.3, de.0 p.4, not_from_Decides f df p.5);
      no_other = below a b c d e f;
    }

pub judged_as : (s : List ℕ) (n : ℕ) → n ≡ verdict s → Judged s n
judged_as s n e = subst (Judged s) (sym e) (judged s)

-- an answer with the number 0 refuses nothing
pub taken_at_0 : {X : Type 0} (r : Result X Refusal) → number_of r ≡ 0 → IsOk r
taken_at_0 (Ok x) e = search rules
taken_at_0 (Err Size) e = cc
taken_at_0 (Err Identification) e = cc
taken_at_0 (Err FileKind) e = cc
taken_at_0 (Err ProgramTable) e = cc
taken_at_0 (Err SegmentBounds) e = cc
taken_at_0 (Err EntryPoint) e = cc
taken_at_0 (Err Index) e = cc
