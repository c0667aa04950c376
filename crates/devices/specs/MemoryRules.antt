-- RAM and ROM keep the rules.
use Rattle.std.specs.Prelude.{◌≡◌, ℕ, ◌+◌, ◌%◌, ◌^◌, ◌<◌, Bool, true, false, ◌≢◌, is_ok, Ok, Err, Result, refl}
use Rattle.std.proofs.Common.{ap, ◌∙◌, arith}
use Rattle.std.proofs.lemmas.Bool.{false≢true, true≢false}
use Rattle.bus.specs.declared.access.Cause.{Cause}
use Rattle.bus.specs.declared.access.Device.{Device}
use Rattle.bus.specs.declared.access.Device.TheVariants.{Ram, Rom}
use Rattle.bus.specs.declared.access.Width.{Width}
use Rattle.bus.specs.declared.access.Width.TheVariants.{Word}
use Rattle.bus.specs.Numbers.{size}
use Rattle.bus.specs.Kind.{Rules, Answer, word_of, part, patch}
use Rattle.devices.specs.Device.{faulted}
use Rattle.devices.specs.Memory.{Holding, served, place, has_word, read, read_at, read_only, store_at, memory_of, memory, ram, rom}
use Rattle.devices.specs.Accesses.{stored, wrote-place, read_out, part_of, patch-of, word_below, place_ok, served-given, word_at, inside, offset, disjoint}

ok-inj : {E : Type 0} (x y : ℕ) → ◌≡◌ {A = Result ℕ E} (Ok x) (Ok y) → x ≡ y
ok-inj x y e = cc

module _ (d : Device) (m : Holding) where
  word-aligned : (x : ℕ) → has_word m x ≡ true → x % 4 ≡ 0
  word-aligned x s = let p = word_at m x s in (place_ok m.base (served m) x p.0 Word p.1).2

  word-fetched : (x : ℕ) → has_word m x ≡ true → (w : ℕ) × (faulted d x (read_at m x Word) ≡ Ok w) × (w < 2 ^ 32)
  word-fetched x s = let p = word_at m x s in (read m.bytes p.0 Word, rw p.1 refl, word_below m.bytes p.0)

  word-loaded : (a : ℕ) (n : Width) (w : ℕ) → has_word m (word_of a) ≡ true → a % size n ≡ 0 → faulted d (word_of a) (read_at m (word_of a) Word) ≡ Ok w → faulted d a (read_at m a n) ≡ Ok (part w (a % 4) n)
  word-loaded a n w s e f = let p = word_at m (word_of a) s in grind (arith, inside, part_of, offset)

  -- what a store leaves, by the place that it has
  module _ (a : ℕ) (n : Width) (v : ℕ) where
    store-refused : (r : Result ℕ Cause) → is_ok (faulted d a (stored m n v r).value) ≡ false → (stored m n v r).next ≡ m
    store-refused (Ok i) e = absurd (true≢false e)
    store-refused (Err c) e = refl

    store-steady : (x : ℕ) (r : Result ℕ Cause) → has_word (stored m n v r).next x ≡ has_word m x
    store-steady x (Ok i) = ap is_ok (wrote-place m i n v x Word)
    store-steady x (Err c) = refl

    store-replaces : (w : ℕ) → has_word m (word_of a) ≡ true → faulted d (word_of a) (read_at m (word_of a) Word) ≡ Ok w → (r : Result ℕ Cause) → place m a n ≡ r → is_ok (faulted d a (stored m n v r).value) ≡ true → faulted d (word_of a) (read_at (stored m n v r).next (word_of a) Word) ≡ Ok (patch w (a % 4) n v)
    store-replaces w s f (Err c) q o = absurd (false≢true o)
    store-replaces w s f (Ok j) q o =
        let p = word_at m (word_of a) s in
        let k = place_ok m.base (served m) a j n q in
        let h = place_ok m.base (served m) (word_of a) p.0 Word p.1 in
        let l = served-given m in
        let e : j ≡ p.0 + a % 4 = omega (arith, k.0, h.0) in
        let g : read m.bytes p.0 Word ≡ w = ok-inj _ _ (rw p.1 at f) in
        rw (wrote-place m j n v (word_of a) Word) (rw p.1 (ap Ok (rw e (patch-of m.bytes p.0 (a % 4) n v (omega (arith, h.1)) (omega arith) (offset a n k.2) ∙ ap (λ u. patch u (a % 4) n v) g))))

    store_keeps : (x : ℕ) → has_word m x ≡ true → word_of a ≢ x → (r : Result ℕ Cause) → place m a n ≡ r → faulted d x (read_at (stored m n v r).next x Word) ≡ faulted d x (read_at m x Word)
    store_keeps x s ne (Err c) q = refl
    store_keeps x s ne (Ok j) q =
        let p = word_at m x s in
        rw (wrote-place m j n v x Word) (rw p.1 (ap Ok (read_out m.bytes j n v p.0 Word (disjoint m.base (served m) a x j p.0 n q p.1 ne))))

    -- a memory that is only read takes none
    read_only-refuses : {P : Type 0} (r : Result ℕ Cause) → is_ok (faulted d a (read_only r)) ≡ true → P
    read_only-refuses (Ok i) e = absurd (false≢true e)
    read_only-refuses (Err c) e = absurd (false≢true e)

    at-refused : (w : Bool) → is_ok (faulted d a (store_at w m a n v).value) ≡ false → (store_at w m a n v).next ≡ m
    at-refused true e = store-refused (place m a n) e
    at-refused false e = refl

    at-steady : (w : Bool) (x : ℕ) → has_word (store_at w m a n v).next x ≡ has_word m x
    at-steady true x = store-steady x (place m a n)
    at-steady false x = refl

    at-replaces : (w : Bool) (u : ℕ) → has_word m (word_of a) ≡ true → is_ok (faulted d a (store_at w m a n v).value) ≡ true → faulted d (word_of a) (read_at m (word_of a) Word) ≡ Ok u → faulted d (word_of a) (read_at (store_at w m a n v).next (word_of a) Word) ≡ Ok (patch u (a % 4) n v)
    at-replaces true u s o f = store-replaces u s f (place m a n) refl o
    at-replaces false u s o f = read_only-refuses (place m a n) o

    at_keeps : (w : Bool) (x : ℕ) → has_word m x ≡ true → word_of a ≢ x → faulted d x (read_at (store_at w m a n v).next x Word) ≡ faulted d x (read_at m x Word)
    at_keeps true x s ne = store_keeps x s ne (place m a n) refl
    at_keeps false x s ne = refl

-- a memory keeps the rules if its stores do
pub memory_of-rules : (d : Device) (s : Holding → ℕ → Width → ℕ → Answer (Result (Unit {0}) Cause) Holding)
    → ((m : Holding) (a : ℕ) (n : Width) (v : ℕ) → is_ok (faulted d a (s m a n v).value) ≡ false → (s m a n v).next ≡ m)
    → ((m : Holding) (a : ℕ) (n : Width) (v x : ℕ) → has_word (s m a n v).next x ≡ has_word m x)
    → ((m : Holding) (a : ℕ) (n : Width) (v w : ℕ) → has_word m (word_of a) ≡ true → is_ok (faulted d a (s m a n v).value) ≡ true → faulted d (word_of a) (read_at m (word_of a) Word) ≡ Ok w → faulted d (word_of a) (read_at (s m a n v).next (word_of a) Word) ≡ Ok (patch w (a % 4) n v))
    → ((m : Holding) (a : ℕ) (n : Width) (v x : ℕ) → has_word m x ≡ true → word_of a ≢ x → faulted d x (read_at (s m a n v).next x Word) ≡ faulted d x (read_at m x Word))
    → Rules (memory_of d s)
memory_of-rules d s refused steady replaces keeps = record {
  refused_load_changes_nothing = λ m a n e. refl;
  refused_store_changes_nothing = refused;
  feed_without_receiver_changes_nothing = λ m b e. refl;
  load_keeps_steady = λ m a n x. refl;
  store_keeps_steady = steady;
  tick_keeps_steady = λ m x. refl;
  feed_keeps_steady = λ m b x. refl;
  steady_is_aligned = word-aligned d;
  steady_word_is_fetched = word-fetched d;
  load_answers_its_bytes = word-loaded d;
  store_replaces_its_bytes = replaces;
  store_keeps_other_words = keeps;
  load_keeps_words = λ m a n x s. refl;
  tick_keeps_words = λ m x s. refl;
  feed_keeps_words = λ m b x s. refl;
}

-- and both stores do
pub memory-rules : (d : Device) (w : Bool) → Rules (memory d w)
memory-rules d w =
    memory_of-rules d (store_at w)
    (λ m a n v. at-refused d m a n v w)
    (λ m a n v. at-steady d m a n v w)
    (λ m a n v. at-replaces d m a n v w)
    (λ m a n v. at_keeps d m a n v w)

pub ram-rules : Rules ram
ram-rules = memory-rules Ram true

pub rom-rules : Rules rom
rom-rules = memory-rules Rom false
