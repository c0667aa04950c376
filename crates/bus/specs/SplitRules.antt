-- A split of two buses that keep the rules keeps them.
use Rattle.std.specs.Prelude.{◌≡◌, ℕ, ◌%◌, ◌^◌, ◌<◌, Bool, true, false, if◌then◌else◌, is_ok, Ok, Err, Result, nat_lt, refl}
use Rattle.std.proofs.Common.{sym, ap, ◌∙◌, subst, arith}
use Rattle.std.proofs.lemmas.Bool.Decides.{nat_tests}
use Rattle.bus.specs.declared.access.Width.{Width}
use Rattle.bus.specs.declared.access.FeedRefusal.TheVariants.{NoReceiver, Overrun}
use Rattle.bus.specs.Numbers.{FaultNumbers, size}
use Rattle.bus.specs.Kind.{Kind, Rules, Answer, word_of, part, patch}
use Rattle.bus.specs.Split.{Halves, halves, split, is_low, passed, passed_on, in_low, in_high, Fed, fed_first}

-- passing an answer on changes only its fault
passed-is_ok : {R : Type 0} (r : Result R FaultNumbers) → is_ok (passed r) ≡ is_ok r
passed-is_ok (Ok x) = refl
passed-is_ok (Err e) = refl

passed_ok : {R : Type 0} (r : Result R FaultNumbers) (x : R) → passed r ≡ Ok x → r ≡ Ok x
passed_ok (Ok y) x p = p
passed_ok (Err e) x p = cc

-- a word lies on one side
one_side : (a t : ℕ) → nat_lt (word_of a) (word_of t) ≡ nat_lt a (word_of t)
one_side a t = grind (arith, nat_tests)

module _ (L H : Kind) where
  abbrev M : Type 0
  M = Halves L.Meaning H.Meaning

  -- the split after one side has gone on
  abbrev low_to : M → L.Meaning → M
  low_to m q = halves q m.high m.at

  abbrev high_to : M → H.Meaning → M
  high_to m q = halves m.low q m.at

  low-steady : (m : M) (q : L.Meaning) (t : ℕ) → L.steady q t ≡ L.steady m.low t → (split L H).steady (low_to m q) t ≡ (split L H).steady m t
  low-steady m q t e = ap (λ b. if is_low m t then b else H.steady m.high t) e

  high-steady : (m : M) (q : H.Meaning) (t : ℕ) → H.steady q t ≡ H.steady m.high t → (split L H).steady (high_to m q) t ≡ (split L H).steady m t
  high-steady m q t e = ap (λ b. if is_low m t then L.steady m.low t else b) e

  low-fetch : (m : M) (q : L.Meaning) (t : ℕ) → (L.steady m.low t ≡ true → L.fetch q t ≡ L.fetch m.low t) → (split L H).steady m t ≡ true → (split L H).fetch (low_to m q) t ≡ (split L H).fetch m t
  low-fetch m q t e =
      elim (is_low m t) as (λ b. (if b then L.steady m.low t else H.steady m.high t) ≡ true → passed (if b then L.fetch q t else H.fetch m.high t) ≡ passed (if b then L.fetch m.low t else H.fetch m.high t))
      [ true ↦ λ s. ap passed (e s) | false ↦ λ s. refl ]

  high-fetch : (m : M) (q : H.Meaning) (t : ℕ) → (H.steady m.high t ≡ true → H.fetch q t ≡ H.fetch m.high t) → (split L H).steady m t ≡ true → (split L H).fetch (high_to m q) t ≡ (split L H).fetch m t
  high-fetch m q t e =
      elim (is_low m t) as (λ b. (if b then L.steady m.low t else H.steady m.high t) ≡ true → passed (if b then L.fetch m.low t else H.fetch q t) ≡ passed (if b then L.fetch m.low t else H.fetch m.high t))
      [ true ↦ λ s. refl | false ↦ λ s. ap passed (e s) ]

  -- an access, of a load's or a store's answer R, that went to the side b
  module _ {R : Type 0} (m : M) (x : Answer (Result R FaultNumbers) L.Meaning) (y : Answer (Result R FaultNumbers) H.Meaning) where
    abbrev went : Bool → Answer (Result R FaultNumbers) M
    went b = passed_on (if b then in_low m x else in_high m y)

    went-refused : (b : Bool) → (is_ok x.value ≡ false → x.next ≡ m.low) → (is_ok y.value ≡ false → y.next ≡ m.high) → is_ok (went b).value ≡ false → (went b).next ≡ m
    went-refused true p q e = ap (low_to m) (p (sym (passed-is_ok x.value) ∙ e))
    went-refused false p q e = ap (high_to m) (q (sym (passed-is_ok y.value) ∙ e))

    went-steady : (b : Bool) (t : ℕ) → L.steady x.next t ≡ L.steady m.low t → H.steady y.next t ≡ H.steady m.high t → (split L H).steady (went b).next t ≡ (split L H).steady m t
    went-steady true t p q = low-steady m x.next t p
    went-steady false t p q = high-steady m y.next t q

    went-fetch : (b : Bool) (t : ℕ) → (L.steady m.low t ≡ true → L.fetch x.next t ≡ L.fetch m.low t) → (H.steady m.high t ≡ true → H.fetch y.next t ≡ H.fetch m.high t) → (split L H).steady m t ≡ true → (split L H).fetch (went b).next t ≡ (split L H).fetch m t
    went-fetch true t p q = low-fetch m x.next t p
    went-fetch false t p q = high-fetch m y.next t q

module _ (L H : Kind) (l : Rules L) (h : Rules H) where
  fed-refused : (m : M L H) (r : Fed) (x : Answer Fed L.Meaning) (y : Answer Fed H.Meaning) → x.value ≡ r → (y.value ≡ Err NoReceiver → y.next ≡ m.high) → (fed_first m r x y).value ≡ Err NoReceiver → (fed_first m r x y).next ≡ m
  fed-refused m (Ok u) x y e q p = cc
  fed-refused m (Err Overrun) x y e q p = cc
  fed-refused m (Err NoReceiver) x y e q p = ap (high_to L H m) (q p)

  fed-steady : (m : M L H) (r : Fed) (x : Answer Fed L.Meaning) (y : Answer Fed H.Meaning) (t : ℕ) → L.steady x.next t ≡ L.steady m.low t → H.steady y.next t ≡ H.steady m.high t → (split L H).steady (fed_first m r x y).next t ≡ (split L H).steady m t
  fed-steady m (Ok u) x y t p q = low-steady L H m x.next t p
  fed-steady m (Err Overrun) x y t p q = low-steady L H m x.next t p
  fed-steady m (Err NoReceiver) x y t p q = high-steady L H m y.next t q

  fed-fetch : (m : M L H) (r : Fed) (x : Answer Fed L.Meaning) (y : Answer Fed H.Meaning) (t : ℕ) → (L.steady m.low t ≡ true → L.fetch x.next t ≡ L.fetch m.low t) → (H.steady m.high t ≡ true → H.fetch y.next t ≡ H.fetch m.high t) → (split L H).steady m t ≡ true → (split L H).fetch (fed_first m r x y).next t ≡ (split L H).fetch m t
  fed-fetch m (Ok u) x y t p q = low-fetch L H m x.next t p
  fed-fetch m (Err Overrun) x y t p q = low-fetch L H m x.next t p
  fed-fetch m (Err NoReceiver) x y t p q = high-fetch L H m y.next t q

  split-aligned : (m : M L H) (x : ℕ) → (split L H).steady m x ≡ true → x % 4 ≡ 0
  split-aligned m x = elim (is_low m x) as (λ b. (if b then L.steady m.low x else H.steady m.high x) ≡ true → x % 4 ≡ 0) [ true ↦ l.steady_is_aligned m.low x | false ↦ h.steady_is_aligned m.high x ]

  split-fetched : (m : M L H) (x : ℕ) → (split L H).steady m x ≡ true → (w : ℕ) × ((split L H).fetch m x ≡ Ok w) × (w < 2 ^ 32)
  split-fetched m x =
      elim (is_low m x) as (λ b. (if b then L.steady m.low x else H.steady m.high x) ≡ true → (w : ℕ) × (passed (if b then L.fetch m.low x else H.fetch m.high x) ≡ Ok w) × (w < 2 ^ 32)) [
        | true ↦ λ s. let f = l.steady_word_is_fetched m.low x s in (f.0, ap passed f.1, f.2)
        | false ↦ λ s. let f = h.steady_word_is_fetched m.high x s in (f.0, ap passed f.1, f.2)
      ]

  module _ (m : M L H) (a : ℕ) (n : Width) (w : ℕ) where
    abbrev Steady : Bool → Type 0
    Steady b = (if b then L.steady m.low (word_of a) else H.steady m.high (word_of a)) ≡ true

    abbrev Held : Bool → Type 0
    Held b = passed (if b then L.fetch m.low (word_of a) else H.fetch m.high (word_of a)) ≡ Ok w

    loaded_at : (b : Bool) → a % size n ≡ 0 → Steady b → Held b → (went L H m (L.load m.low a n) (H.load m.high a n) b).value ≡ Ok (part w (a % 4) n)
    loaded_at true d s f = ap passed (l.load_answers_its_bytes m.low a n w s d (passed_ok _ w f))
    loaded_at false d s f = ap passed (h.load_answers_its_bytes m.high a n w s d (passed_ok _ w f))

    stored_at : (v : ℕ) (b : Bool) → is_low m (word_of a) ≡ b → Steady b → is_ok (went L H m (L.store m.low a n v) (H.store m.high a n v) b).value ≡ true → Held b → (split L H).fetch (went L H m (L.store m.low a n v) (H.store m.high a n v) b).next (word_of a) ≡ Ok (patch w (a % 4) n v)
    stored_at v true e s o f =
        ap (λ b. passed (if b then L.fetch (L.store m.low a n v).next (word_of a) else H.fetch m.high (word_of a))) e
        ∙ ap passed (l.store_replaces_its_bytes m.low a n v w s (sym (passed-is_ok (L.store m.low a n v).value) ∙ o) (passed_ok _ w f))
    stored_at v false e s o f =
        ap (λ b. passed (if b then L.fetch m.low (word_of a) else H.fetch (H.store m.high a n v).next (word_of a))) e
        ∙ ap passed (h.store_replaces_its_bytes m.high a n v w s (sym (passed-is_ok (H.store m.high a n v).value) ∙ o) (passed_ok _ w f))

  pub split-rules : Rules (split L H)
  split-rules = record {
    refused_load_changes_nothing = λ m a n. went-refused L H m _ _ (is_low m a) (l.refused_load_changes_nothing m.low a n) (h.refused_load_changes_nothing m.high a n);
    refused_store_changes_nothing = λ m a n v. went-refused L H m _ _ (is_low m a) (l.refused_store_changes_nothing m.low a n v) (h.refused_store_changes_nothing m.high a n v);
    feed_without_receiver_changes_nothing = λ m b. fed-refused m (L.feed m.low b).value _ _ refl (h.feed_without_receiver_changes_nothing m.high b);
    load_keeps_steady = λ m a n x. went-steady L H m _ _ (is_low m a) x (l.load_keeps_steady m.low a n x) (h.load_keeps_steady m.high a n x);
    store_keeps_steady = λ m a n v x. went-steady L H m _ _ (is_low m a) x (l.store_keeps_steady m.low a n v x) (h.store_keeps_steady m.high a n v x);
    tick_keeps_steady = λ m x. low-steady L H (high_to L H m (H.tick m.high)) (L.tick m.low) x (l.tick_keeps_steady m.low x) ∙ high-steady L H m (H.tick m.high) x (h.tick_keeps_steady m.high x);
    feed_keeps_steady = λ m b x. fed-steady m (L.feed m.low b).value _ _ x (l.feed_keeps_steady m.low b x) (h.feed_keeps_steady m.high b x);
    steady_is_aligned = split-aligned;
    steady_word_is_fetched = split-fetched;
    load_answers_its_bytes = λ m a n w s d f. let e = one_side a m.at in loaded_at m a n w (is_low m a) d (subst (Steady m a n w) e s) (subst (Held m a n w) e f);
    store_replaces_its_bytes = λ m a n v w s o f. let e = one_side a m.at in stored_at m a n w v (is_low m a) e (subst (Steady m a n w) e s) o (subst (Held m a n w) e f);
    load_keeps_words = λ m a n x. went-fetch L H m _ _ (is_low m a) x (l.load_keeps_words m.low a n x) (h.load_keeps_words m.high a n x);
    store_keeps_other_words = λ m a n v x s ne. went-fetch L H m _ _ (is_low m a) x (λ s. l.store_keeps_other_words m.low a n v x s ne) (λ s. h.store_keeps_other_words m.high a n v x s ne) s;
    tick_keeps_words = λ m x s. low-fetch L H (high_to L H m (H.tick m.high)) (L.tick m.low) x (l.tick_keeps_words m.low x) (high-steady L H m (H.tick m.high) x (h.tick_keeps_steady m.high x) ∙ s) ∙ high-fetch L H m (H.tick m.high) x (h.tick_keeps_words m.high x) s;
    feed_keeps_words = λ m b x. fed-fetch m (L.feed m.low b).value _ _ x (l.feed_keeps_words m.low b x) (h.feed_keeps_words m.high b x);
  }
