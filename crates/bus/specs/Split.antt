-- Two buses side by side, with one address between them.
use Rattle.std.specs.Prelude.{ℕ, ◌+◌, min, Bool, if◌then◌else◌, ◌||◌, Some, None, Ok, Err, Option, Result, nat_lt}
use Rattle.bus.specs.declared.access.FeedRefusal.{FeedRefusal}
use Rattle.bus.specs.declared.access.FeedRefusal.TheVariants.{NoReceiver, Overrun}
use Rattle.bus.specs.declared.access.Lines.{Lines}
use Rattle.bus.specs.Numbers.{FaultNumbers}
use Rattle.bus.specs.Kind.{Kind, Answer, word_of}

-- what a split holds: what its two buses hold, and the address between them
pub record Halves (L H : Type 0) : Type 0 where
  pub low : L
  pub high : H
  pub at : ℕ

abbrev pub halves : {L H : Type 0} → L → H → ℕ → Halves L H
halves l h a = record { low = l; high = h; at = a }

-- whether an address is the low bus's
abbrev pub is_low : {L H : Type 0} → Halves L H → ℕ → Bool
is_low m a = nat_lt a (word_of m.at)

-- a fault as it is seen from above one more split
abbrev pub deeper : FaultNumbers → FaultNumbers
deeper f = record f { depth = min (f.depth + 1) 255 }

abbrev pub passed : {R : Type 0} → Result R FaultNumbers → Result R FaultNumbers
passed (Ok x) = Ok x
passed (Err f) = Err (deeper f)

-- what one side answers and then holds, the other side being left
abbrev pub in_low : {L H R : Type 0} → Halves L H → Answer R L → Answer R (Halves L H)
in_low m x = record { value = x.value; next = record m { low = x.next } }

abbrev pub in_high : {L H R : Type 0} → Halves L H → Answer R H → Answer R (Halves L H)
in_high m x = record { value = x.value; next = record m { high = x.next } }

-- the same of an access, whose fault is one deeper
abbrev pub passed_on : {R M : Type 0} → Answer (Result R FaultNumbers) M → Answer (Result R FaultNumbers) M
passed_on x = record { value = passed x.value; next = x.next }

-- a line is up if either side's is
abbrev pub either_up : Lines → Lines → Lines
either_up p q = record { software = p.software || q.software; timer = p.timer || q.timer; external = p.external || q.external }

-- the answer to a fed byte
abbrev pub Fed : Type 0
Fed = Result (Unit {0}) FeedRefusal

-- a byte goes to the high bus only if the low one has no receiver
abbrev pub fed_first : {L H : Type 0} → Halves L H → Fed → Answer Fed L → Answer Fed H → Answer Fed (Halves L H)
fed_first m (Ok u) x y = in_low m x
fed_first m (Err Overrun) x y = in_low m x
fed_first m (Err NoReceiver) x y = in_high m y

-- the high bus is asked for a sent byte only if the low one has none
abbrev pub or_else : Option ℕ → Option ℕ → Option ℕ
or_else (Some b) o = Some b
or_else None o = o

abbrev pub split : Kind → Kind → Kind
split L H = record {
  Meaning = Halves L.Meaning H.Meaning;
  fetch = λ m a. passed (if is_low m a then L.fetch m.low a else H.fetch m.high a);
  load = λ m a n. passed_on (if is_low m a then in_low m (L.load m.low a n) else in_high m (H.load m.high a n));
  store = λ m a n v. passed_on (if is_low m a then in_low m (L.store m.low a n v) else in_high m (H.store m.high a n v));
  tick = λ m. halves (L.tick m.low) (H.tick m.high) m.at;
  lines = λ m. either_up (L.lines m.low) (H.lines m.high);
  steady = λ m a. if is_low m a then L.steady m.low a else H.steady m.high a;
  feed = λ m b. fed_first m (L.feed m.low b).value (L.feed m.low b) (H.feed m.high b);
  sent = λ m i. or_else (L.sent m.low i) (H.sent m.high i);
}
