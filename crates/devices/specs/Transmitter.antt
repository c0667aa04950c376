-- The serial port's transmitter: a console with room for so many bytes.
use Rattle.std.specs.Prelude.{ℕ, Bool, List, [], ◌∷◌, ◌++◌, length, Some, None, Option, nat_lt, slice_index, if◌then◌else◌}

-- the bytes sent, and how many the console has room for
pub record Sending : Type 0 where
  pub console : List ℕ
  pub room : ℕ

abbrev pub sending : List ℕ → ℕ → Sending
sending c n = record { console = c; room = n }

abbrev pub has_room : Sending → Bool
has_room t = nat_lt (length t.console) t.room

-- a byte goes to the console, or is lost where that is full
abbrev pub sent_on : Sending → ℕ → Sending
sent_on t b = record t { console = (if has_room t then t.console ++ b ∷ [] else t.console) }

abbrev pub sent_at : Sending → ℕ → Option ℕ
sent_at t i = if nat_lt i (length t.console) then Some (slice_index t.console i) else None
