-- Tables whose records have a start and a size, and which record an address belongs to.
use Rattle.std.specs.Prelude.{◌≡◌, ℕ, ◌+◌, ◌<◌, ◌≤◌, Bool, if◌then◌else◌, ◌&&◌, Some, None, Option, nat_le, nat_lt}
use Rattle.image.specs.declared.records.Record.{Record}

pub record Records : Type 0 where
  pub count : ℕ
  pub at : ℕ → Record

-- the record that covers nothing
abbrev pub no_record : Record
no_record = record { start = 0; size = 0 }

-- record i; past the table the one that covers nothing
abbrev pub record_at : Records → ℕ → Record
record_at t i = if nat_lt i t.count then t.at i else no_record

-- record i; past the table there is none
abbrev pub record_if_any : Records → ℕ → Option Record
record_if_any t i = if nat_lt i t.count then Some (t.at i) else None

abbrev pub holds : Record → ℕ → Bool
holds x a = nat_le x.start a && nat_lt a (x.start + x.size)

-- record k is one of the first n, and address a lies in it
pub record Holds (t : Records) (n a k : ℕ) : Type 0 where
  pub among : k < n
  pub from : (t.at k).start ≤ a
  pub below : a < (t.at k).start + (t.at k).size

-- of the first n records that hold a, record i starts last, and is the first in the table that starts there
pub record Nearest (t : Records) (n a i : ℕ) : Type 0 where
  pub holding : Holds t n a i
  pub starts_last : (k : ℕ) → Holds t n a k → (t.at k).start ≤ (t.at i).start
  pub comes_first : (k : ℕ) → Holds t n a k → (t.at k).start ≡ (t.at i).start → i ≤ k

-- none is told only where no record holds a
abbrev pub FindsIn : Records → ℕ → ℕ → Option ℕ → Type 0
FindsIn t n a None = (k : ℕ) → Holds t n a k → ⊥
FindsIn t n a (Some i) = Nearest t n a i

abbrev pub Finds : Records → ℕ → Option ℕ → Type 0
Finds t a r = FindsIn t t.count a r
