-- The serial port's receiver: a queue of bytes, its switch, and the mark of a lost byte.
use Rattle.std.specs.Prelude.{ℕ, ◌/◌, ◌%◌, Bool, true, false, not, ◌&&◌, ◌||◌, List, [], ◌∷◌, ◌++◌, length, drop, Ok, Err, ◌==◌, nat_lt, slice_index, if◌then◌else◌}
use Rattle.bus.specs.declared.access.FeedRefusal.TheVariants.{Overrun}
use Rattle.bus.specs.Kind.{Answer}
use Rattle.bus.specs.Split.{Fed}

-- the bytes that wait, oldest first, the queue's switch, and the mark of a lost byte
pub record Receiving : Type 0 where
  pub queue : List ℕ
  pub fifo : Bool
  pub overrun : Bool

abbrev pub receiving : List ℕ → Bool → Bool → Receiving
receiving q f o = record { queue = q; fifo = f; overrun = o }

-- nothing waits, and no byte was lost
abbrev pub idle : Receiving
idle = receiving [] false false

abbrev pub waits : Receiving → Bool
waits r = nat_lt 0 (length r.queue)

-- how many bytes can wait
abbrev pub depth_of : Receiving → ℕ
depth_of r = if r.fifo then 16 else 1

-- a fed byte is queued, or lost and marked
abbrev pub fed : Receiving → ℕ → Answer Fed Receiving
fed r b =
    if nat_lt (length r.queue) (depth_of r)
    then record { value = Ok tt; next = record r { queue = r.queue ++ b ∷ [] } }
    else record { value = Err Overrun; next = record r { overrun = true } }

abbrev pub oldest : Receiving → ℕ
oldest r = slice_index r.queue 0

abbrev pub oldest_taken : Receiving → Receiving
oldest_taken r = record r { queue = drop 1 r.queue }

-- the mark is cleared once it was seen
abbrev pub seen : Receiving → Receiving
seen r = record r { overrun = false }

abbrev pub bit0 : ℕ → Bool
bit0 b = b % 2 == 1

abbrev pub differ : Bool → Bool → Bool
differ true q = not q
differ false q = q

-- bit 0 is the switch: a change of it empties the queue, and so does bit 1 together with it
abbrev pub switched : Receiving → ℕ → Receiving
switched r b = record r { queue = (if differ (bit0 b) r.fifo || (bit0 b && bit0 (b / 2)) then [] else r.queue); fifo = bit0 b }
