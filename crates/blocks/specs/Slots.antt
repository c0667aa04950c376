use Rattle.std.specs.Prelude.{ℕ, refl}
use Rattle.blocks.specs.declared.slot.Decoded.{Decoded}
use Rattle.blocks.specs.declared.slot.Slot.{Slot}
use Rattle.isa.specs.Decode.{decoded}

-- the slot of a word: the word and its decoding
abbrev pub slot_of : ℕ → Slot
slot_of w = record { word = w; form = decoded w }

-- the same, as a row keeps it
abbrev pub decoded_of : ℕ → Decoded
decoded_of w = record { word = w; form = decoded w; decodes = refl }
