-- What a store means: its rows' tags, and the words in its marked slots.
use Rattle.std.specs.Prelude.{ℕ, if◌then◌else◌, List, map, Some, None, slice_index_or}
use Rattle.blocks.specs.declared.row.Row.{Row}
use Rattle.blocks.specs.declared.slot.Decoded.{Decoded}
use Rattle.blocks.specs.declared.store.BlockStore.{BlockStore}
use Rattle.blocks.specs.Marks.{marked}
use Rattle.blocks.specs.Slots.{decoded_of}
use Rattle.blocks.specs.Blocks.{Block, Blocks, bare}

-- a row by its tag and the words in its marked slots; what stands in the other slots is not seen
unfoldable pub seen : ℕ → ℕ → List Decoded → Block
seen tag map slots = record { tag = tag; word = λ j. if marked map j then Some (slice_index_or slots j (decoded_of 0)).word else None }

abbrev pub block_of : Row → Block
block_of r = seen r.tag r.map r.slots

unfoldable pub blocks_in : List Row → Blocks
blocks_in rows i = slice_index_or (map block_of rows) i bare

abbrev pub blocks_of : BlockStore → Blocks
blocks_of s = blocks_in s.rows
