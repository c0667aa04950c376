use Rattle.std.proofs.Common.{◌≡◌, ◌<◌, ◌++◌, map, length, take, drop}
use Rattle.blocks.specs.Seen.{block_of}
use Rattle.blocks.specs.Blocks.{emptied}
use Rattle.blocks.proofs.store.BlockStore.flush.Given as goal

abbrev pub invariant-loop-row : goal.invariant-loop-row
invariant-loop-row l =
    (length l.row-items ≡ length l.initial.row-items)
    × (0 < l.row-index → length l.initial.row-items ≡ 128)
    × (map block_of l.row-items ≡ map emptied (take l.row-index (map block_of l.initial.row-items)) ++ drop l.row-index (map block_of l.initial.row-items))
