use Rattle.std.proofs.Common.{◌≡◌, ◌≤◌, ◌^◌, length, ◌∙◌, arith, rules}
use Rattle.std.specs.List.{sum_by}
use Rattle.std.proofs.iter.runs.Made.{chains}
use Rattle.std.proofs.lemmas.Iterator.{YieldsList-from_slice}
use Rattle.std.proofs.lemmas.Iterator.Adapters.{fits_from_length, at_most_from_yields_List}
use Rattle.blocks.specs.Blocks.{marks_of}
use Rattle.blocks.specs.Seen.{block_of}
use Rattle.blocks.proofs.Rows.{held_rows}
use Rattle.blocks.proofs.store.BlockStore.held.Goals as goal

-- 128 rows, of at most 8 words each
pub sum-requires-clause-fits : goal.sum-requires-clause-fits
sum-requires-clause-fits c =
    let rows : length c.args.self.now.rows ≤ 128 = search rules in
    fits_from_length _ _ 128 (2 ^ 32) (at_most_from_yields_List (YieldsList-from_slice c.args.self.now.rows cc) rows) c.map.ensures.closure (omega arith) (λ x r q k. search rules)

pub returns : goal.returns
returns c =
    let rows = c.args.self.now.rows in
    let e : c.sum.result ≡ sum_by (λ r. marks_of (block_of r)) rows = search (rules, chains) in
    let full : length rows ≡ 128 = search rules in
    e ∙ held_rows rows full
