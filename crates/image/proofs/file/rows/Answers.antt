-- With a `using` line `returns` stays open: the list of chunks stands only in what the lemma asks, and not in what it says.
use Rattle.image.proofs.Rows.{cut}
use Rattle.image.proofs.file.rows.Goals as goal

pub returns : goal.returns
returns g c =
    let part = c.in_ok-get.ensures.lookup.0 in
    cut g.row.N c.args.at c.args.count c.args.bytes.now _ _ _ c.requires part.0 part.2 c.as_chunks.ensures.front c.get-2.ensures.lookup
