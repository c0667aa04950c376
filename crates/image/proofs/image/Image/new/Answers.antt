use Rattle.std.proofs.Common.{◌≡◌, length, true, rules}
use Rattle.image.specs.Headers.{header_at}
use Rattle.image.specs.Verdict.{table_fits}
use Rattle.image.proofs.Judging.{judged, decides_fits, decides-table}
use Rattle.image.proofs.image.Image.new.Goals as goal

pub invariant_of-program_headers : goal.invariant_of-program_headers
invariant_of-program_headers c = record { headed = ((judged c.args.bytes.now).taken c.requires).size.long_enough }

pub unwrap-headers-requires : goal.unwrap-headers-requires
unwrap-headers-requires c =
    let s = c.args.bytes.now in
    let fits : table_fits s ≡ true = (decides-table s).1 ((judged s).taken c.requires).table in
    search rules

pub invariant_of-result : goal.invariant_of-result
invariant_of-result c =
    let s = c.args.bytes.now in
    let w = (judged s).taken c.requires in
    let fits : table_fits s ≡ true = (decides-table s).1 w.table in
    record { checked = c.requires; sized = w.size.long_enough; table = w.table.inside; rows = search rules; parts = λ k h. (decides_fits (length s) (header_at s k)).1 (w.segments k h) }
