use Rattle.std.proofs.Common.{◌≡◌, length, rules}
use Rattle.image.specs.Headers.{header_at}
use Rattle.image.specs.Verdict.{verdict}
use Rattle.image.proofs.Judging.{judged, decides_fits}
use Rattle.image.proofs.image.Image.check.Goals as goal

pub invariant_of-result : goal.invariant_of-result
invariant_of-result c =
    let s = c.args.bytes.now in
    let e : verdict s ≡ 0 = search rules in
    let w = (judged s).taken e in
    record { checked = e; sized = w.size.long_enough; table = w.table.inside; rows = search rules; parts = λ k h. (decides_fits (length s) (header_at s k)).1 (w.segments k h) }
