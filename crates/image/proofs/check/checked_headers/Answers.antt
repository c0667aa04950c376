use Rattle.std.proofs.Common.{◌%◌, ◌==◌, ◌&&◌, ap, ◌∙◌, rules}
use Rattle.image.specs.Verdict.{verdict, rows_fit, rows_cover}
use Rattle.image.proofs.Rows.{fit_rows, entry_rows}
use Rattle.image.proofs.check.checked_headers.Goals as goal

pub returns-then-not-entry_fits-clause-verdict : goal.returns-then-not-entry_fits-clause-verdict
unfolding verdict
returns-then-not-entry_fits-clause-verdict c =
    let s = c.args.bytes.now in
    let f = c.segments_fit.ensures ∙ ap (rows_fit _) (search rules) ∙ fit_rows s in
    let g = c.entry_fits.ensures ∙ ap (λ r. c.entry.result % 4 == 0 && rows_cover c.entry.result r) (search rules) ∙ entry_rows s c.entry.result (search rules) in
    search rules
