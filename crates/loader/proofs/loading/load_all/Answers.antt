use Rattle.std.proofs.Common.{arith}
use Rattle.std.proofs.lemmas.Result.{err_from_is_err_and}
use Rattle.loader.proofs.Steps.{ran_more, refused}
use Rattle.loader.proofs.loading.load_all.Goals as goal

pub returns-in_err-load_segment : goal.returns-in_err-load_segment
returns-in_err-load_segment g c =
    let p = err_from_is_err_and c.from_residual.result c.from_residual.ensures.1 in
    let h = c.in_err-load_segment.ensures in
    let r = refused _ _ c.loop-i.i _ _ _ _ (omega arith) c.loop-i.invariant h.value h.next in
    rw (p.1, p.2) (record { value = r.0; next = r.1 })

pub loop-i-preserved : goal.loop-i-preserved
loop-i-preserved g c =
    let h = c.in_ok-load_segment.ensures in
    ran_more _ _ c.loop-i.i _ _ c.loop-i.invariant h.value h.next
