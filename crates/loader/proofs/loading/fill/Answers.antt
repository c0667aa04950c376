use Rattle.std.proofs.Common.{◌≡◌, ℕ, ◌+◌, slice_index, ap, ◌∙◌, arith, rules}
use Rattle.std.proofs.lemmas.Result.{err_from_is_err_and}
use Rattle.bus.specs.declared.access.Width.TheVariants.{Byte}
use Rattle.loader.specs.Loading.{Outcome}
use Rattle.loader.proofs.Steps.{ran_more, refused}
use Rattle.loader.proofs.loading.fill.Goals as goal

pub returns-in_err-store : goal.returns-in_err-store
returns-in_err-store g c =
    let p = err_from_is_err_and c.from_residual.result c.from_residual.ensures.1 in
    let h = c.in_err-store.ensures in
    let b : c.from.result ≡ slice_index c.args.bytes.now c.loop-i.i = search rules in
    let at : ℕ → Outcome g.B.Bus.kind.Meaning = λ v. g.B.Bus.kind.store (g.B.Bus.meaning c.loop-i.bus) (c.args.address + c.loop-i.i) Byte v in
    let r = refused _ _ c.loop-i.i c.args.size _ _ _ (omega arith) c.loop-i.invariant (h.value ∙ ap (λ v. (at v).value) b) (h.next ∙ ap (λ v. (at v).next) b) in
    rw (p.1, p.2) (record { value = r.0; next = r.1 })

pub loop-i-preserved : goal.loop-i-preserved
loop-i-preserved g c =
    let h = c.in_ok-store.ensures in
    let b : c.from.result ≡ slice_index c.args.bytes.now c.loop-i.i = search rules in
    let at : ℕ → Outcome g.B.Bus.kind.Meaning = λ v. g.B.Bus.kind.store (g.B.Bus.meaning c.loop-i.bus) (c.args.address + c.loop-i.i) Byte v in
    ran_more _ _ c.loop-i.i _ _ c.loop-i.invariant (h.value ∙ ap (λ v. (at v).value) b) (h.next ∙ ap (λ v. (at v).next) b)
