use Rattle.std.proofs.Common.{◌==◌, length, take, unwrap_or, ap, ◌∙◌, rules, tests}
use Rattle.std.proofs.lemmas.Iterator.{YieldsList-from_slice}
use Rattle.std.proofs.lemmas.Iterator.Search.{position_from_yields_List}
use Rattle.image.proofs.Tests.{place_or_length}
use Rattle.image.proofs.symbol.up_to_zero.Goals as goal

pub returns : goal.returns
returns c =
    let s = c.args.rest.now in
    let p = position_from_yields_List (λ b. b == 0) _ _ c.position.result c.position.ensures.ran (YieldsList-from_slice s cc) (λ x b q k. search (rules, tests)) in
    ap (λ n. take n s) (c.unwrap_or-n.ensures ∙ ap (λ r. unwrap_or r (length s)) p ∙ place_or_length (λ b. b == 0) s)
