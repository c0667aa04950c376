use Rattle.std.proofs.Common.{◌≡◌, ◌*ℤ◌, w32, w64, to_z, of_z, rules}
use Rattle.std.proofs.lemmas.Int.{to_z-of_z}
use Rattle.isa.proofs.alu.mulh.Goals as goal

pub returns : goal.returns
returns c =
    let x : to_z w64 (of_z w64 c.from.result) ≡ to_z w32 c.args.a = search rules in
    let y : to_z w64 (of_z w64 c.from-2.result) ≡ to_z w32 c.args.b = search rules in
    let e = to_z-of_z w64 (to_z w64 (of_z w64 c.from.result) *ℤ to_z w64 (of_z w64 c.from-2.result)) (search rules) in
    cc
