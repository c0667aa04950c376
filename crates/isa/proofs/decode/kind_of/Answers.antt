use Rattle.std.proofs.Common.{◌≡◌, ◌+◌, ◌*◌, arith}
use Rattle.isa.specs.Fields.{opcode, f3, f7}
use Rattle.isa.proofs.Places.{by_class}
use Rattle.isa.proofs.decode.kind_of.Goals as goal

pub returns : goal.returns
returns c =
    let w = c.args.word in
    let o : c.bits-2.result * 4 + 3 ≡ opcode w = omega arith in
    cc (by_class (opcode w) (f3 w) (f7 w))
