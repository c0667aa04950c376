use Rattle.isa.specs.Listing.{kind_of, sample}
use Rattle.isa.proofs.Places.{entries}
use Rattle.isa.proofs.decode.entry.Goals as goal

pub returns : goal.returns
unfolding kind_of sample
returns c = entries c.args.opcode c.args.f3 c.args.class _ _ _ c.requires.opcode c.requires.f3 c.requires.class
