-- The built-in image is taken: the verdict computes.
use Rattle.std.proofs.Common.{refl}
use Rattle.image.specs.Below.{every, some}
use Rattle.image.specs.Fields.{half_at, word_at}
use Rattle.image.specs.Verdict.{verdict}
use Rattle.image.proofs.holder.ImageHolder.new.Goals as goal

pub new-requires : goal.new-requires
unfolding verdict every some half_at word_at
new-requires c = refl
