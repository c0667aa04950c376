use Rattle.std.proofs.Common.{arith}
use Rattle.std.proofs.lemmas.Bool.Decides.{nat_tests}
use Rattle.blocks.specs.Blocks.{filled_block, forgotten_block, fresh, kept_at, filled, forgotten, flushed, emptied}
use Rattle.blocks.specs.Laws.{KeptWordsFollow}

pub follows : KeptWordsFollow
unfolding kept_at fresh filled filled_block forgotten forgotten_block flushed emptied
follows =
    record {
      new_none = λ b. grind (arith, nat_tests);
      fill_here = λ s a w b e. grind (arith, nat_tests);
      fill_block = λ s a w b n e. grind (arith, nat_tests);
      fill_row = λ s a w b e n. grind (arith, nat_tests);
      fill_other = λ s a w b n. grind (arith, nat_tests);
      forget_here = λ s a b e. grind (arith, nat_tests);
      forget_other = λ s a b n. grind (arith, nat_tests);
      alone = λ s a b w e r n. grind (arith, nat_tests);
      flush_none = λ s b. grind (arith, nat_tests);
    }
