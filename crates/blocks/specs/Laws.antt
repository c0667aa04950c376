-- What is kept at an address after each change of the blocks.
use Rattle.std.specs.Prelude.{◌≡◌, ℕ, ◌/◌, ◌≢◌, Some, None}
use Rattle.blocks.specs.Blocks.{Blocks, row_of, tag_of, fresh, kept_at, filled, forgotten, flushed}

pub record KeptWordsFollow : Type 0 where
  -- at first nothing is kept
  pub new_none : (b : ℕ) → kept_at fresh b ≡ None
  -- a word that is kept is found at every byte of it
  pub fill_here : (s : Blocks) (a w b : ℕ) → b / 4 ≡ a / 4 → kept_at (filled s a w) b ≡ Some w
  -- the other words of its block, and those of other rows, stay; another block of its row goes
  pub fill_block : (s : Blocks) (a w b : ℕ) → b / 4 ≢ a / 4 → b / 32 ≡ a / 32 → kept_at (filled s a w) b ≡ kept_at s b
  pub fill_row : (s : Blocks) (a w b : ℕ) → row_of b ≡ row_of a → tag_of b ≢ tag_of a → kept_at (filled s a w) b ≡ None
  pub fill_other : (s : Blocks) (a w b : ℕ) → row_of b ≢ row_of a → kept_at (filled s a w) b ≡ kept_at s b
  -- a word is forgotten by any byte of it, and no other word is
  pub forget_here : (s : Blocks) (a b : ℕ) → b / 4 ≡ a / 4 → kept_at (forgotten s a) b ≡ None
  pub forget_other : (s : Blocks) (a b : ℕ) → b / 4 ≢ a / 4 → kept_at (forgotten s a) b ≡ kept_at s b
  -- a row keeps words of one block at a time
  pub alone : (s : Blocks) (a b w : ℕ) → kept_at s a ≡ Some w → row_of b ≡ row_of a → tag_of b ≢ tag_of a → kept_at s b ≡ None
  -- after a flush nothing is kept
  pub flush_none : (s : Blocks) (b : ℕ) → kept_at (flushed s) b ≡ None
