-- What `{:08x}` writes of a word.
use Rattle.std.proofs.Common.{rules}
use Rattle.std.specs.Prelude.{◌≡◌, ℕ, ◌-◌, ◌^◌, [], false}
use Rattle.std.specs.Fmt.{char_count, digits, format_spec, padded_integral}
use Rattle.bus.specs.Text.{word_text}

pub zeros_first : (n : ℕ) → padded_integral (format_spec 32 0 4 8 (2 ^ 64 - 1)) false [] (digits 16 false n) ≡ word_text n
unfolding padded_integral char_count
zeros_first n = search rules
