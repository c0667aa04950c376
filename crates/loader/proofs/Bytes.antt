-- The bytes of steady words before and after a store of one byte, over any kind of bus that keeps the rules.
use Rattle.std.proofs.Common.{◌≡◌, ℕ, zero, suc, ◌%◌, ◌<◌, true, ◌≢◌, is_ok, Ok, Result, sym, refl, ap, ◌∙◌, ⊎_elim, arith}
use Rattle.std.proofs.lemmas.Bool.{cases_eq}
use Rattle.bus.specs.declared.access.Width.TheVariants.{Byte}
use Rattle.bus.specs.Kind.{Kind, Rules, word_of, part, patch}
use Rattle.bus.specs.Numbers.{FaultNumbers}

four : (P : ℕ → Type 0) → P 0 → P 1 → P 2 → P 3 → (k : ℕ) → k < 4 → P k
four P a b c d zero h = a
four P a b c d (suc zero) h = b
four P a b c d (suc (suc zero)) h = c
four P a b c d (suc (suc (suc zero))) h = d
four P a b c d (suc (suc (suc (suc k)))) h = absurd (omega arith)

-- a byte put into a word is read back, and the others stay
byte_put : (w v k : ℕ) → k < 4 → part (patch w k Byte v) k Byte ≡ v % 256
byte_put w v = four (λ k. part (patch w k Byte v) k Byte ≡ v % 256) (omega arith) (omega arith) (omega arith) (omega arith)

abbrev Apart : ℕ → ℕ → ℕ → ℕ → Type 0
Apart w v k j = j ≢ k → part (patch w k Byte v) j Byte ≡ part w j Byte

byte-apart : (w v k : ℕ) → k < 4 → (j : ℕ) → j < 4 → Apart w v k j
byte-apart w v =
    four (λ k. (j : ℕ) → j < 4 → Apart w v k j)
    (four (Apart w v 0) (λ ne. absurd (ne refl)) (λ ne. omega arith) (λ ne. omega arith) (λ ne. omega arith))
    (four (Apart w v 1) (λ ne. omega arith) (λ ne. absurd (ne refl)) (λ ne. omega arith) (λ ne. omega arith))
    (four (Apart w v 2) (λ ne. omega arith) (λ ne. omega arith) (λ ne. absurd (ne refl)) (λ ne. omega arith))
    (four (Apart w v 3) (λ ne. omega arith) (λ ne. omega arith) (λ ne. omega arith) (λ ne. absurd (ne refl)))

module _ (K : Kind) (rules : Rules K) where
  -- the byte at an address, and whether it lies in a steady word
  abbrev pub byte_at : K.Meaning → ℕ → Result ℕ FaultNumbers
  byte_at m a = (K.load m a Byte).value

  abbrev pub Steady : K.Meaning → ℕ → Type 0
  Steady m a = K.steady m (word_of a) ≡ true

  byte_of : (m : K.Meaning) (a w : ℕ) → Steady m a → K.fetch m (word_of a) ≡ Ok w → byte_at m a ≡ Ok (part w (a % 4) Byte)
  byte_of m a w s f = rules.load_answers_its_bytes m a Byte w s (omega arith) f

  module _ (m : K.Meaning) (a v : ℕ) where
    abbrev after : K.Meaning
    after = (K.store m a Byte v).next

    stays-steady : (b : ℕ) → Steady m b → Steady after b
    stays-steady b s = rules.store_keeps_steady m a Byte v (word_of b) ∙ s

    pub stored_here : is_ok (K.store m a Byte v).value ≡ true → Steady m a → byte_at after a ≡ Ok (v % 256)
    stored_here ok s =
        let f = rules.steady_word_is_fetched m (word_of a) s in
        byte_of after a _ (stays-steady a s) (rules.store_replaces_its_bytes m a Byte v f.0 s ok f.1)
        ∙ ap Ok (byte_put f.0 v (a % 4) (omega arith))

    pub stored_there : is_ok (K.store m a Byte v).value ≡ true → (b : ℕ) → Steady m b → b ≢ a → byte_at after b ≡ byte_at m b
    stored_there ok b s ne =
        let f = rules.steady_word_is_fetched m (word_of b) s in
        ⊎_elim
        (λ (same : word_of a ≡ word_of b).
        let t : Steady m a = rw same s in
        let g = rules.store_replaces_its_bytes m a Byte v f.0 t ok (rw same f.1) in
        byte_of after b _ (stays-steady b s) (rw same at g)
        ∙ ap Ok (byte-apart f.0 v (a % 4) (omega arith) (b % 4) (omega arith) (λ e. ne (omega arith)))
        ∙ sym (byte_of m b f.0 s f.1))
        (λ other.
        byte_of after b f.0 (stays-steady b s) (rules.store_keeps_other_words m a Byte v (word_of b) s other ∙ f.1)
        ∙ sym (byte_of m b f.0 s f.1))
        (cases_eq (word_of a) (word_of b))
