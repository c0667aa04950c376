-- The fields of each format, and a word as the sum of its fields.
use Rattle.std.proofs.Common.{◌≡◌, ℕ, ◌+◌, ◌-◌, ◌*◌, ◌/◌, ◌%◌, ◌^◌, ◌<◌, true, false, if◌then◌else◌, ltb, sym, refl, ap, ◌∙◌, inl, inr, ⊎_elim, mod-eq_of_lt, add_comm, arith}
use Rattle.std.proofs.lemmas.Nat.{mod-pow-add, mod-mul-add}
use Rattle.std.proofs.lemmas.Bool.{cases_lt, lt-ltb, le-ltb}
use Rattle.isa.specs.Fields.{bits, sign_extended, opcode, rd, f3, rs1, rs2, f7, csr, imm_i, imm_s, imm_b, imm_u, imm_j}
use Rattle.isa_laws.specs.Encoding.{format_r, format_i, format_s, format_b, format_u, format_j}
use Rattle.isa_laws.specs.EncodingLaws.{Short}

-- ---- what stands in the fields of each format

-- an even number by the parts that a format takes of it
parts-B : (v : ℕ) → v % 2 ≡ 0 → v / 2 ^ 12 % 2 ^ 1 * 2 ^ 12 + v / 2 ^ 11 % 2 ^ 1 * 2 ^ 11 + v / 2 ^ 5 % 2 ^ 6 * 2 ^ 5 + v / 2 ^ 1 % 2 ^ 4 * 2 ≡ v % 2 ^ 13
parts-B v h = omega (arith, mod-pow-add v 1 12, mod-pow-add v 1 11, mod-pow-add v 6 5, mod-pow-add v 4 1)

parts-J : (v : ℕ) → v % 2 ≡ 0 → v / 2 ^ 20 % 2 ^ 1 * 2 ^ 20 + v / 2 ^ 12 % 2 ^ 8 * 2 ^ 12 + v / 2 ^ 11 % 2 ^ 1 * 2 ^ 11 + v / 2 ^ 1 % 2 ^ 10 * 2 ≡ v % 2 ^ 21
parts-J v h = omega (arith, mod-pow-add v 1 20, mod-pow-add v 8 12, mod-pow-add v 1 11, mod-pow-add v 10 1)

module _ (o d f s : ℕ) (ho : o < 128) (hd : d < 32) (hf : f < 8) (hs : s < 32) where
  pub fields-R : (t g : ℕ) → t < 32 → g < 128 → let w = format_r o d f s t g in (opcode w ≡ o) × (rd w ≡ d) × (f3 w ≡ f) × (rs1 w ≡ s) × (rs2 w ≡ t) × (f7 w ≡ g) × (w < 2 ^ 32)
  fields-R t g ht hg = (omega arith, omega arith, omega arith, omega arith, omega arith, omega arith, omega arith)

  pub fields-I : (v : ℕ) → let w = format_i o d f s v in (opcode w ≡ o) × (rd w ≡ d) × (f3 w ≡ f) × (rs1 w ≡ s) × (csr w ≡ v % 2 ^ 12) × (w < 2 ^ 32)
  fields-I v = (omega arith, omega arith, omega arith, omega arith, omega arith, omega arith)

module _ (o f s t : ℕ) (ho : o < 128) (hf : f < 8) (hs : s < 32) (ht : t < 32) where
  pub fields-S : (v : ℕ) → let w = format_s o f s t v in (opcode w ≡ o) × (f3 w ≡ f) × (rs1 w ≡ s) × (rs2 w ≡ t) × (bits w 25 7 * 2 ^ 5 + bits w 7 5 ≡ v % 2 ^ 12) × (w < 2 ^ 32)
  fields-S v =
      let e = fields-R o (v / 2 ^ 0 % 2 ^ 5) f s ho (omega arith) hf hs t (v / 2 ^ 5 % 2 ^ 7) ht (omega arith) in
      (e.0, e.2, e.3, e.4, omega (arith, e.1, e.5), e.6)

  bits-B : (p q r u : ℕ) → p < 2 → q < 16 → r < 64 → u < 2 → let w = o + p * 2 ^ 7 + q * 2 ^ 8 + f * 2 ^ 12 + s * 2 ^ 15 + t * 2 ^ 20 + r * 2 ^ 25 + u * 2 ^ 31 in
      (opcode w ≡ o) × (f3 w ≡ f) × (rs1 w ≡ s) × (rs2 w ≡ t) × (bits w 31 1 ≡ u) × (bits w 7 1 ≡ p) × (bits w 25 6 ≡ r) × (bits w 8 4 ≡ q) × (w < 2 ^ 32)
  bits-B p q r u hp hq hr hu = (omega arith, omega arith, omega arith, omega arith, omega arith, omega arith, omega arith, omega arith, omega arith)

  pub fields-B : (v : ℕ) → v % 2 ≡ 0 → let w = format_b o f s t v in (opcode w ≡ o) × (f3 w ≡ f) × (rs1 w ≡ s) × (rs2 w ≡ t) × (bits w 31 1 * 2 ^ 12 + bits w 7 1 * 2 ^ 11 + bits w 25 6 * 2 ^ 5 + bits w 8 4 * 2 ≡ v % 2 ^ 13) × (w < 2 ^ 32)
  fields-B v h =
      let e = bits-B (v / 2 ^ 11 % 2 ^ 1) (v / 2 ^ 1 % 2 ^ 4) (v / 2 ^ 5 % 2 ^ 6) (v / 2 ^ 12 % 2 ^ 1) (omega arith) (omega arith) (omega arith) (omega arith) in
      (e.0, e.1, e.2, e.3, cc (e.4, e.5, e.6, e.7, parts-B v h), e.8)

module _ (o d : ℕ) (ho : o < 128) (hd : d < 32) where
  pub fields-U : (v : ℕ) → v < 2 ^ 32 → v % 2 ^ 12 ≡ 0 → let w = format_u o d v in (opcode w ≡ o) × (rd w ≡ d) × (imm_u w ≡ v) × (w < 2 ^ 32)
  fields-U v h e = (omega arith, omega arith, omega arith, omega arith)

  bits-J : (p q r u : ℕ) → p < 256 → q < 2 → r < 1024 → u < 2 → let w = o + d * 2 ^ 7 + p * 2 ^ 12 + q * 2 ^ 20 + r * 2 ^ 21 + u * 2 ^ 31 in
      (opcode w ≡ o) × (rd w ≡ d) × (bits w 31 1 ≡ u) × (bits w 12 8 ≡ p) × (bits w 20 1 ≡ q) × (bits w 21 10 ≡ r) × (w < 2 ^ 32)
  bits-J p q r u hp hq hr hu = (omega arith, omega arith, omega arith, omega arith, omega arith, omega arith, omega arith)

  pub fields-J : (v : ℕ) → v % 2 ≡ 0 → let w = format_j o d v in (opcode w ≡ o) × (rd w ≡ d) × (bits w 31 1 * 2 ^ 20 + bits w 12 8 * 2 ^ 12 + bits w 20 1 * 2 ^ 11 + bits w 21 10 * 2 ≡ v % 2 ^ 21) × (w < 2 ^ 32)
  fields-J v h =
      let e = bits-J (v / 2 ^ 12 % 2 ^ 8) (v / 2 ^ 11 % 2 ^ 1) (v / 2 ^ 1 % 2 ^ 10) (v / 2 ^ 20 % 2 ^ 1) (omega arith) (omega arith) (omega arith) (omega arith) in
      (e.0, e.1, cc (e.2, e.3, e.4, e.5, parts-J v h), e.6)

-- ---- a sign is extended by a multiple of twice its bit's value m, which divides 2 ^ 32

module _ (m c : ℕ) (h : 2 ^ 32 ≡ c * (2 * m) + 2 * m) where
  extension : (n : ℕ) → (e : ℕ) × (sign_extended m n ≡ n + e * (2 * m))
  extension n = elim (ltb n m) as (λ b. (e : ℕ) × ((if b then n else n + (2 ^ 32 - 2 * m)) ≡ n + e * (2 * m))) [ true ↦ (0, omega arith) | false ↦ (c, omega arith) ]

  -- a short number is the extension of its low bits
  pub short-extends : (v : ℕ) → Short m v → sign_extended m (v % (2 * m)) ≡ v
  short-extends v (inl k) =
      let e : v % (2 * m) ≡ v = mod-eq_of_lt (omega arith) in
      rw (e, lt-ltb v m k)
  short-extends v (inr k) =
      let n = v - c * (2 * m) in
      let e : v % (2 * m) ≡ n = ap (λ x. x % (2 * m)) (omega (arith, k.0, k.1)) ∙ mod-mul-add c (2 * m) n (omega (arith, k.0, k.1)) in
      rw (e, le-ltb n m (omega (arith, k.0, k.1))) (omega (arith, k.0, k.1))

  -- and an extension is short
  pub is-short : (n : ℕ) → n < 2 * m → Short m (sign_extended m n)
  is-short n k =
      ⊎_elim
      (λ lt. rw (lt-ltb n m lt) (inl lt))
      (λ ge. rw (le-ltb n m ge) (inr (omega arith, omega arith)))
      (cases_lt n m)

-- ---- a word is the sum of its parts: each step adds the field from bit i on to what is below

more : (w i n a : ℕ) → a ≡ w % 2 ^ i → a + bits w i n * 2 ^ i ≡ w % 2 ^ (n + i)
more w i n a e = add_comm a (bits w i n * 2 ^ i) ∙ ap (λ x. bits w i n * 2 ^ i + x) e ∙ sym (mod-pow-add w n i)

-- what an extension's parts are
back-B : (p q r u c : ℕ) → p < 2 → q < 16 → r < 64 → u < 2 → let v = u * 2 ^ 12 + p * 2 ^ 11 + r * 2 ^ 5 + q * 2 + c * 2 ^ 13 in
    (v / 2 ^ 11 % 2 ^ 1 ≡ p) × (v / 2 ^ 1 % 2 ^ 4 ≡ q) × (v / 2 ^ 5 % 2 ^ 6 ≡ r) × (v / 2 ^ 12 % 2 ^ 1 ≡ u) × (v % 2 ≡ 0)
back-B p q r u c hp hq hr hu = (omega arith, omega arith, omega arith, omega arith, omega arith)

back-J : (p q r u c : ℕ) → p < 256 → q < 2 → r < 1024 → u < 2 → let v = u * 2 ^ 20 + p * 2 ^ 12 + q * 2 ^ 11 + r * 2 + c * 2 ^ 21 in
    (v / 2 ^ 12 % 2 ^ 8 ≡ p) × (v / 2 ^ 11 % 2 ^ 1 ≡ q) × (v / 2 ^ 1 % 2 ^ 10 ≡ r) × (v / 2 ^ 20 % 2 ^ 1 ≡ u) × (v % 2 ≡ 0)
back-J p q r u c hp hq hr hu = (omega arith, omega arith, omega arith, omega arith, omega arith)

module _ (w : ℕ) where
  extension-B : (c : ℕ) × (imm_b w ≡ bits w 31 1 * 2 ^ 12 + bits w 7 1 * 2 ^ 11 + bits w 25 6 * 2 ^ 5 + bits w 8 4 * 2 + c * 2 ^ 13)
  extension-B = extension (2 ^ 12) (2 ^ 19 - 1) refl (bits w 31 1 * 2 ^ 12 + bits w 7 1 * 2 ^ 11 + bits w 25 6 * 2 ^ 5 + bits w 8 4 * 2)

  extension-J : (c : ℕ) × (imm_j w ≡ bits w 31 1 * 2 ^ 20 + bits w 12 8 * 2 ^ 12 + bits w 20 1 * 2 ^ 11 + bits w 21 10 * 2 + c * 2 ^ 21)
  extension-J = extension (2 ^ 20) (2 ^ 11 - 1) refl (bits w 31 1 * 2 ^ 20 + bits w 12 8 * 2 ^ 12 + bits w 20 1 * 2 ^ 11 + bits w 21 10 * 2)

  parts-of-B : let v = imm_b w in (v / 2 ^ 11 % 2 ^ 1 ≡ bits w 7 1) × (v / 2 ^ 1 % 2 ^ 4 ≡ bits w 8 4) × (v / 2 ^ 5 % 2 ^ 6 ≡ bits w 25 6) × (v / 2 ^ 12 % 2 ^ 1 ≡ bits w 31 1) × (v % 2 ≡ 0)
  parts-of-B = let c = extension-B in rw c.1 (back-B (bits w 7 1) (bits w 8 4) (bits w 25 6) (bits w 31 1) c.0 (omega arith) (omega arith) (omega arith) (omega arith))

  parts-of-J : let v = imm_j w in (v / 2 ^ 12 % 2 ^ 8 ≡ bits w 12 8) × (v / 2 ^ 11 % 2 ^ 1 ≡ bits w 20 1) × (v / 2 ^ 1 % 2 ^ 10 ≡ bits w 21 10) × (v / 2 ^ 20 % 2 ^ 1 ≡ bits w 31 1) × (v % 2 ≡ 0)
  parts-of-J = let c = extension-J in rw c.1 (back-J (bits w 12 8) (bits w 20 1) (bits w 21 10) (bits w 31 1) c.0 (omega arith) (omega arith) (omega arith) (omega arith))

  -- the immediates are in range
  pub short-I : Short (2 ^ 11) (imm_i w)
  short-I = is-short (2 ^ 11) (2 ^ 20 - 1) refl (bits w 20 12) (omega arith)

  pub short-S : Short (2 ^ 11) (imm_s w)
  short-S = is-short (2 ^ 11) (2 ^ 20 - 1) refl (bits w 25 7 * 2 ^ 5 + bits w 7 5) (omega arith)

  pub short-B : Short (2 ^ 12) (imm_b w) × (imm_b w % 2 ≡ 0)
  short-B = (is-short (2 ^ 12) (2 ^ 19 - 1) refl (bits w 31 1 * 2 ^ 12 + bits w 7 1 * 2 ^ 11 + bits w 25 6 * 2 ^ 5 + bits w 8 4 * 2) (omega arith), parts-of-B.4)

  pub short-J : Short (2 ^ 20) (imm_j w) × (imm_j w % 2 ≡ 0)
  short-J = (is-short (2 ^ 20) (2 ^ 11 - 1) refl (bits w 31 1 * 2 ^ 20 + bits w 12 8 * 2 ^ 12 + bits w 20 1 * 2 ^ 11 + bits w 21 10 * 2) (omega arith), parts-of-J.4)

module _ (w : ℕ) (h : w < 2 ^ 32) where
  all_of : w % 2 ^ 32 ≡ w
  all_of = mod-eq_of_lt h

  low : opcode w ≡ w % 2 ^ 7
  low = omega arith

  pub whole-R : format_r (opcode w) (rd w) (f3 w) (rs1 w) (rs2 w) (f7 w) ≡ w
  whole-R = more w 25 7 _ (more w 20 5 _ (more w 15 5 _ (more w 12 3 _ (more w 7 5 _ low)))) ∙ all_of

  sum-I : opcode w + rd w * 2 ^ 7 + f3 w * 2 ^ 12 + rs1 w * 2 ^ 15 + csr w * 2 ^ 20 ≡ w
  sum-I = more w 20 12 _ (more w 15 5 _ (more w 12 3 _ (more w 7 5 _ low))) ∙ all_of

  -- with any immediate whose low twelve bits are those of the word
  pub whole-I : (v : ℕ) → v % 2 ^ 12 ≡ csr w → format_i (opcode w) (rd w) (f3 w) (rs1 w) v ≡ w
  whole-I v e = let k : v / 2 ^ 0 % 2 ^ 12 ≡ csr w = omega arith in cc (k, sum-I)

  pub low-I : imm_i w % 2 ^ 12 ≡ csr w
  low-I = let c = extension (2 ^ 11) (2 ^ 20 - 1) refl (bits w 20 12) in rw c.1 (omega arith)

  pub whole-S : format_s (opcode w) (f3 w) (rs1 w) (rs2 w) (imm_s w) ≡ w
  whole-S =
      let c = extension (2 ^ 11) (2 ^ 20 - 1) refl (bits w 25 7 * 2 ^ 5 + bits w 7 5) in
      let p : imm_s w / 2 ^ 0 % 2 ^ 5 ≡ rd w = rw c.1 (omega arith) in
      let q : imm_s w / 2 ^ 5 % 2 ^ 7 ≡ f7 w = rw c.1 (omega arith) in
      cc (p, q, whole-R)

  sum-B : opcode w + bits w 7 1 * 2 ^ 7 + bits w 8 4 * 2 ^ 8 + f3 w * 2 ^ 12 + rs1 w * 2 ^ 15 + rs2 w * 2 ^ 20 + bits w 25 6 * 2 ^ 25 + bits w 31 1 * 2 ^ 31 ≡ w
  sum-B = more w 31 1 _ (more w 25 6 _ (more w 20 5 _ (more w 15 5 _ (more w 12 3 _ (more w 8 4 _ (more w 7 1 _ low)))))) ∙ all_of

  pub whole-B : format_b (opcode w) (f3 w) (rs1 w) (rs2 w) (imm_b w) ≡ w
  whole-B = let e = parts-of-B w in cc (e.0, e.1, e.2, e.3, sum-B)

  sum-U : opcode w + rd w * 2 ^ 7 + bits w 12 20 * 2 ^ 12 ≡ w
  sum-U = more w 12 20 _ (more w 7 5 _ low) ∙ all_of

  pub whole-U : format_u (opcode w) (rd w) (imm_u w) ≡ w
  whole-U = let e : imm_u w / 2 ^ 12 % 2 ^ 20 ≡ bits w 12 20 = omega arith in cc (e, sum-U)

  sum-J : opcode w + rd w * 2 ^ 7 + bits w 12 8 * 2 ^ 12 + bits w 20 1 * 2 ^ 20 + bits w 21 10 * 2 ^ 21 + bits w 31 1 * 2 ^ 31 ≡ w
  sum-J = more w 31 1 _ (more w 21 10 _ (more w 20 1 _ (more w 12 8 _ (more w 7 5 _ low)))) ∙ all_of

  pub whole-J : format_j (opcode w) (rd w) (imm_j w) ≡ w
  whole-J = let e = parts-of-J w in cc (e.0, e.1, e.2, e.3, sum-J)
