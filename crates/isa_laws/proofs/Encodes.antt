-- A known word is the encoding of what it decodes to, and its operands fit.
use Rattle.std.proofs.Common.{◌≡◌, ℕ, ◌+◌, ◌%◌, ◌^◌, ◌<◌, true, if◌then◌else◌, eqb, sym, refl, ap, ◌∙◌, ⊎_elim, arith}
use Rattle.std.proofs.lemmas.Nat.{mod_below}
use Rattle.std.proofs.lemmas.Bool.{eqb-true, eq-eqb, ne_eqb, cases_Bool, cond_both}
use Rattle.isa.specs.declared.instruction.Instruction.{Instruction}
use Rattle.isa.specs.declared.instruction.Instruction.TheVariants.{Unknown}
use Rattle.isa.specs.declared.kind.Kind.{Kind}
use Rattle.isa.specs.declared.kind.Kind.TheVariants as k
use Rattle.isa.specs.Decode.{word_kind, imm_of, formed, system_of}
use Rattle.isa.specs.Fields.{bits, opcode, rd, f3, rs1, rs2, f7, csr, imm_i}
use Rattle.isa_laws.specs.Encoding.{Form, twelve, five, none, Code, code_of, with_immediate, encoded, format_r, format_i, condition_code, load_code, store_code, csr_code}
use Rattle.isa_laws.specs.EncodingLaws.{Encodable, ImmediateFits, counted, EncodeInvertsDecode, OperandsFit}
use Rattle.isa_laws.proofs.Formats.{whole-R, whole-I, low-I, whole-S, whole-B, whole-U, whole-J, short-I, short-S, short-B, short-J}
use Rattle.isa_laws.proofs.Lines.{nowhere, immediate_line, shift_line, line_of, met, line-met, on_line, asked}

-- of another opcode than the fences', every bit counts
all-counts : (w o : ℕ) → opcode w ≡ o → (o ≡ 0x0f → ⊥) → counted w ≡ w
all-counts w o e n =
    let h : w % 2 ^ 7 ≡ 0x0f → ⊥ = λ q. n (omega (arith, e, q)) in
    rw (ne_eqb (w % 2 ^ 7) 0x0f h)

pick : (w a : ℕ) (x y : Instruction) → encoded x ≡ a → ((y ≡ Unknown → ⊥) → encoded y ≡ w) → ((if eqb w a then x else y) ≡ Unknown → ⊥) → encoded (if eqb w a then x else y) ≡ w
pick w a x y e f n =
    ⊎_elim
    (λ t. rw t (e ∙ sym (eqb-true w a t)))
    (λ t. rw t (f (rw t at n)))
    (cases_Bool (eqb w a))

system : (w : ℕ) → (system_of w ≡ Unknown → ⊥) → encoded (system_of w) ≡ w
system w = pick w 0x00000073 _ _ refl (pick w 0x00100073 _ _ refl (pick w 0x30200073 _ _ refl (pick w 0x10500073 _ _ refl (λ n. absurd (n refl)))))

-- no word is on the line of no opcode
no-line : {X : Type 0} (w : ℕ) → met nowhere (opcode w) (f3 w) (f7 w) ≡ true → X
no-line w e = let p = on_line 128 true true (opcode w) e in absurd (omega (arith, p.0))

-- ---- the word from the instruction, by kind
module _ (w : ℕ) (h : w < 2 ^ 32) where
  abbrev On : Kind → Type 0
  On c = met (line_of c) (opcode w) (f3 w) (f7 w) ≡ true

  as-I : (o f v : ℕ) → v % 2 ^ 12 ≡ csr w → opcode w ≡ o → f3 w ≡ f → (o ≡ 0x0f → ⊥) → format_i o (rd w) f (rs1 w) v ≡ counted w
  as-I o f v e p q n = cc (whole-I w h v e, all-counts w o p n)

  as-R : (o f g : ℕ) → opcode w ≡ o → f3 w ≡ f → f7 w ≡ g → (o ≡ 0x0f → ⊥) → format_r o (rd w) f (rs1 w) (rs2 w) g ≡ counted w
  as-R o f g p q r n = cc (whole-R w h, all-counts w o p n)

  low-csr : csr w % 2 ^ 12 ≡ csr w
  low-csr = omega arith

  immediate-back : (m : Form) (c : Code) (t : Kind) → met (immediate_line m c t) (opcode w) (f3 w) (f7 w) ≡ true → with_immediate m c.f3 c.f7 (rd w) (rs1 w) (imm_i w) ≡ counted w
  immediate-back twelve c t e = let p = on_line 0x13 _ true (opcode w) e in as-I 0x13 c.f3 (imm_i w) (low-I w h) p.0 (asked c.f3 (f3 w) p.1) (λ z. omega arith)
  immediate-back five c t e = no-line w e
  immediate-back none c t e = no-line w e

  shift_back : (m : Form) (c : Code) (t : Kind) → met (shift_line m c t) (opcode w) (f3 w) (f7 w) ≡ true → with_immediate m c.f3 c.f7 (rd w) (rs1 w) (rs2 w) ≡ counted w
  shift_back twelve c t e = no-line w e
  shift_back five c t e = let p = on_line 0x13 _ _ (opcode w) e in as-R 0x13 c.f3 c.f7 p.0 (asked c.f3 (f3 w) p.1) (asked c.f7 (f7 w) p.2) (λ z. omega arith)
  shift_back none c t e = no-line w e

  back : (c : Kind) → On c → (formed c w (imm_of c w) ≡ Unknown → ⊥) → encoded (formed c w (imm_of c w)) ≡ counted w
  back k.Lui e n = let p = on_line 0x37 true true (opcode w) e in cc (p.0, whole-U w h, all-counts w 0x37 p.0 (λ z. omega arith))
  back k.Auipc e n = let p = on_line 0x17 true true (opcode w) e in cc (p.0, whole-U w h, all-counts w 0x17 p.0 (λ z. omega arith))
  back k.Jal e n = let p = on_line 0x6f true true (opcode w) e in cc (p.0, whole-J w h, all-counts w 0x6f p.0 (λ z. omega arith))
  back k.Jalr e n = let p = on_line 0x67 _ true (opcode w) e in as-I 0x67 0 (imm_i w) (low-I w h) p.0 (asked 0 (f3 w) p.1) (λ z. omega arith)
  back (k.Branch b) e n = let p = on_line 0x63 _ true (opcode w) e in cc (p.0, asked (condition_code b) (f3 w) p.1, whole-B w h, all-counts w 0x63 p.0 (λ z. omega arith))
  back (k.Load l) e n = let p = on_line 0x03 _ true (opcode w) e in as-I 0x03 (load_code l) (imm_i w) (low-I w h) p.0 (asked (load_code l) (f3 w) p.1) (λ z. omega arith)
  back (k.Store s) e n = let p = on_line 0x23 _ true (opcode w) e in cc (p.0, asked (store_code s) (f3 w) p.1, whole-S w h, all-counts w 0x23 p.0 (λ z. omega arith))
  back (k.Immediate o) e n = immediate-back (code_of o).form (code_of o) (k.Immediate o) e
  back (k.Shift o) e n = shift_back (code_of o).form (code_of o) (k.Shift o) e
  back (k.Op o) e n = let p = on_line 0x33 _ _ (opcode w) e in as-R 0x33 (code_of o).f3 (code_of o).f7 p.0 (asked (code_of o).f3 (f3 w) p.1) (asked (code_of o).f7 (f7 w) p.2) (λ z. omega arith)
  back (k.Csr o) e n = let p = on_line 0x73 _ true (opcode w) e in as-I 0x73 (csr_code o) (csr w) low-csr p.0 (asked (csr_code o) (f3 w) p.1) (λ z. omega arith)
  back (k.CsrImmediate o) e n = let p = on_line 0x73 _ true (opcode w) e in as-I 0x73 (4 + csr_code o) (csr w) low-csr p.0 (asked (4 + csr_code o) (f3 w) p.1) (λ z. omega arith)
  back k.Fence e n = let p = on_line 0x0f _ true (opcode w) e in rw (eq-eqb (w % 2 ^ 7) 0x0f (omega (arith, p.0))) (omega (arith, p.0, asked 0 (f3 w) p.1))
  back k.FenceI e n = let p = on_line 0x0f _ true (opcode w) e in rw (eq-eqb (w % 2 ^ 7) 0x0f (omega (arith, p.0))) (omega (arith, p.0, asked 1 (f3 w) p.1))
  back k.System e n = let p = on_line 0x73 _ true (opcode w) e in system w n ∙ sym (all-counts w 0x73 p.0 (λ z. omega arith))
  back k.Unknown e n = absurd (n refl)

pub encodes : EncodeInvertsDecode
encodes w h n =
    ⊎_elim
    (λ e. absurd (n (ap (λ c. formed c w (imm_of c w)) e)))
    (λ e. back w h (word_kind w) e n)
    (line-met (opcode w) (f3 w) (f7 w))

-- ---- the operands fit
module _ (w : ℕ) where
  register : (i : ℕ) → bits w i 5 < 32
  register i = mod_below _ 32 (omega arith)

  csr-fits : csr w < 2 ^ 12
  csr-fits = mod_below _ (2 ^ 12) (omega arith)

  value-fits : (m : Form) (c : Code) (t : Kind) → met (immediate_line m c t) (opcode w) (f3 w) (f7 w) ≡ true → ImmediateFits m (imm_i w)
  value-fits twelve c t e = short-I w
  value-fits five c t e = no-line w e
  value-fits none c t e = no-line w e

  amount-fits : (m : Form) (c : Code) (t : Kind) → met (shift_line m c t) (opcode w) (f3 w) (f7 w) ≡ true → ImmediateFits m (rs2 w)
  amount-fits twelve c t e = no-line w e
  amount-fits five c t e = register 20
  amount-fits none c t e = no-line w e

  system-fits : (system_of w ≡ Unknown → ⊥) → Encodable (system_of w)
  system-fits =
      let P : Instruction → Type 0 = λ i. (i ≡ Unknown → ⊥) → Encodable i in
      cond_both (eqb w 0x00000073) _ _ P (λ q n. tt) (λ q. cond_both (eqb w 0x00100073) _ _ P (λ q n. tt) (λ q. cond_both (eqb w 0x30200073) _ _ P (λ q n. tt) (λ q. cond_both (eqb w 0x10500073) _ _ P (λ q n. tt) (λ q n. n refl))))

  fits : (c : Kind) → met (line_of c) (opcode w) (f3 w) (f7 w) ≡ true → (formed c w (imm_of c w) ≡ Unknown → ⊥) → Encodable (formed c w (imm_of c w))
  fits k.Lui e n = (register 7, (omega arith, omega arith))
  fits k.Auipc e n = (register 7, (omega arith, omega arith))
  fits k.Jal e n = let p = short-J w in (register 7, p.0, p.1)
  fits k.Jalr e n = (register 7, register 15, short-I w)
  fits (k.Branch b) e n = let p = short-B w in (register 15, register 20, p.0, p.1)
  fits (k.Load l) e n = (register 7, register 15, short-I w)
  fits (k.Store s) e n = (register 15, register 20, short-S w)
  fits (k.Immediate o) e n = (register 7, register 15, value-fits (code_of o).form (code_of o) (k.Immediate o) e)
  fits (k.Shift o) e n = (register 7, register 15, amount-fits (code_of o).form (code_of o) (k.Shift o) e)
  fits (k.Op o) e n = (register 7, register 15, register 20)
  fits (k.Csr o) e n = (register 7, register 15, csr-fits)
  fits (k.CsrImmediate o) e n = (register 7, register 15, csr-fits)
  fits k.Fence e n = tt
  fits k.FenceI e n = tt
  fits k.System e n = system-fits n
  fits k.Unknown e n = n refl

pub operands_fit : OperandsFit
operands_fit w h n =
    ⊎_elim
    (λ e. absurd (n (ap (λ c. formed c w (imm_of c w)) e)))
    (λ e. fits w (word_kind w) e n)
    (line-met (opcode w) (f3 w) (f7 w))
