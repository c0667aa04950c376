-- An encoded instruction decodes to itself.
use Rattle.std.proofs.Common.{◌≡◌, ℕ, ◌+◌, ◌-◌, ◌%◌, ◌^◌, ◌<◌, refl, ap, ◌∙◌, mod-eq_of_lt, arith}
use Rattle.isa.specs.declared.alu.AluOp.{AluOp}
use Rattle.isa.specs.declared.alu.AluOp.TheVariants.{Add, Sub, Sll, Slt, Sltu, Xor, Srl, Sra, Or, And, Mul, Mulh, Mulhsu, Mulhu, Div, Divu, Rem, Remu}
use Rattle.isa.specs.declared.branch.Condition.{Condition}
use Rattle.isa.specs.declared.branch.Condition.TheVariants.{Eq, Ne, Lt, Ge, Ltu, Geu}
use Rattle.isa.specs.declared.instruction.Instruction.{Instruction}
use Rattle.isa.specs.declared.instruction.Instruction.TheVariants.{Lui, Auipc, Jal, Jalr, Branch, Load, Store, Immediate, Op, Csr, CsrImmediate, Fence, FenceI, Ecall, Ebreak, Mret, Wfi, Unknown}
use Rattle.isa.specs.declared.kind.CsrOp.{CsrOp}
use Rattle.isa.specs.declared.kind.CsrOp.TheVariants.{Write, Set, Clear}
use Rattle.isa.specs.declared.kind.Kind.{Kind}
use Rattle.isa.specs.declared.kind.Kind.TheVariants as k
use Rattle.isa.specs.declared.kind.Load.{Load as LoadKind}
use Rattle.isa.specs.declared.kind.Load.TheVariants as load
use Rattle.isa.specs.declared.kind.Store.{Store as StoreKind}
use Rattle.isa.specs.declared.kind.Store.TheVariants as store
use Rattle.isa.specs.Decode.{word_kind, imm_of, formed, decoded}
use Rattle.isa.specs.Fields.{sign_extended, opcode, rd, f3, rs1, f7, csr}
use Rattle.isa.specs.Listing.{kind_of}
use Rattle.isa_laws.specs.Encoding.{Form, twelve, five, none, code_of, with_immediate, encoded, format_r, format_i, condition_code, load_code, store_code, csr_code}
use Rattle.isa_laws.specs.EncodingLaws.{Register, Short, ImmediateFits, DecodeInvertsEncode, FencesIgnoreFields}
use Rattle.isa_laws.proofs.Formats.{fields-R, fields-I, fields-S, fields-B, fields-U, fields-J, short-extends}

-- ---- each code has three bits, and the listing has its kind there, whatever stands in the fields that it does not ask for

abbrev Row : ℕ → ℕ → Kind → Type 0
Row o f c = (f < 8) × ((g : ℕ) → kind_of o f g ≡ c)

upper-rows : (f g : ℕ) → (kind_of 0x37 f g ≡ k.Lui) × (kind_of 0x17 f g ≡ k.Auipc) × (kind_of 0x6f f g ≡ k.Jal)
unfolding kind_of
upper-rows f g = (refl, refl, refl)

jalr-row : Row 0x67 0 k.Jalr
unfolding kind_of
jalr-row = (omega arith, λ g. refl)

branch_row : (c : Condition) → Row 0x63 (condition_code c) (k.Branch c)
unfolding kind_of
branch_row Eq = (omega arith, λ g. refl)
branch_row Ne = (omega arith, λ g. refl)
branch_row Lt = (omega arith, λ g. refl)
branch_row Ge = (omega arith, λ g. refl)
branch_row Ltu = (omega arith, λ g. refl)
branch_row Geu = (omega arith, λ g. refl)

load_row : (l : LoadKind) → Row 0x03 (load_code l) (k.Load l)
unfolding kind_of
load_row load.Byte = (omega arith, λ g. refl)
load_row load.Half = (omega arith, λ g. refl)
load_row load.Word = (omega arith, λ g. refl)
load_row load.ByteUnsigned = (omega arith, λ g. refl)
load_row load.HalfUnsigned = (omega arith, λ g. refl)

store-row : (s : StoreKind) → Row 0x23 (store_code s) (k.Store s)
unfolding kind_of
store-row store.Byte = (omega arith, λ g. refl)
store-row store.Half = (omega arith, λ g. refl)
store-row store.Word = (omega arith, λ g. refl)

csr-row : (o : CsrOp) → Row 0x73 (csr_code o) (k.Csr o) × Row 0x73 (4 + csr_code o) (k.CsrImmediate o)
unfolding kind_of
csr-row Write = ((omega arith, λ g. refl), (omega arith, λ g. refl))
csr-row Set = ((omega arith, λ g. refl), (omega arith, λ g. refl))
csr-row Clear = ((omega arith, λ g. refl), (omega arith, λ g. refl))

abbrev ImmediateRow : Form → (f g : ℕ) → AluOp → Type 0
ImmediateRow twelve f g o = (n : ℕ) → kind_of 0x13 f n ≡ k.Immediate o
ImmediateRow five f g o = kind_of 0x13 f g ≡ k.Shift o
ImmediateRow none f g o = Unit {0}

op_row : (o : AluOp) → let c = code_of o in (c.f3 < 8) × (c.f7 < 128) × (kind_of 0x33 c.f3 c.f7 ≡ k.Op o) × ImmediateRow c.form c.f3 c.f7 o
unfolding kind_of
op_row Add = (omega arith, omega arith, refl, λ n. refl)
op_row Sub = (omega arith, omega arith, refl, tt)
op_row Sll = (omega arith, omega arith, refl, refl)
op_row Slt = (omega arith, omega arith, refl, λ n. refl)
op_row Sltu = (omega arith, omega arith, refl, λ n. refl)
op_row Xor = (omega arith, omega arith, refl, λ n. refl)
op_row Srl = (omega arith, omega arith, refl, refl)
op_row Sra = (omega arith, omega arith, refl, refl)
op_row Or = (omega arith, omega arith, refl, λ n. refl)
op_row And = (omega arith, omega arith, refl, λ n. refl)
op_row Mul = (omega arith, omega arith, refl, tt)
op_row Mulh = (omega arith, omega arith, refl, tt)
op_row Mulhsu = (omega arith, omega arith, refl, tt)
op_row Mulhu = (omega arith, omega arith, refl, tt)
op_row Div = (omega arith, omega arith, refl, tt)
op_row Divu = (omega arith, omega arith, refl, tt)
op_row Rem = (omega arith, omega arith, refl, tt)
op_row Remu = (omega arith, omega arith, refl, tt)

-- ---- the instructions, by format

-- an instruction from the kind of its word
by_kind : (w : ℕ) (c : Kind) (o f g : ℕ) → opcode w ≡ o → f3 w ≡ f → f7 w ≡ g → kind_of o f g ≡ c → decoded w ≡ formed c w (imm_of c w)
by_kind w c o f g p q r e = let h : word_kind w ≡ c = cc in ap (λ n. formed n w (imm_of n w)) h

short-12 : (n v : ℕ) → n ≡ v % 2 ^ 12 → Short (2 ^ 11) v → sign_extended (2 ^ 11) n ≡ v
short-12 n v e x = ap (sign_extended (2 ^ 11)) e ∙ short-extends (2 ^ 11) (2 ^ 20 - 1) refl v x

-- format I, where i is the instruction of any word with these fields
decodes-I : (o d f s v : ℕ) (c : Kind) (i : Instruction) → o < 128 → Register d → Register s → Row o f c
    → ((w : ℕ) → rd w ≡ d → rs1 w ≡ s → csr w ≡ v % 2 ^ 12 → formed c w (imm_of c w) ≡ i) → let w = format_i o d f s v in (w < 2 ^ 32) × (decoded w ≡ i)
decodes-I o d f s v c i ho hd hs r e =
    let w = format_i o d f s v in
    let p = fields-I o d f s ho hd r.0 hs v in
    (p.5, by_kind w c o f (f7 w) p.0 p.2 refl (r.1 (f7 w)) ∙ e w p.1 p.3 p.4)

decodes-immediate : (m : Form) (op : AluOp) (f g d s v : ℕ) → f < 8 → g < 128 → ImmediateRow m f g op → Register d → Register s → ImmediateFits m v
    → let w = with_immediate m f g d s v in (w < 2 ^ 32) × (decoded w ≡ Immediate op d s v)
decodes-immediate twelve op f g d s v hf hg e hd hs x =
    decodes-I 0x13 d f s v (k.Immediate op) _ (omega arith) hd hs (hf, e) (λ w p q r. cc (p, q, short-12 _ v r x))
decodes-immediate five op f g d s v hf hg e hd hs x =
    let w = format_r 0x13 d f s v g in
    let p = fields-R 0x13 d f s (omega arith) hd hf hs v g x hg in
    (p.6, by_kind w (k.Shift op) 0x13 f g p.0 p.2 p.5 e ∙ cc (p.1, p.3, p.4))
decodes-immediate none op f g d s v hf hg e hd hs x = absurd x

pub decodes : DecodeInvertsEncode
decodes (Lui d v) (h, u) =
    let w = encoded (Lui d v) in
    let e = fields-U 0x37 d (omega arith) h v u.0 u.1 in
    (e.3, by_kind w k.Lui 0x37 (f3 w) (f7 w) e.0 refl refl (upper-rows (f3 w) (f7 w)).0 ∙ cc (e.1, e.2))
decodes (Auipc d v) (h, u) =
    let w = encoded (Auipc d v) in
    let e = fields-U 0x17 d (omega arith) h v u.0 u.1 in
    (e.3, by_kind w k.Auipc 0x17 (f3 w) (f7 w) e.0 refl refl (upper-rows (f3 w) (f7 w)).1 ∙ cc (e.1, e.2))
decodes (Jal d v) (h, x, u) =
    let w = encoded (Jal d v) in
    let e = fields-J 0x6f d (omega arith) h v u in
    (e.3, by_kind w k.Jal 0x6f (f3 w) (f7 w) e.0 refl refl (upper-rows (f3 w) (f7 w)).2 ∙ cc (e.1, ap (sign_extended (2 ^ 20)) e.2 ∙ short-extends (2 ^ 20) (2 ^ 11 - 1) refl v x))
decodes (Jalr d s v) (hd, hs, x) =
    decodes-I 0x67 d 0 s v k.Jalr _ (omega arith) hd hs jalr-row (λ w p q r. cc (p, q, short-12 _ v r x))
decodes (Branch c s t v) (hs, ht, x, u) =
    let w = encoded (Branch c s t v) in
    let e = fields-B 0x63 (condition_code c) s t (omega arith) (branch_row c).0 hs ht v u in
    (e.5, by_kind w (k.Branch c) 0x63 (condition_code c) (f7 w) e.0 e.1 refl ((branch_row c).1 (f7 w)) ∙ cc (e.2, e.3, ap (sign_extended (2 ^ 12)) e.4 ∙ short-extends (2 ^ 12) (2 ^ 19 - 1) refl v x))
decodes (Load l d s v) (hd, hs, x) =
    decodes-I 0x03 d (load_code l) s v (k.Load l) _ (omega arith) hd hs (load_row l) (λ w p q r. cc (p, q, short-12 _ v r x))
decodes (Store n s t v) (hs, ht, x) =
    let w = encoded (Store n s t v) in
    let e = fields-S 0x23 (store_code n) s t (omega arith) (store-row n).0 hs ht v in
    (e.5, by_kind w (k.Store n) 0x23 (store_code n) (f7 w) e.0 e.1 refl ((store-row n).1 (f7 w)) ∙ cc (e.2, e.3, short-12 _ v e.4 x))
decodes (Immediate op d s v) (hd, hs, x) =
    let r = op_row op in decodes-immediate (code_of op).form op (code_of op).f3 (code_of op).f7 d s v r.0 r.1 r.3 hd hs x
decodes (Op op d s t) (hd, hs, ht) =
    let w = encoded (Op op d s t) in
    let r = op_row op in
    let p = fields-R 0x33 d (code_of op).f3 s (omega arith) hd r.0 hs t (code_of op).f7 ht r.1 in
    (p.6, by_kind w (k.Op op) 0x33 (code_of op).f3 (code_of op).f7 p.0 p.2 p.5 r.2 ∙ cc (p.1, p.3, p.4))
decodes (Csr op d s n) (hd, hs, h) =
    decodes-I 0x73 d (csr_code op) s n (k.Csr op) _ (omega arith) hd hs (csr-row op).0 (λ w p q r. cc (p, q, r ∙ mod-eq_of_lt h))
decodes (CsrImmediate op d v n) (hd, hv, h) =
    decodes-I 0x73 d (4 + csr_code op) v n (k.CsrImmediate op) _ (omega arith) hd hv (csr-row op).1 (λ w p q r. cc (p, q, r ∙ mod-eq_of_lt h))
decodes Fence u = (omega arith, unfold kind_of in refl)
decodes FenceI u = (omega arith, unfold kind_of in refl)
decodes Ecall u = (omega arith, unfold kind_of in refl)
decodes Ebreak u = (omega arith, unfold kind_of in refl)
decodes Mret u = (omega arith, unfold kind_of in refl)
decodes Wfi u = (omega arith, unfold kind_of in refl)
decodes Unknown u = absurd u

fence-rows : (g : ℕ) → (kind_of 0x0f 0 g ≡ k.Fence) × (kind_of 0x0f 1 g ≡ k.FenceI)
unfolding kind_of
fence-rows g = (refl, refl)

pub fences_ignore_fields : FencesIgnoreFields
fences_ignore_fields w e =
    let o : opcode w ≡ 0x0f = omega arith in (
      λ h. by_kind w k.Fence 0x0f 0 (f7 w) o h refl (fence-rows (f7 w)).0,
      λ h. by_kind w k.FenceI 0x0f 1 (f7 w) o h refl (fence-rows (f7 w)).1,
    )
