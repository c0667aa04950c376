-- The line of the listing that a kind stands on.
use Rattle.std.proofs.Common.{◌≡◌, ℕ, ◌+◌, Bool, true, ◌&&◌, eqb, ◌⊎◌, List, [], ◌∷◌, map, sym, refl, subst, inl, inr, ⊎_elim}
use Rattle.std.proofs.lemmas.Bool.{and_parts, eqb-true, cases_Bool}
use Rattle.isa.specs.declared.kind.Kind.{Kind}
use Rattle.isa.specs.declared.kind.Kind.TheVariants.{Lui, Auipc, Jal, Jalr, Branch, Load, Store, Immediate, Shift, Op, Csr, CsrImmediate, Fence, FenceI, System, Unknown}
use Rattle.isa.specs.Listing.{any, is, meets, Line, at, listing, listed, kind_of}
use Rattle.isa_laws.specs.Encoding.{Form, twelve, five, none, Code, code_of, condition_code, load_code, store_code, csr_code}

-- a line that no word is on: an opcode has seven bits
abbrev pub nowhere : Line
nowhere = at 128 any any Unknown

abbrev pub immediate_line : Form → Code → Kind → Line
immediate_line twelve c k = at 0x13 (is c.f3) any k
immediate_line five c k = nowhere
immediate_line none c k = nowhere

abbrev pub shift_line : Form → Code → Kind → Line
shift_line twelve c k = nowhere
shift_line five c k = at 0x13 (is c.f3) (is c.f7) k
shift_line none c k = nowhere

abbrev pub line_of : Kind → Line
line_of Lui = at 0x37 any any Lui
line_of Auipc = at 0x17 any any Auipc
line_of Jal = at 0x6f any any Jal
line_of Jalr = at 0x67 (is 0) any Jalr
line_of (Branch c) = at 0x63 (is (condition_code c)) any (Branch c)
line_of (Load l) = at 0x03 (is (load_code l)) any (Load l)
line_of (Store s) = at 0x23 (is (store_code s)) any (Store s)
line_of (Immediate o) = immediate_line (code_of o).form (code_of o) (Immediate o)
line_of (Shift o) = shift_line (code_of o).form (code_of o) (Shift o)
line_of (Op o) = at 0x33 (is (code_of o).f3) (is (code_of o).f7) (Op o)
line_of (Csr o) = at 0x73 (is (csr_code o)) any (Csr o)
line_of (CsrImmediate o) = at 0x73 (is (4 + csr_code o)) any (CsrImmediate o)
line_of Fence = at 0x0f (is 0) any Fence
line_of FenceI = at 0x0f (is 1) any FenceI
line_of System = at 0x73 (is 0) any System
line_of Unknown = nowhere

-- whether a word with these fields is on a line
abbrev pub met : Line → ℕ → ℕ → ℕ → Bool
met l o f g = eqb l.opcode o && (meets l.f3 f && meets l.f7 g)

-- a kind of the listing is that of its line
found : (ls : List Line) → map (λ l. line_of l.kind) ls ≡ ls → (o f g : ℕ) → (listed ls o f g ≡ Unknown) ⊎ (met (line_of (listed ls o f g)) o f g ≡ true)
found [] e o f g = inl refl
found (l ∷ ls) e o f g =
    let head : l ≡ line_of l.kind = cc in
    let rest : map (λ l. line_of l.kind) ls ≡ ls = cc in
    ⊎_elim
    (λ t. rw t (inr (subst (λ (x : Line). met x o f g ≡ true) head t)))
    (λ t. rw t (found ls rest o f g))
    (cases_Bool (met l o f g))

-- every line of the listing is that of its kind
pub line-met : (o f g : ℕ) → (kind_of o f g ≡ Unknown) ⊎ (met (line_of (kind_of o f g)) o f g ≡ true)
unfolding kind_of
line-met o f g = found listing refl o f g

-- what a line that is met says of the fields
pub on_line : (a : ℕ) (x y : Bool) (o : ℕ) → (eqb a o && (x && y)) ≡ true → (o ≡ a) × (x ≡ true) × (y ≡ true)
on_line a x y o e =
    let p = and_parts (eqb a o) (x && y) e in
    let q = and_parts x y p.1 in
    (sym (eqb-true a o p.0), q.0, q.1)

pub asked : (a n : ℕ) → meets (is a) n ≡ true → n ≡ a
asked a n e = sym (eqb-true a n e)
