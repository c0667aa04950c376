-- A trap changes nothing else, and MRET undoes it.
use Rattle.std.proofs.Common.{◌≡◌, ℕ, ◌+◌, ◌-◌, ◌*◌, ◌/◌, ◌%◌, ◌^◌, Bool, true, false, not, ◌||◌, eqb, ◌⊎◌, is_ok, Some, None, Ok, Err, Option, Result, refl, ap, ◌∙◌, inl, inr, arith}
use Rattle.std.proofs.lemmas.Bool.{cond_both, true≢false}
use Rattle.bus.specs.Kind.{Kind, Rules, word_of}
use Rattle.bus.specs.Numbers.{FaultNumbers}
use Rattle.hart.specs.declared.control.Control.{Control}
use Rattle.hart.specs.declared.exception.Exception.{Exception}
use Rattle.hart.specs.declared.request.Request.{Request}
use Rattle.hart.specs.declared.request.Request.TheVariants as ask
use Rattle.hart.specs.Control.{reading, written}
use Rattle.hart.specs.Exceptions.{cause_of, value_of}
use Rattle.hart.specs.Execute.{Outcome, goes, jumped, csr_stored, csr_read, source_if, combined, legal, writes_always, executed, settled, begun, loaded, stored, unfetched}
use Rattle.hart.specs.State.{State, read, plus, next, put, go_to}
use Rattle.hart.specs.Traps.{trapped, raised, sensed, interrupt, taking, latched}
use Rattle.hart.specs.Widths.{load_width}
use Rattle.isa.specs.Branch.{holds}
use Rattle.isa.specs.Decode.{decoded}
use Rattle.isa.specs.declared.instruction.Instruction.{Instruction}
use Rattle.isa.specs.declared.instruction.Instruction.TheVariants.{Lui, Auipc, Jal, Jalr, Branch, Load, Store, Immediate, Op, Csr, CsrImmediate, Fence, FenceI, Ecall, Ebreak, Mret, Wfi, Unknown}
use Rattle.isa.specs.declared.kind.CsrOp.{CsrOp}
use Rattle.isa.specs.declared.kind.Load.{Load as LoadKind}
use Rattle.machine.specs.Acts.{act}
use Rattle.machine.specs.PlainSteps.{PlainState, plain, plain_acted, plain_fetched, plain_instruction, plain_latched, plain_step}
use Rattle.machine_laws.specs.TrapLaws.{OnlyTraps, TrapsChangeNothing, ReturnUndoesTrap}

pub return_undoes_trap : ReturnUndoesTrap
return_undoes_trap s cause value fault h = record { pc = omega arith; registers = refl; interrupts = refl; before = refl }

-- neither stopped by an exception nor waiting for the bus
abbrev finished : Result Request Exception → Bool
finished (Ok ask.Nothing) = true
finished (Ok ask.Fence) = true
finished (Ok (ask.Load l rd a)) = false
finished (Ok (ask.Store n a v)) = false
finished (Err e) = false

-- an outcome leaves the trap record, and all of the state unless it is finished
abbrev Leaves : State → Outcome → Type 0
Leaves s o = (o.1.trap ≡ s.trap) × (finished o.0 ≡ false → o.1 ≡ s)

went : (s t : State) → t.trap ≡ s.trap → Leaves s (goes t)
went s t h = (h, λ e. absurd (true≢false e))

jumped-leaves : (a : ℕ) (s t : State) → t.trap ≡ s.trap → Leaves s (jumped a s t)
jumped-leaves a s t h = cond_both (eqb (a % 4) 0) _ _ (Leaves s) (λ q. went s (go_to a t) h) (λ q. (refl, λ e. refl))

stored-leaves : (w : ℕ) (p : Bool × Control) (rd old : ℕ) (s : State) → Leaves s (legal w (csr_stored p rd old s))
stored-leaves w (true, c) rd old s = went s _ refl
stored-leaves w (false, c) rd old s = (refl, λ e. refl)

csr-leaves : (w : ℕ) (r : Option ℕ) (op : CsrOp) (rd : ℕ) (v : Option ℕ) (n : ℕ) (s : State) → Leaves s (legal w (csr_read r op rd v n s))
csr-leaves w None op rd v n s = (refl, λ e. refl)
csr-leaves w (Some old) op rd (Some v) n s = stored-leaves w (written s.control n (combined op old v)) rd old s
csr-leaves w (Some old) op rd None n s = went s _ refl

executed-leaves : (w : ℕ) (i : Instruction) (s : State) → Leaves s (executed w i s)
executed-leaves w (Lui rd v) s = went s _ refl
executed-leaves w (Auipc rd v) s = went s _ refl
executed-leaves w (Jal rd v) s = jumped-leaves (plus s.pc v) s (put rd (plus s.pc 4) s) refl
executed-leaves w (Jalr rd rs1 v) s = jumped-leaves (plus (read s rs1) v / 2 * 2) s (put rd (plus s.pc 4) s) refl
executed-leaves w (Branch c rs1 rs2 v) s = cond_both (holds c (read s rs1) (read s rs2)) _ _ (Leaves s) (λ q. jumped-leaves (plus s.pc v) s s refl) (λ q. went s (next s) refl)
executed-leaves w (Load l rd rs1 v) s = (refl, λ e. refl)
executed-leaves w (Store k rs1 rs2 v) s = (refl, λ e. refl)
executed-leaves w (Immediate o rd rs1 v) s = went s _ refl
executed-leaves w (Op o rd rs1 rs2) s = went s _ refl
executed-leaves w (Csr o rd rs1 n) s = csr-leaves w (reading s.control n) o rd (source_if (not (eqb rs1 0) || writes_always o) (read s rs1)) n s
executed-leaves w (CsrImmediate o rd v n) s = csr-leaves w (reading s.control n) o rd (source_if (not (eqb v 0) || writes_always o) v) n s
executed-leaves w Fence s = went s _ refl
executed-leaves w FenceI s = (refl, λ e. absurd (true≢false e))
executed-leaves w Ecall s = (refl, λ e. refl)
executed-leaves w Ebreak s = (refl, λ e. refl)
executed-leaves w Mret s = went s _ refl
executed-leaves w Wfi s = went s _ refl
executed-leaves w Unknown s = (refl, λ e. refl)

module _ (K : Kind) (rules : Rules K) where
  -- from s and m, q is a trap and nothing else
  record Trapped (s : State) (m : K.Meaning) (q : PlainState K.Meaning) : Type 0 where
    cause : ℕ
    value : ℕ
    fault : Option FaultNumbers
    state : q.hart ≡ trapped cause value fault s
    bus : q.meaning ≡ m

  abbrev Kept : State → K.Meaning → PlainState K.Meaning → Type 0
  Kept s m q = (q.hart.trap ≡ s.trap) ⊎ Trapped s m q

  module _ (s : State) (m : K.Meaning) where
    load_kept : (l : LoadKind) (rd a : ℕ) (t : State) → t ≡ s → (r : Result ℕ FaultNumbers) (n : K.Meaning) → (is_ok r ≡ false → n ≡ m) → Kept s m (plain (loaded l rd a r t) n)
    unfolding loaded
    load_kept l rd a t e (Ok v) n g = inl (ap (λ (u : State). u.trap) e)
    load_kept l rd a t e (Err f) n g = inr record { cause = 5; value = a; fault = Some f; state = ap (trapped 5 a (Some f)) e; bus = g refl }

    store_kept : (a : ℕ) (t : State) → t ≡ s → (r : Result (Unit {0}) FaultNumbers) (n : K.Meaning) → (is_ok r ≡ false → n ≡ m) → Kept s m (plain (stored a r t) n)
    unfolding stored
    store_kept a t e (Ok u) n g = inl (ap (λ (u : State). u.trap) e)
    store_kept a t e (Err f) n g = inr record { cause = 7; value = a; fault = Some f; state = ap (trapped 7 a (Some f)) e; bus = g refl }

    act-kept : (pc : ℕ) (o : Outcome) → Leaves s o → Kept s m (plain_acted pc (act K (settled o) m)).next
    act-kept pc (Ok ask.Nothing, t) (h, l) = inl h
    act-kept pc (Ok ask.Fence, t) (h, l) = inl h
    act-kept pc (Ok (ask.Load k rd a), t) (h, l) =
        let r = K.load m a (load_width k) in
        load_kept k rd a t (l refl) r.value r.next (rules.refused_load_changes_nothing m a (load_width k))
    act-kept pc (Ok (ask.Store n a v), t) (h, l) =
        let r = K.store m a n v in
        store_kept a t (l refl) r.value r.next (rules.refused_store_changes_nothing m a n v)
    act-kept pc (Err e, t) (h, l) = inr record { cause = cause_of e; value = value_of e s.pc; fault = None; state = ap (raised e None) (l refl); bus = refl }

    fetched-kept : (r : Result ℕ FaultNumbers) → Kept s m (plain_fetched K (plain s m) r).next
    unfolding begun unfetched
    fetched-kept (Ok w) = act-kept s.pc (executed w (decoded w) s) (executed-leaves w (decoded w) s)
    fetched-kept (Err f) = inr record { cause = 1; value = s.pc; fault = Some f; state = refl; bus = refl }

    latched-kept : (o : Option ℕ) → Kept s m (plain_latched K (taking o s) m).next
    unfolding plain_instruction
    latched-kept (Some n) = inr record { cause = 2 ^ 31 + n; value = 0; fault = None; state = refl; bus = refl }
    latched-kept None = fetched-kept (K.fetch m s.pc)

  ticked-kept : (p t : PlainState K.Meaning) → Kept (sensed (K.lines p.meaning) p.hart) p.meaning t
      → (t.hart.trap ≡ p.hart.trap) ⊎ OnlyTraps K p (plain t.hart (K.tick t.meaning))
  ticked-kept p t (inl h) = inl h
  ticked-kept p t (inr r) =
      let v = p.hart.control.mtvec in
      let z : word_of v ≡ v - v % 4 = omega arith in
      inr record {
        registers = ap (λ (s : State). s.x) r.state;
        bus = ap K.tick r.bus;
        handler = ap (λ (s : State). s.pc) r.state ∙ z;
        return_address = ap (λ (s : State). s.control.saved.mepc) r.state;
        off = ap (λ (s : State). s.control.status.mie) r.state;
        before = ap (λ (s : State). s.control.status.mpie) r.state;
      }

  pub traps_change_nothing : TrapsChangeNothing K
  unfolding plain_step latched
  traps_change_nothing p =
      let s = sensed (K.lines p.meaning) p.hart in
      ticked-kept p (plain_latched K (taking (interrupt s) s) p.meaning).next (latched-kept s p.meaning (interrupt s))
