-- x0 stays 0, and pc a multiple of 4.
use Rattle.std.proofs.Common.{◌≡◌, ℕ, ◌*◌, ◌/◌, ◌%◌, Bool, true, false, not, ◌||◌, eqb, List, get_or, Some, None, Ok, Err, Option, Result, refl, ap, ◌∙◌, arith}
use Rattle.std.proofs.lemmas.List.{get_or-set_other}
use Rattle.std.proofs.lemmas.Bool.Decides.{nat_tests}
use Rattle.std.proofs.lemmas.Bool.{cond_both, eqb-true}
use Rattle.bus.specs.Kind.{Kind, word_of}
use Rattle.bus.specs.Numbers.{FaultNumbers}
use Rattle.hart.specs.declared.control.Control.{Control}
use Rattle.hart.specs.declared.request.Request.TheVariants as ask
use Rattle.hart.specs.Control.{reading, written}
use Rattle.hart.specs.Execute.{Outcome, jumped, csr_stored, csr_read, source_if, combined, legal, writes_always, executed, settled, begun, loaded, stored, unfetched}
use Rattle.hart.specs.State.{State, read, plus, next, put, go_to, with_control}
use Rattle.hart.specs.Traps.{sensed, interrupt, taking, latched}
use Rattle.hart.specs.Widths.{load_width, load_value}
use Rattle.isa.specs.Branch.{holds}
use Rattle.isa.specs.Decode.{decoded}
use Rattle.isa.specs.declared.instruction.Instruction.{Instruction}
use Rattle.isa.specs.declared.instruction.Instruction.TheVariants.{Lui, Auipc, Jal, Jalr, Branch, Load, Store, Immediate, Op, Csr, CsrImmediate, Fence, FenceI, Ecall, Ebreak, Mret, Wfi, Unknown}
use Rattle.isa.specs.declared.kind.CsrOp.{CsrOp}
use Rattle.isa.specs.declared.kind.Load.{Load as LoadKind}
use Rattle.machine.specs.Acts.{act}
use Rattle.machine.specs.PlainSteps.{PlainState, plain, plain_acted, plain_fetched, plain_instruction, plain_latched, plain_step}
use Rattle.machine_laws.specs.SoundLaws.{Sound, StepsStaySound}

word-aligned : (a : ℕ) → word_of a % 4 ≡ 0
word-aligned a = omega arith

-- the same registers at another pc
moved : (s t : State) → Sound s → t.x ≡ s.x → t.pc % 4 ≡ 0 → Sound t
moved s t h e q = record { zero_register = ap (λ (x : List ℕ). get_or x 0 0) e ∙ h.zero_register; aligned = q }

put-sound : (i v : ℕ) (s : State) → Sound s → Sound (put i v s)
put-sound i v s h =
    record {
      zero_register =
          grind (arith, nat_tests, get_or-set_other s.x (i % 32) 0 v 0, h.zero_register);
      aligned = h.aligned;
    }

next-sound : (s : State) → Sound s → Sound (next s)
next-sound s h = moved s (next s) h refl (omega (arith, h.aligned))

abbrev SoundIn : Outcome → Type 0
SoundIn o = Sound o.1

jumped-sound : (a : ℕ) (s t : State) → Sound s → Sound t → SoundIn (jumped a s t)
jumped-sound a s t h k = cond_both (eqb (a % 4) 0) _ _ SoundIn (λ q. moved t (go_to a t) k refl (eqb-true (a % 4) 0 q)) (λ q. h)

control-sound : (c : Control) (s : State) → Sound s → Sound (with_control c s)
control-sound c s h = moved s (with_control c s) h refl h.aligned

stored-sound : (w : ℕ) (p : Bool × Control) (rd old : ℕ) (s : State) → Sound s → SoundIn (legal w (csr_stored p rd old s))
stored-sound w (true, c) rd old s h = next-sound (put rd old (with_control c s)) (put-sound rd old (with_control c s) (control-sound c s h))
stored-sound w (false, c) rd old s h = h

csr-sound : (w : ℕ) (r : Option ℕ) (op : CsrOp) (rd : ℕ) (v : Option ℕ) (n : ℕ) (s : State) → Sound s → SoundIn (legal w (csr_read r op rd v n s))
csr-sound w None op rd v n s h = h
csr-sound w (Some old) op rd (Some v) n s h = stored-sound w (written s.control n (combined op old v)) rd old s h
csr-sound w (Some old) op rd None n s h = next-sound (put rd old s) (put-sound rd old s h)

module _ (s : State) (h : Sound s) where
  -- a result is written, and the next instruction follows
  finished : (rd v : ℕ) → Sound (next (put rd v s))
  finished rd v = next-sound (put rd v s) (put-sound rd v s h)

  executed-sound : (w : ℕ) (i : Instruction) → SoundIn (executed w i s)
  executed-sound w (Lui rd v) = finished rd _
  executed-sound w (Auipc rd v) = finished rd _
  executed-sound w (Jal rd v) = jumped-sound (plus s.pc v) s _ h (put-sound rd (plus s.pc 4) s h)
  executed-sound w (Jalr rd rs1 v) = jumped-sound (plus (read s rs1) v / 2 * 2) s _ h (put-sound rd (plus s.pc 4) s h)
  executed-sound w (Branch c rs1 rs2 v) = cond_both (holds c (read s rs1) (read s rs2)) _ _ SoundIn (λ q. jumped-sound (plus s.pc v) s s h h) (λ q. next-sound s h)
  executed-sound w (Load l rd rs1 v) = h
  executed-sound w (Store k rs1 rs2 v) = h
  executed-sound w (Immediate o rd rs1 v) = finished rd _
  executed-sound w (Op o rd rs1 rs2) = finished rd _
  executed-sound w (Csr o rd rs1 n) = csr-sound w (reading s.control n) o rd (source_if (not (eqb rs1 0) || writes_always o) (read s rs1)) n s h
  executed-sound w (CsrImmediate o rd v n) = csr-sound w (reading s.control n) o rd (source_if (not (eqb v 0) || writes_always o) v) n s h
  executed-sound w Fence = next-sound s h
  executed-sound w FenceI = next-sound s h
  executed-sound w Ecall = h
  executed-sound w Ebreak = h
  executed-sound w Mret = moved s _ h refl (word-aligned s.control.saved.mepc)
  executed-sound w Wfi = next-sound s h
  executed-sound w Unknown = h

  -- a trap goes to the handler with the registers as they are
  trap-sound : (t : State) → t.x ≡ s.x → t.pc ≡ word_of s.control.mtvec → Sound t
  trap-sound t e q = moved s t h e (ap (λ (a : ℕ). a % 4) q ∙ word-aligned s.control.mtvec)

  loaded-sound : (l : LoadKind) (rd a : ℕ) (r : Result ℕ FaultNumbers) → Sound (loaded l rd a r s)
  unfolding loaded
  loaded-sound l rd a (Ok v) = finished rd (load_value l v)
  loaded-sound l rd a (Err f) = trap-sound _ refl refl

  stored-at-sound : (a : ℕ) (r : Result (Unit {0}) FaultNumbers) → Sound (stored a r s)
  unfolding stored
  stored-at-sound a (Ok u) = next-sound s h
  stored-at-sound a (Err f) = trap-sound _ refl refl

module _ (K : Kind) (m : K.Meaning) where
  act-sound : (a : ℕ) (o : Outcome) → SoundIn o → Sound (plain_acted a (act K (settled o) m)).next.hart
  act-sound a (Ok ask.Nothing, s) h = h
  act-sound a (Ok ask.Fence, s) h = h
  act-sound a (Ok (ask.Load l rd b), s) h = loaded-sound s h l rd b (K.load m b (load_width l)).value
  act-sound a (Ok (ask.Store n b v), s) h = stored-at-sound s h b (K.store m b n v).value
  act-sound a (Err e, s) h = trap-sound s h _ refl refl

  fetched-sound : (s : State) → Sound s → (r : Result ℕ FaultNumbers) → Sound (plain_fetched K (plain s m) r).next.hart
  unfolding begun unfetched
  fetched-sound s h (Ok w) = act-sound s.pc (executed w (decoded w) s) (executed-sound s h w (decoded w))
  fetched-sound s h (Err f) = trap-sound s h _ refl refl

  latched-sound : (s : State) → Sound s → (o : Option ℕ) → Sound (plain_latched K (taking o s) m).next.hart
  unfolding plain_instruction
  latched-sound s h (Some n) = trap-sound s h _ refl refl
  latched-sound s h None = fetched-sound s h (K.fetch m s.pc)

step-sound : (K : Kind) (p : PlainState K.Meaning) → Sound p.hart → Sound (plain_step K p).next.hart
unfolding plain_step latched
step-sound K p h =
    let s = sensed (K.lines p.meaning) p.hart in
    latched-sound K p.meaning s (moved p.hart s h refl h.aligned) (interrupt s)

pub steps_stay_sound : (K : Kind) → StepsStaySound K
steps_stay_sound K = record { at_first = λ entry. record { zero_register = refl; aligned = word-aligned entry }; then = step-sound K }
