-- What is read of a control register after a write.
use Rattle.std.proofs.Common.{◌≡◌, ℕ, Some, None, Option, refl, arith}
use Rattle.std.proofs.lemmas.Bool.Decides.{nat_tests}
use Rattle.hart.specs.declared.control.Control.{Control}
use Rattle.hart.specs.Control.{reading}
use Rattle.hart.specs.Execute.{csr_read, legal}
use Rattle.hart.specs.State.{State}
use Rattle.isa.specs.declared.kind.CsrOp.{CsrOp}
use Rattle.isa.specs.declared.kind.CsrOp.TheVariants.{Set, Clear}
use Rattle.machine_laws.specs.ControlLaws.{Writes, WritesReadBack, ZeroSourcesOnlyRead}

writes : (c : Control) (v : ℕ) → Writes c v
writes c v =
    record {
      mstatus = (refl, grind (arith, nat_tests));
      misa = (refl, refl);
      mie = (refl, refl);
      mtvec = (refl, grind (arith, nat_tests));
      mscratch = (refl, refl);
      mepc = (refl, grind (arith, nat_tests));
      mcause = (refl, refl);
      mtval = (refl, refl);
      mip = (refl, refl);
      read_only = λ n l h. (grind (arith, nat_tests), grind (arith, nat_tests));
      others = λ n k away. grind (arith, nat_tests);
    }

pub writes_read_back : WritesReadBack
writes_read_back = writes

-- a control register that is read and not written
only-read : (w : ℕ) (r : Option ℕ) (op : CsrOp) (rd n : ℕ) (s : State) → (legal w (csr_read r op rd None n s)).1.control ≡ s.control
only-read w None op rd n s = refl
only-read w (Some old) op rd n s = refl

pub zero_sources_only_read : ZeroSourcesOnlyRead
zero_sources_only_read w rd n s =
    let r = reading s.control n in
    record {
      set_x0 = only-read w r Set rd n s;
      clear_x0 = only-read w r Clear rd n s;
      set_0 = only-read w r Set rd n s;
      clear_0 = only-read w r Clear rd n s;
    }
