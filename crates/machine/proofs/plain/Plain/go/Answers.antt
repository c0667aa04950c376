use Rattle.std.proofs.Common.{◌≡◌, ◌+◌, ◌++◌, refl, arith, rules}
use Rattle.machine.specs.PlainSteps.{plain_step, plain_of}
use Rattle.isa.specs.Alu.{flag}
use Rattle.machine.specs.Events.{fetches}
use Rattle.machine.proofs.Counting.{fetches-++, flag-le}
use Rattle.machine.proofs.Running.{stops, ends, more}
use Rattle.machine.proofs.plain.Plain.go.Goals as goal

pub returns-then-stopped : goal.returns-then-stopped
returns-then-stopped g c =
    let i = c.loop-steps.invariant in
    let q = stops _ _ _ _ _ _ _ _ c.loop-steps-test.true (grind (arith, c.pc.ensures.value, c.if-stopped.true)) i.sofar in
    record { answer = rw (q, i.counted) refl; next = rw q refl }

pub loop-steps-preserved : goal.loop-steps-preserved
loop-steps-preserved g c =
    let k = g.B.Bus.kind in
    let i = c.loop-steps.invariant in
    let s = plain_of g.B.Bus.meaning c.loop-steps.self in
    let h = more _ _ _ _ _ _ _ s _ c.loop-steps-test.true (λ e. grind (arith, e, c.loop-steps-test.true, c.pc.ensures.value, c.if-stopped.false)) c.step.ensures.next i.sofar in
    let q : c.from-fetched.result ≡ flag c.step.result = search rules in
    let n : fetches ((plain_step k s).events ++ i.events) ≡ c.loop-steps.fetched + c.from-fetched.result = omega (arith, fetches-++ (plain_step k s).events i.events, c.step.ensures.count, i.counted) in
    record { events = (plain_step k s).events ++ i.events; counted = n; within = omega (arith, flag-le c.step.result); sofar = h }

pub returns : goal.returns
returns g c =
    let i = c.loop-steps.invariant in
    let q = ends _ _ _ _ _ _ _ _ (omega arith) i.sofar in
    record { answer = rw (q, i.counted) refl; next = rw q refl }
