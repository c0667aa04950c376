use Rattle.std.proofs.Common.{◌≡◌, ◌≤◌, List}
use Rattle.machine.specs.Events.{Event, fetches}
use Rattle.machine.specs.PlainSteps.{pc_of, plain_step, plain_of}
use Rattle.machine.proofs.Running.{Sofar}
use Rattle.machine.proofs.plain.Plain.go.Given as goal

abbrev pub invariant-loop-steps : goal.invariant-loop-steps
invariant-loop-steps g l =
    let k = g.B.Bus.kind in
    let m = g.B.Bus.meaning in
    record {
      events : List Event;
      counted : fetches events ≡ l.fetched;
      within : l.fetched ≤ l.steps;
      sofar : Sofar pc_of (plain_step k) l.budget l.stop (plain_of m l.initial.self) l.steps events (plain_of m l.self);
    }
