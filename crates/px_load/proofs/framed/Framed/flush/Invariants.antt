use Rattle.std.proofs.Common.{◌≡◌, ◌-◌, ℕ, List}
use Rattle.px_load.specs.Framed.{IsPut}
use Rattle.px_load.proofs.framed.Framed.flush.Given as goal

abbrev pub invariant-loop-self : goal.invariant-loop-self
invariant-loop-self g l =
    let holds = g.W.Sink.holds in
    let began = g.K.Lent.began in
    let was = l.fn.self in
    let now = l.self in
    record {
      puts : (all : List ℕ) → IsPut began (holds was.out.now) was.frame.now was.from was.to all → IsPut began (holds now.out.now) now.frame.now now.from now.to all;
      no_fault : g.W.Sink.faults now.out.now ≡ g.W.Sink.faults was.out.now;
      lends : now.out.ghost_name ≡ was.out.ghost_name;
      fills : now.frame.ghost_name ≡ was.frame.ghost_name;
    }

abbrev pub decreases-loop-self : goal.decreases-loop-self
decreases-loop-self g l = l.self.to - l.self.from
