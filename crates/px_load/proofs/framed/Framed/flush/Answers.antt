use Rattle.std.proofs.Common.{arith, ◌∙◌, ap, refl, ℕ, List, take, drop}
use Rattle.std.proofs.lemmas.Slice.{between_is}
use Rattle.px_load.proofs.FramedSteps.{put_on, put_out}
use Rattle.px_load.proofs.framed.Framed.flush.Goals as goal

pub loop-self-init : goal.loop-self-init
loop-self-init g c = record { puts = λ all p. p; no_fault = refl; lends = refl; fills = refl }

pub loop-self-preserved : goal.loop-self-preserved
loop-self-preserved g c =
    let i = c.loop-self.invariant in
    let now = c.loop-self.self in
    record {
      puts = λ all p. put_on _ _ _ now.frame.now _ all now.from now.to c.in_ok-n.n (between_is c.bytes.result.now now.from now.to ∙ ap (λ (l : List ℕ). drop now.from (take now.to l)) c.bytes.ensures) c.in_ok-n.ensures.ok (i.puts all p);
      no_fault = c.in_ok-n.ensures.no_fault ∙ i.no_fault;
      lends = i.lends;
      fills = i.fills;
    }

pub returns-clause-puts : goal.returns-clause-puts
returns-clause-puts g c = λ all p.
    let now = c.loop-self.self in
    put_out _ _ now.frame.now all now.from now.to (omega (arith, c.loop-self-test.false)) (c.loop-self.invariant.puts all p)

pub returns-clause-no_fault : goal.returns-clause-no_fault
returns-clause-no_fault g c = c.loop-self.invariant.no_fault
