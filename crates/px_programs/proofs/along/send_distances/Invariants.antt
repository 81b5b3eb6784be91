use Rattle.std.proofs.Common.{◌≡◌, take}
use Rattle.std.specs.Prelude.{IsTrue}
use Rattle.px_program.specs.Posted.{Posted}
use Rattle.px_programs.specs.Along.{distances, with_sends}
use Rattle.px_programs.proofs.along.send_distances.Given as goal

-- the edges so far were sent along
abbrev pub invariant-loop-i : goal.invariant-loop-i
invariant-loop-i g l =
    let took = g.O.Outbox.took in
    record {
      sent : (p : Posted) → took l.fn.out p → took l.out (with_sends (distances l.d (take l.i l.v.vertex.edges)) p);
      unspent : IsTrue (g.O.Outbox.is_open l.out);
      faults : g.O.Outbox.faults l.out ≡ g.O.Outbox.faults l.fn.out;
      pieces : g.O.Outbox.pieces l.out ≡ g.O.Outbox.pieces l.fn.out;
      stays : g.O.Outbox.made_for l.out ≡ g.O.Outbox.made_for l.fn.out;
    }
