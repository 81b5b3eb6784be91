use Rattle.std.proofs.Common.{◌≡◌, ◌≤◌, ◌<◌, ◌+◌, ◌*◌, ◌^◌, ℕ, [], length}
use Rattle.std.specs.Int.{bit_at}
use Rattle.px_core.specs.Shown.{Clean}
use Rattle.px_cache.specs.View.{AnyFile}
use Rattle.px_meaning.specs.Graph.{room_of}
use Rattle.px_meaning.specs.Step.{State}
use Rattle.px_connectors.specs.Asking.{Asked}
use Rattle.px_superstep.specs.Benches.{IsLent, StaysLent}
use Rattle.px_superstep.specs.Files.{IsStepFile}
use Rattle.px_superstep.specs.Phases.{Going}
use Rattle.px_superstep.specs.Steps.{StandsFor, StandsMidway}
use Rattle.px_superstep.proofs.Bits.{bits_below}
use Rattle.px_superstep.proofs.compute.compute_all.Given as goal

-- as many phases are over as turns were taken, and each of the other partitions is ready
abbrev pub invariant-loop : goal.invariant-loop
invariant-loop g l =
    let p = g.P.Program.meaning l.program in
    let n = length l.fn.stores in
    let t0 = g.SD.Disk.shown l.fn.scratch in
    let t = g.SD.Disk.shown l.scratch in
    let g0 = g.GD.Disk.shown l.fn.graph in
    let g1 = g.GD.Disk.shown l.graph in
    let room = room_of t0.page_len in
    record {
      going : (s : State) → StandsFor p room g.J.Join.probing (λ x k. g.St.Store.holds x l.fn.desk g0 k) l.fn.stores t0 l.msg_pages l.tallies l.gs s → Asked t0 l.fn.requests []
          → Going p n s (StandsMidway p room g.J.Join.probing (λ x k. g.St.Store.holds x l.desk g1 k) l.stores t l.msg_pages l.tallies l.gs (g.C.Connector.sent l.connector t) (Asked t l.requests) l.update_pages s) l.total l.ready;
      ones : bits_below n l.ready + l.counter ≡ n;
      high : (k : ℕ) → n ≤ k → k < 32 → bit_at l.ready k ≡ 0;
      few_sends : l.total.sends ≤ 2 ^ 40 * l.counter;
      few_requests : l.total.requests ≤ 2 ^ 40 * l.counter;
      small : l.total.contributed < 2 ^ 64;
      pages : length l.update_pages ≡ 16;
      lent : IsLent g.St.Store.counted g.St.Store.part l.bank l.stores l.desk (g.C.Connector.view l.connector) l.requests g1 t;
      stays : StaysLent g.St.Store.part l.fn.bank l.fn.stores l.fn.desk (g.C.Connector.view l.fn.connector) l.fn.requests l.bank l.stores l.desk (g.C.Connector.view l.connector) l.requests;
      clean : Clean AnyFile g0 g1;
      ok : Clean IsStepFile t0 t;
    }
