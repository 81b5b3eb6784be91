use Rattle.std.proofs.Common.{◌≡◌, ◌≤◌, ◌<◌, ◌+◌, ◌*◌, ◌^◌, length, IsTrue, IsFalse}
use Rattle.std.specs.Prelude.{List}
use Rattle.std.specs.Bool.{OnTrue}
use Rattle.px_core.specs.Shown.{Clean}
use Rattle.px_meaning.specs.Graph.{Graph, room_of}
use Rattle.px_meaning.specs.Merge.{Pairs}
use Rattle.px_meaning.specs.Program.{Row}
use Rattle.px_stream.specs.Stream.{Took}
use Rattle.px_connectors.specs.Asking.{SameRequests, Asked}
use Rattle.px_store.specs.Desks.{IsDone, SameDesk}
use Rattle.px_store.specs.Joins.{HasRows}
use Rattle.px_global_state.specs.States.{moment_of}
use Rattle.px_compute_op.specs.Outs.{HasTaken}
use Rattle.px_compute_op.specs.Phase.{Begun, IsRunFile, SameBench}
use Rattle.px_compute_op.proofs.Rows.{RowsAt}
use Rattle.px_compute_op.proofs.phase.each_row.Given as goal

-- what a row's outbox keeps to: the group, the requests and the disk as they are before the row, and the requests before the phase
abbrev pub ghosts-compute_in : goal.ghosts-compute_in
ghosts-compute_in g a = record {
  start = record { program = g.K.Meant.start.program; group = g.G.Group.made a.group.now; requests = a.requests.now; disk = g.SD.Disk.shown a.scratch.now; spare = a.spare.now };
  asked_before = g.K.Meant.asked_before;
}

abbrev pub invariant-loop-row : goal.invariant-loop-row
invariant-loop-row g l =
    let m = g.K.Meant.start.program in
    let s0 = g.SD.Disk.shown l.fn.scratch in
    let s = g.SD.Disk.shown l.scratch in
    let d0 = g.GD.Disk.shown l.fn.graph in
    let d = g.GD.Disk.shown l.graph in
    let room = room_of s0.page_len in
    record {
      going : (x : Graph) (rows : List Row)
          → Begun m.message (HasRows g.J.Join.probing (g.St.Store.holds l.fn.store l.fn.desk d0) (g.St.Store.scans l.fn.store l.fn.desk d0) (g.J.Join.gives l.fn.join s0) x)
          (Took s0 l.fn.bench.updates) (g.G.Group.took s0 l.fn.bench.group m.message) rows
          → ((a : Pairs) → g.K.Meant.asked_before a → Asked s0 l.fn.requests a)
          → RowsAt m (moment_of l.gs) room (HasRows g.J.Join.probing (g.St.Store.holds l.store l.desk d) (g.St.Store.scans l.store l.desk d) (g.J.Join.gives l.join s) x) (Took s l.bench.updates)
          (HasTaken m room (g.G.Group.took s l.bench.group m.message) (Asked s l.requests) g.K.Meant.asked_before l.part) rows;
      held : (x : Graph) (rows : List Row) → HasRows g.J.Join.probing (g.St.Store.holds l.fn.store l.fn.desk d0) (g.St.Store.scans l.fn.store l.fn.desk d0) (g.J.Join.gives l.fn.join s0) x rows
          → (rest : List Row) × HasRows g.J.Join.probing (g.St.Store.holds l.store l.desk d) (g.St.Store.scans l.store l.desk d) (g.J.Join.gives l.join s) x rest
          × (IsTrue g.J.Join.probing → OnTrue g.St.Store.counted (d.reads + 64 * length rest ≤ d0.reads + 64 * length rows));
      clean : Clean (IsRunFile (g.G.Group.made l.fn.bench.group) l.fn.bench.updates.file) s0 s;
      done : IsDone g.St.Store.counted (g.St.Store.part l.fn.store) l.fn.desk d0 l.desk d;
      few_sends : l.part.sends ≤ 2 ^ 40;
      few_requests : l.part.requests ≤ 2 ^ 40;
      small : l.part.contributed < 2 ^ 64;
      takes : IsTrue (g.G.Group.is_open l.bench.group);
      first : l.bench.updates.first ≡ l.fn.bench.updates.first;
      leaves : OnTrue g.St.Store.counted (g.St.Store.leaves l.store ≡ g.St.Store.leaves l.fn.store);
      reads : IsFalse g.J.Join.probing → OnTrue g.St.Store.counted (d.reads + g.St.Store.unread l.store l.desk ≤ d0.reads + g.St.Store.unread l.fn.store l.fn.desk);
      part : g.St.Store.part l.store ≡ g.St.Store.part l.fn.store;
      desk : SameDesk l.fn.desk l.desk;
      join : g.J.Join.view l.join ≡ g.J.Join.view l.fn.join;
      requests : SameRequests l.fn.requests l.requests;
      bench : SameBench g.G.Group.made l.fn.bench l.bench;
    }

abbrev pub decreases-loop-row : goal.decreases-loop-row
decreases-loop-row g l = g.J.Join.left l.join + g.St.Store.left l.store
