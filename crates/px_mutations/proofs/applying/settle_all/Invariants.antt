use Rattle.std.proofs.Common.{◌≡◌, ◌≤◌, ◌+◌, false, IsTrue}
use Rattle.px_core.specs.Shown.{Clean}
use Rattle.px_frames.specs.Buffer.{SameRoom as SameBuf}
use Rattle.px_meaning.specs.Graph.{Graph, room_of}
use Rattle.px_meaning.specs.Merge.{Pairs}
use Rattle.px_meaning.specs.Step.{has_wide_fold}
use Rattle.px_stream.specs.Counts.{left}
use Rattle.px_stream.specs.Stream.{Took, ToGive}
use Rattle.px_store.specs.Desks.{IsDone, SameDesk, SameRoom}
use Rattle.px_mutations.specs.Turns.{still}
use Rattle.px_mutations.specs.Applying.{IsSettled, IsMerging}
use Rattle.px_mutations.proofs.Merging.{MergingAt}
use Rattle.px_mutations.proofs.applying.settle_all.Given as goal

abbrev pub invariant-loop-turn : goal.invariant-loop-turn
invariant-loop-turn g l =
    let p = g.P.Program.meaning l.fn.program in
    let s0 = g.SD.Disk.shown l.fn.scratch in
    let s = g.SD.Disk.shown l.scratch in
    let d0 = g.GD.Disk.shown l.fn.graph in
    let d = g.GD.Disk.shown l.graph in
    let room = room_of s0.page_len in
    record {
      going : (x changes : Graph) (all folds : Pairs)
          → IsMerging p room (g.St.Store.holds l.fn.store l.fn.desk d0) (ToGive s0 l.fn.updates) (g.G.Group.gives s0 l.fn.group p.verdict all) (Took s0 l.fn.vids) x changes folds
          → MergingAt p room (has_wide_fold p.verdict room all ≡ false) g.St.Store.counted d.reads (g.St.Store.leaves l.store) d0.reads (g.St.Store.leaves l.fn.store)
          (g.St.Store.holds l.store l.desk d) (ToGive s l.updates) (g.G.Group.gives s l.group p.verdict all) (Took s l.vids) l.asked l.verdict.bytes l.counts x changes folds;
      clean : Clean (IsSettled (g.G.Group.made l.fn.group) l.fn.vids.file) s0 s;
      done : IsDone g.St.Store.counted (g.St.Store.part l.fn.store) l.fn.desk d0 l.desk d;
      part : g.St.Store.part l.store ≡ g.St.Store.part l.fn.store;
      desk : SameDesk l.fn.desk l.desk;
      sealed : IsTrue (g.G.Group.is_sealed l.group);
      group : g.G.Group.made l.group ≡ g.G.Group.made l.fn.group;
      first : SameRoom l.fn.first l.first;
      second : SameRoom l.fn.second l.second;
      verdict : SameBuf l.fn.verdict l.verdict;
      updates_file : l.updates.file ≡ l.fn.updates.file;
      updates_len : l.updates.page_len ≡ l.fn.updates.page_len;
      vids_file : l.vids.file ≡ l.fn.vids.file;
      vids_len : l.vids.page_len ≡ l.fn.vids.page_len;
      vids_first : l.vids.first ≡ l.fn.vids.first;
    }

abbrev pub decreases-loop-turn : goal.decreases-loop-turn
decreases-loop-turn g l = left l.updates + still (g.G.Group.left l.group) l.asked
