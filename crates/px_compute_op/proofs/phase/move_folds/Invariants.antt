use Rattle.std.proofs.Common.{◌≡◌, ◌≢◌, ◌<◌, ℕ, [], IsTrue}
use Rattle.px_core.specs.Shown.{Clean}
use Rattle.px_frames.specs.Buffer.{SameRoom}
use Rattle.px_meaning.specs.Graph.{IsMap}
use Rattle.px_meaning.specs.Merge.{Pairs}
use Rattle.px_compute_op.specs.Phase.{OwnOrSent}
use Rattle.px_compute_op.proofs.Moving.{Moving}
use Rattle.px_compute_op.proofs.phase.move_folds.Given as goal

abbrev pub invariant-loop-vid : goal.invariant-loop-vid
invariant-loop-vid g l =
    let shown = g.SD.Disk.shown in
    let rule = g.M.Merge.rule l.fn.merge in
    let sender = (g.C.Connector.view l.fn.connector).sender in
    record {
      moving : (all rest : Pairs) → IsMap rest → g.G.Group.gives (shown l.fn.scratch) l.fn.group rule all rest → g.C.Connector.sending l.fn.connector (shown l.fn.scratch) sender []
          → Moving (g.G.Group.gives (shown l.scratch) l.group rule all) (g.C.Connector.sending l.connector (shown l.scratch) sender) rest;
      some : (all rest : Pairs) → g.G.Group.gives (shown l.fn.scratch) l.fn.group rule all rest → (now : Pairs) × g.G.Group.gives (shown l.scratch) l.group rule all now;
      others : (p : ℕ) (k : Pairs) → p < 16 → p ≢ sender → g.C.Connector.sent l.fn.connector (shown l.fn.scratch) p k → g.C.Connector.sent l.connector (shown l.scratch) p k;
      clean : Clean (OwnOrSent (g.G.Group.made l.fn.group) sender) (shown l.fn.scratch) (shown l.scratch);
      made : g.G.Group.made l.group ≡ g.G.Group.made l.fn.group;
      sealed : IsTrue (g.G.Group.is_sealed l.group);
      view : g.C.Connector.view l.connector ≡ g.C.Connector.view l.fn.connector;
      into : SameRoom l.fn.into l.into;
    }

abbrev pub decreases-loop-vid : goal.decreases-loop-vid
decreases-loop-vid g l = g.G.Group.left l.group
