use Rattle.std.proofs.Common.{◌≡◌, List, IsTrue}
use Rattle.px_core.specs.Shown.{Clean}
use Rattle.px_frames.specs.Buffer.{SameRoom}
use Rattle.px_pages.specs.Entry.{Entry}
use Rattle.px_stream.specs.Stream.{Took}
use Rattle.px_meaning.specs.Merge.{Pairs}
use Rattle.px_connectors.specs.Files.{OwnOr}
use Rattle.px_connectors.proofs.Between.{Giving, Counting}
use Rattle.px_connectors.proofs.gathering.write_folds.Given as goal

abbrev pub invariant-loop-vid : goal.invariant-loop-vid
invariant-loop-vid g l =
    let shown = g.D.Disk.shown in
    let rule = g.M.Merge.rule l.fn.merge in
    record {
      giving : (all rest : Pairs) (k : List Entry) → g.G.Group.gives (shown l.fn.disk) l.fn.group rule all rest → Took (shown l.fn.disk) l.fn.to k
          → Giving (g.G.Group.gives (shown l.disk) l.group rule all) (shown l.disk) l.to k rest;
      some : (all rest : Pairs) → g.G.Group.gives (shown l.fn.disk) l.fn.group rule all rest → (now : Pairs) × g.G.Group.gives (shown l.disk) l.group rule all now;
      counted : (all rest : Pairs) → g.G.Group.gives (shown l.fn.disk) l.fn.group rule all rest → Counting (g.G.Group.gives (shown l.disk) l.group rule all) l.count rest;
      clean : Clean (OwnOr (g.G.Group.made l.fn.group) l.fn.to.file) (shown l.fn.disk) (shown l.disk);
      made : g.G.Group.made l.group ≡ g.G.Group.made l.fn.group;
      sealed : IsTrue (g.G.Group.is_sealed l.group);
      to_file : l.to.file ≡ l.fn.to.file;
      to_first : l.to.first ≡ l.fn.to.first;
      to_len : l.to.page_len ≡ l.fn.to.page_len;
      room : SameRoom l.fn.into l.into;
    }

abbrev pub decreases-loop-vid : goal.decreases-loop-vid
decreases-loop-vid g l = g.G.Group.left l.group
