use Rattle.std.proofs.Common.{◌≡◌, true}
use Rattle.px_core.specs.Shown.{Clean}
use Rattle.px_connectors.specs.Writers.{AreWriters, SameWriters, IsPartFile}
use Rattle.px_connectors.proofs.Parting.{Starting}
use Rattle.px_connectors.proofs.writers.PartWriters.start.Given as goal

abbrev pub invariant-loop-q : goal.invariant-loop-q
invariant-loop-q g l =
    let shown = g.D.Disk.shown in
    record {
      starting : (shown l.fn.disk).tells ≡ true → Starting (shown l.disk) l.q l.self;
      clean : Clean (IsPartFile l.fn.self.first) (shown l.fn.disk) (shown l.disk);
      stays : SameWriters l.fn.self l.self;
      are : AreWriters l.self;
      pages : l.self.pages ≡ l.fn.self.pages;
    }
