use Rattle.std.proofs.Common.{ℕ}
use Rattle.px_core.specs.Shown.{Clean}
use Rattle.px_meaning.specs.Merge.{Pairs}
use Rattle.px_connectors.specs.Writers.{AreWriters, SameWriters, IsPartFile, TookParts, parts_in}
use Rattle.px_connectors.proofs.Parting.{Ending}
use Rattle.px_connectors.proofs.writers.PartWriters.finish.Given as goal

abbrev pub invariant-loop-q : goal.invariant-loop-q
invariant-loop-q g l =
    let shown = g.D.Disk.shown in
    record {
      ending : (tag : ℕ) (k : Pairs) → TookParts (shown l.fn.disk) tag l.fn.self k → Ending (shown l.disk) tag l.q (parts_in l.fn.self) l.fn.self.first l.self k;
      clean : Clean (IsPartFile l.fn.self.first) (shown l.fn.disk) (shown l.disk);
      stays : SameWriters l.fn.self l.self;
      are : AreWriters l.self;
    }
