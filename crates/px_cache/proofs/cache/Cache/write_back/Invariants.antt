use Rattle.px_cache.specs.View.{SameShown, OnlyCleaned, ReadsUpTo, changes}
use Rattle.px_cache.proofs.cache.Cache.write_back.Given as goal

abbrev pub invariant-loop-i : goal.invariant-loop-i
invariant-loop-i g l =
    let shown = g.D.Disk.shown in
    record {
      shows : SameShown l.fn.self (shown l.fn.disk) l.self (shown l.disk);
      stays : OnlyCleaned l.fn.self l.self;
      disk : ReadsUpTo 0 (shown l.fn.disk) (shown l.disk);
    }

abbrev pub decreases-loop-i : goal.decreases-loop-i
decreases-loop-i g l = changes l.self.notes
