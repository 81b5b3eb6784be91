use Rattle.std.proofs.Common.{◌≡◌, ◌<◌, ℕ, length}
use Rattle.px_cache.specs.View.{SameShown, OnlyCleaned, ReadsUpTo, IsIdle}
use Rattle.px_cache.proofs.cache.Cache.flush.Given as goal

abbrev pub invariant-loop-i : goal.invariant-loop-i
invariant-loop-i g l =
    let shown = g.D.Disk.shown in
    record {
      shows : SameShown l.fn.self (shown l.fn.disk) l.self (shown l.disk);
      idle : (k : ℕ) → k < l.i → IsIdle l.self.notes k;
      whole : l.i-end ≡ length l.self.notes;
      stays : OnlyCleaned l.fn.self l.self;
      disk : ReadsUpTo 0 (shown l.fn.disk) (shown l.disk);
    }
