use Rattle.std.proofs.Common.{◌≡◌, ◌-◌, List, []}
use Rattle.px_core.specs.Shown.{Worked, NoFile}
use Rattle.px_pages.specs.Entry.{Entry}
use Rattle.px_stream.specs.Counts.{WentOn}
use Rattle.px_stream.specs.Stream.{ToGive}
use Rattle.px_stream.proofs.reader.Reader.settle.Given as goal

abbrev pub invariant-loop-self : goal.invariant-loop-self
invariant-loop-self g l =
    let shown = g.D.Disk.shown in
    record {
      to_give : (es : List Entry) → ToGive (shown l.fn.disk) l.fn.self es → ToGive (shown l.disk) l.self es;
      still : (l.fn.self.here ≡ [] → ⊥) → l.self ≡ l.fn.self;
      untouched : (l.fn.self.here ≡ [] → ⊥) → shown l.disk ≡ shown l.fn.disk;
      worked : Worked NoFile (l.self.page - l.fn.self.page) 0 (shown l.fn.disk) (shown l.disk);
      on : WentOn (shown l.fn.disk) (shown l.disk) l.fn.self l.self;
    }

abbrev pub decreases-loop-self : goal.decreases-loop-self
decreases-loop-self g l = l.self.pages - l.self.page
