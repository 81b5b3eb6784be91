use Rattle.std.proofs.Common.{◌≡◌, ◌≤◌, ◌-◌, List, length, drop}
use Rattle.px_pages.specs.Entry.{Entry, AreEntries, bytes_of}
use Rattle.px_btree.proofs.ApartWalk.{Walks}
use Rattle.px_btree.proofs.apart.walk.Given as goal

abbrev pub invariant-loop-head : goal.invariant-loop-head
invariant-loop-head l = record {
  walked : (es : List Entry) → AreEntries es → drop l.from l.page ≡ bytes_of es → Walks l.key l.from l.at l.page es;
  after : l.from ≤ l.at;
  within : l.at ≤ length l.page;
}

abbrev pub decreases-loop-head : goal.decreases-loop-head
decreases-loop-head l = length l.page - l.at
