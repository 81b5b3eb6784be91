use Rattle.std.proofs.Common.{◌≡◌, ◌≤◌, ◌+◌, ◌*◌, length, take, drop}
use Rattle.px_pages.specs.Page.{tuples_of, left_of, used_of}
use Rattle.px_btree.proofs.split.tuple_across.Given as goal

abbrev pub invariant-loop-tuple : goal.invariant-loop-tuple
invariant-loop-tuple l = record {
  index : l.index ≤ length (tuples_of l.page);
  left : drop l.index (tuples_of l.page) ≡ left_of l.reader l.page;
  at : l.at ≡ used_of (take l.index (tuples_of l.page));
  reader : l.reader.at ≡ l.at;
  below : l.at ≤ l.limit;
  few : 32 + 13 * l.index ≤ l.at;
  end : l.at ≤ length l.page;
}

abbrev pub decreases-loop-tuple : goal.decreases-loop-tuple
decreases-loop-tuple l = l.reader.left
