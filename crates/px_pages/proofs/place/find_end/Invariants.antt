use Rattle.std.proofs.Common.{◌≡◌, ◌≤◌, ◌+◌, ◌*◌, length, take, drop, max}
use Rattle.px_pages.specs.Page.{tuples_of, left_of, used_of, header_len}
use Rattle.px_pages.proofs.place.find_end.Given as goal

abbrev pub invariant-loop-t : goal.invariant-loop-t
invariant-loop-t l = record {
  index : l.index ≤ length (tuples_of l.page);
  left : drop l.index (tuples_of l.page) ≡ left_of l.reader l.page;
  at : l.at ≡ used_of (take l.index (tuples_of l.page));
  reader : l.reader.at ≡ l.at;
  below : l.at ≤ max header_len l.limit;
  few : 32 + 13 * l.index ≤ l.at;
  end : l.at ≤ length l.page;
}

abbrev pub decreases-loop-t : goal.decreases-loop-t
decreases-loop-t l = l.reader.left
