use Rattle.std.proofs.Common.{◌≡◌, ◌≤◌, ◌+◌, drop}
use Rattle.std.specs.List.{prefix_len}
use Rattle.px_pages.specs.Page.{tuples_of, left_of}
use Rattle.px_pages.specs.Place.{IsFront, is_below}
use Rattle.px_pages.proofs.place.find_from.Given as goal

abbrev pub invariant-loop-t : goal.invariant-loop-t
invariant-loop-t l = record {
  front : IsFront l.fn.from.index l.fn.from.at l.page → IsFront l.index l.at l.page;
  left : IsFront l.fn.from.index l.fn.from.at l.page → drop l.index (tuples_of l.page) ≡ left_of l.reader l.page;
  reader : l.reader.at ≡ l.at;
  before : IsFront l.fn.from.index l.fn.from.at l.page → l.fn.from.index ≤ prefix_len (is_below l.key) (tuples_of l.page) → prefix_len (is_below l.key) (tuples_of l.page) ≡ l.index + prefix_len (is_below l.key) (left_of l.reader l.page);
}

abbrev pub decreases-loop-t : goal.decreases-loop-t
decreases-loop-t l = l.reader.left
