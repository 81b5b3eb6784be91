use Rattle.std.proofs.Common.{◌≤◌, ◌<◌, ◌-◌, ℕ, length, get_or}
use Rattle.std.specs.List.Sorted.{IsNonDecreasingBy}
use Rattle.px_pages.specs.Entry.{Entry}
use Rattle.px_pages.specs.Page.{tuples_of}
use Rattle.px_pages.specs.Children.{AreChildren, children_of}
use Rattle.px_pages.proofs.inner.children_to.Given as goal

abbrev pub invariant-loop-low : goal.invariant-loop-low
invariant-loop-low l = record {
  order : l.low ≤ l.high;
  within : l.high ≤ children_of l.page;
  below : AreChildren (tuples_of l.page) → IsNonDecreasingBy (λ (e : Entry). e.key) (tuples_of l.page) → (k : ℕ) (d : Entry) → k < l.low → (get_or (tuples_of l.page) k d).key ≤ l.key;
  above : AreChildren (tuples_of l.page) → IsNonDecreasingBy (λ (e : Entry). e.key) (tuples_of l.page) → (k : ℕ) (d : Entry) → l.high ≤ k → k < length (tuples_of l.page) → l.key < (get_or (tuples_of l.page) k d).key;
}

abbrev pub decreases-loop-low : goal.decreases-loop-low
decreases-loop-low l = l.high - l.low
