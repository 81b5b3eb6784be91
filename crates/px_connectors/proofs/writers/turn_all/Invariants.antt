use Rattle.std.proofs.Common.{◌≡◌, ◌<◌, ◌≤◌, length, ℕ}
use Rattle.std.specs.Prelude.{None, slice_index_or}
use Rattle.px_connectors.specs.Writers.{EachWriter, WritesPart, OfWriter}
use Rattle.px_connectors.proofs.writers.turn_all.Given as goal

abbrev pub invariant-loop-q : goal.invariant-loop-q
invariant-loop-q l =
    record {
      turned : (old len : ℕ) → EachWriter (WritesPart old len) l.fn.writers → (i : ℕ) → i < l.q → OfWriter (WritesPart l.fn.first len i) (slice_index_or l.writers i None);
      rest : (i : ℕ) → l.q ≤ i → slice_index_or l.writers i None ≡ slice_index_or l.fn.writers i None;
      count : length l.writers ≡ length l.fn.writers;
    }
