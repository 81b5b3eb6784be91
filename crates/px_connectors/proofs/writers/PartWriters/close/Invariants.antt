use Rattle.std.proofs.Common.{◌≡◌, ◌+◌, ◌≤◌, length}
use Rattle.px_frames.specs.Shares.{SamePlaces}
use Rattle.px_connectors.specs.Writers.{EachWriter, parts_in}
use Rattle.px_connectors.proofs.writers.PartWriters.close.Given as goal

abbrev pub invariant-loop-writer : goal.invariant-loop-writer
invariant-loop-writer l =
    record {
      share : SamePlaces l.fn.share l.share;
      frames : length l.share.frames + length l.writers.items ≡ length l.fn.share.frames + parts_in l.fn.self;
      within : length l.fn.share.frames + parts_in l.fn.self ≤ l.fn.share.size;
      len : l.fn.self.frame_len ≡ l.fn.share.frame_len;
      each : EachWriter (λ q w. w.page_len ≡ l.fn.self.frame_len) l.writers.items;
    }

abbrev pub decreases-loop-writer : goal.decreases-loop-writer
decreases-loop-writer l = length l.writers.items
