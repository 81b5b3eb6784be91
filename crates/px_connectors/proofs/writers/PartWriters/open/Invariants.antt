use Rattle.std.proofs.Common.{◌≡◌, ◌+◌, ◌<◌, ◌≤◌, length}
use Rattle.px_pages.specs.Page.{IsPageLen}
use Rattle.px_connectors.specs.Writers.{EachWriter, WritesPart}
use Rattle.px_connectors.proofs.writers.PartWriters.open.Given as goal

abbrev pub invariant-loop-q : goal.invariant-loop-q
invariant-loop-q l =
    record {
      size : l.share.size ≡ l.fn.share.size;
      frame_len : l.share.frame_len ≡ l.fn.share.frame_len;
      frames : length l.share.frames + l.q ≡ length l.fn.share.frames;
      within : 0 < l.q → length l.fn.share.frames ≤ l.fn.share.size;
      valid : 0 < l.q → IsPageLen l.fn.share.frame_len;
      count : length l.writers.items ≡ l.q;
      each : EachWriter (WritesPart l.fn.first l.fn.share.frame_len) l.writers.items;
    }
