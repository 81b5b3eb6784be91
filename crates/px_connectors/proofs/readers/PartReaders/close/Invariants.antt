use Rattle.std.proofs.Common.{◌≡◌, ◌+◌, ◌≤◌, length}
use Rattle.px_frames.specs.Shares.{SamePlaces}
use Rattle.px_connectors.specs.Receiving.{AreReaders}
use Rattle.px_connectors.proofs.readers.PartReaders.close.Given as goal

abbrev pub invariant-loop-reader : goal.invariant-loop-reader
invariant-loop-reader l =
    record {
      share : SamePlaces l.fn.share l.share;
      frames : length l.share.frames + length l.readers.items ≡ length l.fn.share.frames + length l.fn.self.readers.items;
      within : length l.fn.share.frames + length l.fn.self.readers.items ≤ l.fn.share.size;
      are : AreReaders l.fn.share.frame_len l.readers.items;
    }

abbrev pub decreases-loop-reader : goal.decreases-loop-reader
decreases-loop-reader l = length l.readers.items
