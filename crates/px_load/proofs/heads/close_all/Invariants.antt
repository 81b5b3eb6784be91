use Rattle.std.proofs.Common.{◌≡◌, ◌+◌, ◌≤◌, length}
use Rattle.px_frames.specs.Shares.{SamePlaces}
use Rattle.px_load.specs.Heads.{AreReaders}
use Rattle.px_load.proofs.heads.close_all.Given as goal

abbrev pub invariant-loop-part : goal.invariant-loop-part
invariant-loop-part l =
    record {
      share : SamePlaces l.fn.share l.share;
      frames : length l.share.frames + length l.readers.items ≡ length l.fn.share.frames + length l.fn.readers.items;
      within : length l.fn.share.frames + length l.fn.readers.items ≤ l.fn.share.size;
      are : AreReaders l.fn.share.frame_len l.readers.items;
    }

abbrev pub decreases-loop-part : goal.decreases-loop-part
decreases-loop-part l = length l.readers.items
