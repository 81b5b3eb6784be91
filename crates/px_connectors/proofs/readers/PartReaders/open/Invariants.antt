use Rattle.std.proofs.Common.{◌≡◌, ◌+◌, ◌≤◌, ℕ, length}
use Rattle.px_core.specs.Shown.{Shown}
use Rattle.px_frames.specs.Shares.{SamePlaces}
use Rattle.px_meaning.specs.Merge.{Pairs}
use Rattle.px_connectors.specs.Receiving.{AreReaders, GiveAll, FilesHold}
use Rattle.px_connectors.proofs.readers.PartReaders.open.Given as goal

abbrev pub invariant-loop-p : goal.invariant-loop-p
invariant-loop-p l =
    record {
      share : SamePlaces l.fn.share l.share;
      frames : length l.share.frames + l.p ≡ length l.fn.share.frames;
      count : length l.readers.items ≡ l.p;
      gives : (s : Shown) (ls : ℕ → Pairs) → FilesHold s l.receiver l.parts l.pages ls → GiveAll s l.readers.items ls;
      are : AreReaders l.fn.share.frame_len l.readers.items;
    }
