use Rattle.std.proofs.Common.{◌≡◌, ◌+◌, ◌≤◌, ℕ, length}
use Rattle.px_core.specs.Shown.{Shown}
use Rattle.px_frames.specs.Shares.{SamePlaces}
use Rattle.px_meaning.specs.Graph.{Graph}
use Rattle.px_load.specs.Heads.{AreReaders}
use Rattle.px_load.specs.Scanning.{HoldFiles}
use Rattle.px_load.proofs.HeadsSteps.{GiveFirst}
use Rattle.px_load.proofs.heads.open_all.Given as goal

abbrev pub invariant-loop-q : goal.invariant-loop-q
invariant-loop-q l =
    record {
      share : SamePlaces l.fn.share l.share;
      frames : length l.share.frames + l.q ≡ length l.fn.share.frames;
      within : length l.fn.share.frames ≤ l.fn.share.size;
      count : length l.readers.items ≡ l.q;
      gives : (s : Shown) (room : ℕ) (k : Graph) → HoldFiles s room l.parts l.parts l.pages k → GiveFirst s room l.parts l.readers.items k;
      are : AreReaders l.fn.share.frame_len l.readers.items;
    }
