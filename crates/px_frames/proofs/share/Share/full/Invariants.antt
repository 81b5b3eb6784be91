use Rattle.std.proofs.Common.{◌≡◌, length}
use Rattle.px_frames.proofs.share.Share.full.Given as goal

abbrev pub invariant-loop : goal.invariant-loop
invariant-loop l = (l.share.size ≡ l.size) × (l.share.frame_len ≡ l.frame_len) × (length l.share.frames ≡ l.counter)
