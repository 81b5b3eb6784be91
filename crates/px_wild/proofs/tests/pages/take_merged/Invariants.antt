use Rattle.std.proofs.Common.{◌≡◌, ◌≤◌, length}
use Rattle.px_wild.proofs.tests.pages.take_merged.Given as goal

abbrev pub invariant-loop : goal.invariant-loop
invariant-loop g l = record {
  disk : (g.D.Disk.shown l.disk).page_len ≡ 256;
  runs : l.runs.writer.page_len ≡ 256;
  share : l.share.frame_len ≡ 256;
  frames : length l.runs.inputs ≤ length l.share.frames;
  limit : 99 ≤ l.into.limit;
}
