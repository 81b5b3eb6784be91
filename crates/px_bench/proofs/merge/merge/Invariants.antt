use Rattle.std.proofs.Common.{◌≡◌, ◌≤◌, ◌+◌, length}
use Rattle.px_meaning.specs.Graph.{room_of}
use Rattle.px_runs.specs.Inputs.{all_left}
use Rattle.px_bench.proofs.merge.merge.Given as goal

abbrev pub invariant-loop-head : goal.invariant-loop-head
invariant-loop-head g l = record {
  page_len : l.runs.writer.page_len ≡ (g.D.Disk.shown l.disk).page_len;
  frames : length l.runs.inputs ≤ length l.share.frames;
  frame_len : l.share.frame_len ≡ l.runs.writer.page_len;
  limit : room_of l.runs.writer.page_len ≤ 13 + l.into.limit;
}

abbrev pub decreases-loop-head : goal.decreases-loop-head
decreases-loop-head g l = all_left l.runs.inputs
