use Rattle.std.proofs.Common.{◌≡◌, ◌+◌, IsTrue}
use Rattle.px_program.specs.Groups.{room_in}
use Rattle.px_bench.proofs.group.sum.Given as goal

abbrev pub invariant-loop-vid : goal.invariant-loop-vid
invariant-loop-vid g l = record {
  page_len : (g.G.Group.made l.group).frame_len ≡ (g.D.Disk.shown l.disk).page_len;
  sealed : IsTrue (g.G.Group.is_sealed l.group);
  limit : 13 + l.into.limit ≡ room_in (g.G.Group.made l.group);
}

abbrev pub decreases-loop-vid : goal.decreases-loop-vid
decreases-loop-vid g l = g.G.Group.left l.group
