use Rattle.std.proofs.Common.{◌≡◌, IsTrue}
use Rattle.px_bench.proofs.superstep.add_sends.Given as goal

abbrev pub invariant-loop-i : goal.invariant-loop-i
invariant-loop-i g l = record {
  page_len : (g.D.Disk.shown l.disk).page_len ≡ (g.D.Disk.shown l.fn.disk).page_len;
  opened : IsTrue (g.G.Group.is_open l.group);
  stays : g.G.Group.made l.group ≡ g.G.Group.made l.fn.group;
}
