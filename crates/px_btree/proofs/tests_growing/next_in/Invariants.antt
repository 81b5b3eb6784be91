use Rattle.std.proofs.Common.{◌-◌, length}
use Rattle.px_btree.proofs.tests_growing.next_in.Given as goal

abbrev pub decreases-loop-vid : goal.decreases-loop-vid
decreases-loop-vid l = length l.lens - l.vid
