use Rattle.std.proofs.Common.{◌≡◌, length}
use Rattle.px_meaning.specs.Graph.{room_of}
use Rattle.px_load.specs.Loading.{IsFree}
use Rattle.px_load.proofs.tests.scan_all.Given as goal

abbrev pub invariant-loop-q : goal.invariant-loop-q
invariant-loop-q g l =
    let s = g.D.Disk.shown l.disk in
    record {
      few : length l.stores ≡ length l.fn.stores;
      end : l.q-end ≡ length l.fn.stores;
      free : IsFree g.St.Store.counted l.desk s;
      room : l.v.room ≡ room_of s.page_len;
    }
