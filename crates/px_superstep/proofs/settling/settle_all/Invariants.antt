use Rattle.std.proofs.Common.{◌≡◌, ◌≤◌, ◌*◌, ◌^◌, ℕ, length}
use Rattle.px_core.specs.Shown.{Clean}
use Rattle.px_cache.specs.View.{AnyFile}
use Rattle.px_meaning.specs.Graph.{Graph, room_of}
use Rattle.px_meaning.specs.Merge.{Pairs}
use Rattle.px_connectors.specs.Asking.{pages_of}
use Rattle.px_store.specs.Desks.{SameDesk}
use Rattle.px_load.specs.Loading.{IsFree, AreStores}
use Rattle.px_mutations.specs.Applying.{settled_after}
use Rattle.px_superstep.specs.Benches.{HasBench}
use Rattle.px_superstep.specs.Files.{IsSettlingFile}
use Rattle.px_superstep.specs.Steps.{SettledBelow, IsSum}
use Rattle.px_superstep.proofs.settling.settle_all.Given as goal

-- the partitions below the one at hand are settled
abbrev pub invariant-loop-q : goal.invariant-loop-q
invariant-loop-q g l =
    let p = g.P.Program.meaning l.program in
    let n = length l.fn.stores in
    let t0 = g.SD.Disk.shown l.fn.scratch in
    let t = g.SD.Disk.shown l.scratch in
    let g0 = g.GD.Disk.shown l.fn.graph in
    let g1 = g.GD.Disk.shown l.graph in
    let room = room_of t0.page_len in
    record {
      settled : (before changes : ℕ → Graph) (asked : ℕ → Pairs) → SettledBelow p room l.parity (λ x k. g.St.Store.holds x l.fn.desk g0 k) l.fn.stores t0 l.fn.tallies l.update_pages (pages_of l.requests) before changes asked 0
          → SettledBelow p room l.parity (λ x k. g.St.Store.holds x l.desk g1 k) l.stores t l.tallies l.update_pages (pages_of l.requests) before changes asked l.q;
      summed : (before changes : ℕ → Graph) (asked : ℕ → Pairs) → SettledBelow p room l.parity (λ x k. g.St.Store.holds x l.fn.desk g0 k) l.fn.stores t0 l.fn.tallies l.update_pages (pages_of l.requests) before changes asked 0
          → IsSum l.q (λ q. settled_after p (before q) (changes q) (asked q)) l.sum;
      few : l.sum.count ≤ 2 ^ 32 * l.q;
      live : l.sum.live ≤ l.sum.count;
      count : length l.stores ≡ n;
      tallies_are : length l.tallies ≡ n;
      end : l.q-end ≡ n;
      bound : l.q ≤ n;
      parts : AreStores g.St.Store.part l.stores;
      free : IsFree g.St.Store.counted l.desk g1;
      graph_len : l.bank.frame_len ≡ g1.page_len;
      scratch_len : l.bank.frame_len ≡ t.page_len;
      bench : HasBench l.bank;
      bank : l.bank ≡ l.fn.bank;
      desk : SameDesk l.fn.desk l.desk;
      clean : Clean AnyFile g0 g1;
      ok : Clean IsSettlingFile t0 t;
    }
