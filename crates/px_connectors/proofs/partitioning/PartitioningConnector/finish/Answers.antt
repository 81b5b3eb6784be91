use Rattle.std.proofs.Common.{◌≡◌, ◌<◌, ◌+◌, ◌*◌, ℕ, List, sym, subst, ap, arith, length}
use Rattle.std.specs.Prelude.{slice_set}
use Rattle.px_connectors.specs.Sides.{PartitioningView, Sends, IsBegun}
use Rattle.px_connectors.proofs.Sending.{sent_now, writers_is, writers_if, are_sending}
use Rattle.px_connectors.proofs.partitioning.PartitioningConnector.finish.Goals as goal

pub returns-clause-sent : goal.returns-clause-sent
returns-clause-sent g c = λ p l sends.
    let s = g.D.Disk.shown c.args.disk.now in
    let before = subst (λ (v : PartitioningView). Sends v s p l) (sym c.self.view_is) sends in
    let w = c.in-Some.writers in
    let sender = c.self.inside.sender in
    let rows = c.self.inside.pages in
    let begun = writers_is (IsBegun s p l) c.self.inside.writers w c.in-Some.is before.begun in
    let side = are_sending _ _ c.self.inside.writers c.self.inside.readers w c.in-Some.is c.self.invariant.2 in
    let first = writers_if (λ v. v.first ≡ 256 + 16 * sender) c.self.inside.writers w c.in-Some.is c.self.invariant.3 in
    let row : sender < length rows = omega (arith, c.self.invariant.0, c.self.invariant.1, c.self.invariant.4) in
    sent_now _ _ _ sender p rows c.finish.new.self.pages _ l before.is c.self.invariant.0 row first side.parts_are (ap (λ (r : List ℕ). slice_set rows sender r) c.pages.ensures.value) (c.in_ok-finish.ensures.holds 0 l begun.took)
