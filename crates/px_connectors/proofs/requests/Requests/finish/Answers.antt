use Rattle.std.proofs.Common.{sym, subst, length, ◌+◌}
use Rattle.px_connectors.specs.Asking.{RequestsView}
use Rattle.px_connectors.specs.Writers.{parts_in, TookParts}
use Rattle.px_connectors.proofs.Asked.{asked_of}
use Rattle.px_connectors.proofs.requests.Requests.finish.Goals as goal

pub returns-clause-holds : goal.returns-clause-holds
returns-clause-holds g c = λ l asked.
    asked_of (g.D.Disk.shown c.finish.new.disk) c.self.inside.writers (record { frame_len = c.self.inside.share.frame_len; size = c.self.inside.share.size; frames = length c.self.inside.share.frames + parts_in c.finish.new.self; writers = c.finish.new.self }) l c.self.invariant.0 c.finish.ensures.stays.parts
    (c.in_ok-finish.ensures.holds 2 l (subst (λ (v : RequestsView). TookParts (g.D.Disk.shown c.args.disk.now) 2 v.writers l) (sym c.self.view_is) asked.took))
