use Rattle.std.proofs.Common.{refl}
use Rattle.std.specs.Prelude.{None}
use Rattle.px_pages.specs.Entry.{entry}
use Rattle.px_btree.proofs.Filling.{appended}
use Rattle.px_btree.proofs.filled.append_in.Goals as goal

pub returns : goal.returns
returns c =
    appended c.insert.result (entry c.args.key c.args.tag c.args.body.now) (record { index = c.count.result; at = c.used.result; tuple = None }) c.args.page.now c.insert.new.page
    c.count.ensures c.used.ensures refl c.insert.ensures.put c.insert.ensures.full
