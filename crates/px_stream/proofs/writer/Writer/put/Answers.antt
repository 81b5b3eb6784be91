use Rattle.std.proofs.Common.{◌≤◌, ◌+◌, length, refl}
use Rattle.px_pages.specs.Entry.{entry}
use Rattle.px_meaning.specs.Graph.{room_of}
use Rattle.px_stream.proofs.Writing.{took_put}
use Rattle.px_stream.proofs.writer.Writer.put.Goals as goal

pub returns-clause-took : goal.returns-clause-took
returns-clause-took g c = λ l k.
    let e = entry c.args.key c.args.tag c.args.body.now in
    let room : 13 + length c.args.body.now ≤ room_of (g.D.Disk.shown c.make_room.new.disk).page_len = rw (c.in_ok-make_room.ensures.ok.touches.page_len, ← c.requires.page_len) c.requires.room in
    rw c.add.ensures (took_put _ _ _ e l refl refl refl refl room (c.in_ok-make_room.ensures.took l k))
