use Rattle.std.proofs.Common.{◌-◌, ◌+◌, ◌≡◌, length, arith}
use Rattle.px_pages.specs.Entry.{entry}
use Rattle.px_pages.proofs.Writing.{entry_put}
use Rattle.px_pages.proofs.writer.put_entry.Goals as goal

pub returns : goal.returns
returns c =
    let k : 13 + length c.args.body.now - 13 ≡ length c.args.body.now = omega arith in
    entry_put (entry c.args.key c.args.tag c.args.body.now) c.args.out.now c.put_front.new.out c.copy_from_slice.new.self _ c.put_front.ensures c.copy_from_slice.ensures.after k
