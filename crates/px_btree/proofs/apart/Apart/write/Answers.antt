use Rattle.std.proofs.Common.{◌+◌, length, refl, sym, arith}
use Rattle.px_pages.specs.Entry.{Entry, IsEntry, entry}
use Rattle.px_pages.proofs.Writing.{length-entry_bytes}
use Rattle.px_pages.proofs.Editing.{filled}
use Rattle.px_btree.proofs.ApartPage.{put_behind}
use Rattle.px_btree.proofs.apart.Apart.write.Goals as goal

pub returns-clause-written : goal.returns-clause-written
returns-clause-written c = λ len kind link xs os ys keeps to_is count_is.
    let a = c.args.self.now in
    let page = c.args.page.now in
    let e : Entry = entry c.args.key c.args.tag c.args.body.now in
    let this : IsEntry e = record { key = omega arith; tag = omega arith; body = omega (arith, c.requires.room, c.requires.within, c.requires.page_len) } in
    put_behind len kind link xs os ys e a page _ c.put_counts.new.page c.args.to c.args.count _ this keeps to_is count_is c.requires.room refl
    (filled e page _ c.put_entry.new.out a.at (13 + length c.args.body.now) _ (sym (length-entry_bytes e)) refl c.put_entry.ensures refl) c.put_counts.ensures
