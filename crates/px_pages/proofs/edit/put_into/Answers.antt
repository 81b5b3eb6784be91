use Rattle.std.proofs.Common.{◌≡◌, ◌≤◌, ◌+◌, ◌-◌, ◌++◌, ◌∷◌, refl, [], length, arith}
use Rattle.std.proofs.lemmas.List.{length-append}
use Rattle.px_pages.specs.Entry.{Entry, IsEntry, entry, entry_bytes}
use Rattle.px_pages.proofs.Writing.{length-entry_bytes}
use Rattle.px_pages.proofs.Editing.{spliced, filled}
use Rattle.px_pages.proofs.edit.put_into.Goals as goal

pub returns : goal.returns
returns c = λ len kind link es xs os ys made whole from_is to_is end_is count_is.
    let page = c.args.page.now in
    let gap = c.args.gap in
    let p1 = c.make_gap.new.page in
    let e : Entry = entry c.args.key c.args.tag c.args.body.now in
    let fits = c.requires.fits in
    let is_e : IsEntry e = record { key = omega arith; tag = omega arith; body = omega (arith, c.requires.size, fits.room, c.requires.page_len) } in
    let size : gap.len ≡ length (entry_bytes e) = omega (arith, c.requires.size, length-entry_bytes e) in
    let room : gap.from + gap.len + (gap.end - gap.to) ≤ len = omega (arith, fits.room, made.page_len) in
    spliced kind link len es (xs ++ e ∷ ys) xs os (e ∷ []) ys page p1 _ c.put_counts.new.page gap.from gap.to gap.end gap.len c.args.count (gap.from + gap.len + (gap.end - gap.to)) made (is_e, tt) whole refl from_is to_is end_is
    (omega (arith, size, length-append (entry_bytes e) [])) refl room c.make_gap.ensures.front c.make_gap.ensures.back
    (filled e p1 _ c.put_entry.new.out gap.from gap.len _ size refl c.put_entry.ensures refl) c.put_counts.ensures count_is
