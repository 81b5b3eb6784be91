use Rattle.std.proofs.Common.{◌≡◌, ◌≤◌, ◌+◌, ◌-◌, ◌++◌, ◌∙◌, ap, sym, refl, ℕ, [], length, take, drop, arith}
use Rattle.std.proofs.lemmas.List.{take-append-drop}
use Rattle.px_pages.specs.Page.{zeros}
use Rattle.px_pages.specs.Gap.{FitsIn}
use Rattle.px_pages.proofs.Editing.{spliced}
use Rattle.px_pages.proofs.Places.{no_room}
use Rattle.px_pages.proofs.edit.take_out.Goals as goal

pub returns-then-not-fits : goal.returns-then-not-fits
returns-then-not-fits c = λ fits. absurd (no_room c.fits.result (FitsIn c.args.gap (length c.args.page.now)) c.fits.ensures c.if-not-fits.true fits)

pub returns : goal.returns
returns c = λ fits len kind link es xs os ys made whole from_is to_is end_is count_is.
    let page = c.args.page.now in
    let gap = c.args.gap in
    let p1 = c.make_gap.new.page in
    let zero : gap.from ≡ gap.from + gap.len = omega (arith, c.requires.empty) in
    let end : gap.from + gap.len + (gap.end - gap.to) ≡ gap.end - (gap.to - gap.from) = omega (arith, fits.from, fits.to, c.requires.empty) in
    let room : gap.end - (gap.to - gap.from) ≤ len = omega (arith, fits.room, end, made.page_len) in
    spliced kind link len es (xs ++ ys) xs os [] ys page p1 p1 c.put_counts.new.page gap.from gap.to gap.end gap.len c.args.count (gap.end - (gap.to - gap.from)) made tt whole refl from_is to_is end_is c.requires.empty (sym end) room
    c.make_gap.ensures.front (λ tail. c.make_gap.ensures.back tail ∙ ap (λ (x : ℕ). take (gap.end - gap.to) (drop gap.to page) ++ zeros (length page - x)) end)
    (sym (take-append-drop gap.from p1) ∙ ap (λ (x : ℕ). take gap.from p1 ++ drop x p1) zero) c.put_counts.ensures count_is
