use Rattle.px_pages.proofs.Editing.{gap_back, gap_kept}
use Rattle.px_pages.proofs.edit.make_gap.Goals as goal

pub returns-clause-back : goal.returns-clause-back
returns-clause-back c = λ tail.
    let gap = c.args.gap in
    gap_back c.args.page.now c.shift.new.page c.wipe.new.page gap.from gap.to gap.end gap.len _ c.requires.from c.requires.to c.requires.used c.requires.room c.shift.ensures c.max.ensures c.wipe.ensures tail

pub returns-then-gap-clause-back : goal.returns-then-gap-clause-back
returns-then-gap-clause-back c = λ tail.
    let gap = c.args.gap in
    gap_kept c.args.page.now gap.from gap.to gap.end gap.len c.requires.to c.requires.used c.if-gap.true tail
