use Rattle.std.proofs.Common.{sym, subst, ℕ}
use Rattle.std.specs.Prelude.{Option}
use Rattle.px_cache.specs.View.{Shows}
use Rattle.px_btree.specs.Tree.{MarkFits}
use Rattle.px_btree.specs.declared.tree.Mark.{Mark}
use Rattle.px_btree.proofs.Marking.{mark_shows}
use Rattle.px_btree.proofs.tree.ClosedTree.near.Goals as goal

pub returns-in_ok-found-in-Some-clause-shows : goal.returns-in_ok-found-in-Some-clause-shows
returns-in_ok-found-in-Some-clause-shows g c = λ ps levels sh stack first fits.
    let shown = g.D.Disk.shown in
    let s = shown c.args.disk.now in
    let s' = shown c.find_near.new.disk in
    let c' = c.find_near.new.cache in
    let f = c.file-file.result in
    let fits' = subst (λ (o : Option Mark). MarkFits o levels) c.in-Some.ensures.is fits in
    subst (λ (n : ℕ). Shows c' s' n ps) c.file-file.ensures.file
    (mark_shows 0 s.page_len f ps levels c.in-Some.mark c.args.cache.now c' s s' stack first fits' c.in_ok-found-in-Some.ensures.shows (subst (λ (n : ℕ). Shows c.args.cache.now s n ps) (sym c.file-file.ensures.file) sh))
