use Rattle.std.proofs.Common.{◌∙◌, sym, ap, List, ℕ}
use Rattle.px_pages.specs.Page.{tuples_of}
use Rattle.px_btree.specs.Fill.{first_key_of}
use Rattle.px_btree.proofs.Building.{low_read, two_free}
use Rattle.px_btree.proofs.inner.low_of.Goals as goal

pub returns-clause-low : goal.returns-clause-low
returns-clause-low g c = λ ps lt sh.
    let shows = c.in_ok-i.ensures.shows c.args.file ps (λ e. lt) sh in
    let at = shows.held c.in_ok-i.i c.args.page c.in_ok-i.ensures.brought.holds in
    let bytes = c.frame.ensures.bytes in
    (c.first_key.ensures ∙ ap (λ (b : List ℕ). first_key_of (tuples_of b)) bytes ∙ sym (low_read c.args.first ps c.args.page _ c.if-page-first.false at), shows)

pub returns-clause-last : goal.returns-clause-last
returns-clause-last g c = λ p last. (last.0, c.in_ok-i.ensures.brought.last (two_free c.args.cache.now.notes c.requires.pins) last.0 c.args.file p last.1 last.2)
