use Rattle.std.proofs.Common.{◌≡◌, ◌∙◌, sym, ap, subst, List, ℕ, [], length, get_or, arith}
use Rattle.px_frames.specs.Lending.{fitted}
use Rattle.px_pages.specs.Page.{IsMade, writer_of}
use Rattle.px_cache.specs.View.{written_frame}
use Rattle.px_frames.proofs.Places.{fitted_same}
use Rattle.px_cache.proofs.Lists.{length-mark}
use Rattle.px_cache.proofs.Shows.{write_others, mark_holds}
use Rattle.px_cache.proofs.Pins.{same-mark}
use Rattle.px_btree.specs.Fill.{WithTuples}
use Rattle.px_btree.proofs.Building.{page_begun}
use Rattle.px_btree.proofs.filled.begin_page.Goals as goal

pub returns-clause-begun : goal.returns-clause-begun
returns-clause-begun g c = λ ps end sh.
    let shown = g.D.Disk.shown in
    let s = shown c.args.disk.now in
    let s' = shown c.new_page.new.disk in
    let c' = c.new_page.new.self in
    let i = c.in_ok-i.i in
    let new = c.in_ok-i.ensures in
    let page = c.write_empty.new.page in
    let long : length c.frame_mut.result.now ≡ s.page_len = c.frame_mut.ensures.len ∙ new.stays.len ∙ c.requires.len in
    let made = subst (λ (n : ℕ). IsMade (writer_of n []) c.args.kind c.args.link [] page) long c.write_empty.ensures in
    let b : fitted (get_or c'.frames i []) page ≡ page = fitted_same (get_or c'.frames i []) page (c.write_empty.auto.page ∙ ap length c.frame_mut.ensures.value) in
    subst (λ (x : List ℕ). WithTuples s.page_len c.args.kind c.args.link c.args.file [] ps (written_frame c' i x) s') (sym b)
    (page_begun c.args.cache.now c' s s' c.args.file c.args.page i c.args.kind c.args.link s.page_len page new.shows new.brought.holds c.frame_mut.ensures.whole made ps end sh)

pub returns-clause-holds : goal.returns-clause-holds
returns-clause-holds g c = mark_holds c.new_page.new.self.notes c.in_ok-i.i c.in_ok-i.i c.args.file c.args.page c.in_ok-i.ensures.brought.holds

pub returns-clause-at : goal.returns-clause-at
returns-clause-at g c = omega (arith, length-mark c.new_page.new.self.notes c.in_ok-i.i, c.in_ok-i.ensures.brought.at)

pub returns-clause-others : goal.returns-clause-others
returns-clause-others g c = λ f ps other sh.
    let s' = g.D.Disk.shown c.new_page.new.disk in
    write_others c.new_page.new.self s' c.in_ok-i.i c.args.file c.args.page _ c.in_ok-i.ensures.brought.holds f ps other (c.in_ok-i.ensures.shows.others f ps other sh)

pub returns-clause-stays : goal.returns-clause-stays
returns-clause-stays g c = same-mark c.args.cache.now c.new_page.new.self c.in_ok-i.i _ c.new_page.ensures.stays
