use Rattle.std.proofs.Common.{◌≡◌, ◌∙◌, sym, ap, subst, List, ℕ, [], length, get_or}
use Rattle.px_frames.specs.Lending.{fitted}
use Rattle.px_cache.specs.View.{written_frame}
use Rattle.px_frames.proofs.Places.{fitted_same}
use Rattle.px_cache.proofs.Pins.{same-mark}
use Rattle.px_cache.proofs.Shows.{write_others}
use Rattle.px_btree.specs.Rise.{WithRoot}
use Rattle.px_btree.proofs.Growing.{root_added}
use Rattle.px_btree.proofs.grow.add_root.Goals as goal

pub returns-clause-added : goal.returns-clause-added
returns-clause-added g c = λ ps end sh.
    let shown = g.D.Disk.shown in
    let s = shown c.args.disk.now in
    let s' = shown c.new_page.new.disk in
    let c' = c.new_page.new.self in
    let i = c.in_ok-i.i in
    let new = c.in_ok-i.ensures in
    let page = c.write_root.new.page in
    let long : length c.frame_mut.result.now ≡ s.page_len = c.frame_mut.ensures.len ∙ new.stays.len ∙ c.requires.len in
    let b : fitted (get_or c'.frames i []) page ≡ page = fitted_same (get_or c'.frames i []) page (c.write_root.auto.page ∙ ap length c.frame_mut.ensures.value) in
    subst (λ (x : List ℕ). WithRoot s.page_len c.args.file c.args.left c.args.right ps (written_frame c' i x) s') (sym b)
    (root_added c.args.cache.now c' s s' c.args.file c.args.page i s.page_len c.args.left c.args.right page new.shows new.brought.holds c.frame_mut.ensures.whole (c.write_root.ensures s.page_len long) ps end sh)

pub returns-clause-others : goal.returns-clause-others
returns-clause-others g c = λ f ps other sh.
    let s' = g.D.Disk.shown c.new_page.new.disk in
    write_others c.new_page.new.self s' c.in_ok-i.i c.args.file c.args.page _ c.in_ok-i.ensures.brought.holds f ps other (c.in_ok-i.ensures.shows.others f ps other sh)

pub returns-clause-stays : goal.returns-clause-stays
returns-clause-stays g c = same-mark c.args.cache.now c.new_page.new.self c.in_ok-i.i _ c.new_page.ensures.stays
