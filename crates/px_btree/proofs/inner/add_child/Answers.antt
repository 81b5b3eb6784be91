use Rattle.std.proofs.Common.{◌≡◌, ◌∙◌, sym, ap, subst, List, ℕ, [], ◌∷◌, ◌++◌, length, get_or}
use Rattle.px_frames.specs.Lending.{fitted}
use Rattle.px_cache.specs.View.{written_frame}
use Rattle.px_frames.proofs.Places.{fitted_same}
use Rattle.px_cache.proofs.Shows.{write_others, mark_holds}
use Rattle.px_cache.proofs.Pins.{same-mark}
use Rattle.byteorder.specs.Endian.{big_bytes}
use Rattle.px_pages.specs.Entry.{entry}
use Rattle.px_btree.specs.Search.{child}
use Rattle.px_btree.specs.Fill.{WithTuples, Appends}
use Rattle.px_btree.proofs.Building.{child_added}
use Rattle.px_btree.proofs.inner.add_child.Goals as goal

pub returns-clause-added : goal.returns-clause-added
returns-clause-added g c = λ ps link es end fits old.
    let shown = g.D.Disk.shown in
    let s = shown c.args.disk.now in
    let s' = shown c.load.new.disk in
    let c' = c.load.new.self in
    let i = c.in_ok-i.i in
    let load = c.in_ok-i.ensures in
    let page = c.append_in.new.page in
    let e = child c.args.key c.args.child in
    let body : c.write_u64.new.buf ≡ big_bytes 8 c.args.child = c.write_u64.ensures in
    let put = subst (λ (x : List ℕ). Appends (entry c.args.key 5 x) c.frame_mut.result.now page) body c.append_in.ensures in
    let b : fitted (get_or c'.frames i []) page ≡ page = fitted_same (get_or c'.frames i []) page (c.append_in.auto.page ∙ ap length c.frame_mut.ensures.value) in
    subst (λ (x : List ℕ). WithTuples s.page_len 4 link c.args.file (es ++ e ∷ []) ps (written_frame c' i x) s') (sym b)
    (child_added c.args.cache.now c' s s' c.args.file c.args.page i link s.page_len e c.frame_mut.result.now page ps es end fits old load.shows load.brought.holds c.frame_mut.ensures.whole c.frame_mut.ensures.value put)

pub returns-clause-last : goal.returns-clause-last
returns-clause-last g c = (c.in_ok-i.i, c.in_ok-i.ensures.brought.hand, mark_holds c.load.new.self.notes c.in_ok-i.i c.in_ok-i.i c.args.file c.args.page c.in_ok-i.ensures.brought.holds)

pub returns-clause-others : goal.returns-clause-others
returns-clause-others g c = λ f ps other sh.
    let s' = g.D.Disk.shown c.load.new.disk in
    write_others c.load.new.self s' c.in_ok-i.i c.args.file c.args.page _ c.in_ok-i.ensures.brought.holds f ps other (c.in_ok-i.ensures.shows f ps (λ e. absurd (other e)) sh)

pub returns-clause-stays : goal.returns-clause-stays
returns-clause-stays g c = same-mark c.args.cache.now c.load.new.self c.in_ok-i.i _ c.load.ensures.stays
