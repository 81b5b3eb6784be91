use Rattle.std.proofs.Common.{◌≡◌, ◌≤◌, ◌+◌, ◌-◌, ◌*◌, ◌^◌, ◌∙◌, min, sym, ap, subst, refl, List, ℕ, [], length, get_or, arith}
use Rattle.px_frames.specs.Lending.{fitted}
use Rattle.px_pages.specs.Page.{count_of, writer_of}
use Rattle.px_cache.specs.View.{Holds, Shows, ShownAfterLoad, written_frame}
use Rattle.px_frames.proofs.Places.{fitted_same}
use Rattle.px_cache.proofs.Shows.{write_others}
use Rattle.px_cache.proofs.Pins.{same-mark, same_then, no_pins-mark}
use Rattle.px_store.proofs.Apart.{clean_then}
use Rattle.px_btree.specs.Tree.{TreeView, IsItem}
use Rattle.px_btree.specs.Fill.{IsOpen, WithTuples}
use Rattle.px_btree.proofs.Calls.{clean_of}
use Rattle.px_btree.proofs.Filling.{leaf_loaded, last_number, open_here, open_next}
use Rattle.px_btree.proofs.tree.ClosedTree.open_leaf.Goals as goal

pub returns-then-not-is_full-clause-open : goal.returns-then-not-is_full-clause-open
returns-then-not-is_full-clause-open g c = λ l e body item all filling.
    let shown = g.D.Disk.shown in
    let t = c.args.self.now in
    let s = shown c.args.disk.now in
    let s' = shown c.load.new.disk in
    let c' = c.load.new.self in
    let i = c.in_ok-i.i in
    let load = c.in_ok-i.ensures in
    let file = c.file-file.ensures.file in
    let at = c.last_leaf.result in
    let front = filling.front in
    let last = filling.last in
    let same = load.ok.touches.page_len in
    let shows = subst (λ (n : ℕ). ShownAfterLoad n at c.args.cache.now s c' s') file load.shows in
    let leaves = leaf_loaded t c.args.cache.now c' s s' l front last at filling.leaves c.last_leaf.ensures same shows in
    let page : at ≡ last.page = c.last_leaf.ensures ∙ sym (last_number t c' s' l front last leaves) in
    let holds = subst (λ (p : ℕ). Holds c'.notes i (8 * t.part) p) page (subst (λ (f : ℕ). Holds c'.notes i f at) file load.brought.holds) in
    let bytes = c.frame.result.now in
    let long : length bytes ≡ s'.page_len = c.frame.ensures.len ∙ load.stays.len ∙ c.requires.len ∙ sym same in
    open_here t c' s' l e i front last bytes leaves filling.begins (subst (λ (n : ℕ). IsItem n e) (sym same) item) all holds c.frame.ensures.bytes
    (λ two. omega (arith, c.is_full.ensures.no c.if-not-is_full.true two, ap (λ (b : List ℕ). length b) body)) long

pub begin_page-requires-clause-pins : goal.begin_page-requires-clause-pins
begin_page-requires-clause-pins g c = no_pins-mark c.load.new.self.notes c.in_ok-i.i (c.in_ok-i.ensures.stays.none c.requires.pins)

pub returns-in_err-j-clause-stays : goal.returns-in_err-j-clause-stays
returns-in_err-j-clause-stays g c = same_then c.args.cache.now _ c.begin_page.new.cache (same-mark c.args.cache.now c.load.new.self c.in_ok-i.i _ c.in_ok-i.ensures.stays) c.in_err-j.ensures.stays

pub returns-clause-open : goal.returns-clause-open
returns-clause-open g c = λ l e body item all filling.
    let shown = g.D.Disk.shown in
    let t = c.args.self.now in
    let s = shown c.args.disk.now in
    let s' = shown c.load.new.disk in
    let s2 = shown c.begin_page.new.disk in
    let c' = c.load.new.self in
    let c2 = c.begin_page.new.cache in
    let i = c.in_ok-i.i in
    let j = c.in_ok-j.j in
    let load = c.in_ok-i.ensures in
    let begun = c.in_ok-j.ensures in
    let file = c.file-file.ensures.file in
    let f = c.file-file.result in
    let at = c.last_leaf.result in
    let front = filling.front in
    let last = filling.last in
    let same = load.ok.touches.page_len in
    let shows = subst (λ (n : ℕ). ShownAfterLoad n at c.args.cache.now s c' s') file load.shows in
    let leaves = leaf_loaded t c.args.cache.now c' s s' l front last at filling.leaves c.last_leaf.ensures same shows in
    let page : at ≡ last.page = c.last_leaf.ensures ∙ sym (last_number t c' s' l front last leaves) in
    let holds = subst (λ (p : ℕ). Holds c'.notes i (8 * t.part) p) page (subst (λ (n : ℕ). Holds c'.notes i n at) file load.brought.holds) in
    let old = c.frame_mut.result.now in
    let new = c.set_link.new.page in
    let b : fitted (get_or c'.frames i []) new ≡ new = fitted_same (get_or c'.frames i []) new (c.set_link.auto.page ∙ ap length c.frame_mut.ensures.value) in
    let two = subst (λ (x : List ℕ). 2 ≤ count_of x) (c.frame.ensures.bytes ∙ sym c.frame_mut.ensures.value) (c.is_full.ensures.yes c.if-not-is_full.false) in
    let next = c.leaf_count-next.ensures in
    let start : (ps : List (List ℕ)) → t.leaves ≡ length ps → Shows (written_frame c' i new) s' (8 * t.part) ps → WithTuples s'.page_len 3 0 (8 * t.part) [] ps c2 s2 =
    λ ps long sh.
    subst (λ (n : ℕ). WithTuples s'.page_len 3 0 n [] ps c2 s2) file
    (begun.begun ps (next ∙ long) (subst (λ (x : List ℕ). Shows (written_frame c' i x) s' f ps) (sym b) (subst (λ (n : ℕ). Shows (written_frame c' i new) s' n ps) (sym file) sh))) in
    let holds2 = subst (λ (p : ℕ). Holds c2.notes j (8 * t.part) p) next (subst (λ (n : ℕ). Holds c2.notes j n c.leaf_count-next.result) file begun.holds) in
    subst (λ (u : TreeView). IsOpen u c2 s2 l e j) (sym c.count_leaf.ensures)
    (open_next t c' c2 s' s2 l e i j front last old new (min (t.leaves + 1) (2 ^ 64 - 1)) leaves filling.begins (subst (λ (n : ℕ). IsItem n e) (sym same) item) all
    (omega (arith, load.stays.size, c.requires.few)) c.frame_mut.ensures.whole holds c.frame_mut.ensures.value two (c.set_link.ensures.written (writer_of s'.page_len last.es))
    c.set_link.ensures.kind (c.set_link.ensures.link ∙ c.next_link.ensures) c.set_link.ensures.tuples start holds2 begun.ok.touches.page_len refl)

pub returns-clause-others : goal.returns-clause-others
returns-clause-others g c = λ f ps other sh.
    let load = c.in_ok-i.ensures in
    let other' : f ≡ c.file-file.result → ⊥ = λ e. other (e ∙ c.file-file.ensures.file) in
    let s' = g.D.Disk.shown c.load.new.disk in
    c.in_ok-j.ensures.others f ps other' (write_others c.load.new.self s' c.in_ok-i.i c.file-file.result c.last_leaf.result _ load.brought.holds f ps other' (load.shows f ps (λ e. absurd (other' e)) sh))

pub returns-clause-stays : goal.returns-clause-stays
returns-clause-stays g c = same_then c.args.cache.now _ c.begin_page.new.cache (same-mark c.args.cache.now c.load.new.self c.in_ok-i.i _ c.in_ok-i.ensures.stays) c.in_ok-j.ensures.stays

pub returns-clause-ok : goal.returns-clause-ok
returns-clause-ok g c =
    let shown = g.D.Disk.shown in
    clean_then (shown c.args.disk.now) (shown c.load.new.disk) (shown c.begin_page.new.disk) (clean_of 1 (shown c.args.disk.now) (shown c.load.new.disk) c.in_ok-i.ensures.ok) c.in_ok-j.ensures.ok
