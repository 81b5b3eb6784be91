use Rattle.std.proofs.Common.{◌≡◌, ◌<◌, ◌+◌, ◌∙◌, ap, sym, subst, ℕ, List, [], ◌∷◌, length, get_or, set, arith}
use Rattle.std.proofs.lemmas.Option.{slice_get_within}
use Rattle.std.proofs.lemmas.List.{length-set}
use Rattle.px_pages.specs.Entry.{Entry, entry}
use Rattle.px_pages.specs.Page.{tuples_of}
use Rattle.px_pages.specs.Place.{IsPlace}
use Rattle.px_frames.specs.Lending.{fitted}
use Rattle.px_cache.specs.View.{CacheView, SameCache, written_frame, mark}
use Rattle.px_frames.proofs.Places.{fitted_same}
use Rattle.px_cache.proofs.Lists.{length-mark}
use Rattle.px_cache.proofs.Pins.{same-mark, some_free}
use Rattle.px_cache.proofs.Shows.{same_page, holds_within}
use Rattle.px_btree.specs.Split.{CutShown, CutsFor, IsFirst, IsSecond}
use Rattle.px_btree.proofs.Parting.{two_free, first_old, second_old, get_set_same, cut_shown, cut_others}
use Rattle.px_btree.proofs.split.split_page.Goals as goal

pub new_page-requires-clause-free : goal.new_page-requires-clause-free
new_page-requires-clause-free g c = some_free c.args.cache.now.notes c.requires.pins

pub returns-then-i-j-clause-cut : goal.returns-then-i-j-clause-cut
returns-then-i-j-clause-cut g c = λ ps p end few holds sh.
    let new = c.in_ok-j.ensures.brought in
    let here = new.last (two_free _ c.requires.pins) c.args.i c.args.file p c.requires.hand holds in
    let same = same_page c.new_page.new.self.notes c.args.file p c.args.page c.args.i c.in_ok-j.j c.if-i-j.true here new.holds in
    absurd (omega (arith, same, end, slice_get_within ps p _ (sh.held c.args.i p holds)))

pub copy-requires-clause-from : goal.copy-requires-clause-from
copy-requires-clause-from g c =
    holds_within c.new_page.new.self.notes c.args.i c.args.file c.requires.holds.0 (c.in_ok-j.ensures.brought.last (two_free _ c.requires.pins) c.args.i c.args.file c.requires.holds.0 c.requires.hand c.requires.holds.1)

pub frame-requires : goal.frame-requires
frame-requires g c =
    let lt = holds_within c.new_page.new.self.notes c.args.i c.args.file c.requires.holds.0 (c.in_ok-j.ensures.brought.last (two_free _ c.requires.pins) c.args.i c.args.file c.requires.holds.0 c.requires.hand c.requires.holds.1) in
    omega (arith, lt, ap (λ (v : CacheView). length v.notes) c.copy.ensures.copied, length-mark c.new_page.new.self.notes c.in_ok-j.j)

pub frame_mut-requires : goal.frame_mut-requires
frame_mut-requires g c =
    let lt = holds_within c.new_page.new.self.notes c.args.i c.args.file c.requires.holds.0 (c.in_ok-j.ensures.brought.last (two_free _ c.requires.pins) c.args.i c.args.file c.requires.holds.0 c.requires.hand c.requires.holds.1) in
    omega (arith, lt, ap (λ (v : CacheView). length v.notes) c.copy.ensures.copied, length-mark c.new_page.new.self.notes c.in_ok-j.j)

pub frame_mut-requires-2 : goal.frame_mut-requires-2
frame_mut-requires-2 g c = omega (arith, c.in_ok-j.ensures.brought.at, ap (λ (v : CacheView). length v.notes) c.copy.ensures.copied, length-mark c.new_page.new.self.notes c.in_ok-j.j, length-mark c.copy.new.self.notes c.args.i)

pub frame-requires-2 : goal.frame-requires-2
frame-requires-2 g c =
    omega (arith, c.in_ok-j.ensures.brought.at, ap (λ (v : CacheView). length v.notes) c.copy.ensures.copied, length-mark c.new_page.new.self.notes c.in_ok-j.j, length-mark c.copy.new.self.notes c.args.i, length-mark (mark c.copy.new.self.notes c.args.i) c.in_ok-j.j)

pub returns-clause-cut : goal.returns-clause-cut
returns-clause-cut g c = λ ps p end few holds sh.
    let shown = g.D.Disk.shown in
    let new = c.in_ok-j.ensures in
    let c0 = c.args.cache.now in
    let c1 = c.new_page.new.self in
    let c2 = c.copy.new.self in
    let s1 = shown c.new_page.new.disk in
    let i = c.args.i in
    let j = c.in_ok-j.j in
    let n = c.args.page in
    let x = get_or c1.frames i [] in
    let e : Entry = entry c.args.vid c.args.tag c.args.body.now in
    let cut = c.cut_in-cut.result in
    let first = c.make_first.new.page in
    let second = c.make_second.new.page in
    let lt : j < length c1.frames = omega (arith, new.brought.at, c.copy.ensures.whole) in
    let here = new.brought.last (two_free _ c.requires.pins) i c.args.file p c.requires.hand holds in
    let zero = c.frame.ensures.bytes ∙ first_old c1 c2 i j x c.copy.ensures.copied c.if-i-j.false in
    let one = c.frame_mut.ensures.value ∙ first_old c1 c2 i j x c.copy.ensures.copied c.if-i-j.false in
    let two = c.frame_mut-2.ensures.value ∙ second_old c1 c2 i j x _ c.copy.ensures.copied c.if-i-j.false lt in
    let link : c.saturating_add-link.result ≡ n + 1 = omega (arith, c.saturating_add-link.ensures, few) in
    let place = subst (IsPlace cut.place) zero c.cut_in-cut.ensures.place in
    let cuts = subst (CutsFor c.args.vid cut.place.index cut.first) zero c.cut_in-cut.ensures.halves in
    let is_first = c.make_first.ensures (subst (IsPlace cut.place) (sym one) place) in
    let is_second = c.make_second.ensures (subst (IsPlace cut.place) (sym two) place) in
    let first_is = subst (λ (l : List ℕ). IsFirst e cut.place.index cut.first (n + 1) l first) one (subst (λ (m : ℕ). IsFirst e cut.place.index cut.first m c.frame_mut.result.now first) link is_first) in
    let second_is = subst (λ (l : List ℕ). IsSecond e cut.place.index cut.first l second) two is_second in
    let b1 : fitted (get_or c2.frames i []) first ≡ first = fitted_same (get_or c2.frames i []) first (c.make_first.auto.page ∙ ap length c.frame_mut.ensures.value) in
    let f1 = fitted (get_or c2.frames i []) first in
    let b2 : fitted (get_or (set c2.frames i f1) j []) second ≡ second = fitted_same (get_or (set c2.frames i f1) j []) second (c.make_second.auto.page ∙ ap length c.frame_mut-2.ensures.value) in
    let f2 = fitted (get_or (set c2.frames i f1) j []) second in
    let lt2 : j < length (set c2.frames i f1) = omega (arith, lt, length-set c2.frames i f1, ap (λ (v : CacheView). length v.frames) c.copy.ensures.copied, length-set c1.frames j x) in
    let key : (r : Entry) (right : List Entry) → tuples_of second ≡ r ∷ right → c.first_key.result ≡ r.key =
    λ r right is. c.first_key.ensures r right (ap tuples_of (c.frame-2.ensures.bytes ∙ get_set_same (set c2.frames i f1) j f2 [] lt2 ∙ b2) ∙ is) in
    let shown' = cut_shown e c0 c1 (shown c.args.disk.now) s1 c.args.file i j p n c.first_key.result cut.place.index cut.first first second ps new.shows end sh holds here new.brought.holds c.copy.ensures.whole cuts first_is second_is key in
    let same : written_frame (written_frame (written_frame c1 j x) i first) j second ≡ written_frame (written_frame c2 i f1) j (fitted (get_or (set c2.frames i f1) j []) second) =
    ap (λ (v : CacheView). written_frame (written_frame v i first) j second) (sym c.copy.ensures.copied) ∙ ap (λ (w : List ℕ). written_frame (written_frame c2 i w) j second) (sym b1)
    ∙ ap (λ (w : List ℕ). written_frame (written_frame c2 i f1) j w) (sym b2) in
    subst (λ (v : CacheView). CutShown e p n c.args.file ps c.first_key.result v s1) same shown'

pub returns-clause-others : goal.returns-clause-others
returns-clause-others g c =
    let new = c.in_ok-j.ensures in
    let here = new.brought.last (two_free _ c.requires.pins) c.args.i c.args.file c.requires.holds.0 c.requires.hand c.requires.holds.1 in
    cut_others c.args.cache.now c.new_page.new.self c.copy.new.self _ (g.D.Disk.shown c.new_page.new.disk) c.args.file c.args.i c.in_ok-j.j c.requires.holds.0 c.args.page _ _ _ new.shows.others c.copy.ensures.copied here new.brought.holds

pub returns-clause-stays : goal.returns-clause-stays
returns-clause-stays g c =
    let c0 = c.args.cache.now in
    let c1 = c.new_page.new.self in
    let c2 = c.copy.new.self in
    let i = c.args.i in
    let j = c.in_ok-j.j in
    same-mark c0 (written_frame c2 i _) j _ (same-mark c0 c2 i _ (subst (SameCache c0) (sym c.copy.ensures.copied) (same-mark c0 c1 j _ c.new_page.ensures.stays)))
