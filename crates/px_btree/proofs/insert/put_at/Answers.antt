use Rattle.std.proofs.Common.{◌≡◌, ◌∙◌, ap, sym, subst, ℕ, List, [], length, get_or, set, arith}
use Rattle.std.specs.Prelude.{Some, slice_get}
use Rattle.px_frames.specs.Lending.{fitted}
use Rattle.px_pages.specs.Entry.{entry}
use Rattle.px_cache.specs.View.{Shows, written_frame}
use Rattle.px_frames.proofs.Places.{fitted_same}
use Rattle.px_cache.proofs.Lists.{some_is}
use Rattle.px_cache.proofs.Pins.{some_free, no_pins-mark, same-mark, same_then}
use Rattle.px_cache.proofs.Shows.{write_shows, write_others, mark_holds}
use Rattle.px_store.proofs.Apart.{clean_then}
use Rattle.px_btree.specs.Put.{IsFullFor}
use Rattle.px_btree.specs.Split.{CutShown}
use Rattle.px_btree.proofs.Calls.{clean_of}
use Rattle.px_btree.proofs.Putting.{set_same}
use Rattle.px_btree.proofs.insert.put_at.Goals as goal

pub load-requires-clause-free : goal.load-requires-clause-free
load-requires-clause-free g c = some_free c.args.cache.now.notes c.requires.pins

pub returns-then-put_in-clause-others : goal.returns-then-put_in-clause-others
returns-then-put_in-clause-others g c = λ f ps other sh.
    write_others c.load.new.self (g.D.Disk.shown c.load.new.disk) c.in_ok-i.i c.args.file c.args.page _ c.in_ok-i.ensures.brought.holds f ps other (c.in_ok-i.ensures.shows f ps (λ same. absurd (other same)) sh)

pub returns-then-put_in-clause-stays : goal.returns-then-put_in-clause-stays
returns-then-put_in-clause-stays g c = same-mark c.args.cache.now c.load.new.self c.in_ok-i.i _ c.load.ensures.stays

pub split_page-requires-clause-pins : goal.split_page-requires-clause-pins
split_page-requires-clause-pins g c = no_pins-mark c.load.new.self.notes c.in_ok-i.i (c.in_ok-i.ensures.stays.none c.requires.pins)

pub split_page-requires-clause-holds : goal.split_page-requires-clause-holds
split_page-requires-clause-holds g c = (c.args.page, mark_holds c.load.new.self.notes c.in_ok-i.i c.in_ok-i.i c.args.file c.args.page c.in_ok-i.ensures.brought.holds)

pub returns-clause-others : goal.returns-clause-others
returns-clause-others g c = λ f ps other sh.
    c.in_ok-key.ensures.others f ps other
    (write_others c.load.new.self (g.D.Disk.shown c.load.new.disk) c.in_ok-i.i c.args.file c.args.page _ c.in_ok-i.ensures.brought.holds f ps other (c.in_ok-i.ensures.shows f ps (λ same. absurd (other same)) sh))

pub returns-then-put_in-clause-put : goal.returns-then-put_in-clause-put
returns-then-put_in-clause-put g c = λ ps end few within sh.
    let s1 = g.D.Disk.shown c.load.new.disk in
    let c1 = c.load.new.self in
    let i = c.in_ok-i.i in
    let p = c.args.page in
    let new = c.put_in.new.page in
    let sh1 = c.in_ok-i.ensures.shows c.args.file ps (λ same. within) sh in
    let b : fitted (get_or c1.frames i []) new ≡ new = fitted_same (get_or c1.frames i []) new (c.put_in.auto.page ∙ ap length c.frame_mut.ensures.value) in
    let shows = write_shows c1 s1 i c.args.file p new c.frame_mut.ensures.whole c.in_ok-i.ensures.brought.holds ps sh1 in
    record {
      old = c.frame_mut.result.now;
      at = sh1.held i p c.in_ok-i.ensures.brought.holds ∙ ap (λ (x : List ℕ). Some x) (sym c.frame_mut.ensures.value);
      new = new;
      turned = c.put_in.ensures.put c.if-put_in.true;
      shows = subst (λ (x : List ℕ). Shows (written_frame c1 i x) s1 c.args.file (set ps p new)) (sym b) shows;
      end_is = end;
    }

pub returns-clause-put : goal.returns-clause-put
returns-clause-put g c = λ ps end few within sh.
    let s1 = g.D.Disk.shown c.load.new.disk in
    let c1 = c.load.new.self in
    let i = c.in_ok-i.i in
    let p = c.args.page in
    let file = c.args.file in
    let new = c.put_in.new.page in
    let e = entry c.args.vid c.args.tag c.args.body.now in
    let sh1 = c.in_ok-i.ensures.shows file ps (λ same. within) sh in
    let at : slice_get ps p ≡ Some c.frame_mut.result.now = sh1.held i p c.in_ok-i.ensures.brought.holds ∙ ap (λ (x : List ℕ). Some x) (sym c.frame_mut.ensures.value) in
    let b : fitted (get_or c1.frames i []) new ≡ new = fitted_same (get_or c1.frames i []) new (c.put_in.auto.page ∙ ap length c.frame_mut.ensures.value) in
    let shows = write_shows c1 s1 i file p new c.frame_mut.ensures.whole c.in_ok-i.ensures.brought.holds ps sh1 in
    let back : set ps p new ≡ ps = ap (λ (x : List ℕ). set ps p x) (c.put_in.ensures.same c.if-put_in.false) ∙ set_same ps p c.frame_mut.result.now at in
    let sh2 = subst (λ (x : List ℕ). Shows (written_frame c1 i x) s1 file ps) (sym b) (subst (λ (qs : List (List ℕ)). Shows (written_frame c1 i new) s1 file qs) back shows) in
    let cut = c.in_ok-key.ensures.cut ps p end few (mark_holds c1.notes i i file p c.in_ok-i.ensures.brought.holds) sh2 in
    record {
      cut = subst (λ (n : ℕ). CutShown e p n file ps c.in_ok-key.key c.split_page.new.cache (g.D.Disk.shown c.split_page.new.disk)) end cut;
      page = end;
      full = λ old is. subst (IsFullFor e) (some_is (sym at ∙ is)) (c.put_in.ensures.full c.if-put_in.false);
      end_is = omega (arith, c.saturating_add.ensures, few, end);
    }

pub returns-clause-ok : goal.returns-clause-ok
returns-clause-ok g c = clean_then _ _ _ (clean_of 1 _ _ c.in_ok-i.ensures.ok) c.in_ok-key.ensures.ok

pub returns-clause-stays : goal.returns-clause-stays
returns-clause-stays g c = same_then c.args.cache.now _ _ (same-mark c.args.cache.now c.load.new.self c.in_ok-i.i _ c.load.ensures.stays) c.split_page.ensures.stays

pub returns-in_err-key-clause-stays : goal.returns-in_err-key-clause-stays
returns-in_err-key-clause-stays g c = same_then c.args.cache.now _ _ (same-mark c.args.cache.now c.load.new.self c.in_ok-i.i _ c.load.ensures.stays) c.split_page.ensures.stays
