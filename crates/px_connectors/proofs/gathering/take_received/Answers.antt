use Rattle.std.proofs.Common.{rules, ◌≡◌, ◌∙◌, ℕ, ◌∷◌, ◌++◌, [], subst, sym, IsTrue, length, ◌<◌}
use Rattle.std.proofs.lemmas.Option.{MatchOption-at_some, MatchOption-at_none}
use Rattle.std.proofs.lemmas.Result.{err_from_is_err_and}
use Rattle.px_core.proofs.Keeping.{same_by_none, same_by_touches}
use Rattle.px_core.specs.Parts.{all_of}
use Rattle.px_meaning.specs.Merge.{Pairs}
use Rattle.px_meaning.specs.Step.{has_wide_fold}
use Rattle.px_program.specs.Groups.{IsOwn, room_in}
use Rattle.px_connectors.specs.Frames.{give_all_same}
use Rattle.px_connectors.specs.Receiving.{AreReaders, GiveAll}
use Rattle.px_connectors.specs.Views.{IsConnectorFile}
use Rattle.px_connectors.proofs.Mixing.{NextPair, mixing_first, mixing_next, mixing_end, mixing_beyond}
use Rattle.px_connectors.proofs.gathering.take_received.Goals as goal

pub loop-vid-init : goal.loop-vid-init
loop-vid-init g c = record {
  mixing = λ ls gives valid took. mixing_first _ _ (length c.args.from.now.readers.items) ls took gives;
  clean = search rules;
  made = search rules;
  opened = search rules;
  are = search rules;
  count = search rules;
  room = search rules;
}

pub next-requires-clause-are : goal.next-requires-clause-are
next-requires-clause-are g c =
    let i = c.loop-vid.invariant in
    subst (λ (n : ℕ). AreReaders n c.loop-vid.from.readers.items) (sym i.clean.touches.page_len) i.are

pub loop-vid-preserved : goal.loop-vid-preserved
loop-vid-preserved g c =
    let i = c.loop-vid.invariant in
    let rule = g.M.Merge.rule c.args.merge.now in
    let parts = length c.args.from.now.readers.items in
    let s = g.D.Disk.shown c.loop-vid.disk in
    let t = g.D.Disk.shown c.next.new.disk in
    let u = g.D.Disk.shown c.add.new.disk in
    let group = c.loop-vid.group in
    let made = g.G.Group.made group in
    let bytes = c.next.new.into.bytes in
    let next : NextPair (GiveAll s c.loop-vid.from.readers.items) (GiveAll t c.next.new.self.readers.items) parts c.in-Some.vid bytes =
    subst (λ (n : ℕ). NextPair (GiveAll s c.loop-vid.from.readers.items) (GiveAll t c.next.new.self.readers.items) n c.in-Some.vid bytes) i.count (MatchOption-at_some _ _ _ c.in-Some.is c.in_ok-vid.ensures.some) in
    let same : (k : Pairs) → g.G.Group.took s group rule k → g.G.Group.took t group rule k =
    λ k h. g.met.G.Group.took_stays s t group rule k (same_by_none (IsOwn made) s t c.in_ok-vid.ensures.ok.touches) h in
    let takes : (k : Pairs) → IsTrue (rule.valid bytes) → g.G.Group.took t group rule k → g.G.Group.took u c.add.new.self rule (k ++ (c.in-Some.vid, bytes) ∷ []) =
    rw (← c.bytes.ensures.bytes) c.in_ok-add.ensures.took in
    let still : (ks : ℕ → Pairs) → GiveAll t c.next.new.self.readers.items ks → GiveAll u c.next.new.self.readers.items ks =
    λ ks h. give_all_same t u c.next.new.self.readers.items ks
    (same_by_touches IsConnectorFile (IsOwn made) t u (λ f is own. c.requires.apart f (subst (λ m. IsOwn m f) i.made own) is) c.in_ok-add.ensures.ok.touches) h in
    let kept : AreReaders (g.D.Disk.shown c.args.disk.now).page_len c.next.new.self.readers.items = subst (λ (n : ℕ). AreReaders n c.next.new.self.readers.items) i.clean.touches.page_len c.next.ensures.are in
    record {
      mixing = λ ls gives valid took. mixing_next rule (g.met.M.Merge.laws c.args.merge.now) parts ls valid _ _ _ _ _ _ c.in-Some.vid bytes next same takes still (i.mixing ls gives valid took);
      clean = search rules;
      made = search rules;
      opened = search rules;
      are = kept;
      count = c.next.ensures.count ∙ i.count;
      room = search rules;
    }

pub returns-in_err-add-clause-err : goal.returns-in_err-add-clause-err
returns-in_err-add-clause-err g c =
    let i = c.loop-vid.invariant in
    let rule = g.M.Merge.rule c.args.merge.now in
    let parts = length c.args.from.now.readers.items in
    let s = g.D.Disk.shown c.loop-vid.disk in
    let t = g.D.Disk.shown c.next.new.disk in
    let group = c.loop-vid.group in
    let made = g.G.Group.made group in
    let bytes = c.next.new.into.bytes in
    let end = err_from_is_err_and c.from_residual-in_err-add.result c.from_residual-in_err-add.ensures.1 in
    let stop : end.0 ≡ c.in_err-add.field-0.0 = cc in
    let next : NextPair (GiveAll s c.loop-vid.from.readers.items) (GiveAll t c.next.new.self.readers.items) parts c.in-Some.vid bytes =
    subst (λ (n : ℕ). NextPair (GiveAll s c.loop-vid.from.readers.items) (GiveAll t c.next.new.self.readers.items) n c.in-Some.vid bytes) i.count (MatchOption-at_some _ _ _ c.in-Some.is c.in_ok-vid.ensures.some) in
    let same : (k : Pairs) → g.G.Group.took s group rule k → g.G.Group.took t group rule k =
    λ k h. g.met.G.Group.took_stays s t group rule k (same_by_none (IsOwn made) s t c.in_ok-vid.ensures.ok.touches) h in
    rw (end.1, stop) (record {
      beyond = λ is ls gives valid took.
          let wide : (k : Pairs) → IsTrue (rule.valid bytes) → g.G.Group.took t group rule k → IsTrue (has_wide_fold rule (room_in made) (k ++ (c.in-Some.vid, bytes) ∷ [])) =
          rw (← c.bytes.ensures.bytes) (c.in_err-add.ensures.err.beyond is) in
          subst (λ m. IsTrue (has_wide_fold rule (room_in m) (all_of parts ls))) i.made
          (mixing_beyond rule (g.met.M.Merge.laws c.args.merge.now) parts ls valid (room_in made) (g.G.Group.took s group rule) (g.G.Group.took t group rule) (GiveAll s c.loop-vid.from.readers.items) (GiveAll t c.next.new.self.readers.items) c.in-Some.vid bytes next same wide (i.mixing ls gives valid took));
      cause = search rules;
      touches = search rules;
    })

pub returns-clause-took : goal.returns-clause-took
returns-clause-took g c = λ ls gives valid took.
    let i = c.loop-vid.invariant in
    let rule = g.M.Merge.rule c.args.merge.now in
    let parts = length c.args.from.now.readers.items in
    let s = g.D.Disk.shown c.loop-vid.disk in
    let t = g.D.Disk.shown c.next.new.disk in
    let group = c.loop-vid.group in
    let none : (ks : ℕ → Pairs) → GiveAll s c.loop-vid.from.readers.items ks → (p : ℕ) → p < parts → ks p ≡ [] =
    subst (λ (n : ℕ). (ks : ℕ → Pairs) → GiveAll s c.loop-vid.from.readers.items ks → (p : ℕ) → p < n → ks p ≡ []) i.count (MatchOption-at_none _ _ c.in_default.is c.in_ok-vid.ensures.none) in
    mixing_end _ _ _ parts ls none (λ k h. g.met.G.Group.took_stays s t group rule k (same_by_none (IsOwn (g.G.Group.made group)) s t c.in_ok-vid.ensures.ok.touches) h) (i.mixing ls gives valid took)
