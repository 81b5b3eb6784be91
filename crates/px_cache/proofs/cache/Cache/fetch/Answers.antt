use Rattle.std.proofs.Common.{◌≡◌, ◌<◌, ◌∙◌, ap, sym, subst, length, [], List, ℕ, get_or}
use Rattle.std.specs.Prelude.{IfSome}
use Rattle.px_core.specs.Shown.{Gives}
use Rattle.px_frames.specs.Lending.{fitted}
use Rattle.px_cache.specs.View.{CacheView, IsIdle, Holds, ShownAfterLoad, view_of}
use Rattle.px_frames.proofs.Places.{fitted_same}
use Rattle.px_cache.proofs.Lists.{same_number}
use Rattle.px_cache.proofs.Shows.{load_shows, load_as}
use Rattle.px_cache.proofs.cache.Cache.fetch.Goals as goal

pub returns-clause-shows : goal.returns-clause-shows
returns-clause-shows g c = λ idle nowhere.
    let shown = g.D.Disk.shown in
    let i = c.args.i in
    let f = c.args.file in
    let p = c.args.page in
    let s = shown c.args.disk.now in
    let s' = shown c.read.new.self in
    let v : CacheView = view_of c.self.inside.share c.self.inside.hand in
    let is : v ≡ c.args.self.now = c.self.view_is in
    let lt : i < length v.notes = subst (λ (w : CacheView). i < length w.notes) (sym is) c.requires.at in
    let short : length c.read.new.into ≡ length (get_or v.frames i []) = c.read.auto.into ∙ ap length (c.frame_mut.ensures.value []) in
    let b = fitted (get_or v.frames i []) c.read.new.into in
    let gives = subst (λ (x : List ℕ). IfSome (s.files f) (Gives p x)) (sym (fitted_same (get_or v.frames i []) c.read.new.into short)) c.in-Ok.ensures.page in
    let files : (h : ℕ) → s'.files h ≡ s.files h = λ h. c.in-Ok.ensures.ok.touches.others h (λ none. none) in
    let after : CacheView = view_of c.set_note_at.new.share c.after-self-inside.result in
    subst (λ (w : CacheView). ShownAfterLoad f p w s after s') is
    (load_as f p v _ after s s' c.set_note_at.ensures.notes c.set_note_at.ensures.frames
    (load_shows v s s' i f p b lt (same_number _ _ c.self.invariant) (subst (λ (w : CacheView). IsIdle w.notes i) (sym is) idle)
    (λ j h. nowhere j (subst (λ (w : CacheView). Holds w.notes j f p) is h)) gives files))
