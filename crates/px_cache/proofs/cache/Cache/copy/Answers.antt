use Rattle.std.proofs.Common.{◌≡◌, ◌∙◌, sym, ap, length, get_or, set, [], ℕ, refl}
use Rattle.px_frames.specs.Shares.{ShareView, SamePlaces}
use Rattle.px_cache.specs.View.{CacheView, view_of, mark}
use Rattle.px_cache.proofs.Lists.{mark_is, view_as, same_number}
use Rattle.px_cache.proofs.cache.Cache.copy.Goals as goal

-- a share of which one frame was copied over another
copied : (v : CacheView) (s t : ShareView) (hand from to : ℕ) → view_of s hand ≡ v → t.frames ≡ set s.frames to (get_or s.frames from []) → t.notes ≡ s.notes → SamePlaces s t
    → view_of t hand ≡ record v { frames = set v.frames to (get_or v.frames from []) }
copied v s t hand from to is frames notes stays =
    let one : view_of t hand ≡ record (view_of s hand) { frames = set s.frames to (get_or s.frames from []) } = rw (frames, notes, stays.frame_len) refl in
    one ∙ ap (λ (w : CacheView). let u : CacheView = record w { frames = set w.frames to (get_or w.frames from []) } in u) is

pub returns-clause-copied : goal.returns-clause-copied
returns-clause-copied c =
    let i = c.args.to in
    let is = c.self.view_is in
    let marked : view_of c.set_note_at.new.share c.self.inside.hand ≡ record c.args.self.now { notes = mark c.args.self.now.notes i } =
    view_as c.args.self.now c.self.inside.share c.set_note_at.new.share c.self.inside.hand (mark c.args.self.now.notes i) is
    (c.set_note_at.ensures.notes ∙ mark_is _ i c.note_at-note.result c.note_at-note.ensures.note ∙ ap (λ (v : CacheView). mark v.notes i) is)
    c.set_note_at.ensures.frames c.set_note_at.ensures.stays in
    copied _ c.set_note_at.new.share c.copy.new.self c.self.inside.hand c.args.from i marked c.copy.ensures.frames c.copy.ensures.notes c.copy.ensures.stays

pub returns-clause-whole : goal.returns-clause-whole
returns-clause-whole c = ap (λ (v : CacheView). length v.notes) (sym c.self.view_is) ∙ same_number _ _ c.self.invariant ∙ ap (λ (v : CacheView). length v.frames) c.self.view_is
