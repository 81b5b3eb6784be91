use Rattle.std.proofs.Common.{◌∙◌, sym, ap, [], get_or}
use Rattle.std.specs.Prelude.{slice_get}
use Rattle.px_cache.specs.View.{CacheView, clean}
use Rattle.px_cache.proofs.Lists.{clean_is, view_as}
use Rattle.px_cache.proofs.Shows.{clean_step}
use Rattle.px_cache.proofs.Calls.{write_reads}
use Rattle.px_cache.proofs.cache.Cache.clean_one.Goals as goal

pub returns-clause-cleaned : goal.returns-clause-cleaned
returns-clause-cleaned g c =
    view_as c.args.self.now c.self.inside.share c.set_note_at.new.share c.self.inside.hand (clean c.args.self.now.notes c.args.i) c.self.view_is
    (c.set_note_at.ensures.notes ∙ clean_is _ c.args.i c.note_at-note.result c.note_at-note.ensures.note ∙ ap (λ (v : CacheView). clean v.notes c.args.i) c.self.view_is)
    c.set_note_at.ensures.frames c.set_note_at.ensures.stays

pub returns-clause-shows : goal.returns-clause-shows
returns-clause-shows g c = λ f p least.
    let shown = g.D.Disk.shown in
    let is = c.self.view_is in
    clean_step c.args.self.now _ (shown c.args.disk.now) (shown c.write.new.self) c.args.i c.note_at-note.result _
    (ap (λ (v : CacheView). slice_get v.notes c.args.i) (sym is) ∙ c.note_at-note.ensures.note)
    (c.frame.ensures.value [] ∙ ap (λ (v : CacheView). get_or v.frames c.args.i []) is)
    c.in-Ok.ensures.page c.in-Ok.ensures.limit c.in-Ok.ensures.ok.touches
    (view_as c.args.self.now c.self.inside.share c.set_note_at.new.share c.self.inside.hand (clean c.args.self.now.notes c.args.i) c.self.view_is
    (c.set_note_at.ensures.notes ∙ clean_is _ c.args.i c.note_at-note.result c.note_at-note.ensures.note ∙ ap (λ (v : CacheView). clean v.notes c.args.i) c.self.view_is)
    c.set_note_at.ensures.frames c.set_note_at.ensures.stays)
    f p least

pub returns-clause-ok : goal.returns-clause-ok
returns-clause-ok g c = write_reads _ _ _ c.in-Ok.ensures.ok
