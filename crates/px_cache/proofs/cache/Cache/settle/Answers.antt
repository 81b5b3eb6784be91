use Rattle.std.proofs.Common.{◌∙◌, sym}
use Rattle.px_cache.proofs.Shows.{idle_clean, idle_note}
use Rattle.px_cache.proofs.cache.Cache.settle.Goals as goal

pub returns-then-is_dirty_note-clause-idle : goal.returns-then-is_dirty_note-clause-idle
returns-then-is_dirty_note-clause-idle g c =
    let done = c.in_ok-write_back.ensures in
    idle_clean c.args.self.now.notes c.write_back.new.self.notes c.args.i c.note-note.result c.note-note.ensures done.stays.bare done.written

pub returns-clause-idle : goal.returns-clause-idle
returns-clause-idle g c =
    idle_note c.args.self.now.notes c.args.i c.note-note.result c.note-note.ensures (sym c.is_dirty_note.ensures ∙ c.if-is_dirty_note.false)
