use Rattle.std.proofs.Common.{◌∙◌, sym, subst, refl, List, ℕ, [], ◌∷◌, ◌++◌, replicate}
use Rattle.px_cache.specs.declared.note.Note.{Note}
use Rattle.px_cache.specs.View.{Holds, Shows, fresh}
use Rattle.px_cache.proofs.Shows.{put_pins, put_keeps, put_others, put_last, set_here, holds_within}
use Rattle.px_cache.proofs.Pins.{same_cache}
use Rattle.px_cache.proofs.Calls.{cleaned_same}
use Rattle.px_cache.proofs.cache.Cache.new_page.Goals as goal

pub returns-clause-shows : goal.returns-clause-shows
returns-clause-shows g c =
    let shown = g.D.Disk.shown in
    let free = c.in_ok-i.ensures in
    let s' = shown c.free_frame.new.disk in
    let begun = c.begin.ensures.shows s' free.idle in
    record {
      others = λ f ps else sh. begun.others f ps else (free.shows f ps sh);
      added = λ ps end sh. subst (λ (n : ℕ). Shows c.begin.new.self s' c.args.file (ps ++ replicate n 0 ∷ [])) free.stays.len (begun.added ps end (free.shows c.args.file ps sh));
    }

pub returns-clause-brought : goal.returns-clause-brought
returns-clause-brought g c =
    let old = c.args.self.now in
    let mid = c.free_frame.new.self.notes in
    let new = c.begin.new.self.notes in
    let i = c.in_ok-i.i in
    let free = c.in_ok-i.ensures in
    let put = c.begin.ensures.notes in
    let n = fresh c.args.file c.args.page in
    let here : Holds new i c.args.file c.args.page = subst (λ (ns : List Note). Holds ns i c.args.file c.args.page) (sym put) (set_here mid i c.args.file c.args.page n free.at refl refl refl) in
    let others = put_others old.notes mid new i n free.stays.bare put in
    record {
      holds = here;
      at = holds_within new i c.args.file c.args.page here;
      hand = c.begin.ensures.hand;
      others = others;
      pinned = put_keeps old.notes mid new i n free.stays.bare free.free put;
      last = put_last old new i free.other others;
    }

pub returns-clause-stays : goal.returns-clause-stays
returns-clause-stays g c =
    let mid = c.free_frame.new.self in
    let new = c.begin.new.self in
    let free = c.in_ok-i.ensures in
    same_cache c.args.self.now new (c.begin.ensures.len ∙ free.stays.len)
    (put_pins c.args.self.now.notes mid.notes new.notes c.in_ok-i.i (fresh c.args.file c.args.page) free.stays.bare free.free refl c.begin.ensures.notes)

pub returns-in_err-i-clause-stays : goal.returns-in_err-i-clause-stays
returns-in_err-i-clause-stays g c = cleaned_same c.args.self.now c.free_frame.new.self c.in_err-i.ensures.stays
