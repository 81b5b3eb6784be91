use Rattle.std.proofs.Common.{◌∙◌, ap, sym, subst, refl, List, ℕ}
use Rattle.px_cache.specs.declared.note.Note.{Note}
use Rattle.px_cache.specs.View.{Holds, loaded, pins}
use Rattle.px_cache.proofs.Lists.{same_bare}
use Rattle.px_cache.proofs.Shows.{put_pins, put_keeps, put_others, put_last, set_here, holds_within}
use Rattle.px_cache.proofs.Pins.{same_cache}
use Rattle.px_cache.proofs.Calls.{cleaned_same}
use Rattle.px_cache.proofs.cache.Cache.bring.Goals as goal

pub returns-clause-shows : goal.returns-clause-shows
returns-clause-shows g c = λ f ps below sh.
    let free = c.in_ok-i.ensures in
    let nowhere : (j : ℕ) → Holds c.free_frame.new.self.notes j c.args.file c.args.page → ⊥ =
    λ j h. c.requires.nowhere j (same_bare c.free_frame.new.self.notes c.args.self.now.notes (sym free.stays.bare) j c.args.file c.args.page h) in
    c.in_ok-fetch.ensures.shows free.idle nowhere f ps below (free.shows f ps sh)

pub returns-clause-brought : goal.returns-clause-brought
returns-clause-brought g c =
    let old = c.args.self.now in
    let mid = c.free_frame.new.self.notes in
    let new = c.fetch.new.self.notes in
    let i = c.in_ok-i.i in
    let free = c.in_ok-i.ensures in
    let put = c.in_ok-fetch.ensures.notes in
    let n = loaded c.args.file c.args.page in
    let here : Holds new i c.args.file c.args.page = subst (λ (ns : List Note). Holds ns i c.args.file c.args.page) (sym put) (set_here mid i c.args.file c.args.page n free.at refl refl refl) in
    let others = put_others old.notes mid new i n free.stays.bare put in
    record {
      holds = here;
      at = holds_within new i c.args.file c.args.page here;
      hand = c.in_ok-fetch.ensures.hand;
      others = others;
      pinned = put_keeps old.notes mid new i n free.stays.bare free.free put;
      last = put_last old new i free.other others;
    }

pub returns-clause-stays : goal.returns-clause-stays
returns-clause-stays g c =
    let mid = c.free_frame.new.self in
    let new = c.fetch.new.self in
    let free = c.in_ok-i.ensures in
    same_cache c.args.self.now new (c.fetch.ensures.len ∙ free.stays.len)
    (put_pins c.args.self.now.notes mid.notes new.notes c.in_ok-i.i (loaded c.args.file c.args.page) free.stays.bare free.free refl c.in_ok-fetch.ensures.notes)

pub returns-in_err-i-clause-stays : goal.returns-in_err-i-clause-stays
returns-in_err-i-clause-stays g c = cleaned_same c.args.self.now c.free_frame.new.self c.in_err-i.ensures.stays

pub returns-in_err-fetch-clause-stays : goal.returns-in_err-fetch-clause-stays
returns-in_err-fetch-clause-stays g c =
    let mid = c.free_frame.new.self in
    let same = cleaned_same c.args.self.now mid c.in_ok-i.ensures.stays in
    same_cache c.args.self.now c.fetch.new.self (c.fetch.ensures.len ∙ same.len) (ap (λ (ns : List Note). pins ns) c.in_err-fetch.ensures.same ∙ same.pins)
