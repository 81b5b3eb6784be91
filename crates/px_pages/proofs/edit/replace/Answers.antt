use Rattle.std.proofs.Common.{◌≡◌, ◌+◌, ◌∷◌, ap, sym, subst, suc, List, [], length, take, drop, set, arith, inl, inr}
use Rattle.std.proofs.lemmas.Bool.{cases_lt}
use Rattle.std.proofs.lemmas.List.{length-set}
use Rattle.px_pages.specs.Place.{Overflows}
use Rattle.px_pages.specs.Entry.{Entry, entry}
use Rattle.px_pages.specs.Page.{IsMade, used_of, entry_of, writer_of}
use Rattle.px_pages.specs.Gap.{FitsIn}
use Rattle.px_pages.specs.declared.edit.Gap.{Gap}
use Rattle.px_pages.specs.declared.reader.Tuple.{Tuple}
use Rattle.px_pages.proofs.Writing.{made_tuples}
use Rattle.px_pages.proofs.Editing.{made_count_of}
use Rattle.px_pages.proofs.Places.{no_room, place_at, place_within, place_tuple, place_size, place_after, set-take-drop, some_of, some_given, size_is}
use Rattle.px_pages.proofs.edit.replace.Goals as goal

pub returns-then-not-fits-clause-full : goal.returns-then-not-fits-clause-full
returns-then-not-fits-clause-full c = λ none is.
    let page = c.args.page.now in
    let place = c.args.place in
    let n = 13 + length c.args.body.now in
    some_given place.tuple (λ (t : Tuple). Overflows t.len (length c.args.body.now) page) (λ t tuple len kind link es made.
    let found = made_tuples (writer_of len es) kind link es page made in
    let end = c.end_of.ensures.made len kind link es made in
    let size : c.size_at.result ≡ 13 + t.len = size_is place.tuple t tuple c.size_at.result c.size_at.ensures.size in
    let after = place_after place page es found is t tuple in
    elim (cases_lt (len + t.len) (used_of es + length c.args.body.now)) [
      | inl lt ↦ lt
      | inr ge ↦
          let gap : Gap = record { from = place.at; to = place.at + c.size_at.result; end = c.end_of.result; len = n } in
          let fits : FitsIn gap (length page) = record {
            from = omega arith;
            to = omega (arith, end, size, after);
            within = c.end_of.ensures.within;
            room = omega (arith, end, size, after, ge, made.page_len);
          } in
          absurd (no_room c.fits.result (FitsIn gap (length page)) c.fits.ensures c.if-not-fits.true fits)
    ])

pub returns-clause-put : goal.returns-clause-put
returns-clause-put c = λ yes is len kind link es made.
    let page = c.args.page.now in
    let place = c.args.place in
    let found = made_tuples (writer_of len es) kind link es page made in
    let e = entry c.args.key c.args.tag c.args.body.now in
    some_of place.tuple (IsMade (writer_of len (set es place.index e)) kind link (set es place.index e) c.put_into.new.page) c.requires.some (λ t tuple.
    let size : c.size_at.result ≡ 13 + t.len = size_is place.tuple t tuple c.size_at.result c.size_at.ensures.size in
    let one = place_size place page es found is t tuple in
    let in_range = place_within place page es found is t tuple in
    let set_is = set-take-drop place.index es e in_range in
    subst (λ (l : List Entry). IsMade (writer_of len l) kind link l c.put_into.new.page) (sym set_is)
    (c.put_into.ensures len kind link es (take place.index es) (entry_of t page ∷ []) (drop (suc place.index) es) made (place_tuple place page es found is t tuple) (place_at place page es found is) (omega (arith, size, one))
    (c.end_of.ensures.made len kind link es made)
    (omega (arith, c.count-tuples.ensures, made_count_of len kind link es page made, ap (λ (l : List Entry). length l) set_is, length-set es place.index e))))
