use Rattle.std.proofs.Common.{◌≡◌, ◌+◌, ◌-◌, ◌∙◌, ℕ, List, length, take, drop, ap, sym, subst, arith}
use Rattle.std.proofs.lemmas.List.{length-drop}
use Rattle.std.proofs.lemmas.List.Edits.{length-paste}
use Rattle.std.specs.List.{prefix_len}
use Rattle.px_pages.specs.Entry.{bytes_of}
use Rattle.px_pages.specs.Page.{IsMade, writer_of}
use Rattle.px_pages.specs.Place.{is_below}
use Rattle.px_pages.proofs.Places.{no_room}
use Rattle.px_btree.specs.Apart.{Within}
use Rattle.px_btree.proofs.ApartWalk.{below_is, prefix_within}
use Rattle.px_btree.proofs.ApartPage.{keeps_within, back_is, back_entries, passed, parts_passed}
use Rattle.px_btree.proofs.apart.Apart.pass.Goals as goal

pub returns-then-not-is_within-clause-apart : goal.returns-then-not-is_within-clause-apart
returns-then-not-is_within-clause-apart c = λ len kind link i es keeps.
    absurd (no_room c.is_within.result (Within (length c.args.page.now) c.args.self.now) c.is_within.ensures c.if-not-is_within.true (keeps_within len kind link i es c.args.self.now c.args.page.now keeps))

pub returns-clause-apart : goal.returns-clause-apart
returns-clause-apart c = λ len kind link i es keeps.
    let a = c.args.self.now in
    let page = c.args.page.now in
    let key = c.args.key in
    let within = keeps_within len kind link i es a page keeps in
    let ys = drop i es in
    let j = prefix_len (is_below key) ys in
    let to = c.walk-to.result in
    let walked = c.walk-to.ensures in
    let to_is : to ≡ a.back + length (bytes_of (take j ys)) =
    walked.passed ys (back_entries len kind link i es a page keeps) (back_is len kind link i es a page keeps) ∙ ap (λ (x : ℕ). a.back + x) (below_is key ys) in
    let same = passed a.at a.back to page c.shift.new.page within.gap walked.after walked.within c.shift.ensures in
    let m = to - a.back in
    record {
      made = subst (λ (x : List ℕ). IsMade (writer_of len es) kind link es x) (sym same) keeps.made;
      parts = parts_passed len i j es a.at a.back to (prefix_within key ys) to_is keeps.parts;
      page_len =
          ap length c.shift.ensures
          ∙ length-paste page a.at (drop a.back page) m (omega (arith, within.gap, walked.after, walked.within)) (omega (arith, length-drop a.back page, walked.within))
          ∙ keeps.page_len;
    }

pub returns-clause-same : goal.returns-clause-same
returns-clause-same c =
    let within = c.is_within.ensures.0 c.if-not-is_within.false in
    passed c.args.self.now.at c.args.self.now.back c.walk-to.result c.args.page.now c.shift.new.page within.gap c.walk-to.ensures.after c.walk-to.ensures.within c.shift.ensures
