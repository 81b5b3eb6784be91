use Rattle.std.proofs.Common.{◌≡◌, ◌∙◌, ℕ, sym, ap, subst, refl}
use Rattle.std.proofs.lemmas.Result.{err_from_is_err_and}
use Rattle.std.specs.Prelude.{Option}
use Rattle.px_core.specs.Shown.{NoFile}
use Rattle.px_core.proofs.Steps.{clean_refl}
use Rattle.px_cache.specs.View.{AnyFile}
use Rattle.px_meaning.specs.Graph.{Graph}
use Rattle.px_stream.specs.Stream.{ToGive}
use Rattle.px_stream.specs.Views.{ReaderView}
use Rattle.px_store.specs.Joins.{message_tuples}
use Rattle.px_outer_join.specs.Due.{due_row, first_vid}
use Rattle.px_outer_join.specs.Outer.{OuterView, GivesRows, Beside}
use Rattle.px_outer_join.proofs.Dueing.{due_first}
use Rattle.px_outer_join.proofs.Taking.{first_of, none_of, leads_map, scratch_broke}
use Rattle.px_outer_join.proofs.outer.OuterJoinJoin.next_row.Goals as goal

pub returns-in_err-next-clause-err : goal.returns-in_err-next-clause-err
returns-in_err-next-clause-err g c =
    let is = err_from_is_err_and c.from_residual.result c.from_residual.ensures.1 in
    let e : is.0 ≡ c.in_err-next.field-0.0 = cc in
    rw (is.1, e) (scratch_broke c.args.self.now.inputs c.args.self.now.messages.file _ _ _ _ _ _ c.message_vid.ensures.file (clean_refl AnyFile _) (clean_refl NoFile _) c.in_err-next.ensures.err)

pub returns-in_err-take_row-in-Some-clause-err : goal.returns-in_err-take_row-in-Some-clause-err
returns-in_err-take_row-in-Some-clause-err g c =
    let is = err_from_is_err_and c.from_residual-in_err-take_row-in-Some.result c.from_residual-in_err-take_row-in-Some.ensures.1 in
    let e : is.0 ≡ c.in_err-take_row-in-Some.field-0.0 = cc in
    let file = ap (λ (j : OuterView). j.messages.file) c.look_ahead.ensures.stays ∙ c.message_vid.ensures.reader.file ∙ c.message_vid.ensures.file in
    rw (is.1, e) (scratch_broke c.args.self.now.inputs c.look_ahead.new.self.messages.file _ _ _ _ _ _ file c.in_ok-look_ahead.ensures.done.clean c.in_ok-next.ensures.ok c.in_err-take_row-in-Some.ensures.err)

pub returns-in-None-clause-gives : goal.returns-in-None-clause-gives
returns-in-None-clause-gives g c = λ l rows h.
    let st = g.St.Store in
    let gd = g.GD.Disk.shown in
    let j = c.look_ahead.new.self in
    let gv = h.to_give in
    let m = gv.messages in
    let first = c.in_ok-next.ensures.first m gv.to_give in
    let old : Beside (st.scans c.args.store.now c.args.desk.now (gd c.args.graph.now)) c.args.self.now.held c.args.self.now.ahead l m rows = record { given = h.given; coming = h.coming; whole = h.whole; scanned = h.scanned refl; is = gv.is } in
    let mid = subst (λ (x : OuterView). Beside (st.scans c.args.store.now c.args.desk.now (gd c.args.graph.now)) x.held x.ahead l m rows) (sym c.message_vid.ensures.stays) old in
    let hand = c.in_ok-look_ahead.ensures.rows l m rows first mid in
    let due = ap (λ (o : Option ℕ). due_row o (first_vid m)) (sym c.vertex_vid.ensures) ∙ ap (due_row c.vertex_vid.result) first ∙ sym c.row_of.ensures ∙ c.in-None.is in
    let none = none_of _ j.held j.ahead hand.coming m due (due_first j.held j.ahead hand.coming m hand.last hand.due) in
    let scans = hand.scanned in (
      hand.is ∙ none,
      record {
        given = hand.given;
        coming = hand.coming;
        whole = hand.whole;
        held = subst (λ (x : Graph). st.holds c.look_ahead.new.store c.look_ahead.new.desk (gd c.look_ahead.new.graph) x) (sym hand.whole) (g.met.St.Store.scan_holds c.look_ahead.new.store c.look_ahead.new.desk (gd c.look_ahead.new.graph) hand.given hand.coming scans);
        scanned = λ _. scans;
        to_give = record {
          file = ap (λ (x : OuterView). x.messages.file) c.look_ahead.ensures.stays ∙ c.message_vid.ensures.reader.file ∙ c.message_vid.ensures.file
              ∙ sym (ap (λ (x : OuterView). x.inputs.msg_file) c.look_ahead.ensures.stays ∙ ap (λ (x : OuterView). x.inputs.msg_file) c.message_vid.ensures.stays);
          messages = m;
          to_give = subst (λ (r : ReaderView). ToGive (g.SD.Disk.shown c.message_vid.new.scratch) r (message_tuples m)) (sym (ap (λ (x : OuterView). x.messages) c.look_ahead.ensures.stays)) (c.in_ok-next.ensures.to_give _ gv.to_give);
          is = sym none;
        };
      },
    )

pub returns-in_ok-take_row-in-Some-clause-gives : goal.returns-in_ok-take_row-in-Some-clause-gives
returns-in_ok-take_row-in-Some-clause-gives g c = λ l rows h.
    let st = g.St.Store in
    let gd = g.GD.Disk.shown in
    let j = c.look_ahead.new.self in
    let row = c.in-Some.row in
    let gv = h.to_give in
    let m = gv.messages in
    let first = c.in_ok-next.ensures.first m gv.to_give in
    let old : Beside (st.scans c.args.store.now c.args.desk.now (gd c.args.graph.now)) c.args.self.now.held c.args.self.now.ahead l m rows = record { given = h.given; coming = h.coming; whole = h.whole; scanned = h.scanned refl; is = gv.is } in
    let mid = subst (λ (x : OuterView). Beside (st.scans c.args.store.now c.args.desk.now (gd c.args.graph.now)) x.held x.ahead l m rows) (sym c.message_vid.ensures.stays) old in
    let hand = c.in_ok-look_ahead.ensures.rows l m rows first mid in
    let due = ap (λ (o : Option ℕ). due_row o (first_vid m)) (sym c.vertex_vid.ensures) ∙ ap (due_row c.vertex_vid.result) first ∙ sym c.row_of.ensures ∙ c.in-Some.is in
    let one = first_of row _ j.held j.ahead hand.coming m rows due hand.is (due_first j.held j.ahead hand.coming m hand.last hand.due) in
    let scans = hand.scanned in
    let holds = subst (λ (x : Graph). st.holds c.look_ahead.new.store c.look_ahead.new.desk (gd c.look_ahead.new.graph) x) (sym hand.whole) (g.met.St.Store.scan_holds c.look_ahead.new.store c.look_ahead.new.desk (gd c.look_ahead.new.graph) hand.given hand.coming scans) in
    let file = ap (λ (x : OuterView). x.messages.file) c.look_ahead.ensures.stays ∙ c.message_vid.ensures.reader.file ∙ c.message_vid.ensures.file
    ∙ sym (ap (λ (x : OuterView). x.inputs.msg_file) c.look_ahead.ensures.stays ∙ ap (λ (x : OuterView). x.inputs.msg_file) c.message_vid.ensures.stays) in
    let to_give = subst (λ (r : ReaderView). ToGive (g.SD.Disk.shown c.message_vid.new.scratch) r (message_tuples m)) (sym (ap (λ (x : OuterView). x.messages) c.look_ahead.ensures.stays)) (c.in_ok-next.ensures.to_give _ gv.to_give) in
    leads_map row c.take_row.new.vertex c.take_row.new.message.bytes rows (GivesRows c.take_row.new.self (g.SD.Disk.shown c.take_row.new.scratch) hand.given hand.coming) _
    (λ rest gives. record { given = hand.given; coming = hand.coming; whole = hand.whole; held = holds; scanned = λ _. scans; to_give = gives })
    (c.in_ok-take_row-in-Some.ensures.gives hand.given hand.coming m rows file to_give one)
