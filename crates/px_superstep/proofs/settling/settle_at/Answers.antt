use Rattle.std.proofs.Common.{◌≡◌, ◌∙◌, get_or, sym, arith}
use Rattle.std.proofs.lemmas.Option.{slice_get-get_or}
use Rattle.std.proofs.lemmas.Result.{err_from_is_err_and}
use Rattle.std.specs.Prelude.{Some, slice_get}
use Rattle.px_core.proofs.Steps.{clean_refl}
use Rattle.px_cache.specs.View.{AnyFile}
use Rattle.px_meaning.specs.Graph.{room_of}
use Rattle.px_connectors.specs.Asking.{pages_of}
use Rattle.px_store.proofs.Apart.{kept_for, not_owner, none_free}
use Rattle.px_superstep.specs.Files.{IsStepFile}
use Rattle.px_superstep.proofs.Delivering.{vid_is}
use Rattle.px_superstep.proofs.Staying.{stores_set}
use Rattle.px_superstep.proofs.SettlingSteps.{can_settle, settled_next}
use Rattle.px_superstep.proofs.Ending.{stops_after}
use Rattle.px_superstep.proofs.settling.settle_at.Goals as goal

pub apply_part-requires-clause-to : goal.apply_part-requires-clause-to
apply_part-requires-clause-to g c = vid_is c.args.parity c.args.q c.requires.parity (omega (arith, c.requires.at, c.requires.parts.most))

pub returns-clause-next : goal.returns-clause-next
returns-clause-next g c = λ before changes asked h.
    let p = g.P.Program.meaning c.args.program.now in
    let xs = c.args.stores.now in
    let q = c.args.q in
    let d0 = c.args.desk.now in
    let g0 = g.GD.Disk.shown c.args.graph.now in
    let t0 = g.SD.Disk.shown c.args.scratch.now in
    let d1 = c.apply_part.new.desk in
    let g1 = g.GD.Disk.shown c.apply_part.new.graph in
    let t1 = g.SD.Disk.shown c.apply_part.new.scratch in
    let room = room_of t0.page_len in
    let was = c.in_ok-new.ensures in
    let x0 = get_or xs q c.index-stores-at.result in
    let here : slice_get xs q ≡ Some x0 = slice_get-get_or xs q c.index-stores-at.result c.requires.at in
    let pages = pages_of c.args.requests.now in
    let can = can_settle p room c.args.parity (λ x l. g.St.Store.holds x d0 g0 l) xs t0 c.args.tallies.now c.args.update_pages.now pages before changes asked q x0 _ _ here
    (slice_get-get_or c.args.tallies.now q _ (omega (arith, c.requires.at, c.requires.tallies))) (slice_get-get_or c.args.update_pages.now q _ (omega (arith, c.requires.at, c.requires.pages, c.requires.parts.most))) h in
    settled_next p room c.args.parity (λ x l. g.St.Store.holds x d0 g0 l) (λ x l. g.St.Store.holds x d1 g1 l) xs t0 t1 c.args.tallies.now c.args.update_pages.now pages before changes asked q c.apply_part.new.store c.in_ok-new.new
    c.requires.parity c.requires.parts.most c.requires.at c.requires.tallies was.ok.touches
    (λ i x l other at held. (let apart = λ (e : q ≡ g.St.Store.part x). other (sym (c.requires.parts.parts i x at) ∙ sym e) in
    g.met.St.Store.stays x d0 d1 g0 g1 l (kept_for q (g.St.Store.part x) d0 d1 g0 g1 apart was.done.others) was.done.clean.touches.page_len
    (not_owner q (g.St.Store.part x) d0.owner apart (none_free q d0.owner c.requires.free.owner)) (not_owner q (g.St.Store.part x) d1.owner apart (none_free q d1.owner was.free.owner)) held))
    (was.holds (before q) (changes q) (asked q) can.0 (rw c.pages.ensures can.1))
    (was.settled (before q) (changes q) (asked q) can.0 (rw c.pages.ensures can.1)) h

pub returns-clause-tally : goal.returns-clause-tally
returns-clause-tally g c = λ before changes asked h.
    let p = g.P.Program.meaning c.args.program.now in
    let xs = c.args.stores.now in
    let q = c.args.q in
    let t0 = g.SD.Disk.shown c.args.scratch.now in
    let x0 = get_or xs q c.index-stores-at.result in
    let here : slice_get xs q ≡ Some x0 = slice_get-get_or xs q c.index-stores-at.result c.requires.at in
    let can = can_settle p (room_of t0.page_len) c.args.parity (λ x l. g.St.Store.holds x c.args.desk.now (g.GD.Disk.shown c.args.graph.now) l) xs t0 c.args.tallies.now c.args.update_pages.now (pages_of c.args.requests.now) before changes asked q x0 _ _ here
    (slice_get-get_or c.args.tallies.now q _ (omega (arith, c.requires.at, c.requires.tallies))) (slice_get-get_or c.args.update_pages.now q _ (omega (arith, c.requires.at, c.requires.pages, c.requires.parts.most))) h in
    (c.in_ok-new.ensures.settled (before q) (changes q) (asked q) can.0 (rw c.pages.ensures can.1)).counted

pub returns-clause-parts : goal.returns-clause-parts
returns-clause-parts g c =
    let xs = c.args.stores.now in
    let x0 = get_or xs c.args.q c.index-stores-at.result in
    let here : slice_get xs c.args.q ≡ Some x0 = slice_get-get_or xs c.args.q c.index-stores-at.result c.requires.at in
    stores_set g.St.Store.part xs c.args.q c.apply_part.new.store c.requires.at (c.apply_part.ensures.part ∙ c.requires.parts.parts c.args.q x0 here) c.requires.parts

pub returns-in_err-new-clause-parts : goal.returns-in_err-new-clause-parts
returns-in_err-new-clause-parts g c =
    let xs = c.args.stores.now in
    let x0 = get_or xs c.args.q c.index-stores-at.result in
    let here : slice_get xs c.args.q ≡ Some x0 = slice_get-get_or xs c.args.q c.index-stores-at.result c.requires.at in
    stores_set g.St.Store.part xs c.args.q c.apply_part.new.store c.requires.at (c.apply_part.ensures.part ∙ c.requires.parts.parts c.args.q x0 here) c.requires.parts

pub returns-in_err-new-clause-err : goal.returns-in_err-new-clause-err
returns-in_err-new-clause-err g c =
    let p = g.P.Program.meaning c.args.program.now in
    let xs = c.args.stores.now in
    let q = c.args.q in
    let g0 = g.GD.Disk.shown c.args.graph.now in
    let t0 = g.SD.Disk.shown c.args.scratch.now in
    let x0 = get_or xs q c.index-stores-at.result in
    let here : slice_get xs q ≡ Some x0 = slice_get-get_or xs q c.index-stores-at.result c.requires.at in
    let end = err_from_is_err_and c.from_residual.result c.from_residual.ensures.1 in
    rw (end.1, end.2) (stops_after IsStepFile IsStepFile _ _ g0 g0 _ t0 t0 _ _ (λ f own. own)
    (λ too. λ before changes asked h.
    let can = can_settle p (room_of t0.page_len) c.args.parity (λ x l. g.St.Store.holds x c.args.desk.now g0 l) xs t0 c.args.tallies.now c.args.update_pages.now (pages_of c.args.requests.now) before changes asked q x0 _ _ here
    (slice_get-get_or c.args.tallies.now q _ (omega (arith, c.requires.at, c.requires.tallies))) (slice_get-get_or c.args.update_pages.now q _ (omega (arith, c.requires.at, c.requires.pages, c.requires.parts.most))) h in
    too (before q) (changes q) (asked q) can.0 (rw c.pages.ensures can.1))
    (clean_refl AnyFile g0) (clean_refl IsStepFile t0) c.in_err-new.ensures.err)
