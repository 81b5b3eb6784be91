use Rattle.std.proofs.Common.{rules, ◌≡◌, ◌∙◌, ◌≤◌, ◌-◌, ◌^◌, ℕ, [], min, ap, sym, subst, length, IsTrue, false, refl}
use Rattle.std.proofs.lemmas.Result.{err_from_is_err_and}
use Rattle.px_core.specs.Parts.{all_of}
use Rattle.px_core.specs.Shown.{Only}
use Rattle.px_core.proofs.Keeping.{same_by_touches}
use Rattle.px_meaning.specs.Merge.{Pairs, AllValid, grouped}
use Rattle.px_meaning.specs.Step.{has_wide_fold}
use Rattle.px_meaning.proofs.Rearranged.{grouped-IsPermutation}
use Rattle.px_program.specs.Groups.{IsOwn, room_in}
use Rattle.px_store.specs.Joins.{message_tuples}
use Rattle.px_stream.specs.Stream.{Has}
use Rattle.px_stream.proofs.Kept.{took_same}
use Rattle.px_connectors.specs.Files.{OwnOr}
use Rattle.px_connectors.specs.Receiving.{GiveAll}
use Rattle.px_connectors.specs.Sides.{PartitioningView, HasSent, Receives}
use Rattle.px_connectors.proofs.Mixing.{wide_same}
use Rattle.px_connectors.proofs.Sending.{readers_is, are_receiving, sent_beside, own_or_apart}
use Rattle.px_connectors.proofs.partitioning.PartitioningConnector.gather.Goals as goal

pub returns-in_err-count-clause-err : goal.returns-in_err-count-clause-err
returns-in_err-count-clause-err g c =
    let end = err_from_is_err_and c.from_residual-in_err-count.result c.from_residual-in_err-count.ensures.1 in
    let stop : end.0 ≡ c.in_err-count.field-0.0 = cc in
    let rule = g.M.Merge.rule c.args.merge.now in
    let laws = g.met.M.Merge.laws c.args.merge.now in
    let s = g.D.Disk.shown c.args.disk.now in
    let r = c.in-Some.readers in
    let side = are_receiving c.self.inside.parts _ c.self.inside.writers c.self.inside.readers r c.in-Some.is c.self.invariant.2 in
    let n = length r.readers.items in
    let whole : n ≡ c.args.self.now.parts = side.parts_are ∙ ap (λ (v : PartitioningView). v.parts) c.self.view_is in
    rw (end.1, stop) (record {
      beyond = λ is ls receives valid took.
          let gives = readers_is (λ x. GiveAll s x.readers.items ls) c.self.inside.readers r c.in-Some.is (subst (λ (v : PartitioningView). Receives v s ls) (sym c.self.view_is) receives) in
          let good : AllValid rule (all_of n ls) = subst (λ (k : ℕ). AllValid rule (all_of k ls)) (sym whole) valid in
          let t = c.in_ok-take_received.ensures.took ls gives good took in
          let wide = subst (λ m. IsTrue (has_wide_fold rule (room_in m) t.0)) c.take_received.ensures.stays (c.in_err-count.ensures.err.beyond is t.0 t.2) in
          subst (λ (k : ℕ). IsTrue (has_wide_fold rule (room_in (g.G.Group.made c.args.group.now)) (all_of k ls))) whole (wide_same rule laws (room_in (g.G.Group.made c.args.group.now)) (all_of n ls) t.0 t.1 good ∙ wide);
      cause = search rules;
      touches = search rules;
    })

pub returns-clause-holds : goal.returns-clause-holds
returns-clause-holds g c = λ ls receives valid took empty.
    let rule = g.M.Merge.rule c.args.merge.now in
    let laws = g.met.M.Merge.laws c.args.merge.now in
    let s = g.D.Disk.shown c.args.disk.now in
    let r = c.in-Some.readers in
    let side = are_receiving c.self.inside.parts _ c.self.inside.writers c.self.inside.readers r c.in-Some.is c.self.invariant.2 in
    let n = length r.readers.items in
    let whole : n ≡ c.args.self.now.parts = side.parts_are ∙ ap (λ (v : PartitioningView). v.parts) c.self.view_is in
    let gives = readers_is (λ x. GiveAll s x.readers.items ls) c.self.inside.readers r c.in-Some.is (subst (λ (v : PartitioningView). Receives v s ls) (sym c.self.view_is) receives) in
    let good : AllValid rule (all_of n ls) = subst (λ (k : ℕ). AllValid rule (all_of k ls)) (sym whole) valid in
    let t = c.in_ok-take_received.ensures.took ls gives good took in
    let made = g.G.Group.made c.args.group.now in
    let to = c.args.to.now in
    let added = took_same _ _ to [] (same_by_touches (Only to.file) (IsOwn made) _ _ (λ f is own. c.requires.to_apart (subst (IsOwn made) is own)) c.in_ok-take_received.ensures.ok.touches) empty in
    let now = c.give_folds.new.to in
    let holds : Pairs → Type 0 = λ k. Has (g.D.Disk.shown c.give_folds.new.disk) now.file now.first now.pages (message_tuples k) in
    subst (λ (k : ℕ). holds (grouped rule (all_of k ls))) whole
    (subst holds (sym (grouped-IsPermutation rule laws (all_of n ls) t.0 t.1 good)) (c.in_ok-count.ensures.holds t.0 t.2 added))

pub returns-clause-count : goal.returns-clause-count
returns-clause-count g c = λ ls receives valid took.
    let rule = g.M.Merge.rule c.args.merge.now in
    let laws = g.met.M.Merge.laws c.args.merge.now in
    let s = g.D.Disk.shown c.args.disk.now in
    let r = c.in-Some.readers in
    let side = are_receiving c.self.inside.parts _ c.self.inside.writers c.self.inside.readers r c.in-Some.is c.self.invariant.2 in
    let n = length r.readers.items in
    let whole : n ≡ c.args.self.now.parts = side.parts_are ∙ ap (λ (v : PartitioningView). v.parts) c.self.view_is in
    let gives = readers_is (λ x. GiveAll s x.readers.items ls) c.self.inside.readers r c.in-Some.is (subst (λ (v : PartitioningView). Receives v s ls) (sym c.self.view_is) receives) in
    let good : AllValid rule (all_of n ls) = subst (λ (k : ℕ). AllValid rule (all_of k ls)) (sym whole) valid in
    let t = c.in_ok-take_received.ensures.took ls gives good took in
    subst (λ (k : ℕ). c.in_ok-count.count ≡ min (length (grouped rule (all_of k ls))) (2 ^ 64 - 1)) whole
    (subst (λ (k : Pairs). c.in_ok-count.count ≡ min (length k) (2 ^ 64 - 1)) (sym (grouped-IsPermutation rule laws (all_of n ls) t.0 t.1 good)) (c.in_ok-count.ensures.count t.0 t.2))

pub returns-clause-fits : goal.returns-clause-fits
returns-clause-fits g c = λ ls receives valid took.
    let rule = g.M.Merge.rule c.args.merge.now in
    let laws = g.met.M.Merge.laws c.args.merge.now in
    let s = g.D.Disk.shown c.args.disk.now in
    let r = c.in-Some.readers in
    let side = are_receiving c.self.inside.parts _ c.self.inside.writers c.self.inside.readers r c.in-Some.is c.self.invariant.2 in
    let n = length r.readers.items in
    let whole : n ≡ c.args.self.now.parts = side.parts_are ∙ ap (λ (v : PartitioningView). v.parts) c.self.view_is in
    let gives = readers_is (λ x. GiveAll s x.readers.items ls) c.self.inside.readers r c.in-Some.is (subst (λ (v : PartitioningView). Receives v s ls) (sym c.self.view_is) receives) in
    let good : AllValid rule (all_of n ls) = subst (λ (k : ℕ). AllValid rule (all_of k ls)) (sym whole) valid in
    let t = c.in_ok-take_received.ensures.took ls gives good took in
    let room = room_in (g.G.Group.made c.args.group.now) in
    subst (λ (k : ℕ). has_wide_fold rule room (all_of k ls) ≡ false) whole
    (wide_same rule laws room (all_of n ls) t.0 t.1 good ∙ subst (λ m. has_wide_fold rule (room_in m) t.0 ≡ false) c.take_received.ensures.stays (c.in_ok-count.ensures.fits t.0 t.2))

pub returns-clause-sent : goal.returns-clause-sent
returns-clause-sent g c = λ p l sent.
    let s = g.D.Disk.shown c.args.disk.now in
    let made = g.G.Group.made c.args.group.now in
    let now = g.G.Group.made c.take_received.new.group in
    let file = c.args.to.now.file in
    let u = g.D.Disk.shown c.take_received.new.disk in
    let whole = c.args.self.now in
    let most : whole.parts ≤ 16 = subst (λ (v : PartitioningView). v.parts ≤ 16) c.self.view_is c.self.invariant.1 in
    let received : HasSent whole u p l = sent_beside (IsOwn made) whole whole s u p l most c.requires.apart refl refl c.in_ok-take_received.ensures.ok.touches sent in
    sent_beside (OwnOr now file) _ _ u _ p l c.self.invariant.1 (own_or_apart made now file c.take_received.ensures.stays c.requires.apart c.requires.to_own) refl refl c.in_ok-count.ensures.ok.touches
    (subst (λ (v : PartitioningView). HasSent v u p l) (sym c.self.view_is) received)
