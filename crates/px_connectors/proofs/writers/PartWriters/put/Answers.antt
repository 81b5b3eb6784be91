use Rattle.std.proofs.Common.{◌≡◌, ◌<◌, ◌∙◌, sym, ap, subst, length}
use Rattle.std.proofs.lemmas.Result.{err_from_is_err_and}
use Rattle.px_core.specs.Partition.{partition_of}
use Rattle.px_core.proofs.Steps.{clean_more, broke_more}
use Rattle.px_connectors.specs.Writers.{WritersView, parts_in, TookParts}
use Rattle.px_connectors.proofs.Parting.{set_back, writer_is, are_set, clean_at, broke_at, took_put}
use Rattle.px_connectors.specs.Frames.{part_file}
use Rattle.px_connectors.proofs.writers.PartWriters.put.Goals as goal

pub invariant_of-self : goal.invariant_of-self
invariant_of-self g c =
    let ws = c.self.inside.writers.items in
    let lt : c.part-part.result < length ws = subst (λ (v : WritersView). c.part-part.result < parts_in v) (sym c.self.view_is) c.part-part.ensures.below in
    let value = c.deref_mut.ensures.value in
    let at = writer_is ws c.deref_mut.result.now c.part-part.result _ value lt in
    rw (set_back ws c.deref_mut.result.now c.part-part.result c.put_in.new.writer value)
    (are_set _ _ _ _ ws c.part-part.result _ c.put_in.new.writer lt at c.put_in.ensures.stays c.self.invariant.0, c.self.invariant.1)

pub returns-in_err-put_in-clause-err : goal.returns-in_err-put_in-clause-err
returns-in_err-put_in-clause-err g c =
    let end = err_from_is_err_and c.from_residual.result c.from_residual.ensures.1 in
    let stop : end.0 ≡ c.in_err-put_in.field-0.0 = cc in
    let ws = c.self.inside.writers.items in
    let lt : c.part-part.result < length ws = subst (λ (v : WritersView). c.part-part.result < parts_in v) (sym c.self.view_is) c.part-part.ensures.below in
    let value = c.deref_mut.ensures.value in
    let at = writer_is ws c.deref_mut.result.now c.part-part.result _ value lt in
    rw (← c.self.view_is, end.1, stop)
    (broke_more _ _ _ _ _ _ (part_file _ (length ws) c.part-part.result c.self.invariant.0.most lt) (broke_at _ _ c.part-part.result ws _ _ _ _ c.self.invariant.0.each lt at c.in_err-put_in.ensures.err))

pub returns-in_err-put_in-clause-are : goal.returns-in_err-put_in-clause-are
returns-in_err-put_in-clause-are g c =
    let ws = c.self.inside.writers.items in
    let lt : c.part-part.result < length ws = subst (λ (v : WritersView). c.part-part.result < parts_in v) (sym c.self.view_is) c.part-part.ensures.below in
    let value = c.deref_mut.ensures.value in
    let at = writer_is ws c.deref_mut.result.now c.part-part.result _ value lt in
    rw (set_back ws c.deref_mut.result.now c.part-part.result c.put_in.new.writer value)
    (are_set _ _ _ _ ws c.part-part.result _ c.put_in.new.writer lt at c.put_in.ensures.stays c.self.invariant.0)

pub invariant_of-self-2 : goal.invariant_of-self-2
invariant_of-self-2 g c =
    let ws = c.self.inside.writers.items in
    let lt : c.part-part.result < length ws = subst (λ (v : WritersView). c.part-part.result < parts_in v) (sym c.self.view_is) c.part-part.ensures.below in
    let value = c.deref_mut.ensures.value in
    let at = writer_is ws c.deref_mut.result.now c.part-part.result _ value lt in
    rw (set_back ws c.deref_mut.result.now c.part-part.result c.put_in.new.writer value)
    (are_set _ _ _ _ ws c.part-part.result _ c.put_in.new.writer lt at c.put_in.ensures.stays c.self.invariant.0, c.self.invariant.1)

pub returns-clause-took : goal.returns-clause-took
returns-clause-took g c = λ l took.
    let ws = c.self.inside.writers.items in
    let lt : c.part-part.result < length ws = subst (λ (v : WritersView). c.part-part.result < parts_in v) (sym c.self.view_is) c.part-part.ensures.below in
    let value = c.deref_mut.ensures.value in
    let at = writer_is ws c.deref_mut.result.now c.part-part.result _ value lt in
    let is : partition_of c.args.vid (length ws) ≡ c.part-part.result = sym (c.part-part.ensures.value ∙ ap (λ (v : WritersView). partition_of c.args.vid (parts_in v)) (sym c.self.view_is)) in
    let touches = (clean_at _ _ c.part-part.result ws _ _ _ c.self.invariant.0.each lt at c.in_ok-put_in.ensures.ok).touches in
    let are = are_set _ _ _ c.self.inside.pages ws c.part-part.result _ c.put_in.new.writer lt at c.put_in.ensures.stays c.self.invariant.0 in
    let before = subst (λ (v : WritersView). TookParts (g.D.Disk.shown c.args.disk.now) c.args.tag v l) (sym c.self.view_is) took in
    rw (set_back ws c.deref_mut.result.now c.part-part.result c.put_in.new.writer value)
    (took_put c.args.tag _ _ _ ws c.part-part.result c.args.vid _ c.put_in.new.writer _ _ l c.args.body.now lt at is touches are c.in_ok-put_in.ensures.took before)

pub returns-clause-ok : goal.returns-clause-ok
returns-clause-ok g c =
    let ws = c.self.inside.writers.items in
    let lt : c.part-part.result < length ws = subst (λ (v : WritersView). c.part-part.result < parts_in v) (sym c.self.view_is) c.part-part.ensures.below in
    let value = c.deref_mut.ensures.value in
    let at = writer_is ws c.deref_mut.result.now c.part-part.result _ value lt in
    rw (← c.self.view_is)
    (clean_more _ _ _ _ (part_file _ (length ws) c.part-part.result c.self.invariant.0.most lt) (clean_at _ _ c.part-part.result ws _ _ _ c.self.invariant.0.each lt at c.in_ok-put_in.ensures.ok))

pub returns-clause-are : goal.returns-clause-are
returns-clause-are g c =
    let ws = c.self.inside.writers.items in
    let lt : c.part-part.result < length ws = subst (λ (v : WritersView). c.part-part.result < parts_in v) (sym c.self.view_is) c.part-part.ensures.below in
    let value = c.deref_mut.ensures.value in
    let at = writer_is ws c.deref_mut.result.now c.part-part.result _ value lt in
    rw (set_back ws c.deref_mut.result.now c.part-part.result c.put_in.new.writer value)
    (are_set _ _ _ _ ws c.part-part.result _ c.put_in.new.writer lt at c.put_in.ensures.stays c.self.invariant.0)
