use Rattle.std.proofs.Common.{◌≡◌, ◌<◌, ◌∙◌, sym, subst, length}
use Rattle.std.proofs.lemmas.List.{length-set}
use Rattle.std.proofs.lemmas.Result.{err_from_is_err_and}
use Rattle.px_connectors.specs.Writers.{WritersView, parts_in}
use Rattle.px_connectors.proofs.Parting.{set_back, writer_is, are_set, clean_at, broke_at}
use Rattle.px_connectors.proofs.writers.PartWriters.finish_at.Goals as goal

pub invariant_of-self : goal.invariant_of-self
invariant_of-self g c =
    let ws = c.self.inside.writers.items in
    let lt : c.args.q < length ws = subst (λ (v : WritersView). c.args.q < parts_in v) (sym c.self.view_is) c.requires.part in
    let value = c.deref_mut.ensures.value in
    rw (set_back ws c.deref_mut.result.now c.args.q c.finish_in.new.writer value)
    (are_set _ _ _ _ ws c.args.q _ c.finish_in.new.writer lt (writer_is ws c.deref_mut.result.now c.args.q _ value lt) c.finish_in.ensures.stays c.self.invariant.0, c.self.invariant.1)

pub returns-in_err-pages-clause-err : goal.returns-in_err-pages-clause-err
returns-in_err-pages-clause-err g c =
    let end = err_from_is_err_and c.from_residual.result c.from_residual.ensures.1 in
    let stop : end.0 ≡ c.in_err-pages.field-0.0 = cc in
    let ws = c.self.inside.writers.items in
    let lt : c.args.q < length ws = subst (λ (v : WritersView). c.args.q < parts_in v) (sym c.self.view_is) c.requires.part in
    rw (← c.self.view_is, end.1, stop)
    (broke_at _ _ c.args.q ws _ _ _ _ c.self.invariant.0.each lt (writer_is ws c.deref_mut.result.now c.args.q _ c.deref_mut.ensures.value lt) c.in_err-pages.ensures.err)

pub returns-in_err-pages-clause-are : goal.returns-in_err-pages-clause-are
returns-in_err-pages-clause-are g c =
    let ws = c.self.inside.writers.items in
    let lt : c.args.q < length ws = subst (λ (v : WritersView). c.args.q < parts_in v) (sym c.self.view_is) c.requires.part in
    let value = c.deref_mut.ensures.value in
    rw (set_back ws c.deref_mut.result.now c.args.q c.finish_in.new.writer value)
    (are_set _ _ _ _ ws c.args.q _ c.finish_in.new.writer lt (writer_is ws c.deref_mut.result.now c.args.q _ value lt) c.finish_in.ensures.stays c.self.invariant.0)

pub invariant_of-self-2 : goal.invariant_of-self-2
invariant_of-self-2 g c =
    let ws = c.self.inside.writers.items in
    let lt : c.args.q < length ws = subst (λ (v : WritersView). c.args.q < parts_in v) (sym c.self.view_is) c.requires.part in
    let value = c.deref_mut.ensures.value in
    rw (set_back ws c.deref_mut.result.now c.args.q c.finish_in.new.writer value)
    (are_set _ _ _ _ ws c.args.q _ c.finish_in.new.writer lt (writer_is ws c.deref_mut.result.now c.args.q _ value lt) c.finish_in.ensures.stays c.self.invariant.0, length-set _ _ _ ∙ c.self.invariant.1)

pub returns-clause-ok : goal.returns-clause-ok
returns-clause-ok g c =
    let ws = c.self.inside.writers.items in
    let lt : c.args.q < length ws = subst (λ (v : WritersView). c.args.q < parts_in v) (sym c.self.view_is) c.requires.part in
    rw (← c.self.view_is)
    (clean_at _ _ c.args.q ws _ _ _ c.self.invariant.0.each lt (writer_is ws c.deref_mut.result.now c.args.q _ c.deref_mut.ensures.value lt) c.in_ok-pages.ensures.ok)

pub returns-clause-are : goal.returns-clause-are
returns-clause-are g c =
    let ws = c.self.inside.writers.items in
    let lt : c.args.q < length ws = subst (λ (v : WritersView). c.args.q < parts_in v) (sym c.self.view_is) c.requires.part in
    let value = c.deref_mut.ensures.value in
    rw (set_back ws c.deref_mut.result.now c.args.q c.finish_in.new.writer value)
    (are_set _ _ _ _ ws c.args.q _ c.finish_in.new.writer lt (writer_is ws c.deref_mut.result.now c.args.q _ value lt) c.finish_in.ensures.stays c.self.invariant.0)
