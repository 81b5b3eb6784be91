use Rattle.std.proofs.Common.{rules, ◌≡◌, [], subst, IsTrue, false}
use Rattle.std.proofs.lemmas.Result.{err_from_is_err_and}
use Rattle.px_core.specs.Shown.{Only}
use Rattle.px_core.proofs.Keeping.{same_by_touches}
use Rattle.px_meaning.specs.Merge.{grouped}
use Rattle.px_meaning.specs.Step.{has_wide_fold}
use Rattle.px_stream.proofs.Kept.{took_same}
use Rattle.px_program.specs.Groups.{IsOwn, room_in}
use Rattle.px_connectors.proofs.gathering.give_folds.Goals as goal

pub returns-in_err-seal-clause-err : goal.returns-in_err-seal-clause-err
returns-in_err-seal-clause-err g c =
    let end = err_from_is_err_and c.from_residual.result c.from_residual.ensures.1 in
    let stop : end.0 ≡ c.in_err-seal.field-0.0 = cc in
    rw (end.1, stop) (record {
      beyond = λ is l took. c.in_err-seal.ensures.err.beyond is l took;
      cause = search rules;
      touches = search rules;
    })

pub returns-in_err-count-clause-err : goal.returns-in_err-count-clause-err
returns-in_err-count-clause-err g c =
    let rule = g.M.Merge.rule c.args.merge.now in
    let end = err_from_is_err_and c.from_residual-in_err-count.result c.from_residual-in_err-count.ensures.1 in
    let stop : end.0 ≡ c.in_err-count.field-0.0 = cc in
    rw (end.1, stop) (record {
      beyond = λ is l took. subst (λ m. IsTrue (has_wide_fold rule (room_in m) l)) c.seal.ensures.stays
          (c.in_err-count.ensures.err.beyond is l (grouped rule l) (c.in_ok-seal.ensures.gives l took));
      cause = search rules;
      touches = search rules;
    })

pub returns-clause-holds : goal.returns-clause-holds
returns-clause-holds g c = λ l took empty.
    let rule = g.M.Merge.rule c.args.merge.now in
    let made = g.G.Group.made c.args.group.now in
    let to = c.args.to.now in
    let sealed = took_same _ _ to [] (same_by_touches (Only to.file) (IsOwn made) _ _ (λ f is own. c.requires.apart (subst (IsOwn made) is own)) c.in_ok-seal.ensures.ok.touches) empty in
    c.in_ok-finish.ensures.holds _ (c.in_ok-count.ensures.took l (grouped rule l) [] (c.in_ok-seal.ensures.gives l took) sealed)

pub returns-clause-count : goal.returns-clause-count
returns-clause-count g c = λ l took. c.in_ok-count.ensures.count l (grouped (g.M.Merge.rule c.args.merge.now) l) (c.in_ok-seal.ensures.gives l took)

pub returns-clause-fits : goal.returns-clause-fits
returns-clause-fits g c = λ l took.
    let rule = g.M.Merge.rule c.args.merge.now in
    subst (λ m. has_wide_fold rule (room_in m) l ≡ false) c.seal.ensures.stays (c.in_ok-count.ensures.fits l (grouped rule l) (c.in_ok-seal.ensures.gives l took))
