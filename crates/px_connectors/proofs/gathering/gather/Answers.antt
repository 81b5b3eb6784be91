use Rattle.std.proofs.Common.{rules, ◌≡◌, ◌∙◌, [], subst, IsTrue, false}
use Rattle.std.proofs.lemmas.Result.{err_from_is_err_and}
use Rattle.px_core.specs.Shown.{Only}
use Rattle.px_core.proofs.Keeping.{same_by_touches}
use Rattle.px_meaning.specs.Step.{has_wide_fold}
use Rattle.px_stream.proofs.Kept.{took_same}
use Rattle.px_program.specs.Groups.{IsOwn, room_in}
use Rattle.px_connectors.specs.Messages.{pairs_of}
use Rattle.px_connectors.proofs.gathering.gather.Goals as goal

pub returns-in_err-take_pairs-clause-err : goal.returns-in_err-take_pairs-clause-err
returns-in_err-take_pairs-clause-err g c =
    let end = err_from_is_err_and c.from_residual.result c.from_residual.ensures.1 in
    let stop : end.0 ≡ c.in_err-take_pairs.field-0.0 = cc in
    rw (end.1, stop) (record {
      beyond = λ is ins to_give valid took. c.in_err-take_pairs.ensures.err.beyond is ins [] to_give valid took;
      cause = search rules;
      touches = search rules;
    })

pub returns-in_err-give_folds-clause-err : goal.returns-in_err-give_folds-clause-err
returns-in_err-give_folds-clause-err g c =
    let rule = g.M.Merge.rule c.args.merge.now in
    let end = err_from_is_err_and c.from_residual-in_err-give_folds.result c.from_residual-in_err-give_folds.ensures.1 in
    let stop : end.0 ≡ c.in_err-give_folds.field-0.0 = cc in
    rw (end.1, stop) (record {
      beyond = λ is ins to_give valid took. subst (λ m. IsTrue (has_wide_fold rule (room_in m) (pairs_of ins))) c.take_pairs.ensures.stays
          (c.in_err-give_folds.ensures.err.beyond is (pairs_of ins) (c.in_ok-take_pairs.ensures.took ins [] to_give valid took));
      cause = search rules;
      touches = search rules;
    })

pub returns-clause-holds : goal.returns-clause-holds
returns-clause-holds g c = λ ins to_give valid took empty.
    let made = g.G.Group.made c.args.group.now in
    let to = c.args.to.now in
    let added = took_same _ _ to [] (same_by_touches (Only to.file) (IsOwn made) _ _ (λ f is own. c.requires.to_apart (subst (IsOwn made) is own)) c.in_ok-take_pairs.ensures.ok.touches) empty in
    c.in_ok-give_folds.ensures.holds (pairs_of ins) (c.in_ok-take_pairs.ensures.took ins [] to_give valid took) added

pub returns-clause-fits : goal.returns-clause-fits
returns-clause-fits g c = λ ins to_give valid took.
    let rule = g.M.Merge.rule c.args.merge.now in
    subst (λ m. has_wide_fold rule (room_in m) (pairs_of ins) ≡ false) c.take_pairs.ensures.stays
    (c.in_ok-give_folds.ensures.fits (pairs_of ins) (c.in_ok-take_pairs.ensures.took ins [] to_give valid took))
