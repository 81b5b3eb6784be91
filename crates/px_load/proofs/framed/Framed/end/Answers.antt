use Rattle.std.proofs.lemmas.Result.{err_from_is_err_and}
use Rattle.px_load.proofs.FramedSteps.{put_part, put_whole}
use Rattle.px_load.proofs.framed.Framed.end.Goals as goal

pub returns-in_err-put-clause-part : goal.returns-in_err-put-clause-part
returns-in_err-put-clause-part g c =
    let end = err_from_is_err_and c.from_residual.result c.from_residual.ensures.1 in
    rw end.1 (λ all p h began. put_part _ _ _ all _ _ p h began)

pub returns-in_err-flush-clause-part : goal.returns-in_err-flush-clause-part
returns-in_err-flush-clause-part g c =
    let end = err_from_is_err_and c.from_residual-in_err-flush.result c.from_residual-in_err-flush.ensures.1 in
    rw end.1 (λ all p h began. put_part _ _ _ all _ _ (c.in_err-flush.ensures.puts all p) h began)

pub returns-clause-puts : goal.returns-clause-puts
returns-clause-puts g c = λ all p h began. put_whole _ _ _ all _ _ c.in_ok-flush.ensures.from c.in_ok-flush.ensures.to (c.in_ok-flush.ensures.puts all p) h began
