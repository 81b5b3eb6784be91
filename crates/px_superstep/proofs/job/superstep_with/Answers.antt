use Rattle.std.proofs.Common.{◌≡◌, ◌≤◌, ◌++◌, length, take, drop, ◌∙◌, arith}
use Rattle.std.proofs.lemmas.List.{length-take-le, take_at}
use Rattle.std.proofs.lemmas.Result.{on_ok_weaker}
use Rattle.px_superstep.proofs.JobStanding.{stands_same}
use Rattle.px_superstep.proofs.job.superstep_with.Goals as goal

pub returns-clause-stands : goal.returns-clause-stands
returns-clause-stands g c =
    let n = length c.args.stores.now in
    let w = c.take_superstep.ensures in
    let ms = c.take_superstep.new.msg_pages in
    let ts = c.take_superstep.new.tallies in
    let few : n ≤ 16 = c.requires.lent.parts.most in
    let ms_len : length ms ≡ n = w.msgs ∙ length-take-le n c.args.msg_pages.now (omega (arith, few, c.requires.msgs)) in
    let ts_len : length ts ≡ n = w.tallies ∙ length-take-le n c.args.tallies.now (omega (arith, few, c.requires.tallies)) in
    let msgs : take n (ms ++ drop n c.args.msg_pages.now) ≡ ms = take_at ms _ n ms_len in
    let tallies : take n (ts ++ drop n c.args.tallies.now) ≡ ts = take_at ts _ n ts_len in
    on_ok_weaker c.take_superstep.result
    (λ all s st. (let next = all s st in record { next = next.next; is = next.is; stands = stands_same _ _ _ _ _ _ _ _ _ _ _ _ msgs tallies next.stands }))
    w.stands
