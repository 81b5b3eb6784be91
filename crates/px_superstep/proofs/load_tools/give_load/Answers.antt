use Rattle.std.proofs.Common.{ℕ, sym, subst, true}
use Rattle.px_frames.specs.Banks.{BankView}
use Rattle.px_superstep.specs.Lending.{IsBenchOut, IsLent}
use Rattle.px_superstep.specs.LoadTooling.{HasLen}
use Rattle.px_superstep.proofs.LoadTooling.{bench_still_out, unloaded_lent}
use Rattle.px_superstep.proofs.load_tools.give_load.Goals as goal

pub close_tools-lent-requires-clause-text : goal.close_tools-lent-requires-clause-text
close_tools-lent-requires-clause-text c = subst (λ (n : ℕ). HasLen n c.args.tools.frames.text) (sym c.requires.lent.streams.frame_len) c.requires.lent.text

pub give_bench-requires-clause-out : goal.give_bench-requires-clause-out
give_bench-requires-clause-out c = subst IsBenchOut (sym c.give.ensures) (bench_still_out c.args.bank.now true c.requires.out.bench)

pub give_bench-requires-clause-lent : goal.give_bench-requires-clause-lent
give_bench-requires-clause-lent c =
    subst (λ (b : BankView). IsLent b c.close_tools-lent.result.0) (sym c.give.ensures)
    (unloaded_lent c.args.bank.now c.requires.out.messages.in_range true c.close_tools-lent.result.0 c.close_tools-lent.result.1 c.args.tools c.requires.lent c.close_tools-lent.ensures)
