use Rattle.px_superstep.proofs.Lending.{bench_is_out, bench_back}
use Rattle.px_superstep.proofs.benches.lend_bench.Goals as goal

pub returns-clause-back : goal.returns-clause-back
returns-clause-back c =
    rw (c.lend_table-table.ensures.out, c.lend-group.ensures.out, c.lend-streams.ensures.out, c.lend-join.ensures.out, c.lend-work.ensures.out)
    (bench_back c.args.bank.now c.requires.bench)

pub returns-clause-out : goal.returns-clause-out
returns-clause-out c =
    rw (c.lend_table-table.ensures.out, c.lend-group.ensures.out, c.lend-streams.ensures.out, c.lend-join.ensures.out, c.lend-work.ensures.out)
    (bench_is_out c.args.bank.now c.requires.bench)
