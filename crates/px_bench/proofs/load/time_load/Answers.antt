use Rattle.px_bench.proofs.Lending.{lent_again}
use Rattle.px_bench.proofs.load.time_load.Goals as goal

pub returns-clause-frames : goal.returns-clause-frames
returns-clause-frames g c = lent_again _ _ _ _ _ _ c.requires.frames c.load.ensures.frames c.load.ensures.count c.in_ok-vertices.ensures.scratch.touches.page_len
