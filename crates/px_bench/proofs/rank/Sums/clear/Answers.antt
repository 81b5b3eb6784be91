use Rattle.std.proofs.Common.{false, refl}
use Rattle.px_program.proofs.Gathering.{no_pieces}
use Rattle.px_bench.proofs.rank.Sums.clear.Goals as goal

pub returns : goal.returns
returns c = no_pieces 131056 c.args.self.now.spare.limit false c.clear.new.self.bytes c.args.self.now.is refl c.clear.ensures.bytes
