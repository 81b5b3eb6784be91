use Rattle.std.proofs.Common.{false, refl}
use Rattle.px_program.proofs.Gathering.{no_pieces}
use Rattle.px_programs.proofs.tests.Trace.clear.Goals as goal

pub returns-clause-pieces : goal.returns-clause-pieces
returns-clause-pieces g c = no_pieces 112 c.args.self.now.spare.limit false c.clear.new.self.bytes c.args.self.now.is refl c.clear.ensures.bytes
