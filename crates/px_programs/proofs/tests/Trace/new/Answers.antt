use Rattle.std.proofs.Common.{◌≡◌, ◌+◌, false, refl, arith}
use Rattle.px_program.proofs.Gathering.{no_pieces}
use Rattle.px_programs.proofs.tests.Trace.new.Goals as goal

pub returns-clause-pieces : goal.returns-clause-pieces
returns-clause-pieces g c =
    let fits : 13 + c.over.result.limit ≡ 112 = omega (arith, c.over.ensures.limit) in
    no_pieces 112 c.over.result.limit false c.over.result.bytes fits refl c.over.ensures.bytes
