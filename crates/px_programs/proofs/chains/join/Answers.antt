use Rattle.std.proofs.Common.{rules, ◌/◌, length}
use Rattle.px_record.proofs.Bytes.{length-edges_in}
use Rattle.px_programs.proofs.chains.join.Goals as goal

pub returns-clause-wide : goal.returns-clause-wide
returns-clause-wide c = rw (length-edges_in (length c.args.edges.now / 12) c.args.edges.now) (search rules)
