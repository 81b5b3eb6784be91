use Rattle.std.proofs.Common.{◌∙◌, subst}
use Rattle.px_stream.specs.Stream.{Took}
use Rattle.px_connectors.proofs.Parting.{pushed}
use Rattle.px_connectors.proofs.writers.put_one.Goals as goal

pub returns-clause-took : goal.returns-clause-took
returns-clause-took g c = λ l took. record {
  front = c.in_ok-put.ensures.ok.first ∙ took.front;
  took = subst (Took (g.D.Disk.shown c.put.new.disk) c.put.new.self) (pushed c.args.tag c.args.vid l c.args.body.now) (c.in_ok-put.ensures.took _ took.took);
}
