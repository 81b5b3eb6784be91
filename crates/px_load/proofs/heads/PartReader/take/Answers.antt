use Rattle.std.proofs.Common.{refl}
use Rattle.px_load.proofs.HeadsSteps.{begins_looked, reader_is}
use Rattle.px_load.proofs.heads.PartReader.take.Goals as goal

pub returns-clause-took : goal.returns-clause-took
returns-clause-took g c = λ given l looked.
    begins_looked _ _ c.args.v.now.room _ _ _ _ _ _ l (c.in_ok-take_next.ensures.took c.if-not-branch.false l (reader_is _ _ c.in-Some.reader c.in-Some.is looked.gives))
    (λ m s. c.in_ok-self.ensures.gives c.args.v.now.room m s) (λ m s. c.in_ok-self.ensures.vid c.args.v.now.room m s) refl
