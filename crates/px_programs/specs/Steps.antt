-- What the steps of sssp answer.
use Rattle.px_meaning.specs.Graph.{Vertex}
use Rattle.px_meaning.specs.Program.{Out}
use Rattle.px_programs.specs.declared.sssp.Step.{Step}
use Rattle.px_programs.specs.declared.sssp.Step.TheVariants.{Find, Wait, Rest}
use Rattle.px_programs.specs.Answers.{rests, halted}
use Rattle.px_programs.specs.Sssp.{finds, waits}

abbrev pub taken : Step → Vertex → Out
taken (Find d) x = finds d x
taken Wait x = waits x
taken Rest x = rests (halted x)
