use Rattle.px_connectors.proofs.tests.ask_three.Goals as goal

pub returns-clause-asked : goal.returns-clause-asked
returns-clause-asked g c = λ tells.
    c.in_ok-finish.ensures.holds _ (c.in_ok-put-3.ensures.asked _ (c.in_ok-put-2.ensures.asked _ (c.in_ok-put.ensures.asked _ (c.in_ok-start.ensures.asked tells))))
