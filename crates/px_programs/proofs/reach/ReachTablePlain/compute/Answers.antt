use Rattle.std.proofs.Common.{◌≡◌, arith, subst}
use Rattle.std.proofs.lemmas.Grind.{common_steps}
use Rattle.std.proofs.lemmas.Result.{MatchResult-weaker, IfErr-weaker}
use Rattle.std.specs.Prelude.{[], option_copied}
use Rattle.px_program.specs.Calls.{answer}
use Rattle.px_programs.specs.Along.{along}
use Rattle.px_programs.specs.Answers.{posts}
use Rattle.px_programs.specs.Reach.{reach, marked}
use Rattle.px_programs.proofs.PostSteps.{stops_posted, all_posted}
use Rattle.px_programs.proofs.reach.ReachTablePlain.compute.Goals as goal
use Rattle.px_programs.proofs.reach.ReachTablePlain.compute.Given.{Over}
use Rattle.px_programs.proofs.reach.ReachTablePlain.compute.Goals.{After-post_along}

-- where the edges are sent along, the vertex is reached
reached : (g : Over) (c : After-post_along g) → answer (reach c.args.self.now.from) c.args.at.now c.args.v.now (option_copied c.args.msg) ≡ posts (marked 1 c.args.v.now.vertex) 1 (along [] c.set_value.new.self.vertex.edges)
reached g c = grind (arith, common_steps)

pub returns-then-reached-clause-posted : goal.returns-then-reached-clause-posted
returns-then-reached-clause-posted g c = λ valid.
    MatchResult-weaker c.post_along.result c.post_along.ensures.ok (λ x all. λ p took.
    subst (g.O.Outbox.took c.post_along.new.out) (all_posted _ 1 _ _ p (reached g c)) (all p took)) (λ e h. h)

pub returns-then-reached-clause-err : goal.returns-then-reached-clause-err
returns-then-reached-clause-err g c = IfErr-weaker c.post_along.result _ _ (λ e. stops_posted _ _ _ _ _ _ _ _ _ _ _ _ e (λ valid. reached g c)) c.post_along.ensures.err
