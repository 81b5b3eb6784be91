use Rattle.std.proofs.Common.{◌≡◌, ◌⊎◌, ℕ, [], ap, ◌∙◌, refl, inl, inr, arith}
use Rattle.std.proofs.lemmas.Grind.{common_steps}
use Rattle.std.proofs.lemmas.Result.{IfErr-weaker}
use Rattle.std.specs.Prelude.{option_copied}
use Rattle.px_meaning.specs.Graph.{Vertex}
use Rattle.px_meaning.specs.Program.{Out}
use Rattle.px_program.specs.Calls.{answer}
use Rattle.px_program.specs.Posted.{Posted, MadeFor, contributed, requested, IsPartOf}
use Rattle.px_verdict.specs.Verdict.{delete, delete_is}
use Rattle.px_programs.specs.Along.{along, SendsPart}
use Rattle.px_programs.specs.Answers.{spreads, halted}
use Rattle.px_programs.specs.Prune.{prune, leaves}
use Rattle.px_programs.proofs.AlongSteps.{valid_by}
use Rattle.px_programs.proofs.PostSteps.{begins_none, is_part, part_spread, stops_posting, stops_at_once, stops_after}
use Rattle.px_programs.proofs.prune.PruneTablePlain.compute.Goals as goal
use Rattle.px_programs.proofs.prune.PruneTablePlain.compute.Given.{Over}
use Rattle.px_programs.proofs.prune.PruneTablePlain.compute.Goals.{After-send_along, After-request}

-- where it has edges, this is its answer
told : (g : Over) (c : After-send_along g) → answer prune c.args.at.now c.args.v.now (option_copied c.args._msg) ≡ spreads (halted c.args.v.now.vertex) (along [] c.set_halt.new.self.vertex.edges)
told g c = grind (arith, common_steps)

pub returns-then-edges-gt0-clause-err : goal.returns-then-edges-gt0-clause-err
returns-then-edges-gt0-clause-err g c =
    let all = along [] c.set_halt.new.self.vertex.edges in
    IfErr-weaker c.send_along.result _ _ (λ e. stops_posting (SendsPart all) _ _ _ _ _ _ _ _ _ e (λ valid old made. part_spread _ all _ old made (told g c))) c.send_along.ensures.err

-- and where it has none
left : (g : Over) (c : After-request g) → answer prune c.args.at.now c.args.v.now (option_copied c.args._msg) ≡ leaves c.vid.result (halted c.args.v.now.vertex)
left g c = grind (arith, common_steps)

part_left : (vid : ℕ) (x : Vertex) (o : Out) (old new : Posted) → o ≡ leaves vid x → (new ≡ contributed 1 old) ⊎ (new ≡ requested vid delete (contributed 1 old)) → IsPartOf o old new
part_left vid x o old new is (inl at) = is_part o _ old new _ is at (record { sends = begins_none _ _; requests = begins_none _ _; contributions = (1, refl) })
part_left vid x o old new is (inr at) = is_part o _ old new _ is at (record { sends = begins_none _ _; requests = (1, refl); contributions = (1, refl) })

pub returns-clause-err : goal.returns-clause-err
returns-clause-err g c =
    let vid = c.vid.result in
    let valid = valid_by _ _ delete (ap (λ (f : MadeFor). f.verdict) c.contribute.ensures.stays ∙ c.requires.verdict) delete_is.valid in
    IfErr-weaker c.request.result _ _ (λ e refused. stops_posting (λ old made. (made ≡ contributed 1 old) ⊎ (made ≡ requested vid delete (contributed 1 old))) _ _ _ _ _ _ _ _ _ e (λ ok old made. part_left vid _ _ old made (left g c))
    (stops_after 1 (λ old made. (made ≡ old) ⊎ (made ≡ requested vid delete old)) _ _ _ _ _ _ _ _ _ e c.contribute.ensures.posted c.contribute.ensures.stays c.contribute.ensures.faults
    (stops_at_once (requested vid delete) _ _ _ _ _ _ _ e valid refused))) c.request.ensures.err
