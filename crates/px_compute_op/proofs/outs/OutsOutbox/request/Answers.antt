use Rattle.std.proofs.Common.{rules, subst, sym, ℕ}
use Rattle.std.proofs.lemmas.Bool.{or_right}
use Rattle.px_core.proofs.Keeping.{same_by_touches}
use Rattle.px_program.specs.Groups.{IsOwn, GroupMade}
use Rattle.px_connectors.specs.Asking.{IsRequestFile}
use Rattle.px_compute_op.proofs.Taking.{taken_request, past_asks_too_much}
use Rattle.px_compute_op.proofs.outs.OutsOutbox.request.Goals as goal

pub returns-then-is_past-clause-err : goal.returns-then-is_past-clause-err
returns-then-is_past-clause-err g c =
    let self = c.args.self.now in
    record {
      same = search rules;
      beyond = λ valid is p took. or_right _ _ (past_asks_too_much self.room self.made.requests p.requests c.args.vid c.args.verdict.now (took c.requires.open).requests_are (c.is_past.ensures.past c.if-is_past.true));
      cause = search rules;
    }

pub returns-in-Ok-clause-ok : goal.returns-in-Ok-clause-ok
returns-in-Ok-clause-ok g c = λ valid p took is_open.
    let self = c.args.self.now in
    let m = g.K.Meant.start.program in
    let s0 = g.SD.Disk.shown self.disk.now in
    let s1 = g.SD.Disk.shown c.put.new.disk in
    let apart : (f : ℕ) → IsOwn (g.G.Group.made self.group.now) f → IsRequestFile f → ⊥ = subst (λ (v : GroupMade). (f : ℕ) → IsOwn v f → IsRequestFile f → ⊥) (sym self.is.group_is) self.is.apart in
    taken_request m self.room _ _ _ _ _ self.made p c.args.vid c.args.verdict.now (c.is_past.ensures.within c.if-is_past.false).1
    (λ l h. c.in-Ok.ensures.asked l h)
    (λ l h. g.met.G.Group.took_stays s0 s1 self.group.now m.message l (same_by_touches (IsOwn (g.G.Group.made self.group.now)) IsRequestFile s0 s1 apart c.in-Ok.ensures.ok.touches) h)
    (took c.requires.open)
