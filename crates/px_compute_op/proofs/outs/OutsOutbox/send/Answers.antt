use Rattle.std.proofs.Common.{refl, subst, sym, ap, ◌∙◌, ℕ}
use Rattle.std.proofs.lemmas.Result.{on_ok_weaker}
use Rattle.px_core.proofs.Keeping.{same_by_touches}
use Rattle.px_core.specs.Shown.{Clean}
use Rattle.px_meaning.specs.Merge.{Pairs}
use Rattle.px_meaning.specs.Program.{ProgramMeaning}
use Rattle.px_program.specs.Groups.{IsOwn, GroupMade}
use Rattle.px_connectors.specs.Asking.{IsRequestFile, Asked}
use Rattle.px_connectors.specs.Frames.{asked_same}
use Rattle.px_compute_op.proofs.Sending.{given}
use Rattle.px_compute_op.proofs.outs.OutsOutbox.send.Goals as goal

pub returns-clause-ok : goal.returns-clause-ok
returns-clause-ok g c = λ valid.
    let self = c.args.self.now in
    let m = g.K.Meant.start.program in
    let s0 = g.SD.Disk.shown self.disk.now in
    let s1 = g.SD.Disk.shown c.add_send-sent.new.disk in
    let own = IsOwn (g.G.Group.made self.group.now) in
    let rule_is = c.message.ensures ∙ ap (λ (k : ProgramMeaning). k.message) self.is.program_is in
    let apart : (f : ℕ) → IsRequestFile f → own f → ⊥ = subst (λ (v : GroupMade). (f : ℕ) → IsRequestFile f → IsOwn v f → ⊥) (sym self.is.group_is) (λ f r mine. self.is.apart f mine r) in
    let stay : Clean own s0 s1 → (l : Pairs) → Asked s0 self.requests.now l → Asked s1 self.requests.now l = λ ok l h. asked_same s0 s1 self.requests.now l (same_by_touches IsRequestFile own s0 s1 apart ok.touches) h in
    given c.args.to c.args.payload.now c.args.payload.now refl m (g.P.Message.Merge.rule c.message.result.now) rule_is c.add_send-sent.new.sends self.room
    (λ k l. g.G.Group.took s0 self.group.now k l) (λ k l. g.G.Group.took s1 c.add_send-sent.new.group k l) (Asked s0 self.requests.now) (Asked s1 self.requests.now) g.K.Meant.asked_before
    self.made self.unspent c.is_ok-self.result c.requires.open valid c.add_send-sent.result c.add_send-sent.ensures.took c.add_send-sent.ensures.count (on_ok_weaker c.add_send-sent.result stay c.add_send-sent.ensures.ok)
