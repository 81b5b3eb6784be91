use Rattle.std.proofs.Common.{rules, refl, subst, sym, ap, ◌∙◌, ℕ, false, arith}
use Rattle.std.proofs.lemmas.Bool.{or_left}
use Rattle.std.proofs.lemmas.Result.{on_ok_weaker}
use Rattle.px_core.proofs.Keeping.{same_by_touches}
use Rattle.px_core.specs.Shown.{Clean}
use Rattle.px_meaning.specs.Merge.{Pairs}
use Rattle.px_meaning.specs.Program.{ProgramMeaning, ProgramLaws}
use Rattle.px_meaning.proofs.Limits.{wide_pair}
use Rattle.px_program.specs.Groups.{IsOwn, GroupMade}
use Rattle.px_program.proofs.Gathering.{pieces_are, pieces_wide, no_pieces}
use Rattle.px_connectors.specs.Asking.{IsRequestFile, Asked}
use Rattle.px_connectors.specs.Frames.{asked_same}
use Rattle.px_compute_op.proofs.Sending.{given, refused}
use Rattle.px_compute_op.proofs.outs.OutsOutbox.send_pieces.Goals as goal

-- pieces that are too long
pub returns-then-self-clause-err : goal.returns-then-self-clause-err
returns-then-self-clause-err g c = λ b is.
    let self = c.args.self.now in
    let m = g.K.Meant.start.program in
    let laws = subst ProgramLaws self.is.program_is (g.met.P.Program.laws self.program.now) in
    let wide = pieces_wide self.room b self.long self.spare.now.bytes is c.if-self.true in
    record {
      same = search rules;
      beyond = λ valid stop p took.
          let t = took c.requires.open in
          or_left _ _ (wide_pair m.message laws.messages self.room p.sends c.args.to b (g.met.G.Group.valid (g.SD.Disk.shown self.disk.now) self.group.now m.message p.sends t.group) valid wide);
      cause = search rules;
    }

pub returns-then-self-clause-pieces : goal.returns-then-self-clause-pieces
returns-then-self-clause-pieces g c =
    let self = c.args.self.now in
    no_pieces self.room self.spare.now.limit false c.clear.new.self.bytes (omega (arith, self.is.spare_fits, self.is.spare_is.limit, self.is.room_is)) refl c.clear.ensures.bytes

pub returns-clause-pieces : goal.returns-clause-pieces
returns-clause-pieces g c =
    let self = c.args.self.now in
    no_pieces self.room self.spare.now.limit self.long c.clear-2.new.self.bytes (omega (arith, self.is.spare_fits, self.is.spare_is.limit, self.is.room_is)) c.if-self.false c.clear-2.ensures.bytes

pub returns-clause-ok : goal.returns-clause-ok
returns-clause-ok g c = λ b is valid.
    let self = c.args.self.now in
    let m = g.K.Meant.start.program in
    let s0 = g.SD.Disk.shown self.disk.now in
    let s1 = g.SD.Disk.shown c.add_send-posted.new.disk in
    let own = IsOwn (g.G.Group.made self.group.now) in
    let here = pieces_are self.room b self.long self.spare.now.bytes is c.if-self.false in
    let rule_is = c.message.ensures ∙ ap (λ (k : ProgramMeaning). k.message) self.is.program_is in
    let apart : (f : ℕ) → IsRequestFile f → own f → ⊥ = subst (λ (v : GroupMade). (f : ℕ) → IsRequestFile f → IsOwn v f → ⊥) (sym self.is.group_is) (λ f r mine. self.is.apart f mine r) in
    let stay : Clean own s0 s1 → (l : Pairs) → Asked s0 self.requests.now l → Asked s1 self.requests.now l = λ ok l h. asked_same s0 s1 self.requests.now l (same_by_touches IsRequestFile own s0 s1 apart ok.touches) h in
    given c.args.to b c.bytes.result.now (c.bytes.ensures.bytes ∙ here.0) m (g.P.Message.Merge.rule c.message.result.now) rule_is c.add_send-posted.new.sends self.room
    (λ k l. g.G.Group.took s0 self.group.now k l) (λ k l. g.G.Group.took s1 c.add_send-posted.new.group k l) (Asked s0 self.requests.now) (Asked s1 self.requests.now) g.K.Meant.asked_before
    self.made self.unspent c.is_ok-self.result c.requires.open valid c.add_send-posted.result c.add_send-posted.ensures.took c.add_send-posted.ensures.count (on_ok_weaker c.add_send-posted.result stay c.add_send-posted.ensures.ok)

pub returns-clause-wide : goal.returns-clause-wide
returns-clause-wide g c = λ b is wide.
    let self = c.args.self.now in
    let here = pieces_are self.room b self.long self.spare.now.bytes is c.if-self.false in
    absurd (omega (arith, wide, here.1))

pub returns-clause-err : goal.returns-clause-err
returns-clause-err g c = λ b is.
    let self = c.args.self.now in
    let m = g.K.Meant.start.program in
    let s0 = g.SD.Disk.shown self.disk.now in
    let s1 = g.SD.Disk.shown c.add_send-posted.new.disk in
    let own = IsOwn (g.G.Group.made self.group.now) in
    let here = pieces_are self.room b self.long self.spare.now.bytes is c.if-self.false in
    let rule_is = c.message.ensures ∙ ap (λ (k : ProgramMeaning). k.message) self.is.program_is in
    refused c.args.to b c.bytes.result.now (c.bytes.ensures.bytes ∙ here.0) m (g.P.Message.Merge.rule c.message.result.now) rule_is self.made.sends
    (λ k l. g.G.Group.took s0 self.group.now k l) own s0 s1 _ _ _ c.is_ok-self.result c.add_send-posted.result refl c.is_ok-self.ensures.value
    (λ p took. let t = took c.requires.open in (t.group, t.sends_are)) c.add_send-posted.ensures.err
