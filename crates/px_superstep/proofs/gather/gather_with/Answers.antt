use Rattle.std.proofs.Common.{◌≡◌, ◌<◌, ℕ, [], false, true, IsTrue, sym, ◌∙◌, ap, subst, inr}
use Rattle.std.proofs.lemmas.Result.{err_from_is_err_and}
use Rattle.px_core.specs.Parts.{to_part, all_of}
use Rattle.px_core.specs.Shown.{Only, NoFile}
use Rattle.px_core.specs.declared.stop.Stop.TheVariants.{Scratch}
use Rattle.px_core.proofs.Keeping.{same_by_touches, same_by_none}
use Rattle.px_core.proofs.Steps.{clean_refl, clean_more, clean_then, broke_of}
use Rattle.px_meaning.specs.Graph.{room_of}
use Rattle.px_meaning.specs.Merge.{MergeRule, Pairs, AllValid, grouped}
use Rattle.px_meaning.specs.Step.{has_wide_fold}
use Rattle.px_program.specs.Groups.{room_in}
use Rattle.px_store.specs.Joins.{message_tuples}
use Rattle.px_stream.specs.Stream.{Has}
use Rattle.px_stream.specs.Views.{WriterView}
use Rattle.px_stream.proofs.Kept.{took_same}
use Rattle.px_connectors.specs.Files.{OwnOr, OwnOrConnector}
use Rattle.px_connectors.specs.Views.{ConnectorView, IsSenderFile, IsConnectorFile}
use Rattle.px_superstep.specs.Files.{IsMsgFile, IsResultFile, IsStepFile}
use Rattle.px_superstep.proofs.Ending.{grouping_then}
use Rattle.px_superstep.proofs.Gathering.{part_of_all, part_valid, sender_msg, msg_connector, only_step, connector_step, own_connector, own_msg, gathered_file, gathering_step, clean_opened, grouping_broke}
use Rattle.px_superstep.proofs.gather.gather_with.Goals as goal

pub gather-requires-clause-apart : goal.gather-requires-clause-apart
gather-requires-clause-apart g c = own_connector c.args.tools.now.writer.file c.requires.to (g.G.Group.made c.args.tools.now.group) c.requires.tools.first c.requires.tools.second

pub gather-requires-clause-to_apart : goal.gather-requires-clause-to_apart
gather-requires-clause-to_apart g c =
    own_msg c.start.new.self.file (subst IsMsgFile (sym c.start.ensures.stays.file) c.requires.to) (g.G.Group.made c.args.tools.now.group) c.requires.tools.first c.requires.tools.second

pub gather-requires-clause-to_own : goal.gather-requires-clause-to_own
gather-requires-clause-to_own g c = msg_connector c.start.new.self.file (subst IsMsgFile (sym c.start.ensures.stays.file) c.requires.to)

pub returns-in_err-start-clause-err : goal.returns-in_err-start-clause-err
returns-in_err-start-clause-err g c =
    let s0 = g.SD.Disk.shown c.args.scratch.now in
    let u = c.args.tools.now.writer.file in
    let end = err_from_is_err_and c.from_residual.result c.from_residual.ensures.1 in
    let stop : end.0 ≡ c.in_err-start.field-0.0 = cc in
    rw (end.1, stop) (grouping_broke (Only u) IsStepFile _ s0 s0 _ _ (only_step u c.requires.to) (clean_refl IsStepFile s0) (broke_of Scratch (Only u) 0 0 s0 _ _ c.in_err-start.ensures.err))

pub returns-in_err-receive-clause-err : goal.returns-in_err-receive-clause-err
returns-in_err-receive-clause-err g c =
    let s0 = g.SD.Disk.shown c.args.scratch.now in
    let s1 = g.SD.Disk.shown c.start.new.disk in
    let u = c.args.tools.now.writer.file in
    let end = err_from_is_err_and c.from_residual-in_err-receive.result c.from_residual-in_err-receive.ensures.1 in
    let stop : end.0 ≡ c.in_err-receive.field-0.0 = cc in
    rw (end.1, stop) (grouping_broke IsConnectorFile IsStepFile _ s0 s1 _ _ (connector_step u c.requires.to)
    (clean_opened IsStepFile u s0 s1 s1 (only_step u c.requires.to) c.in_ok-start.ensures.ok (clean_refl NoFile s1)) c.in_err-receive.ensures.err)

pub returns-in_err-gather-clause-err : goal.returns-in_err-gather-clause-err
returns-in_err-gather-clause-err g c =
    let s0 = g.SD.Disk.shown c.args.scratch.now in
    let s1 = g.SD.Disk.shown c.start.new.disk in
    let s2 = g.SD.Disk.shown c.receive.new.disk in
    let rule = (g.P.Program.meaning c.args.program.now).message in
    let q = c.args.q in
    let u = c.args.tools.now.writer.file in
    let made = g.G.Group.made c.args.tools.now.group in
    let parts = (g.C.Connector.view c.args.connector.now).parts in
    let one = c.in_ok-start.ensures.ok.touches in
    let two = c.in_ok-receive.ensures.ok.touches in
    let same_parts : (g.C.Connector.view c.receive.new.self).parts ≡ parts = ap (λ (v : ConnectorView). v.parts) c.receive.ensures.view in
    let end = err_from_is_err_and c.from_residual-in_err-gather.result c.from_residual-in_err-gather.ensures.1 in
    let stop : end.0 ≡ c.in_err-gather.field-0.0 = cc in
    rw (end.1, stop) (grouping_then (OwnOrConnector made c.start.new.self.file) IsStepFile _ _ s0 s2 _ _
    (gathering_step c.start.new.self.file (subst IsMsgFile (sym c.start.ensures.stays.file) c.requires.to) made c.requires.tools.first c.requires.tools.second)
    (λ why ls sent valid.
    let to = λ (p : ℕ) (lt : p < parts). g.met.C.Connector.sent_stays c.args.connector.now s0 s1 p (ls p) (same_by_touches (IsSenderFile p) (Only u) s0 s1 (sender_msg u c.requires.to p) one) (sent p lt) in
    let tells : s0.tells ≡ true = g.met.C.Connector.sent_tells c.args.connector.now s0 q (ls q) (sent q c.requires.receiver) in
    let mine : ℕ → Pairs = λ p. to_part parts q (ls p) in
    let wide = why mine (c.in_ok-receive.ensures.receives ls to)
    (subst (λ (k : MergeRule). AllValid k (all_of (g.C.Connector.view c.receive.new.self).parts mine)) (sym c.message.ensures) (subst (λ (n : ℕ). AllValid rule (all_of n mine)) (sym same_parts) (part_valid rule parts q ls valid)))
    (c.requires.took s2 _ (two.tells ∙ one.tells ∙ tells) (two.page_len ∙ one.page_len)) in
    subst (λ (n : ℕ). IsTrue (has_wide_fold rule (room_of n) (to_part parts q (all_of parts ls)))) c.requires.tools.group_len
    (subst (λ (l : Pairs). IsTrue (has_wide_fold rule (room_in made) l)) (part_of_all parts q ls)
    (subst (λ (n : ℕ). IsTrue (has_wide_fold rule (room_in made) (all_of n mine))) same_parts
    (subst (λ (k : MergeRule). IsTrue (has_wide_fold k (room_in made) (all_of (g.C.Connector.view c.receive.new.self).parts mine))) c.message.ensures wide))))
    (clean_opened IsStepFile u s0 s1 s2 (only_step u c.requires.to) c.in_ok-start.ensures.ok c.in_ok-receive.ensures.ok) c.in_err-gather.ensures.err)

pub returns-clause-holds : goal.returns-clause-holds
returns-clause-holds g c = λ ls sent valid.
    let s0 = g.SD.Disk.shown c.args.scratch.now in
    let s1 = g.SD.Disk.shown c.start.new.disk in
    let s2 = g.SD.Disk.shown c.receive.new.disk in
    let s3 = g.SD.Disk.shown c.gather.new.disk in
    let rule = (g.P.Program.meaning c.args.program.now).message in
    let q = c.args.q in
    let u = c.args.tools.now.writer.file in
    let parts = (g.C.Connector.view c.args.connector.now).parts in
    let one = c.in_ok-start.ensures.ok.touches in
    let two = c.in_ok-receive.ensures.ok.touches in
    let same_parts : (g.C.Connector.view c.receive.new.self).parts ≡ parts = ap (λ (v : ConnectorView). v.parts) c.receive.ensures.view in
    let to = λ (p : ℕ) (lt : p < parts). g.met.C.Connector.sent_stays c.args.connector.now s0 s1 p (ls p) (same_by_touches (IsSenderFile p) (Only u) s0 s1 (sender_msg u c.requires.to p) one) (sent p lt) in
    let tells : s0.tells ≡ true = g.met.C.Connector.sent_tells c.args.connector.now s0 q (ls q) (sent q c.requires.receiver) in
    let mine : ℕ → Pairs = λ p. to_part parts q (ls p) in
    let writer = c.gather.new.to in
    let has = c.in_ok-gather.ensures.holds mine (c.in_ok-receive.ensures.receives ls to)
    (subst (λ (k : MergeRule). AllValid k (all_of (g.C.Connector.view c.receive.new.self).parts mine)) (sym c.message.ensures) (subst (λ (n : ℕ). AllValid rule (all_of n mine)) (sym same_parts) (part_valid rule parts q ls valid)))
    (c.requires.took s2 _ (two.tells ∙ one.tells ∙ tells) (two.page_len ∙ one.page_len))
    (took_same s1 s2 c.start.new.self [] (same_by_none (Only c.start.new.self.file) s1 s2 two) (c.in_ok-start.ensures.took tells)) in
    let file : writer.file ≡ u = c.gather.ensures.to_file ∙ c.start.ensures.stays.file in
    let first : writer.first ≡ 0 = c.in_ok-gather.ensures.first ∙ ap (λ (w : WriterView). w.first) c.in_ok-start.ensures.after in
    let whole : all_of (g.C.Connector.view c.receive.new.self).parts mine ≡ to_part parts q (all_of parts ls) = ap (λ (n : ℕ). all_of n mine) same_parts ∙ part_of_all parts q ls in
    rw (c.pages.ensures)
    (subst (λ (n : ℕ). Has s3 u n writer.pages (message_tuples (grouped rule (to_part parts q (all_of parts ls))))) first
    (subst (λ (n : ℕ). Has s3 n writer.first writer.pages (message_tuples (grouped rule (to_part parts q (all_of parts ls))))) file
    (subst (λ (l : Pairs). Has s3 writer.file writer.first writer.pages (message_tuples (grouped rule l))) whole
    (subst (λ (k : MergeRule). Has s3 writer.file writer.first writer.pages (message_tuples (grouped k (all_of (g.C.Connector.view c.receive.new.self).parts mine)))) c.message.ensures has))))

pub returns-clause-fits : goal.returns-clause-fits
returns-clause-fits g c = λ ls sent valid.
    let s0 = g.SD.Disk.shown c.args.scratch.now in
    let s1 = g.SD.Disk.shown c.start.new.disk in
    let s2 = g.SD.Disk.shown c.receive.new.disk in
    let rule = (g.P.Program.meaning c.args.program.now).message in
    let q = c.args.q in
    let u = c.args.tools.now.writer.file in
    let made = g.G.Group.made c.args.tools.now.group in
    let parts = (g.C.Connector.view c.args.connector.now).parts in
    let one = c.in_ok-start.ensures.ok.touches in
    let two = c.in_ok-receive.ensures.ok.touches in
    let same_parts : (g.C.Connector.view c.receive.new.self).parts ≡ parts = ap (λ (v : ConnectorView). v.parts) c.receive.ensures.view in
    let to = λ (p : ℕ) (lt : p < parts). g.met.C.Connector.sent_stays c.args.connector.now s0 s1 p (ls p) (same_by_touches (IsSenderFile p) (Only u) s0 s1 (sender_msg u c.requires.to p) one) (sent p lt) in
    let tells : s0.tells ≡ true = g.met.C.Connector.sent_tells c.args.connector.now s0 q (ls q) (sent q c.requires.receiver) in
    let mine : ℕ → Pairs = λ p. to_part parts q (ls p) in
    let narrow = c.in_ok-gather.ensures.fits mine (c.in_ok-receive.ensures.receives ls to)
    (subst (λ (k : MergeRule). AllValid k (all_of (g.C.Connector.view c.receive.new.self).parts mine)) (sym c.message.ensures) (subst (λ (n : ℕ). AllValid rule (all_of n mine)) (sym same_parts) (part_valid rule parts q ls valid)))
    (c.requires.took s2 _ (two.tells ∙ one.tells ∙ tells) (two.page_len ∙ one.page_len)) in
    subst (λ (n : ℕ). has_wide_fold rule (room_of n) (to_part parts q (all_of parts ls)) ≡ false) c.requires.tools.group_len
    (subst (λ (l : Pairs). has_wide_fold rule (room_in made) l ≡ false) (part_of_all parts q ls)
    (subst (λ (n : ℕ). has_wide_fold rule (room_in made) (all_of n mine) ≡ false) same_parts
    (subst (λ (k : MergeRule). has_wide_fold k (room_in made) (all_of (g.C.Connector.view c.receive.new.self).parts mine) ≡ false) c.message.ensures narrow)))

pub returns-clause-sent : goal.returns-clause-sent
returns-clause-sent g c = λ p l sent.
    let s0 = g.SD.Disk.shown c.args.scratch.now in
    let s1 = g.SD.Disk.shown c.start.new.disk in
    let u = c.args.tools.now.writer.file in
    c.in_ok-gather.ensures.sent p l (c.in_ok-receive.ensures.sent p l
    (g.met.C.Connector.sent_stays c.args.connector.now s0 s1 p l (same_by_touches (IsSenderFile p) (Only u) s0 s1 (sender_msg u c.requires.to p) c.in_ok-start.ensures.ok.touches) sent))

pub returns-clause-ok : goal.returns-clause-ok
returns-clause-ok g c =
    let s0 = g.SD.Disk.shown c.args.scratch.now in
    let s1 = g.SD.Disk.shown c.start.new.disk in
    let s2 = g.SD.Disk.shown c.receive.new.disk in
    let s3 = g.SD.Disk.shown c.gather.new.disk in
    let u = c.args.tools.now.writer.file in
    let made = g.G.Group.made c.args.tools.now.group in
    let mine = IsResultFile u in
    clean_then mine s0 s2 s3 (clean_opened mine u s0 s1 s2 (λ f is. inr is) c.in_ok-start.ensures.ok c.in_ok-receive.ensures.ok)
    (clean_more (OwnOr made c.start.new.self.file) mine s2 s3
    (λ f own. subst (λ (k : ℕ). IsResultFile k f) c.start.ensures.stays.file
    (gathered_file c.start.new.self.file (subst IsMsgFile (sym c.start.ensures.stays.file) c.requires.to) made c.requires.tools.first c.requires.tools.second f own))
    c.in_ok-gather.ensures.ok)
