use Rattle.std.proofs.Common.{◌<◌, ℕ, sym, ◌∙◌, ap, subst}
use Rattle.std.specs.Prelude.{OnOk, IfOk}
use Rattle.px_core.specs.Parts.{to_part, all_of}
use Rattle.px_core.specs.Shown.{Clean}
use Rattle.px_frames.specs.Banks.{BankView}
use Rattle.px_meaning.specs.Merge.{Pairs, AllValid, grouped}
use Rattle.px_stream.specs.Stream.{Holds}
use Rattle.px_store.specs.Joins.{message_tuples}
use Rattle.px_superstep.specs.Files.{IsMsgFile, IsResultFile}
use Rattle.px_superstep.proofs.gather.gather_part.Goals as goal

pub gather_with-answer-requires-clause-took : goal.gather_with-answer-requires-clause-took
gather_with-answer-requires-clause-took g c = λ s rule tells len.
    c.open-tools.ensures.took s rule tells
    (len ∙ sym c.requires.len ∙ sym (c.lend_bench-lent.ensures.lent.work.frame_len ∙ ap (λ (b : BankView). b.frame_len) c.lend_bench-lent.ensures.bank))

pub gather_with-answer-requires-clause-to : goal.gather_with-answer-requires-clause-to
gather_with-answer-requires-clause-to g c = subst IsMsgFile (sym c.open-tools.ensures.tools.file) c.requires.to

pub returns-clause-holds : goal.returns-clause-holds
returns-clause-holds g c =
    let rule = (g.P.Program.meaning c.args.program.now).message in
    let v = g.C.Connector.view c.args.connector.now in
    let s0 = g.SD.Disk.shown c.args.scratch.now in
    let s = g.SD.Disk.shown c.gather_with-answer.new.scratch in
    subst (λ (f : ℕ). IfOk c.gather_with-answer.result (λ pages. (ls : ℕ → Pairs) → ((p : ℕ) → p < v.parts → g.C.Connector.sent c.args.connector.now s0 p (ls p)) → AllValid rule (all_of v.parts ls)
    → Holds s f pages (message_tuples (grouped rule (to_part v.parts c.args.q (all_of v.parts ls)))))) c.open-tools.ensures.tools.file c.gather_with-answer.ensures.holds

pub returns-clause-ok : goal.returns-clause-ok
returns-clause-ok g c =
    let s0 = g.SD.Disk.shown c.args.scratch.now in
    let s = g.SD.Disk.shown c.gather_with-answer.new.scratch in
    subst (λ (f : ℕ). OnOk c.gather_with-answer.result (Clean (IsResultFile f) s0 s)) c.open-tools.ensures.tools.file c.gather_with-answer.ensures.ok

pub returns-clause-bank : goal.returns-clause-bank
returns-clause-bank g c = c.give_bench.ensures ∙ c.lend_bench-lent.ensures.back
