use Rattle.std.proofs.Common.{◌≡◌, ◌∙◌, sym, ap, subst, false}
use Rattle.std.proofs.lemmas.Bool.{true≢false}
use Rattle.px_record.specs.Held.{HeldVertex}
use Rattle.px_stream.specs.Stream.{ToGive}
use Rattle.px_stream.specs.Views.{ReaderView}
use Rattle.px_store.specs.Joins.{message_tuples}
use Rattle.px_outer_join.specs.Outer.{OuterView}
use Rattle.px_outer_join.proofs.Taking.{taken, message_next, message_none}
use Rattle.px_outer_join.proofs.outer.OuterJoin.take_row.Goals as goal

pub returns-in_ok-take_message-clause-gives : goal.returns-in_ok-take_message-clause-gives
returns-in_ok-take_message-clause-gives g c = λ given coming m rows file to_give first.
    let old = c.args.self.now in
    let mid = c.take_vertex.new.self in
    let new = c.take_message.new.self in
    let s = g.SD.Disk.shown c.args.scratch.now in
    let t = g.SD.Disk.shown c.take_message.new.scratch in
    let v = c.take_vertex.ensures in
    let k = c.in_ok-take_message.ensures in
    let before = subst (λ (r : ReaderView). ToGive s r (message_tuples m)) (sym (ap (λ (j : OuterView). j.messages) v.stays)) to_give in
    let next = message_next c.args.row.has_message c.take_message.new.message.bytes m (λ rest. ToGive t new.messages (message_tuples rest)) c.if-row.true (k.gives m before) in
    taken c.args.row old new t c.take_vertex.new.vertex c.take_message.new.message.bytes given coming m rows
    v.taken (λ off. ap (λ (x : HeldVertex). x.vertex) (v.reset off))
    (ap (λ (j : OuterView). j.held) k.stays ∙ v.held) (λ off. ap (λ (j : OuterView). j.ahead) k.stays ∙ v.ahead off)
    (k.reader.file ∙ ap (λ (j : OuterView). j.messages.file) v.stays ∙ file ∙ sym (ap (λ (j : OuterView). j.inputs.msg_file) k.stays ∙ ap (λ (j : OuterView). j.inputs.msg_file) v.stays))
    (λ _. next.0) next.1 first

pub returns-else-row-clause-gives : goal.returns-else-row-clause-gives
returns-else-row-clause-gives g c = λ given coming m rows file to_give first.
    let old = c.args.self.now in
    let new = c.take_vertex.new.self in
    let s = g.SD.Disk.shown c.args.scratch.now in
    let v = c.take_vertex.ensures in
    let off : c.args.row.has_message ≡ false = c.if-row.false in
    let after = subst (λ (r : ReaderView). ToGive s r (message_tuples m)) (sym (ap (λ (j : OuterView). j.messages) v.stays)) to_give in
    taken c.args.row old new s c.take_vertex.new.vertex c.args.message.now.bytes given coming m rows
    v.taken (λ none. ap (λ (x : HeldVertex). x.vertex) (v.reset none)) v.held v.ahead
    (ap (λ (j : OuterView). j.messages.file) v.stays ∙ file ∙ sym (ap (λ (j : OuterView). j.inputs.msg_file) v.stays))
    (λ on. absurd (true≢false (sym on ∙ off))) (message_none c.args.row.has_message m (λ rest. ToGive s new.messages (message_tuples rest)) off after) first
