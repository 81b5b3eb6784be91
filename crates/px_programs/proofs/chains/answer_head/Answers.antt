use Rattle.std.proofs.Common.{◌≡◌, ℕ, drop, ◌∙◌, ap, subst}
use Rattle.std.proofs.lemmas.Result.{err_from_is_err_and, IfErr-weaker, on_ok_weaker}
use Rattle.px_program.specs.Posted.{Posted, MadeFor, sent, requested, gathered, IsPartOf}
use Rattle.px_verdict.specs.Verdict.{verdict_rule, delete, delete_is}
use Rattle.px_programs.specs.ChainMessages.{answer, chain_rule}
use Rattle.px_programs.specs.Chains.{answers, answer_of_chain}
use Rattle.px_programs.proofs.AlongSteps.{valid_by}
use Rattle.px_programs.proofs.ChainPosts.{three_gathered, answer_bytes, part_sent, part_left, all_answered}
use Rattle.px_programs.proofs.PostSteps.{stops_as, stops_at_once, stops_then}
use Rattle.px_programs.proofs.chains.answer_head.Goals as goal

pub returns-in_err-send_pieces-clause-err : goal.returns-in_err-send_pieces-clause-err
returns-in_err-send_pieces-clause-err g c =
    let x = c.args.v.now.vertex in
    let f = g.O.Outbox.made_for in
    let pieces = g.O.Outbox.pieces in
    let out = c.args.out.now in
    let out1 = c.piece.new.self in
    let out2 = c.piece-2.new.self in
    let out3 = c.piece-3.new.self in
    let vids_are : c.vids_of-vids.result.now ≡ drop 1 x.value = c.vids_of-vids.ensures ∙ ap (drop 1) c.value.ensures.value in
    let all = answer_bytes c.answer_front.result c.vids_of-vids.result.now c.edge_bytes.result.now (drop 1 x.value) x.edges c.answer_front.ensures vids_are c.edge_bytes.ensures.bytes in
    let is : pieces out3 ≡ gathered (f out3).room (answer (drop 1 x.value) x.edges) =
    three_gathered (f out) (f out1) (f out2) (f out3) _ _ _ _ (pieces out) (pieces out1) (pieces out2) (pieces out3)
    c.requires.pieces c.piece.ensures.pieces c.piece.ensures.stays c.piece-2.ensures.pieces c.piece-2.ensures.stays c.piece-3.ensures.pieces c.piece-3.ensures.stays all in
    let same : f out3 ≡ f out = c.piece-3.ensures.stays ∙ c.piece-2.ensures.stays ∙ c.piece.ensures.stays in
    let keep : (p : Posted) → g.O.Outbox.took out p → g.O.Outbox.took out3 p = λ p took. c.piece-3.ensures.posted p (c.piece-2.ensures.posted p (c.piece.ensures.posted p took)) in
    let valid = valid_by (f out3).message chain_rule (answer (drop 1 x.value) x.edges) (ap (λ (k : MadeFor). k.message) same ∙ c.requires.message) (answer_of_chain x.value x.edges c.requires.chain) in
    let end = err_from_is_err_and c.from_residual.result c.from_residual.ensures.1 in
    let stop : end.0 ≡ c.in_err-send_pieces.field-0.0 = cc in
    let none = c.piece-3.ensures.faults ∙ c.piece-2.ensures.faults ∙ c.piece.ensures.faults in
    rw (end.1, stop) (stops_as _ (IsPartOf (answers c.args.v.now.vid x c.args.head)) _ _ _ _ _ _ _ (part_sent c.args.v.now.vid x c.args.head)
    (stops_then (λ p. p) _ _ _ _ _ _ _ _ _ _ _ keep same none (stops_at_once (sent c.args.head (answer (drop 1 x.value) x.edges)) _ _ _ _ _ _ _ _ valid (c.in_err-send_pieces.ensures.err (answer (drop 1 x.value) x.edges) is))))

pub returns-clause-ok : goal.returns-clause-ok
returns-clause-ok g c =
    let x = c.args.v.now.vertex in
    let f = g.O.Outbox.made_for in
    let pieces = g.O.Outbox.pieces in
    let out = c.args.out.now in
    let out1 = c.piece.new.self in
    let out2 = c.piece-2.new.self in
    let out3 = c.piece-3.new.self in
    let vids_are : c.vids_of-vids.result.now ≡ drop 1 x.value = c.vids_of-vids.ensures ∙ ap (drop 1) c.value.ensures.value in
    let all = answer_bytes c.answer_front.result c.vids_of-vids.result.now c.edge_bytes.result.now (drop 1 x.value) x.edges c.answer_front.ensures vids_are c.edge_bytes.ensures.bytes in
    let is : pieces out3 ≡ gathered (f out3).room (answer (drop 1 x.value) x.edges) =
    three_gathered (f out) (f out1) (f out2) (f out3) _ _ _ _ (pieces out) (pieces out1) (pieces out2) (pieces out3)
    c.requires.pieces c.piece.ensures.pieces c.piece.ensures.stays c.piece-2.ensures.pieces c.piece-2.ensures.stays c.piece-3.ensures.pieces c.piece-3.ensures.stays all in
    let same : f out3 ≡ f out = c.piece-3.ensures.stays ∙ c.piece-2.ensures.stays ∙ c.piece.ensures.stays in
    let keep : (p : Posted) → g.O.Outbox.took out p → g.O.Outbox.took out3 p = λ p took. c.piece-3.ensures.posted p (c.piece-2.ensures.posted p (c.piece.ensures.posted p took)) in
    let valid = valid_by (f out3).message chain_rule (answer (drop 1 x.value) x.edges) (ap (λ (k : MadeFor). k.message) same ∙ c.requires.message) (answer_of_chain x.value x.edges c.requires.chain) in
    let asked = valid_by (f c.send_pieces.new.self).verdict verdict_rule delete (ap (λ (k : MadeFor). k.verdict) (c.send_pieces.ensures.stays ∙ same) ∙ c.requires.verdict) delete_is.valid in
    on_ok_weaker c.request.result (λ all p took.
    let was = c.in_ok-send_pieces.ensures.ok (answer (drop 1 x.value) x.edges) is valid p (keep p took) in
    let vid_is : requested c.vid.result delete (sent c.args.head (answer (drop 1 x.value) x.edges) p) ≡ requested c.args.v.now.vid delete (sent c.args.head (answer (drop 1 x.value) x.edges) p) =
    ap (λ (n : ℕ). requested n delete (sent c.args.head (answer (drop 1 x.value) x.edges) p)) c.vid.ensures in
    subst (g.O.Outbox.took c.request.new.self) (vid_is ∙ all_answered c.args.v.now.vid x c.args.head p) (all (sent c.args.head (answer (drop 1 x.value) x.edges) p) was)) (c.request.ensures.ok asked)

pub returns-clause-err : goal.returns-clause-err
returns-clause-err g c =
    let x = c.args.v.now.vertex in
    let f = g.O.Outbox.made_for in
    let pieces = g.O.Outbox.pieces in
    let out = c.args.out.now in
    let out1 = c.piece.new.self in
    let out2 = c.piece-2.new.self in
    let out3 = c.piece-3.new.self in
    let vids_are : c.vids_of-vids.result.now ≡ drop 1 x.value = c.vids_of-vids.ensures ∙ ap (drop 1) c.value.ensures.value in
    let all = answer_bytes c.answer_front.result c.vids_of-vids.result.now c.edge_bytes.result.now (drop 1 x.value) x.edges c.answer_front.ensures vids_are c.edge_bytes.ensures.bytes in
    let is : pieces out3 ≡ gathered (f out3).room (answer (drop 1 x.value) x.edges) =
    three_gathered (f out) (f out1) (f out2) (f out3) _ _ _ _ (pieces out) (pieces out1) (pieces out2) (pieces out3)
    c.requires.pieces c.piece.ensures.pieces c.piece.ensures.stays c.piece-2.ensures.pieces c.piece-2.ensures.stays c.piece-3.ensures.pieces c.piece-3.ensures.stays all in
    let same : f out3 ≡ f out = c.piece-3.ensures.stays ∙ c.piece-2.ensures.stays ∙ c.piece.ensures.stays in
    let keep : (p : Posted) → g.O.Outbox.took out p → g.O.Outbox.took out3 p = λ p took. c.piece-3.ensures.posted p (c.piece-2.ensures.posted p (c.piece.ensures.posted p took)) in
    let valid = valid_by (f out3).message chain_rule (answer (drop 1 x.value) x.edges) (ap (λ (k : MadeFor). k.message) same ∙ c.requires.message) (answer_of_chain x.value x.edges c.requires.chain) in
    let asked = valid_by (f c.send_pieces.new.self).verdict verdict_rule delete (ap (λ (k : MadeFor). k.verdict) (c.send_pieces.ensures.stays ∙ same) ∙ c.requires.verdict) delete_is.valid in
    let kept : (p : Posted) → g.O.Outbox.took out p → g.O.Outbox.took c.send_pieces.new.self (sent c.args.head (answer (drop 1 x.value) x.edges) p) =
    λ p took. c.in_ok-send_pieces.ensures.ok (answer (drop 1 x.value) x.edges) is valid p (keep p took) in
    let none = c.in_ok-send_pieces.ensures.open.no_fault ∙ c.piece-3.ensures.faults ∙ c.piece-2.ensures.faults ∙ c.piece.ensures.faults in
    IfErr-weaker c.request.result _ _ (λ e k. stops_as _ (IsPartOf (answers c.args.v.now.vid x c.args.head)) _ _ _ _ _ _ _
    (λ old made part. subst (λ (n : ℕ). IsPartOf (answers n x c.args.head) old made) c.vid.ensures (part_left c.vid.result x c.args.head old made part))
    (stops_then (sent c.args.head (answer (drop 1 x.value) x.edges)) _ _ _ _ _ _ _ _ _ _ _ kept (c.send_pieces.ensures.stays ∙ same) none (stops_at_once (requested c.vid.result delete) _ _ _ _ _ _ _ _ asked k)))
    c.request.ensures.err
