use Rattle.std.proofs.Common.{◌≡◌, ◌<◌, ℕ, length, get_or, take, subst, ◌∙◌, arith}
use Rattle.std.proofs.lemmas.List.{take_more}
use Rattle.px_meaning.specs.Line.{On, move}
use Rattle.px_graph_text.specs.Steps.{spot_of}
use Rattle.px_graph_text.proofs.Leading.{leads_more}
use Rattle.px_graph_text.proofs.line.follow.Goals as goal

pub loop-count-preserved : goal.loop-count-preserved
loop-count-preserved c =
    let i = c.loop-count.invariant in
    let bytes = c.args.bytes.now in
    let n = c.loop-count.count in
    let room = c.args.into.now.room in
    let lt : n < length bytes = omega arith in
    let on : move room (spot_of c.loop-count.state c.loop-count.into) (get_or bytes n 0) ≡ On (spot_of c.in-Ok.next c.step.new.into) =
    subst (λ (r : ℕ). move r (spot_of c.loop-count.state c.loop-count.into) (get_or bytes n 0) ≡ On (spot_of c.in-Ok.next c.step.new.into)) i.frame.room c.in-Ok.ensures.on in
    record {
      leads = rw (take_more bytes n 0 lt) (leads_more room _ (take n bytes) _ _ _ c.if-byte-eq10.false i.leads on);
      holds = c.in-Ok.ensures.holds;
      frame = record { room = c.in-Ok.ensures.frame.room ∙ i.frame.room; frame_len = c.in-Ok.ensures.frame.frame_len ∙ i.frame.frame_len };
    }
