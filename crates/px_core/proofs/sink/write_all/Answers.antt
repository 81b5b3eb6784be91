use Rattle.std.proofs.Common.{arith, List, ℕ, ◌++◌, ◌-◌, ◌≡◌, take, drop, length, sym, ◌∙◌, ap, subst, append_assoc, length-drop}
use Rattle.std.proofs.Math.Seq.{take-add, take-length}
use Rattle.px_core.proofs.sink.write_all.Goals as goal

-- a slice from a place on is what is left there
rest_is : (d : ℕ) (bs : List ℕ) → take (length bs - d) (drop d bs) ≡ drop d bs
rest_is d bs = ap (λ n. take n (drop d bs)) (sym (length-drop d bs)) ∙ take-length (drop d bs)

pub loop-done-preserved : goal.loop-done-preserved
loop-done-preserved g c =
    let d = c.loop-done.done in
    let n = c.in_ok-done.field-0 in
    let bs = c.args.bytes.now in
    record {
      within = omega (arith, c.in_ok-done.ensures.count, length-drop d bs);
      holds = λ h was. subst (g.W.Sink.holds c.write.new.self) (append_assoc h _ _ ∙ ap (λ (l : List ℕ). h ++ l) (ap (λ (r : List ℕ). take d bs ++ take n r) (rest_is d bs) ∙ sym (take-add d n bs))) (c.in_ok-done.ensures.ok _ (c.loop-done.invariant.holds h was));
      no_fault = c.in_ok-done.ensures.no_fault ∙ c.loop-done.invariant.no_fault;
    }
