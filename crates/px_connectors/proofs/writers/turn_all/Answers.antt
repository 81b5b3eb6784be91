use Rattle.std.proofs.Common.{◌<◌, ◌∙◌, sym, subst, length, arith, inl, inr, refl}
use Rattle.std.specs.Prelude.{None}
use Rattle.std.proofs.lemmas.Bool.{cases_eq}
use Rattle.std.proofs.lemmas.List.{get_or-set_same, get_or-set_other, length-set}
use Rattle.px_connectors.specs.Writers.{WritesPart, OfWriter}
use Rattle.px_connectors.proofs.Parting.{writer_is}
use Rattle.px_connectors.proofs.writers.turn_all.Goals as goal

pub loop-q-preserved : goal.loop-q-preserved
loop-q-preserved c =
    let k = c.loop-q.invariant in
    let ws = c.loop-q.writers in
    let q = c.loop-q.q in
    let o = c.turn_in.new.writer in
    let below : q < length ws = omega (arith, c.loop-q-test.true, k.count) in
    record {
      turned = λ old len each i lt. elim (cases_eq i q) [
        | inl e ↦
            let was = subst (OfWriter (WritesPart old len q)) (sym (writer_is ws ws q _ refl below ∙ k.rest q (omega arith))) (each q c.loop-q-test.true) in
            rw (e, get_or-set_same ws q o None below) (c.turn_in.ensures.part old c.args.first len q refl was)
        | inr other ↦ subst (OfWriter (WritesPart c.args.first len i)) (sym (get_or-set_other ws q i o None other)) (k.turned old len each i (omega (arith, lt, other)))
      ];
      rest = λ i low. get_or-set_other ws q i o None (λ e. omega (arith, low, e)) ∙ k.rest i (omega (arith, low));
      count = length-set ws q o ∙ k.count;
    }

pub returns-clause-each : goal.returns-clause-each
returns-clause-each c = λ old len each i lt.
    let k = c.loop-q.invariant in
    k.turned old len each i (omega (arith, lt, k.count, c.loop-q-test.false))
