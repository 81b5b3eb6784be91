use Rattle.std.proofs.Common.{rules, ◌+◌, ◌<◌, ◌∙◌, sym, ap, ℕ, arith, get_or, length, take, subst}
use Rattle.std.proofs.lemmas.Option.{slice_get-get_or}
use Rattle.px_store.specs.Desks.{IsDone}
use Rattle.px_store.specs.Lists.{found_in}
use Rattle.px_store.proofs.Apart.{done_then, desk_then}
use Rattle.px_store.proofs.Hold.{found_more}
use Rattle.px_store.proofs.tests.probe_all.Goals as goal

pub loop-i-preserved : goal.loop-i-preserved
loop-i-preserved g c =
    let vids = c.args.vids.now in
    let i = c.loop-i.i in
    let lt : i < length vids = omega (arith, c.loop-i-test.true) in
    record {
      holds = λ t h. c.in_ok-there.ensures.holds t (c.loop-i.invariant.holds t h);
      found = λ t h.
          ap (λ (n : ℕ). n + c.one_if-found.result) (c.loop-i.invariant.found t h)
          ∙ ap (λ (n : ℕ). found_in t (take i vids) + n) c.one_if-found.ensures
          ∙ sym (found_more t vids i (get_or vids i 0) c.in_ok-there.there (slice_get-get_or vids i 0 lt) (c.in_ok-there.ensures.found t (c.loop-i.invariant.holds t h)).0);
      few = search rules;
      done = done_then _ _ _ _ _ _ _ _ c.loop-i.invariant.done
          (subst (λ (q : ℕ). IsDone g.St.Store.counted q c.loop-i.desk (g.D.Disk.shown c.loop-i.disk) c.get.new.desk (g.D.Disk.shown c.get.new.disk)) c.loop-i.invariant.part c.in_ok-there.ensures.done);
      part = search rules;
      room = search rules;
      leaves = search rules;
      reads = search rules;
      desk = desk_then _ _ _ c.loop-i.invariant.desk c.in_ok-there.ensures.desk;
    }
