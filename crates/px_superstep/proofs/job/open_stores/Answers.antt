use Rattle.std.proofs.Common.{arith, ◌+◌, ◌∷◌, [], ◌∙◌, ℕ, sym, ap, subst, refl, length, length-append}
use Rattle.px_store.specs.Lists.{AreParts}
use Rattle.px_superstep.proofs.Places.{parts_more, no_parts}
use Rattle.px_superstep.proofs.job.open_stores.Goals as goal

pub loop-q-init : goal.loop-q-init
loop-q-init g c = record {
  len = ap length c.in_ok-stores.ensures.items;
  below = omega arith;
  same = refl;
  parts = subst (AreParts g.St.Store.part) (sym c.in_ok-stores.ensures.items) (no_parts g.St.Store.part);
}

pub loop-q-preserved : goal.loop-q-preserved
loop-q-preserved g c =
    let i = c.loop-q.invariant in
    let items = c.in_ok-push.ensures.items in
    record {
      len = ap length items ∙ length-append c.loop-q.stores.items (c.open.result ∷ []) ∙ ap (λ (n : ℕ). n + 1) i.len;
      below = omega (arith, c.loop-q-test.true, i.below);
      same = refl;
      parts = subst (AreParts g.St.Store.part) (sym items) (parts_more g.St.Store.part c.open.result c.loop-q.stores.items i.parts (c.open.ensures ∙ sym i.len));
    }

pub returns-clause-count : goal.returns-clause-count
returns-clause-count g c =
    let i = c.loop-q.invariant in
    omega (arith, i.len, i.below, c.loop-q-test.false)

pub returns-clause-stores : goal.returns-clause-stores
returns-clause-stores g c =
    let i = c.loop-q.invariant in
    record {
      some = omega (arith, i.len, i.below, c.loop-q-test.false, c.requires.some);
      most = omega (arith, i.len, i.below, c.requires.most);
      parts = i.parts;
    }
