use Rattle.std.proofs.Common.{◌≡◌, ◌+◌, ◌-◌, ◌*◌, ◌≤◌, ◌^◌, ◌∙◌, true, refl, sym, ap, subst, ℕ, arith}
use Rattle.std.specs.Prelude.{None}
use Rattle.px_pages.specs.Page.{IsPageLen}
use Rattle.px_cache.specs.View.{OthersShown, Shows}
use Rattle.px_store.proofs.Apart.{done_by, done_then, done_refl, desk_by, desk_then, desk_refl}
use Rattle.px_btree.specs.Tree.{TreeView, IsHeld}
use Rattle.px_btree.specs.Fill.{IsBuilt, Indexes}
use Rattle.px_btree.proofs.Building.{built_first, built_more, built_held, halved, all_read, paid_for}
use Rattle.px_btree.proofs.tree.ClosedTree.bulk_end.Goals as goal

pub loop-first-init : goal.loop-first-init
loop-first-init g c =
    let s = g.D.Disk.shown c.args.disk.now in
    let t = c.args.self.now in
    let d = c.args.desk.now in
    let end = c.leaf_count-end.ensures in
    let paid = c.is_paid.ensures.yes c.if-not-is_paid.false in
    record {
      built = λ a filling. subst (λ (n : ℕ). IsBuilt (8 * t.part) s.page_len 0 n 1 a t.leaves d.cache s) (sym end) (built_first t d.cache s a filling);
      same = refl;
      done = done_refl true t.part d s c.requires;
      desk = desk_refl d;
      reads = omega (arith, end);
      wide = omega (arith, end);
      order = omega arith;
      some = λ one. omega (arith, one, end);
      least = omega arith;
      most = omega arith;
      high = omega (arith, end, paid.0);
      few = paid.0;
      paid = paid.1;
    }

pub loop-first-preserved : goal.loop-first-preserved
loop-first-preserved g c =
    let shown = g.D.Disk.shown in
    let inv = c.loop-first.invariant in
    let add = c.in_ok-stop.ensures in
    let d = c.args.desk.now in
    let e = c.loop-first.desk in
    let s = shown c.args.disk.now in
    let t = shown c.loop-first.disk in
    let u = shown c.add_level.new.disk in
    let q = c.args.self.now.part in
    let c' = c.add_level.new.cache in
    let stop = c.in_ok-stop.stop in
    let end = c.loop-first.end in
    let first = c.loop-first.first in
    let depth = c.loop-first.depth in
    let same = inv.done.clean.touches.page_len in
    let others : OthersShown (8 * q) e.cache t c' u = subst (λ (n : ℕ). OthersShown n e.cache t c' u) c.file-file.ensures.file add.others in
    let done = done_by true q e c' t u inv.done.ready add.stays add.ok others in
    let height = halved (42 - depth) (end - first) (stop - end) inv.high (omega (arith, c.loop-first-test.true)) (omega (arith, add.half)) in
    let lower : 42 - (depth + 1) ≡ 42 - depth - 1 = omega arith in
    record {
      built = λ a filling.
          built_more (8 * q) s.page_len first end stop depth (depth + 1) c.args.self.now.leaves a e.cache c' t u inv.order refl (inv.built a filling)
          (λ ps long shows.
          subst (λ (n : ℕ). Indexes n (8 * q) first end end stop ps c' u) same
          (subst (λ (n : ℕ). Indexes t.page_len n first end end stop ps c' u) c.file-file.ensures.file
          (add.level ps long (subst (λ (n : ℕ). Shows e.cache t n ps) (sym c.file-file.ensures.file) shows))));
      same = inv.same;
      done = done_then true q d e (record e { cache = c' }) s t u inv.done done;
      desk = desk_then d e (record e { cache = c' }) inv.desk (desk_by e c' add.stays);
      reads = omega (arith, add.reads, add.half, add.some, inv.reads, inv.order);
      wide = omega (arith, add.half, add.some, inv.wide, inv.order);
      order = omega (arith, add.some);
      some = λ one. add.some;
      least = omega arith;
      most = omega (arith, height.0);
      high = subst (λ (n : ℕ). stop - end ≤ 2 ^ n) (sym lower) height.1;
      few = inv.few;
      paid = inv.paid;
    }

pub returns-then-not-is_paid-clause-holds : goal.returns-then-not-is_paid-clause-holds
returns-then-not-is_paid-clause-holds g c = λ a filling.
    let paid = paid_for c.args.self.now c.args.desk.now.cache (g.D.Disk.shown c.args.disk.now) a c.requires.few filling in
    absurd (c.is_paid.ensures.no c.if-not-is_paid.true paid.0 paid.1)

pub returns-clause-holds : goal.returns-clause-holds
returns-clause-holds g c = λ a filling.
    let shown = g.D.Disk.shown in
    let inv = c.loop-first.invariant in
    let s = shown c.args.disk.now in
    let s' = shown c.loop-first.disk in
    let d' = c.loop-first.desk in
    let t = c.args.self.now in
    let same = inv.done.clean.touches.page_len in
    let u : TreeView = record t { root = c.loop-first.first; depth = c.loop-first.depth; pages = c.loop-first.end; togo = 0; mark = None } in
    let is : c.set_root.new.self ≡ u = c.set_root.ensures ∙ ap (λ (w : TreeView). let x : TreeView = record w { root = c.loop-first.first; depth = c.loop-first.depth; pages = c.loop-first.end; togo = 0; mark = None } in x) inv.same in
    let built = subst (λ (n : ℕ). IsBuilt (8 * t.part) n c.loop-first.first c.loop-first.end c.loop-first.depth a t.leaves d'.cache s') (sym same) (inv.built a filling) in
    subst (λ (w : TreeView). IsHeld w d' s' a) (sym is)
    (built_held u d' s' a c.loop-first.first c.loop-first.end c.loop-first.depth (subst IsPageLen (sym same) c.requires.page) (omega (arith, c.loop-first-test.false)) refl refl refl refl built)

pub returns-clause-reads : goal.returns-clause-reads
returns-clause-reads g c =
    let shown = g.D.Disk.shown in
    let inv = c.loop-first.invariant in
    all_read (shown c.loop-first.disk).reads (shown c.args.disk.now).reads (c.loop-first.end - c.loop-first.first) c.args.self.now.leaves c.args.self.now.togo inv.reads (λ one. omega (arith, inv.some one)) inv.paid
