use Rattle.std.proofs.Common.{◌≡◌, ◌+◌, ◌-◌, refl, subst, ℕ, arith}
use Rattle.px_core.proofs.Pages.{touches_refl}
use Rattle.px_cache.specs.View.{AnyFile}
use Rattle.px_cache.proofs.Pins.{same_then, same_refl}
use Rattle.px_store.proofs.Apart.{clean_then}
use Rattle.px_btree.specs.Fill.{Indexes, WithTuples, leads}
use Rattle.px_btree.proofs.Building.{index_none, index_step}
use Rattle.px_btree.proofs.inner.add_level.Goals as goal

pub loop-from-init : goal.loop-from-init
loop-from-init g c =
    let s = g.D.Disk.shown c.args.disk.now in
    let most = c.most_children-most.ensures in
    record {
      index = λ ps end sh. index_none s.page_len c.args.file c.args.first c.args.first c.args.end c.args.end ps c.args.cache.now s refl refl end sh;
      least = omega arith;
      most = omega (arith, c.requires.two);
      rest = λ lt. c.requires.two;
      half = omega arith;
      below = omega arith;
      some = λ lt. absurd (omega (arith, lt));
      two = most.two;
      room = omega (arith, most.room, c.requires.len);
      others = λ f ps other sh. sh;
      stays = same_refl c.args.cache.now;
      reads = omega arith;
      clean = record { touches = touches_refl AnyFile s; no_fault = refl };
    }

pub loop-from-preserved : goal.loop-from-preserved
loop-from-preserved g c =
    let shown = g.D.Disk.shown in
    let inv = c.loop-from.invariant in
    let to = c.cut-to.result in
    let cut = c.cut-to.ensures in
    let add = c.in_ok-add_inner.ensures in
    let from = c.loop-from.from in
    let page = c.loop-from.page in
    let s = shown c.args.disk.now in
    let t = shown c.loop-from.disk in
    let u = shown c.add_inner.new.disk in
    let same = inv.clean.touches.page_len in
    record {
      index = λ ps end sh.
          index_step s.page_len c.args.file c.args.first from to c.args.end page (page + 1) ps c.loop-from.cache c.add_inner.new.cache t u
          inv.least c.loop-from-test.true cut.some cut.within end refl (inv.index ps end sh)
          (λ qs long shows.
          subst (λ (k : ℕ). WithTuples s.page_len 4 k c.args.file (leads c.args.first qs from (to - from)) qs c.add_inner.new.cache u) c.link_of.ensures
          (subst (λ (n : ℕ). WithTuples n 4 c.link_of.result c.args.file (leads c.args.first qs from (to - from)) qs c.add_inner.new.cache u) same
          (add.added qs long (omega (arith, cut.within, inv.below)) shows)));
      least = omega (arith, inv.least, cut.some);
      most = cut.within;
      rest = cut.rest;
      half = omega (arith, inv.half, inv.below, inv.least, cut.some);
      below = omega (arith, inv.below);
      some = λ lt. omega (arith, inv.below);
      two = inv.two;
      room = inv.room;
      others = λ f ps other sh. add.others f ps other (inv.others f ps other sh);
      stays = same_then c.args.cache.now c.loop-from.cache c.add_inner.new.cache inv.stays add.stays;
      reads = omega (arith, add.reads, inv.reads);
      clean = clean_then s t u inv.clean add.ok;
    }

pub returns-clause-level : goal.returns-clause-level
returns-clause-level g c = λ ps end sh.
    let shown = g.D.Disk.shown in
    let inv = c.loop-from.invariant in
    let last : c.loop-from.from ≡ c.args.end = omega (arith, inv.most, c.loop-from-test.false) in
    subst (λ (n : ℕ). Indexes (shown c.args.disk.now).page_len c.args.file c.args.first n c.args.end c.loop-from.page ps c.loop-from.cache (shown c.loop-from.disk)) last (inv.index ps end sh)

pub returns-clause-some : goal.returns-clause-some
returns-clause-some g c =
    let inv = c.loop-from.invariant in
    inv.some (omega (arith, inv.most, c.loop-from-test.false, c.requires.two))
