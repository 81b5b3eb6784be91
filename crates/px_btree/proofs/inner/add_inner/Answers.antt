use Rattle.std.proofs.Common.{◌≡◌, ◌+◌, ◌-◌, ◌∙◌, sym, subst, ℕ, arith}
use Rattle.px_pages.specs.Page.{IsPageLen}
use Rattle.px_cache.proofs.Pins.{same_then}
use Rattle.px_store.proofs.Apart.{clean_then}
use Rattle.px_btree.specs.Fill.{WithTuples, leads}
use Rattle.px_btree.proofs.Building.{child_step, leads_none}
use Rattle.px_btree.proofs.inner.add_inner.Goals as goal

pub loop-child-init : goal.loop-child-init
loop-child-init g c =
    let shown = g.D.Disk.shown in
    let begun = c.in_ok-begin_page.ensures in
    record {
      made = λ ps end within sh. leads_none (shown c.args.disk.now).page_len c.args.link c.args.file c.args.span.first c.args.span.from (c.args.span.from - c.args.span.from) ps c.begin_page.new.cache (shown c.begin_page.new.disk) (omega arith) (begun.begun ps end sh);
      last = (c.in_ok-begin_page.field-0, begun.hand, begun.holds);
      least = omega arith;
      most = c.requires.order;
      others = begun.others;
      stays = begun.stays;
      reads = omega (arith, begun.reads);
      clean = begun.ok;
    }

pub loop-child-preserved : goal.loop-child-preserved
loop-child-preserved g c =
    let shown = g.D.Disk.shown in
    let inv = c.loop-child.invariant in
    let low = c.in_ok-key.ensures in
    let add = c.in_ok-add_child.ensures in
    let span = c.args.span in
    let at = c.loop-child.child in
    let s = shown c.args.disk.now in
    let t = shown c.loop-child.disk in
    let u = shown c.low_of.new.disk in
    let w = shown c.add_child.new.disk in
    record {
      made = λ ps end within sh.
          child_step s.page_len u.page_len c.args.link c.args.file span.first span.from at c.in_ok-key.key (at - span.from) (at + 1 - span.from) ps c.args.page c.loop-child.cache c.low_of.new.cache c.add_child.new.cache t u w
          end (omega (arith, c.loop-child-test.true, within)) inv.least (omega arith) (omega arith) (omega (arith, c.requires.room, c.loop-child-test.true)) (low.ok.touches.page_len ∙ inv.clean.touches.page_len)
          (inv.made ps end within sh) low.low add.added;
      last = add.last;
      least = omega (arith, inv.least);
      most = omega (arith, c.loop-child-test.true);
      others = λ f ps other sh. add.others f ps other (low.others f ps other (inv.others f ps other sh));
      stays = same_then c.args.cache.now c.low_of.new.cache c.add_child.new.cache (same_then c.args.cache.now c.loop-child.cache c.low_of.new.cache inv.stays low.stays) add.stays;
      reads = omega (arith, add.reads (low.last c.args.page inv.last), low.reads, inv.reads);
      clean = clean_then s u w (clean_then s t u inv.clean low.ok) add.ok;
    }

pub low_of-requires-clause-len : goal.low_of-requires-clause-len
low_of-requires-clause-len g c = c.loop-child.invariant.stays.len ∙ c.requires.len ∙ sym c.loop-child.invariant.clean.touches.page_len

pub low_of-requires-clause-page_len : goal.low_of-requires-clause-page_len
low_of-requires-clause-page_len g c = subst IsPageLen (sym c.loop-child.invariant.clean.touches.page_len) c.requires.page_len

pub low_of-requires-clause-pins : goal.low_of-requires-clause-pins
low_of-requires-clause-pins g c = c.loop-child.invariant.stays.none c.requires.pins

pub returns-clause-added : goal.returns-clause-added
returns-clause-added g c = λ ps end within sh.
    let shown = g.D.Disk.shown in
    let inv = c.loop-child.invariant in
    let span = c.args.span in
    let last : c.loop-child.child ≡ span.to = omega (arith, inv.most, c.loop-child-test.false) in
    subst (λ (n : ℕ). WithTuples (shown c.args.disk.now).page_len 4 c.args.link c.args.file (leads span.first ps span.from (n - span.from)) ps c.loop-child.cache (shown c.loop-child.disk)) last (inv.made ps end within sh)
