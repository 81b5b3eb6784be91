use Rattle.std.proofs.Common.{◌∙◌, sym, arith}
use Rattle.px_cache.proofs.Lists.{same_bare_length}
use Rattle.px_cache.proofs.Shows.{one_idle, still_idle, holds_within}
use Rattle.px_cache.proofs.Calls.{cleaned_then, reads_then}
use Rattle.px_cache.proofs.cache.Cache.flush.Goals as goal

pub loop-i-preserved : goal.loop-i-preserved
loop-i-preserved g c =
    let shown = g.D.Disk.shown in
    let inv = c.loop-i.invariant in
    let step = c.in_ok-settle.ensures in
    record {
      shows = λ f ps sh. step.shows f ps (inv.shows f ps sh);
      idle = one_idle c.settle.new.self.notes c.loop-i.i (λ k lt. still_idle c.loop-i.self.notes c.settle.new.self.notes k step.stays.bare step.stays.still (inv.idle k lt)) step.idle;
      whole = inv.whole ∙ sym (same_bare_length c.loop-i.self.notes c.settle.new.self.notes step.stays.bare);
      stays = cleaned_then c.args.self.now c.loop-i.self c.settle.new.self inv.stays step.stays;
      disk = reads_then 0 0 (shown c.args.disk.now) (shown c.loop-i.disk) (shown c.settle.new.disk) inv.disk step.ok;
    }

pub returns-clause-flushed : goal.returns-clause-flushed
returns-clause-flushed g c = λ f i p h changed.
    let lt = holds_within c.loop-i.self.notes i f p h in
    c.loop-i.invariant.idle i (omega (arith, lt, c.loop-i.invariant.whole, c.loop-i-test.false)) f p h changed
