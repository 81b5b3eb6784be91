use Rattle.std.proofs.Common.{◌≡◌, ap, arith}
use Rattle.px_cache.specs.View.{CacheView, clean, changes, IsLeast, IsChanged}
use Rattle.px_cache.proofs.Lists.{clean_fewer}
use Rattle.px_cache.proofs.Calls.{cleaned_then, cleaned_one, reads_then}
use Rattle.px_cache.proofs.cache.Cache.write_back.Goals as goal

pub loop-i-smaller : goal.loop-i-smaller
loop-i-smaller g c =
    let some = c.in-Some.ensures.some in
    let changed : IsChanged c.loop-i.self.notes c.in-Some.i = some.1.changed in
    let new : changes c.clean_one.new.self.notes ≡ changes (clean c.loop-i.self.notes c.in-Some.i) = ap (λ (v : CacheView). changes v.notes) c.in_ok-clean_one-in-Some.ensures.cleaned in
    omega (arith, new, clean_fewer c.loop-i.self.notes c.in-Some.i changed)

pub loop-i-preserved : goal.loop-i-preserved
loop-i-preserved g c =
    let shown = g.D.Disk.shown in
    let inv = c.loop-i.invariant in
    let some = c.in-Some.ensures.some in
    let least : IsLeast c.loop-i.self.notes c.args.file some.0 c.in-Some.i = some.1 in
    let step = c.in_ok-clean_one-in-Some.ensures in
    record {
      shows = λ f ps sh. step.shows c.args.file some.0 least f ps (inv.shows f ps sh);
      stays = cleaned_then c.args.self.now c.loop-i.self c.clean_one.new.self inv.stays (cleaned_one c.loop-i.self c.clean_one.new.self c.in-Some.i step.cleaned);
      disk = reads_then 0 0 (shown c.args.disk.now) (shown c.loop-i.disk) (shown c.clean_one.new.disk) inv.disk step.ok;
    }
