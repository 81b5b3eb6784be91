use Rattle.px_cache.proofs.Lists.{same_bare_free, free_within}
use Rattle.px_cache.proofs.cache.Cache.free_frame.Goals as goal

pub returns-clause-free : goal.returns-clause-free
returns-clause-free g c = same_bare_free c.args.self.now.notes c.settle.new.self.notes c.in_ok-settle.ensures.stays.bare _ c.choose-i.ensures.free

pub returns-clause-at : goal.returns-clause-at
returns-clause-at g c = free_within c.settle.new.self.notes _ (same_bare_free c.args.self.now.notes c.settle.new.self.notes c.in_ok-settle.ensures.stays.bare _ c.choose-i.ensures.free)
