use Rattle.px_cache.proofs.Pins.{free_beside}
use Rattle.px_cache.proofs.tests.pin_first.Goals as goal

pub returns-clause-free : goal.returns-clause-free
returns-clause-free c = free_beside c.args.cache.now.notes c.pin.new.self.notes c.args.i c.pin.ensures.pins c.requires.free
