use Rattle.px_cache.proofs.Pins.{no_pins-mark, same-mark}
use Rattle.px_cache.proofs.tests.add.Goals as goal

pub returns-clause-free : goal.returns-clause-free
returns-clause-free g c = no_pins-mark c.new_page.new.self.notes c.in_ok-i.i (c.new_page.ensures.stays.none c.requires.free)

pub returns-clause-stays : goal.returns-clause-stays
returns-clause-stays g c = same-mark c.args.cache.now c.new_page.new.self c.in_ok-i.i _ c.new_page.ensures.stays
