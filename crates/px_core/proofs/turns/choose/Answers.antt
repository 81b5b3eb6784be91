use Rattle.px_core.proofs.Bits.{lowest_bit-is_bit, lowest_bit-is_lowest}
use Rattle.px_core.proofs.turns.choose.Goals as goal

pub returns-in-Some-clause-lowest : goal.returns-in-Some-clause-lowest
returns-in-Some-clause-lowest c = lowest_bit-is_lowest c.args.ready c.requires c.ranges.ready.fits

pub returns-in_default-clause-bit : goal.returns-in_default-clause-bit
returns-in_default-clause-bit c = lowest_bit-is_bit c.args.ready c.requires c.ranges.ready.fits

pub returns-in_default-clause-lowest : goal.returns-in_default-clause-lowest
returns-in_default-clause-lowest c = lowest_bit-is_lowest c.args.ready c.requires c.ranges.ready.fits
