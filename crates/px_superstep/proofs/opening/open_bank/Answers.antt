use Rattle.std.proofs.Common.{arith, refl}
use Rattle.px_superstep.specs.Plans.{tuple_frames}
use Rattle.px_superstep.proofs.Banks.{bank_is, bytes_are, many_entries}
use Rattle.px_superstep.proofs.opening.open_bank.Goals as goal

pub returns-clause-bank : goal.returns-clause-bank
returns-clause-bank c =
    let bank = c.in_ok-bank.bank in
    let made = c.in_ok-bank.ensures in
    let s = c.args.shares.now in
    bank_is bank c.args.partitions (tuple_frames s.group) s.cache s.lsm made.slots (rw made.frame_len c.requires.frame_len) made.table_home (omega (arith, c.requires.group))
    (rw made.table_entries (many_entries s.group c.args.frame_bytes c.requires.frame_len c.requires.group))

pub returns-clause-bytes : goal.returns-clause-bytes
returns-clause-bytes c =
    let bank = c.in_ok-bank.bank in
    let made = c.in_ok-bank.ensures in
    let s = c.args.shares.now in
    bytes_are bank c.args.partitions (tuple_frames s.group) s.cache s.lsm made.slots s c.args.frame_bytes c.requires.frame_len c.requires.work c.requires.streams c.requires.out refl refl refl made.frame_len made.table_entries
