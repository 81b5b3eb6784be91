use Rattle.std.proofs.Common.{length, ◌≡◌, arith, rules}
use Rattle.px_filedisk.proofs.Writing.{page_stands}
use Rattle.px_filedisk.proofs.tests.kept.comes_back.Goals as goal

pub returns-in_err-write : goal.returns-in_err-write
returns-in_err-write c =
    let room = c.clear.ensures.writes_work 144 (c.start.ensures.writes_work 144 (c.requires.seven, c.requires.three_hundred)) in
    let len : length c.args.from.now ≡ 8 = search rules in
    let never = c.in_err-write.ensures.ready 144 room (omega arith) (omega arith) in
    cc

pub returns-in_err-read : goal.returns-in_err-read
returns-in_err-read c =
    let len : length c.args.from.now ≡ 8 = search rules in
    let never = c.in_err-read.ensures.ready tt (omega arith) c.args.from.now _ c.in_ok-write.ensures.block len (page_stands _ _ _ _) in
    cc
