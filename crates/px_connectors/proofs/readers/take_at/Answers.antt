use Rattle.std.proofs.Common.{◌≡◌, ◌<◌, get_or}
use Rattle.std.proofs.lemmas.Option.{slice_get-get_or}
use Rattle.px_connectors.specs.Receiving.{OfReader, IsReader}
use Rattle.px_connectors.proofs.ByTurns.{each_change, gave_at, left_falls}
use Rattle.px_connectors.proofs.readers.take_at.Goals as goal

pub take_in-requires-clause-is : goal.take_in-requires-clause-is
take_in-requires-clause-is g c =
    let rs = c.args.readers.now in
    let p = c.args.sender in
    c.requires.are p (get_or rs p c.index-readers-sender.result) (slice_get-get_or rs p c.index-readers-sender.result c.requires.has.below)

pub take_in-requires-clause-has : goal.take_in-requires-clause-has
take_in-requires-clause-has g c =
    let rs = c.args.readers.now in
    let p = c.args.sender in
    c.requires.has.has (get_or rs p c.index-readers-sender.result) (slice_get-get_or rs p c.index-readers-sender.result c.requires.has.below)

pub returns-clause-took : goal.returns-clause-took
returns-clause-took g c = λ ls gives.
    let rs = c.args.readers.now in
    let p = c.args.sender in
    let o = get_or rs p c.index-readers-sender.result in
    gave_at _ _ p _ _ rs o c.take_in.new.reader ls c.take_in.ensures.untouched (slice_get-get_or rs p c.index-readers-sender.result c.requires.has.below) c.requires.has.below c.take_in.ensures.took gives

pub returns-clause-falls : goal.returns-clause-falls
returns-clause-falls g c =
    let rs = c.args.readers.now in
    let p = c.args.sender in
    left_falls p rs (get_or rs p c.index-readers-sender.result) c.take_in.new.reader (slice_get-get_or rs p c.index-readers-sender.result c.requires.has.below) c.take_in.ensures.falls

pub returns-clause-are : goal.returns-clause-are
returns-clause-are g c =
    let rs = c.args.readers.now in
    let p = c.args.sender in
    let len = (g.D.Disk.shown c.args.disk.now).page_len in
    each_change (λ j z. OfReader (IsReader len) z) rs p c.take_in.new.reader c.requires.has.below c.take_in.ensures.is (λ j z other at. c.requires.are j z at)
