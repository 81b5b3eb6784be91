use Rattle.std.proofs.Common.{◌≤◌, ◌+◌, ◌∙◌, sym, subst, ℕ}
use Rattle.px_meaning.specs.Graph.{room_of}
use Rattle.px_stream.proofs.Reading.{nothing_given, head_given}
use Rattle.px_stream.proofs.reader.Reader.next.Goals as goal

pub returns-clause-none : goal.returns-clause-none
returns-clause-none g c = nothing_given _ _ _ _ _ c.take_one.ensures.none c.in_ok-settle.ensures.settled c.in_ok-settle.ensures.to_give

pub returns-clause-some : goal.returns-clause-some
returns-clause-some g c =
    let room : room_of (g.D.Disk.shown c.settle.new.disk).page_len ≤ 13 + c.args.into.now.limit =
    subst (λ (n : ℕ). room_of n ≤ 13 + c.args.into.now.limit) (c.requires.page_len ∙ sym c.in_ok-settle.ensures.ok.touches.page_len) c.requires.limit in
    head_given _ _ _ c.settle.new.self c.take_one.new.self _ _ _ c.take_one.ensures.some c.take_one.ensures.body room
    c.take_one.ensures.stays.file c.take_one.ensures.page c.take_one.ensures.pages c.in_ok-settle.ensures.to_give
