use Rattle.std.proofs.Common.{◌≡◌, take, map, All}
use Rattle.px_frames.specs.Banks.{slot_home}
use Rattle.px_frames.specs.Slots.{slot_view, IsSlot}
use Rattle.px_frames.proofs.bank.Bank.open.Given as goal

abbrev pub invariant-loop-size : goal.invariant-loop-size
invariant-loop-size l =
    (map slot_view l.slots.items ≡ map slot_home (take l.size-index l.sizes)) × All (IsSlot l.frame_bytes) l.slots.items
