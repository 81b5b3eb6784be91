-- A slot of a bank, and its slot table.
use Rattle.std.specs.Prelude.{◌≡◌, ℕ, Option, is_some, IfSome, length}
use Rattle.px_frames.specs.Banks.{SlotView}
use Rattle.px_frames.specs.Tables.{TableView}
use Rattle.px_frames.specs.declared.bank.Slot.{Slot}

-- the slot as a contract sees it
abbrev pub slot_view : Slot → SlotView
slot_view slot = record { size = slot.size; home = is_some slot.share }

-- a share that is home is full, and is of this slot and of a bank with frames of this length
abbrev pub IsSlot : ℕ → Slot → Type 0
IsSlot len slot =
    IfSome slot.share
    (λ share. (share.size ≡ slot.size) × (share.frame_len ≡ len) × (length share.frames ≡ slot.size))

-- a slot table that is home has this capacity
abbrev pub IsTableOf : ℕ → Option TableView → Type 0
IsTableOf entries table = IfSome table (λ t. t.capacity ≡ entries)
