-- Facts on the slots of a bank.
use Rattle.std.proofs.Common.{◌≡◌, ℕ, ◌<◌, List, length, map, get_or, set, drop, Bool, false, Option, is_some, sym, ap, ◌∙◌}
use Rattle.std.proofs.lemmas.List.{map-set, get_or-map, length-set}
use Rattle.std.proofs.Math.Seq.{take-append_seam}
use Rattle.std.specs.List.{refill}
use Rattle.px_frames.specs.Banks.{SlotView, BankView, with_home}
use Rattle.px_frames.specs.Shares.{ShareView}
use Rattle.px_frames.specs.Slots.{slot_view}
use Rattle.px_frames.specs.declared.bank.Slot.{Slot}

-- a list that is refilled by one of its own length is that one
pub refill_same : {X : Type 0} (xs ws : List X) → length ws ≡ length xs → refill (length xs) xs ws ≡ ws
refill_same xs ws same = rw (← same) (take-append_seam ws (drop (length ws) xs))

-- a bank of these slots, with a table of so many entries that is home or out
abbrev pub bank_with : ℕ → ℕ → Bool → List SlotView → BankView
bank_with len entries home slots =
    record { frame_len = len; slots = slots; table_entries = entries; table_home = home }

-- the same from the slots as they stand in memory
abbrev pub bank_of : ℕ → ℕ → Bool → List Slot → BankView
bank_of len entries home slots = bank_with len entries home (map slot_view slots)

-- where a slot is written with its own size, it is home exactly if it has a share, and all else stays
pub with_home-set : (len entries : ℕ) (home : Bool) (slots : List Slot) (i : ℕ) (d : Slot) (share : Option ShareView)
    → i < length slots
    → bank_of len entries home (refill (length slots) slots (set slots i (record { size = (get_or slots i d).size; share = share })))
    ≡ with_home (bank_of len entries home slots) i (is_some share)
with_home-set len entries home slots i d share lt =
    let new : Slot = record { size = (get_or slots i d).size; share = share } in
    let none : SlotView = record { size = 0; home = false } in
    let at : get_or (map slot_view slots) i none ≡ slot_view (get_or slots i d) = get_or-map slot_view slots i d none lt in
    let views : List SlotView → BankView = bank_with len entries home in
    ap (bank_of len entries home) (refill_same slots (set slots i new) (length-set slots i new))
    ∙ ap views (map-set slot_view slots i new)
    ∙ ap (λ (slot : SlotView). views (set (map slot_view slots) i (record { size = slot.size; home = is_some share }))) (sym at)
