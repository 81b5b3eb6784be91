-- A bank: slots that are lent and given back.
use Rattle.std.specs.Prelude.{◌≡◌, ◌≤◌, ◌==◌, ◌^◌, ℕ, List, [], ◌∷◌, Bool, true, false, IsTrue, map, slice_index_or, slice_set}
use Rattle.std.specs.List.{list_any}

-- whether this is a power of two from 2 ^ 8 to 2 ^ 20
abbrev pub is_frame_len : ℕ → Bool
is_frame_len len =
    list_any (λ k. len == 2 ^ k) (8 ∷ 9 ∷ 10 ∷ 11 ∷ 12 ∷ 13 ∷ 14 ∷ 15 ∷ 16 ∷ 17 ∷ 18 ∷ 19 ∷ 20 ∷ [])

-- a length that a frame may have: a power of two in these bounds
pub record IsFrameLen (len : ℕ) : Type 0 where
  pub least : 256 ≤ len
  pub most : len ≤ 1048576
  pub power : IsTrue (is_frame_len len)

-- a slot as the number of its frames, and whether its share is home
pub record SlotView : Type 0 where
  pub size : ℕ
  pub home : Bool

-- a bank as the length of its frames, its slots in order, the capacity of its slot table, and whether the table is home
pub record BankView : Type 0 where
  pub frame_len : ℕ
  pub slots : List SlotView
  pub table_entries : ℕ
  pub table_home : Bool

-- a slot of this size whose share is home
abbrev pub slot_home : ℕ → SlotView
slot_home n = record { size = n; home = true }

-- the slot at a place; past the last one none is home
abbrev pub slot_at : BankView → ℕ → SlotView
slot_at bank i = slice_index_or bank.slots i (record { size = 0; home = false })

-- whether the share of a slot is home
abbrev pub is_home : BankView → ℕ → Bool
is_home bank i = (slot_at bank i).home

-- the number of frames of a slot, home or out
abbrev pub size_of : BankView → ℕ → ℕ
size_of bank i = (slot_at bank i).size

-- the bank with this slot home or out, and all else as it was
abbrev pub with_home : BankView → ℕ → Bool → BankView
with_home bank i b =
    record bank { slots = slice_set bank.slots i (record { size = size_of bank i; home = b }) }

-- the bank with the slot table home or out, and all else as it was
abbrev pub with_table : BankView → Bool → BankView
with_table bank b = record bank { table_home = b }

-- what no call on a bank changes: the length of the frames, the sizes of the slots, and the capacity of the slot table
pub record SameMade (old new : BankView) : Type 0 where
  pub frame_len : new.frame_len ≡ old.frame_len
  pub sizes : map (λ (slot : SlotView). slot.size) new.slots ≡ map (λ (slot : SlotView). slot.size) old.slots
  pub table_entries : new.table_entries ≡ old.table_entries
