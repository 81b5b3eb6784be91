-- What becomes of a bank whose slots and table go out and come home.
use Rattle.std.proofs.Common.{◌≡◌, ◌≢◌, ℕ, ◌<◌, Bool, List, length, map, true, false, set, sym, ap, ◌∙◌, refl}
use Rattle.std.proofs.lemmas.List.{length-set, get_or-set_same, get_or-set_other, set-set, set_comm, set-get_or, map-set}
use Rattle.std.proofs.Math.ListN.{get_or-map}
use Rattle.px_frames.specs.Banks.{SlotView, BankView, SameMade, slot_at, is_home, size_of, with_home, with_table}

-- what stands past the last slot
abbrev none : SlotView
none = record { size = 0; home = false }

-- a slot of this size
abbrev slot : ℕ → Bool → SlotView
slot n b = record { size = n; home = b }

module _ (bank : BankView) (i : ℕ) where
  -- the bank with other slots
  abbrev with_slots : List SlotView → BankView
  with_slots slots = record bank { slots = slots }

  -- the slots after a turn of slot i
  abbrev turned : Bool → List SlotView
  turned b = set bank.slots i (slot (size_of bank i) b)

  -- a slot that goes out or comes home keeps its size
  pub slot_at-with_home_same : (b : Bool) → i < length bank.slots
      → slot_at (with_home bank i b) i ≡ slot (size_of bank i) b
  slot_at-with_home_same b lt = get_or-set_same bank.slots i (slot (size_of bank i) b) none lt

  -- another slot is as it was
  pub slot_at-with_home_other : (j : ℕ) (b : Bool) → j ≢ i → slot_at (with_home bank i b) j ≡ slot_at bank j
  slot_at-with_home_other j b ne = get_or-set_other bank.slots i j (slot (size_of bank i) b) none ne

  -- of two turns of one slot the last counts
  pub with_home-with_home_same : (a b : Bool) → i < length bank.slots
      → with_home (with_home bank i a) i b ≡ with_home bank i b
  with_home-with_home_same a b lt =
      ap (λ (s : SlotView). with_slots (set (turned a) i (slot s.size b))) (slot_at-with_home_same a lt)
      ∙ ap with_slots (set-set bank.slots i (slot (size_of bank i) a) (slot (size_of bank i) b))

  -- a slot that is home stays home, and one that is out stays out
  pub with_home_stays : (b : Bool) → is_home bank i ≡ b → with_home bank i b ≡ bank
  with_home_stays b is =
      ap (λ (h : Bool). with_slots (turned h)) (sym is) ∙ ap with_slots (set-get_or bank.slots i none)

-- turns of two slots may change places
pub with_home_comm : (bank : BankView) (i j : ℕ) (a b : Bool) → i ≢ j
    → with_home (with_home bank i a) j b ≡ with_home (with_home bank j b) i a
with_home_comm bank i j a b ne =
    ap (λ (s : SlotView). with_slots bank i (set (turned bank i a) j (slot s.size b))) (slot_at-with_home_other bank i j a (λ e. ne (sym e)))
    ∙ ap (with_slots bank i) (set_comm bank.slots i j (slot (size_of bank i) a) (slot (size_of bank j) b) ne)
    ∙ ap (λ (s : SlotView). with_slots bank i (set (turned bank j b) i (slot s.size a))) (sym (slot_at-with_home_other bank j i b ne))

-- a slot that is home, goes out and comes home leaves the bank as it was
there_and_back : (bank : BankView) (k : ℕ) → k < length bank.slots → is_home bank k ≡ true
    → with_home (with_home bank k false) k true ≡ bank
there_and_back bank k in_k home = with_home-with_home_same bank k false true in_k ∙ with_home_stays bank k true home

-- two slots that are home, go out and come home leave the bank as it was
module _ (bank : BankView) (i j : ℕ) (ne : i ≢ j) (in_i : i < length bank.slots) (in_j : j < length bank.slots)
    (home_i : is_home bank i ≡ true) (home_j : is_home bank j ≡ true) where
  -- where the first to go comes home last
  pub home_in_turn_back : with_home (with_home (with_home (with_home bank i false) j false) j true) i true ≡ bank
  home_in_turn_back =
      let out : BankView = with_home bank i false in
      let home : is_home out j ≡ true =
      ap (λ (s : SlotView). s.home) (slot_at-with_home_other bank i j false (λ e. ne (sym e))) ∙ home_j
      in
      let in_out : j < length out.slots = rw length-set in_j in
      ap (λ (b : BankView). with_home b i true)
      (with_home-with_home_same out j false true in_out ∙ with_home_stays out j true home)
      ∙ there_and_back bank i in_i home_i

  -- where the first to go comes home first
  pub home_in_turn : with_home (with_home (with_home (with_home bank i false) j false) i true) j true ≡ bank
  home_in_turn =
      let out : BankView = with_home bank i false in
      ap (λ (b : BankView). with_home b j true)
      (with_home_comm out j i false true (λ e. ne (sym e))
      ∙ ap (λ (b : BankView). with_home b j false) (there_and_back bank i in_i home_i))
      ∙ there_and_back bank j in_j home_j

-- a table that is home, goes out and comes home leaves the bank as it was
pub table_there_and_back : (bank : BankView) → bank.table_home ≡ true → with_table (with_table bank false) true ≡ bank
table_there_and_back bank home = ap (with_table bank) (sym home)

-- so do a slot and the table that both go out and come home, whichever comes first
pub both_there_and_back : (bank : BankView) (i : ℕ) → i < length bank.slots → is_home bank i ≡ true
    → bank.table_home ≡ true
    → with_table (with_home (with_table (with_home bank i false) false) i true) true ≡ bank
both_there_and_back bank i in_i home table_home =
    ap (λ (b : BankView). with_table (with_table b false) true) (there_and_back bank i in_i home)
    ∙ table_there_and_back bank table_home

-- a slot that goes out or comes home leaves all sizes as they were
pub made-with_home : (bank : BankView) (i : ℕ) (b : Bool) → SameMade bank (with_home bank i b)
made-with_home bank i b =
    let size : SlotView → ℕ = λ slot. slot.size in
    record {
      frame_len = refl;
      sizes =
          map-set size bank.slots i (slot (size_of bank i) b)
          ∙ ap (set (map size bank.slots) i) (sym (get_or-map size bank.slots i none))
          ∙ set-get_or (map size bank.slots) i 0;
      table_entries = refl;
    }

-- and so does the table
pub made-with_table : (bank : BankView) (b : Bool) → SameMade bank (with_table bank b)
made-with_table bank b = record { frame_len = refl; sizes = refl; table_entries = refl }

-- so the sizes stay whatever is lent and given
pub made_then : (a b c : BankView) → SameMade a b → SameMade b c → SameMade a c
made_then a b c first then = record {
  frame_len = then.frame_len ∙ first.frame_len;
  sizes = then.sizes ∙ first.sizes;
  table_entries = then.table_entries ∙ first.table_entries;
}
