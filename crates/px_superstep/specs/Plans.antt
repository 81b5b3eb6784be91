-- Plans, the frames that they need, and how all frames are shared out.
use Rattle.std.specs.Prelude.{◌≡◌, ◌≤◌, ℕ, ◌+◌, ◌-◌, ◌*◌, ◌/◌, Bool, IsTrue, List, [], ◌∷◌, map, sum}
use Rattle.px_frames.specs.Banks.{IsFrameLen, BankView, SlotView, slot_home, size_of}
use Rattle.px_superstep.specs.declared.plan.Plan.{Plan}
use Rattle.px_superstep.specs.declared.plan.Shares.{Shares}
use Rattle.px_superstep.specs.declared.plan.StoreKind.{StoreKind}
use Rattle.px_superstep.specs.declared.plan.StoreKind.TheVariants.{BTree, Lsm}

-- the frames that one store at a time holds what was put to it lately in
abbrev pub lsm_frames : StoreKind → ℕ
lsm_frames BTree = 0
lsm_frames Lsm = 10

-- the least number of frames for a plan over so many partitions
abbrev pub needed : Plan → ℕ → ℕ
needed plan parts = 22 + 2 * parts + lsm_frames plan.store

-- of what is left over, how many frames more the group gets. The cache gets the rest
abbrev pub more_of : ℕ → ℕ
more_of over = over / 4 * 2

abbrev pub shared : Plan → ℕ → ℕ → Shares
shared plan parts frames =
    let over = frames - needed plan parts in
    record {
      work = 4;
      streams = 6;
      out = 2 * parts;
      group = 8 + more_of over;
      cache = 4 + (over - more_of over);
      lsm = lsm_frames plan.store;
    }

-- all frames together
abbrev pub total : Shares → ℕ
total s = s.work + s.streams + s.out + s.group + s.cache + s.lsm

-- of the group's frames, those whose bytes are the slot table, and the others
abbrev pub table_frames : ℕ → ℕ
table_frames group = group / 4

abbrev pub tuple_frames : ℕ → ℕ
tuple_frames group = group - table_frames group

-- the entries of 16 bytes in a slot table of a job whose group has so many frames of so many bytes
abbrev pub entries_in : ℕ → ℕ → ℕ
entries_in group frame_bytes = table_frames group * (frame_bytes / 16)

-- the slots of the bank: work, join, streams, messages, requests, group, cache, lsm
abbrev pub sizes : Shares → ℕ → List ℕ
sizes s parts = 4 ∷ 3 ∷ 3 ∷ parts ∷ parts ∷ tuple_frames s.group ∷ s.cache ∷ s.lsm ∷ []

-- the bytes of a bank's frames, and of the entries of its slot table
abbrev pub bytes_of : BankView → ℕ
bytes_of bank = sum (map (λ (slot : SlotView). slot.size) bank.slots) * bank.frame_len + bank.table_entries * 16

-- a slot of this size, home or out
abbrev pub slot_of : ℕ → Bool → SlotView
slot_of n home = record { size = n; home = home }

-- the bank of a job over so many partitions, in which these slots are home: those of messages and of requests, and those of the desk
pub record IsBank (parts : ℕ) (outs desk : Bool) (bank : BankView) : Type 0 where
  pub frame_len : IsFrameLen bank.frame_len
  pub slots : bank.slots ≡ slot_home 4 ∷ slot_home 3 ∷ slot_home 3 ∷ slot_of parts outs ∷ slot_of parts outs ∷ slot_home (size_of bank 5) ∷ slot_of (size_of bank 6) desk ∷ slot_of (size_of bank 7) desk ∷ []
  pub table_home : IsTrue bank.table_home
  pub group : 6 ≤ size_of bank 5
  pub entries : 32 ≤ bank.table_entries
