-- What is lent of the bank to work on one partition at a time.
use Rattle.std.specs.Prelude.{◌≡◌, ◌≤◌, ◌<◌, ℕ, Bool, true, false, length}
use Rattle.px_frames.specs.Banks.{BankView, IsFrameLen, is_home, size_of, with_home, with_table}
use Rattle.px_frames.specs.Shares.{ShareView}
use Rattle.px_superstep.specs.declared.benches.Lent.{Lent}

-- these slots and the table go out, and come home in the other order
abbrev pub bench_out : BankView → BankView
bench_out b = with_table (with_home (with_home (with_home (with_home b 0 false) 1 false) 2 false) 5 false) false

abbrev pub bench_home : BankView → BankView
bench_home b = with_home (with_home (with_home (with_home (with_table b true) 5 true) 2 true) 1 true) 0 true

-- a slot that is out
pub record IsOut (b : BankView) (slot : ℕ) : Type 0 where
  pub in_range : slot < length b.slots
  pub out : is_home b slot ≡ false

pub record IsBenchOut (b : BankView) : Type 0 where
  pub work : IsOut b 0
  pub join : IsOut b 1
  pub streams : IsOut b 2
  pub group : IsOut b 5
  pub table : b.table_home ≡ false

-- the share of a slot, with all its frames
pub record IsShareOf (b : BankView) (slot : ℕ) (share : ShareView) : Type 0 where
  pub size : share.size ≡ size_of b slot
  pub frame_len : share.frame_len ≡ b.frame_len
  pub full : length share.frames ≡ share.size

pub record IsLent (b : BankView) (lent : Lent) : Type 0 where
  pub work : IsShareOf b 0 lent.work
  pub join : IsShareOf b 1 lent.join
  pub streams : IsShareOf b 2 lent.streams
  pub group : IsShareOf b 5 lent.group
  pub table : lent.table.capacity ≡ b.table_entries

-- it is enough to work on a partition, and all its frames have one length
pub record IsEnough (lent : Lent) : Type 0 where
  pub frame_len : IsFrameLen lent.work.frame_len
  pub join_len : lent.join.frame_len ≡ lent.work.frame_len
  pub streams_len : lent.streams.frame_len ≡ lent.work.frame_len
  pub group_len : lent.group.frame_len ≡ lent.work.frame_len
  pub work : 4 ≤ length lent.work.frames
  pub join : 3 ≤ length lent.join.frames
  pub streams : 3 ≤ length lent.streams.frames
  pub group : 6 ≤ length lent.group.frames
  pub table : 32 ≤ lent.table.capacity
