-- What a load and a finish of a job work with, and the frames of the bank that it is made of.
use Rattle.std.specs.Prelude.{◌≡◌, ◌≤◌, ℕ, ◌+◌, true, false, List, length, Option, Some, None}
use Rattle.px_frames.specs.Banks.{BankView, size_of, with_home}
use Rattle.px_frames.specs.Shares.{ShareView}
use Rattle.px_superstep.specs.Lending.{bench_home, IsBenchOut, IsOut, IsShareOf}
use Rattle.px_superstep.specs.Tooling.{IsShort}
use Rattle.px_superstep.specs.declared.benches.Lent.{Lent}
use Rattle.px_superstep.specs.declared.load_tools.LoadTools.{LoadTools}

-- what is lent to work on one partition, and the slot of messages, come home
abbrev pub load_home : BankView → BankView
load_home b = bench_home (with_home b 3 true)

pub record IsLoadOut (b : BankView) : Type 0 where
  pub bench : IsBenchOut b
  pub messages : IsOut b 3

-- there is a frame of this length
abbrev pub HasLen : ℕ → Option (List ℕ) → Type 0
HasLen len None = ⊥
HasLen len (Some frame) = length frame ≡ len

-- the tools that are made of what was lent, and of a share with a frame for each partition
pub record AreLoadTools (lent : Lent) (outs : ShareView) (t : LoadTools) : Type 0 where
  pub runs : t.frames.runs ≡ lent.group
  pub table : t.frames.table ≡ lent.table
  pub outs_are : t.frames.outs ≡ outs
  pub text : HasLen lent.streams.frame_len t.frames.text
  pub vertex : t.frames.vertex.frame_len ≡ lent.work.frame_len
  pub body : t.frames.body.frame_len ≡ lent.work.frame_len
  pub join : t.join ≡ lent.join
  pub work : IsShort 2 lent.work t.work
  pub streams : IsShort 1 lent.streams t.streams

-- the share of a slot, from which n frames are taken
pub record IsRestOf (b : BankView) (slot n : ℕ) (share : ShareView) : Type 0 where
  pub size : share.size ≡ size_of b slot
  pub frame_len : share.frame_len ≡ b.frame_len
  pub left : length share.frames + n ≡ share.size

-- the tools have all frames of these slots
pub record AreLentTools (b : BankView) (t : LoadTools) : Type 0 where
  pub runs : IsShareOf b 5 t.frames.runs
  pub table : t.frames.table.capacity ≡ b.table_entries
  pub outs : IsShareOf b 3 t.frames.outs
  pub text : HasLen b.frame_len t.frames.text
  pub vertex : t.frames.vertex.frame_len ≡ b.frame_len
  pub body : t.frames.body.frame_len ≡ b.frame_len
  pub join : IsShareOf b 1 t.join
  pub work : IsRestOf b 0 2 t.work
  pub streams : IsRestOf b 2 1 t.streams

-- what they give back: the shares, and that of messages
pub record IsUnloaded (t : LoadTools) (lent : Lent) (outs : ShareView) : Type 0 where
  pub group : lent.group ≡ t.frames.runs
  pub table : lent.table ≡ t.frames.table
  pub outs_are : outs ≡ t.frames.outs
  pub join : lent.join ≡ t.join
  pub work : IsShort 2 lent.work t.work
  pub streams : IsShort 1 lent.streams t.streams
