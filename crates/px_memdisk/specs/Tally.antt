-- What the calls of a disk came to.
use Rattle.std.specs.Prelude.{ℕ, List}
use Rattle.px_core.specs.Counts.{bumped}
use Rattle.px_core.specs.Memory.{NextFails}

pub record TallyView : Type 0 where
  -- the numbers of the calls that fail, from 1
  pub fails : List ℕ
  pub calls : ℕ
  -- the calls that failed
  pub faults : ℕ
  -- the reads and the writes that answered Ok
  pub reads : ℕ
  pub writes : ℕ
  -- the calls that failed for memory alone
  pub short : ℕ

-- the next call is one of those that fail
abbrev pub IsListed : TallyView → Type 0
IsListed tally = NextFails tally.fails tally.calls

-- one more of each
abbrev pub after_call : TallyView → TallyView
after_call tally = record tally { calls = bumped tally.calls }

abbrev pub after_fault : TallyView → TallyView
after_fault tally = record tally { faults = bumped tally.faults }

abbrev pub after_no_memory : TallyView → TallyView
after_no_memory tally = record tally { faults = bumped tally.faults; short = bumped tally.short }

abbrev pub after_read : TallyView → TallyView
after_read tally = record tally { reads = bumped tally.reads }

abbrev pub after_write : TallyView → TallyView
after_write tally = record tally { writes = bumped tally.writes }
