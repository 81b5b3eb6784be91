-- What a disk of files shows.
use Rattle.std.specs.Prelude.{ℕ, None, false}
use Rattle.px_core.specs.Shown.{Shown}
use Rattle.px_filedisk.specs.declared.disk.FileDisk.{FileDisk}

pub record CountsView : Type 0 where
  pub page_len : ℕ
  pub faults : ℕ
  pub reads : ℕ
  pub writes : ℕ

-- all of a disk but its files
abbrev pub counts_of : {F : Type 0} → FileDisk F → CountsView
counts_of disk = record { page_len = disk.page_len; faults = disk.faults; reads = disk.reads; writes = disk.writes }

-- it tells none of its files
abbrev pub shown_of : {F : Type 0} → FileDisk F → Shown
shown_of disk = record {
  tells = false;
  files = λ f. None;
  page_len = disk.page_len;
  faults = disk.faults;
  reads = disk.reads;
  writes = disk.writes;
}
