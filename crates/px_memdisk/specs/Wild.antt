-- What a disk that tells nothing shows.
use Rattle.std.specs.Prelude.{false, None}
use Rattle.px_core.specs.Shown.{Shown}
use Rattle.px_memdisk.specs.declared.wild.WildDisk.{WildDisk}

-- its counts alone
abbrev pub wild_shown : WildDisk → Shown
wild_shown disk = record {
  tells = false;
  files = λ f. None;
  page_len = disk.page_len;
  faults = disk.faults;
  reads = disk.reads;
  writes = disk.writes;
}
