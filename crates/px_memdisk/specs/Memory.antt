-- What a disk in memory shows.
use Rattle.std.specs.Prelude.{true, Some}
use Rattle.px_core.specs.Shown.{Shown}
use Rattle.px_memdisk.specs.Files.{pages_in}
use Rattle.px_memdisk.specs.declared.memory.MemDisk.{MemDisk}

-- it tells its files
abbrev pub shown_of : MemDisk → Shown
shown_of disk = record {
  tells = true;
  files = λ f. Some (pages_in disk.files f);
  page_len = disk.page_len;
  faults = disk.tally.faults;
  reads = disk.tally.reads;
  writes = disk.tally.writes;
}
