use Rattle.px_memdisk.specs.Files.{pages_in}
use Rattle.px_memdisk.proofs.Pages.{long_in_all, long_written}
use Rattle.px_memdisk.proofs.memory.MemDiskDisk.write.Goals as goal

pub invariant_of-self-in-Ok : goal.invariant_of-self-in-Ok
invariant_of-self-in-Ok c =
    let len = c.args.self.now.page_len in
    let old = pages_in c.args.self.now.files in
    let written = long_written len c.args.page c.args.from.now (old c.args.file) (c.args.self.now.long c.args.file) c.requires in
    record { long = long_in_all len c.args.file old (pages_in c.put.new.files) (rw c.in-Ok.ensures.ok written) c.put.ensures.others c.args.self.now.long }

pub invariant_of-self-in-Err-Full : goal.invariant_of-self-in-Err-Full
invariant_of-self-in-Err-Full c =
    record {
      long = long_in_all c.args.self.now.page_len c.args.file (pages_in c.args.self.now.files) (pages_in c.put.new.files)
          (rw c.in-Err-Full.ensures.err (c.args.self.now.long c.args.file)) c.put.ensures.others c.args.self.now.long;
    }

pub invariant_of-self-in-Err-NoMemory : goal.invariant_of-self-in-Err-NoMemory
invariant_of-self-in-Err-NoMemory c =
    record {
      long = long_in_all c.args.self.now.page_len c.args.file (pages_in c.args.self.now.files) (pages_in c.put.new.files)
          (rw c.in-Err-NoMemory.ensures.err (c.args.self.now.long c.args.file)) c.put.ensures.others c.args.self.now.long;
    }
