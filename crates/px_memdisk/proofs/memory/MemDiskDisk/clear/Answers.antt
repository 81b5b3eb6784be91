use Rattle.std.proofs.Common.{◌≡◌, ◌≢◌, ℕ, [], rules}
use Rattle.px_memdisk.specs.Files.{pages_in}
use Rattle.px_memdisk.proofs.Pages.{long_in_all, long_none}
use Rattle.px_memdisk.proofs.memory.MemDiskDisk.clear.Goals as goal

pub invariant_of-self-2 : goal.invariant_of-self-2
invariant_of-self-2 c =
    let empty : pages_in c.remove.new.self c.args.file ≡ [] = search rules in
    let others : (f : ℕ) → f ≢ c.args.file → pages_in c.remove.new.self f ≡ pages_in c.args.self.now.files f = search rules in
    record { long = long_in_all c.args.self.now.page_len c.args.file (pages_in c.args.self.now.files) (pages_in c.remove.new.self) (rw empty (long_none c.args.self.now.page_len)) others c.args.self.now.long }
