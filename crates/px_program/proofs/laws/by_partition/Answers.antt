use Rattle.std.proofs.Common.{sym, ◌==◌}
use Rattle.px_core.specs.Partition.{partition_of}
use Rattle.px_meaning.proofs.Rearranged.{grouped-filter}
use Rattle.px_program.proofs.laws.by_partition.Goals as goal

pub returns : goal.returns
returns c rule partitions q l = sym (grouped-filter rule (λ v. partition_of v partitions == q) l)
