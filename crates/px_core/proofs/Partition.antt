-- A vid's partition is one of them.
use Rattle.std.proofs.Common.{ℕ, ◌<◌, arith}
use Rattle.px_core.specs.Partition.{partition_of}

pub partition_of-lt : (vid partitions : ℕ) → 0 < partitions → partition_of vid partitions < partitions
unfolding partition_of
partition_of-lt vid partitions some = omega arith
