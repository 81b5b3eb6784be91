-- Which partition a vid belongs to.
use Rattle.std.specs.Prelude.{ℕ, ◌*◌, ◌/◌, ◌%◌, ◌^◌}

-- the upper half of the product's low 64 bits, modulo the number of partitions. The multiplier is 2^64 over the golden ratio, which spreads neighbouring vids
unfoldable pub partition_of : ℕ → ℕ → ℕ
partition_of vid partitions = ((vid * 11400714819323198485 % 2 ^ 64) / 2 ^ 32) % partitions
