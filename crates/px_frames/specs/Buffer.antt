-- A buffer: bytes held in a frame.
use Rattle.std.specs.Prelude.{◌≡◌, ◌≤◌, ℕ, List, length}

-- a buffer as its bytes, the most that it takes, and its frame's length
pub record BufView : Type 0 where
  pub bytes : List ℕ
  pub limit : ℕ
  pub frame_len : ℕ

-- what no call on a buffer changes
pub record SameRoom (old new : BufView) : Type 0 where
  pub limit : new.limit ≡ old.limit
  pub frame_len : new.frame_len ≡ old.frame_len

-- the bytes are within the limit, and the limit is within the frame
pub record IsWithin (buf : BufView) : Type 0 where
  pub len : length buf.bytes ≤ buf.limit
  pub room : buf.limit ≤ buf.frame_len
