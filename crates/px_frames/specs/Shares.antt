-- A share: frames lent by a bank, with a note for each place.
use Rattle.std.specs.Prelude.{◌≡◌, ◌≤◌, ◌+◌, ◌++◌, ℕ, List, [], length, take, drop, slice_index_or, slice_set, All}
use Rattle.px_frames.specs.Banks.{IsFrameLen}

-- a share as the number of its places, the length of its frames, its frames in order, and a note for each place
pub record ShareView : Type 0 where
  pub size : ℕ
  pub frame_len : ℕ
  pub frames : List (List ℕ)
  pub notes : List (ℕ × ℕ)

-- each frame has this length
abbrev pub HaveLen : ℕ → List (List ℕ) → Type 0
HaveLen n frames = All (λ frame. length frame ≡ n) frames

-- what holds of every share
pub record IsShare (share : ShareView) : Type 0 where
  pub within : length share.frames ≤ share.size
  pub places : length share.notes ≡ share.size
  pub lens : HaveLen share.frame_len share.frames
  pub few : share.size ≤ 65536
  pub frame_len : IsFrameLen share.frame_len

-- what no call on a share changes
pub record SamePlaces (old new : ShareView) : Type 0 where
  pub size : new.size ≡ old.size
  pub frame_len : new.frame_len ≡ old.frame_len

-- these bytes over those that stand from a place on
abbrev pub overlaid : List ℕ → ℕ → List ℕ → List ℕ
overlaid old at bytes = take at old ++ bytes ++ drop (at + length bytes) old

-- the frames with so many bytes of one, from a place on, over those of another
abbrev pub with_range : List (List ℕ) → ℕ → ℕ → ℕ → ℕ → ℕ → List (List ℕ)
with_range frames from at len to to_at =
    slice_set frames to
    (overlaid (slice_index_or frames to []) to_at (take len (drop at (slice_index_or frames from []))))
