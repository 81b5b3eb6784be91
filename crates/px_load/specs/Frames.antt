-- What is lent to a load and a dump.
use Rattle.std.specs.Prelude.{◌≡◌, ◌<◌, ◌≤◌, ℕ, ◌+◌, List, length, Option, Some, None}
use Rattle.px_frames.specs.Buffer as buffer
use Rattle.px_frames.specs.Shares.{ShareView}
use Rattle.px_meaning.specs.Graph.{room_of}
use Rattle.px_runs.specs.Runs.{RunsView}
use Rattle.px_stream.specs.Views.{ReaderView}
use Rattle.px_store.specs.Desks as desks
use Rattle.px_load.specs.declared.frames.LoadFrames.{LoadFrames}

-- there is a frame, with a byte at least
abbrev pub HasFrame : Option (List ℕ) → Type 0
HasFrame None = ⊥
HasFrame (Some frame) = 0 < length frame

-- frames as long as a page, and enough of them for so many stores
pub record AreLoadFrames (f : LoadFrames) (parts page_len : ℕ) : Type 0 where
  pub runs : 6 ≤ length f.runs.frames
  pub table : 32 ≤ f.table.capacity
  pub outs : parts ≤ length f.outs.frames
  pub text : HasFrame f.text
  pub runs_len : f.runs.frame_len ≡ page_len
  pub outs_len : f.outs.frame_len ≡ page_len
  pub vertex : f.vertex.room ≡ room_of page_len
  pub body : 13 + f.body.limit ≡ room_of page_len

-- the same without the frame through which runs are written
pub record AreLentFrames (f : LoadFrames) (parts page_len : ℕ) : Type 0 where
  pub runs : 5 ≤ length f.runs.frames
  pub table : 32 ≤ f.table.capacity
  pub outs : parts ≤ length f.outs.frames
  pub text : HasFrame f.text
  pub runs_len : f.runs.frame_len ≡ page_len
  pub outs_len : f.outs.frame_len ≡ page_len
  pub vertex : f.vertex.room ≡ room_of page_len
  pub body : 13 + f.body.limit ≡ room_of page_len

-- as many frames, of the same length, in a share of the same size
pub record SameShare (old new : ShareView) : Type 0 where
  pub size : new.size ≡ old.size
  pub frame_len : new.frame_len ≡ old.frame_len
  pub frames : length new.frames ≡ length old.frames

-- runs in the same files, of pages of the same length
pub record StillRuns (old new : RunsView) : Type 0 where
  pub file : new.writer.file ≡ old.writer.file
  pub spare : new.spare ≡ old.spare
  pub page_len : new.writer.page_len ≡ old.writer.page_len

-- a reader of the same file, of pages of the same length
pub record StillReader (old new : ReaderView) : Type 0 where
  pub file : new.file ≡ old.file
  pub page_len : new.page_len ≡ old.page_len

-- a frame of the same length, where there was one
abbrev pub SameText : Option (List ℕ) → Option (List ℕ) → Type 0
SameText None new = new ≡ None
SameText (Some old) None = ⊥
SameText (Some old) (Some new) = length new ≡ length old

-- all frames are back in their places
pub record SameLoadFrames (old new : LoadFrames) : Type 0 where
  pub runs : SameShare old.runs new.runs
  pub table : new.table.capacity ≡ old.table.capacity
  pub outs : SameShare old.outs new.outs
  pub text : SameText old.text new.text
  pub vertex : desks.SameRoom old.vertex new.vertex
  pub body : buffer.SameRoom old.body new.body
