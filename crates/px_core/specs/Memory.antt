-- What a source and a sink in memory hold, and which calls of a device in memory fail.
use Rattle.std.specs.Prelude.{◌≡◌, ℕ, List, Contains}
use Rattle.px_core.specs.Counts.{bumped}

pub record ScriptView : Type 0 where
  -- the numbers of the calls that fail, from 1
  pub fails : List ℕ
  -- the calls, and those that failed
  pub calls : ℕ
  pub faults : ℕ

pub record SourceView : Type 0 where
  -- the bytes left
  pub left : List ℕ
  -- the numbers of the calls that fail, from 1
  pub fails : List ℕ
  pub calls : ℕ
  pub faults : ℕ

pub record SinkView : Type 0 where
  -- the bytes held, of which there are never more than `most`
  pub held : List ℕ
  pub most : ℕ
  -- the numbers of the calls that fail, from 1
  pub fails : List ℕ
  pub calls : ℕ
  pub faults : ℕ

-- these bytes are left
abbrev pub IsLeft : SourceView → List ℕ → Type 0
IsLeft source bytes = bytes ≡ source.left

-- these bytes are held
abbrev pub IsHeld : SinkView → List ℕ → Type 0
IsHeld sink bytes = bytes ≡ sink.held

-- the next call is one of those that fail
abbrev pub NextFails : List ℕ → ℕ → Type 0
NextFails fails calls = Contains fails (bumped calls)
