-- Vertices as the tuples of a file, and how far a store was scanned.
use Rattle.std.specs.Prelude.{◌≡◌, ◌<◌, ◌+◌, ◌++◌, ℕ, List, slice_index_or}
use Rattle.px_core.specs.Parts.{to_part}
use Rattle.px_core.specs.Shown.{Shown}
use Rattle.px_meaning.specs.Graph.{Graph}
use Rattle.px_meaning.specs.Merge.{Pairs}
use Rattle.px_pages.specs.Entry.{Entry}
use Rattle.px_stream.specs.Stream.{Holds}
use Rattle.px_load.specs.Held.{tuples}
use Rattle.px_load.specs.Reading.{vertices_of, AllBodies}

-- this holds of tuples that spell the vertices, each within room
pub record Spelled (room : ℕ) (OfTuples : List Entry → Type 0) (l : Graph) : Type 0 where
  pub pairs : Pairs
  pub bodies : AllBodies room pairs
  pub is : vertices_of pairs ≡ l
  pub of : OfTuples (tuples pairs)

-- a file of so many pages holds these vertices
abbrev pub HoldsVertices : Shown → ℕ → ℕ → ℕ → Graph → Type 0
HoldsVertices s room file pages l = Spelled room (Holds s file pages) l

-- the first files hold the parts of a graph
pub record HoldFiles (s : Shown) (room parts upto : ℕ) (pages : List ℕ) (g : Graph) : Type 0 where
  pub each : (q : ℕ) → q < upto → HoldsVertices s room (192 + q) (slice_index_or pages q 0) (to_part parts q g)

-- a store gave the first vertices since it was rewound, and will give the others, and the first were put
pub record Scans (Gives : Graph → Graph → Type 0) (Puts : List Entry → Type 0) (room : ℕ) (l : Graph) : Type 0 where
  pub done : Graph
  pub rest : Graph
  pub is : l ≡ done ++ rest
  pub gives : Gives done rest
  pub puts : Spelled room Puts done
