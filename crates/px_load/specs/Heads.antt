-- The files of the partitions, each with the vid of its next vertex, are read side by side.
use Rattle.std.specs.Prelude.{◌≡◌, ◌≤◌, ◌+◌, ℕ, List, [], ◌∷◌, length, map, slice_get, Option, Some, None}
use Rattle.px_core.specs.Parts.{to_part}
use Rattle.px_core.specs.Shown.{Shown}
use Rattle.px_meaning.specs.Graph.{Graph, Vertex}
use Rattle.px_stream.specs.Counts.{left}
use Rattle.px_stream.specs.Stream.{ToGive}
use Rattle.px_stream.specs.Views.{ReaderView}
use Rattle.px_load.specs.Scanning.{Spelled}
use Rattle.px_load.specs.declared.heads.PartReader.{PartReader}

-- the vid of the first vertex
abbrev pub first_vid : Graph → Option ℕ
first_vid [] = None
first_vid (e ∷ l) = Some e.0

-- there is a reader, of which this holds
abbrev pub OfReader : (ReaderView → Type 0) → Option ReaderView → Type 0
OfReader P None = ⊥
OfReader P (Some r) = P r

-- it reads this file, in pages of this length
pub record ReadsPart (file len : ℕ) (r : ReaderView) : Type 0 where
  pub file_is : r.file ≡ file
  pub page_len : r.page_len ≡ len

-- what is read has still to give these vertices
abbrev pub GivesVertices : Shown → ℕ → PartReader → Graph → Type 0
GivesVertices s room p l = OfReader (λ r. Spelled room (ToGive s r) l) p.reader

-- and the vid of the next is known
pub record IsLooked (s : Shown) (room : ℕ) (p : PartReader) (l : Graph) : Type 0 where
  pub gives : GivesVertices s room p l
  pub head : p.head ≡ first_vid l

-- each is to give its partition's part of a graph
abbrev pub GiveParts : Shown → ℕ → List PartReader → Graph → Type 0
GiveParts s room ps g = (q : ℕ) (p : PartReader) → slice_get ps q ≡ Some p → GivesVertices s room p (to_part (length ps) q g)

-- and of each the vid of the next is known
abbrev pub AreLooked : Shown → ℕ → List PartReader → Graph → Type 0
AreLooked s room ps g = (q : ℕ) (p : PartReader) → slice_get ps q ≡ Some p → IsLooked s room p (to_part (length ps) q g)

-- the heads of all
abbrev pub heads_of : List PartReader → List (Option ℕ)
heads_of ps = map (λ (p : PartReader). p.head) ps

-- each has come to its end
abbrev pub AllOver : List (Option ℕ) → Type 0
AllOver [] = Unit {0}
AllOver (None ∷ os) = AllOver os
AllOver (Some v ∷ os) = ⊥

-- no head is below this vid
abbrev pub NoneBefore : ℕ → List (Option ℕ) → Type 0
NoneBefore k [] = Unit {0}
NoneBefore k (None ∷ os) = NoneBefore k os
NoneBefore k (Some v ∷ os) = (k ≤ v) × NoneBefore k os

-- the first vertex is this one, and this holds of the others
pub record Begins (l : Graph) (v : ℕ) (x : Vertex) (After : Graph → Type 0) : Type 0 where
  pub rest : Graph
  pub is : l ≡ (v, x) ∷ rest
  pub after : After rest

-- the most vertices that are left, over any disk
abbrev pub left_in : Option ReaderView → ℕ
left_in None = 0
left_in (Some r) = left r

abbrev pub all_left : List PartReader → ℕ
all_left [] = 0
all_left (p ∷ ps) = left_in p.reader + all_left ps

-- each reads the file of its partition, in pages of this length
abbrev pub AreReaders : ℕ → List PartReader → Type 0
AreReaders len ps = (q : ℕ) (p : PartReader) → slice_get ps q ≡ Some p → OfReader (ReadsPart (192 + q) len) p.reader
