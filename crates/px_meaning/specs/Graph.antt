-- Vertices, and maps from vids. A map is a list of pairs with ascending, different keys, so that everything computes.
use Rattle.std.specs.Prelude.{ℕ, ◌+◌, ◌*◌, ◌/◌, ◌-◌, ◌<◌, Bool, false, not, if◌then◌else◌, nat_lt, ◌==◌, List, [], ◌∷◌, map, filter, length, Option, Some, None}

-- halt, a value of bytes, and edges as pairs of a target and a weight
pub record Vertex : Type 0 where
  pub halt : Bool
  pub value : List ℕ
  pub edges : List (ℕ × ℕ)

abbrev pub Graph : Type 0
Graph = List (ℕ × Vertex)

-- what a program sees where there is no vertex
abbrev pub fresh : Vertex
fresh = record { halt = false; value = []; edges = [] }

abbrev pub vertex_or_fresh : Option Vertex → Vertex
vertex_or_fresh (Some x) = x
vertex_or_fresh None = fresh

-- the size of a vertex with so many bytes of value and so many edges
abbrev pub size_of : ℕ → ℕ → ℕ
size_of value edges = 22 + value + 12 * edges

abbrev pub vertex_size : Vertex → ℕ
vertex_size x = size_of (length x.value) (length x.edges)

-- the bytes of what is stored in a page before its body
abbrev pub front_len : ℕ
front_len = 13

-- the size of a message with this payload, and of a request with this verdict
abbrev pub pair_size : List ℕ → ℕ
pair_size bytes = front_len + length bytes

-- nothing of a greater size is stored, where frames have so many bytes
abbrev pub room_of : ℕ → ℕ
room_of frame_bytes = frame_bytes / 2 - 16

-- what a map has at a key
abbrev pub lookup : {X : Type 0} → ℕ → List (ℕ × X) → Option X
lookup k [] = None
lookup k (e ∷ es) = if k == e.0 then Some e.1 else lookup k es

-- the map with this value at the key, and the same elsewhere
abbrev pub put : {X : Type 0} → ℕ → X → List (ℕ × X) → List (ℕ × X)
put k x [] = (k, x) ∷ []
put k x (e ∷ es) = if nat_lt k e.0 then (k, x) ∷ e ∷ es else if k == e.0 then (k, x) ∷ es else e ∷ put k x es

-- the map without the key
abbrev pub delete : {X : Type 0} → ℕ → List (ℕ × X) → List (ℕ × X)
delete k es = filter (λ e. not (k == e.0)) es

-- the keys of pairs, as often as they stand there
abbrev pub vids : {X : Type 0} → List (ℕ × X) → List ℕ
vids es = map (λ e. e.0) es

-- ascending numbers with one more among them
abbrev pub place : ℕ → List ℕ → List ℕ
place k [] = k ∷ []
place k (n ∷ ns) = if nat_lt k n then k ∷ n ∷ ns else if k == n then n ∷ ns else n ∷ place k ns

-- the numbers of a list, ascending, each once
abbrev pub ascending : List ℕ → List ℕ
ascending [] = []
ascending (n ∷ ns) = place n (ascending ns)

-- every number is above the bound
abbrev pub AllAbove : ℕ → List ℕ → Type 0
AllAbove bound [] = Unit {0}
AllAbove bound (n ∷ ns) = (bound < n) × AllAbove bound ns

-- each number is below all later ones
abbrev pub IsAscending : List ℕ → Type 0
IsAscending [] = Unit {0}
IsAscending (n ∷ ns) = AllAbove n ns × IsAscending ns

-- pairs that are a map
abbrev pub IsMap : {X : Type 0} → List (ℕ × X) → Type 0
IsMap es = IsAscending (vids es)
