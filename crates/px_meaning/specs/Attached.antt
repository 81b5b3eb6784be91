-- Messages given to the rows of a graph, where both ascend.
use Rattle.std.specs.Prelude.{ℕ, if◌then◌else◌, nat_lt, ◌==◌, List, [], ◌∷◌, ◌++◌, map, Option, Some, None}
use Rattle.px_meaning.specs.Graph.{Vertex, Graph, lookup, ascending, vids}
use Rattle.px_meaning.specs.Merge.{Pairs}
use Rattle.px_meaning.specs.Program.{Row}

-- the row of a vertex without a message
abbrev pub plain_row : ℕ × Vertex → Row
plain_row e = record { vid = e.0; vertex = Some e.1; message = None }

-- a row for each vertex of a graph, without messages
abbrev pub plain : Graph → List Row
plain graph = map plain_row graph

-- the row of a message to a vid without a vertex
abbrev pub fresh_row : ℕ × List ℕ → Row
fresh_row e = record { vid = e.0; vertex = None; message = Some e.1 }

-- the first messages, as far as their vids are below this one
abbrev pub below : ℕ → Pairs → Pairs
below v [] = []
below v (e ∷ es) = if nat_lt e.0 v then e ∷ below v es else []

-- and those that follow
abbrev pub not_below : ℕ → Pairs → Pairs
not_below v [] = []
not_below v (e ∷ es) = if nat_lt e.0 v then not_below v es else e ∷ es

-- the first message, if it is to this vid
abbrev pub first_at : ℕ → Pairs → Option (List ℕ)
first_at v [] = None
first_at v (e ∷ es) = if e.0 == v then Some e.1 else None

-- and those that follow it
abbrev pub past : ℕ → Pairs → Pairs
past v [] = []
past v (e ∷ es) = if e.0 == v then es else e ∷ es

-- each message at the row of its vid, or in a row of its own
abbrev pub attached : List Row → Pairs → List Row
attached [] messages = map fresh_row messages
attached (row ∷ rows) messages =
    map fresh_row (below row.vid messages)
    ++ (record row { message = first_at row.vid (not_below row.vid messages) }) ∷ attached rows (past row.vid (not_below row.vid messages))

-- each vid that a graph or messages name, ascending, with its vertex or none and its message or none
abbrev pub joined : Graph → Pairs → List Row
joined graph messages = map (λ v. record { vid = v; vertex = lookup v graph; message = lookup v messages }) (ascending (vids graph ++ vids messages))
