-- What is sent or requested along edges.
use Rattle.std.specs.Prelude.{◌≡◌, ℕ, List, ◌++◌, map, take}
use Rattle.px_meaning.specs.Merge.{Pairs}
use Rattle.px_program.specs.Numbers.{num}
use Rattle.px_program.specs.Posted.{Posted}
use Rattle.px_program.specs.Saturating.{saturating_sum}
use Rattle.px_record.specs.Body.{edge_bytes}

-- to each edge's target what the edge gives, in order
abbrev pub sent_by : (ℕ × ℕ → List ℕ) → List (ℕ × ℕ) → Pairs
sent_by payload edges = map (λ e. (e.0, payload e)) edges

-- the same to each
abbrev pub along : List ℕ → List (ℕ × ℕ) → Pairs
along payload edges = sent_by (λ e. payload) edges

-- the distance over an edge to its target
abbrev pub over : ℕ → ℕ × ℕ → List ℕ
over d e = num (saturating_sum d e.1)

-- to each edge's target the distance to it
abbrev pub distances : ℕ → List (ℕ × ℕ) → Pairs
distances d edges = sent_by (over d) edges

-- the edge back from an edge's target, as the bytes of an edge
abbrev pub back : ℕ → ℕ × ℕ → List ℕ
back vid e = edge_bytes (vid, e.1)

-- to each edge's target the edge back
abbrev pub backs : ℕ → List (ℕ × ℕ) → Pairs
backs vid edges = sent_by (back vid) edges

abbrev pub with_sends : Pairs → Posted → Posted
with_sends sends p = record p { sends = p.sends ++ sends }

abbrev pub with_requests : Pairs → Posted → Posted
with_requests requests p = record p { requests = p.requests ++ requests }

-- some of the pairs were added, from the first on
abbrev pub PairsPart : (Pairs → Posted → Posted) → Pairs → Posted → Posted → Type 0
PairsPart add pairs old made = (n : ℕ) × (made ≡ add (take n pairs) old)

abbrev pub SendsPart : Pairs → Posted → Posted → Type 0
SendsPart = PairsPart with_sends

abbrev pub RequestsPart : Pairs → Posted → Posted → Type 0
RequestsPart = PairsPart with_requests
