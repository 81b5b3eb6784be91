-- One superstep: which vids are active, what they compute, what the requests do to the graph, and when the step is beyond the limits.
use Rattle.std.specs.Prelude.{ℕ, suc, ◌^◌, Bool, false, not, ◌||◌, if◌then◌else◌, nat_lt, List, ◌++◌, map, filter, fold, flat_map, length, Option, Some, None, is_some}
use Rattle.std.specs.List.{list_any}
use Rattle.px_meaning.specs.Graph.{Vertex, Graph, vertex_size, pair_size, lookup, put, delete, ascending, vids}
use Rattle.px_meaning.specs.Merge.{MergeRule, Pairs, inbox, grouped}
use Rattle.px_meaning.specs.Program.{ProgramMeaning, Moment, Row, Out, Settlement, Keeps, Sets, Removes}

-- the superstep's number, the graph, what was sent in the superstep before, and what was contributed there
pub record State : Type 0 where
  pub superstep : ℕ
  pub graph : Graph
  pub sends : Pairs
  pub aggregate : ℕ

abbrev pub moment : State → Moment
moment s = record { superstep = s.superstep; aggregate = s.aggregate; count = length s.graph }

-- a vertex that has not voted to halt
abbrev pub is_awake : Option Vertex → Bool
is_awake (Some x) = not x.halt
is_awake None = false

-- a vid takes part where its vertex is awake or a message is there
abbrev pub is_active : Row → Bool
is_active row = is_awake row.vertex || is_some row.message

abbrev pub row_at : ProgramMeaning → State → ℕ → Row
row_at p s v = record { vid = v; vertex = lookup v s.graph; message = inbox p.message s.sends v }

-- the active vids, ascending, each with its vertex or none and its message or none
abbrev pub rows : ProgramMeaning → State → List Row
rows p s = filter is_active (map (row_at p s) (ascending (vids s.graph ++ vids s.sends)))

-- each row's vid with what the row answers
abbrev pub outs : ProgramMeaning → Moment → List Row → List (ℕ × Out)
outs p at rows = map (λ row. (row.vid, p.out_of at row)) rows

-- what a superstep computes of its rows, before the requests are settled: the new vertices, and all that was sent, requested and contributed, in vid order
pub record Computed : Type 0 where
  pub changes : List (ℕ × Vertex)
  pub sends : Pairs
  pub requests : Pairs
  pub contributions : List ℕ

abbrev pub computed : ProgramMeaning → Moment → List Row → Computed
computed p at rows =
    let answers = outs p at rows in record {
      changes = map (λ o. (o.0, o.1.vertex)) answers;
      sends = flat_map (λ o. o.1.sends) answers;
      requests = flat_map (λ o. o.1.requests) answers;
      contributions = flat_map (λ o. o.1.contributions) answers;
    }

-- a graph with these vertices put into it
abbrev pub put_all : Graph → List (ℕ × Vertex) → Graph
put_all graph changes = fold (λ g e. put e.0 e.1 g) graph changes

-- what a settlement does to a vid
abbrev pub settle : ℕ → Settlement → Graph → Graph
settle v Keeps graph = graph
settle v (Sets x) graph = put v x graph
settle v Removes graph = delete v graph

-- the graph after the requests, each vid's verdicts folded to one
abbrev pub settled : ProgramMeaning → Graph → Pairs → Graph
settled p graph requests =
    fold (λ g e. settle e.0 (p.settle_of e.0 (lookup e.0 g) e.1) g) graph (grouped p.verdict requests)

-- the limits

-- no vertex may be wider than room
abbrev pub is_wide : ℕ → Vertex → Bool
is_wide room x = nat_lt room (vertex_size x)

abbrev pub has_wide_vertex : ℕ → Graph → Bool
has_wide_vertex room graph = list_any (λ e. is_wide room e.1) graph

-- no vid's fold may be wider than room
abbrev pub has_wide_fold : MergeRule → ℕ → Pairs → Bool
has_wide_fold rule room pairs = list_any (λ e. nat_lt room (pair_size e.1)) (grouped rule pairs)

-- a step has at most so many sends, and so many requests
abbrev pub has_many_pairs : Pairs → Bool
has_many_pairs pairs = nat_lt (2 ^ 40) (length pairs)

-- and leaves at most so many vertices
abbrev pub has_many_vertices : Graph → Bool
has_many_vertices graph = nat_lt (2 ^ 32) (length graph)

-- pairs that no step may make
abbrev pub are_beyond : MergeRule → ℕ → Pairs → Bool
are_beyond rule room pairs = has_wide_fold rule room pairs || has_many_pairs pairs

-- a step is beyond the limits by a vertex before or after the requests, by a vid's sends or requests, by the number of vertices, or by the number of sends or requests
abbrev pub is_beyond : ProgramMeaning → ℕ → Graph → Graph → Pairs → Pairs → Bool
is_beyond p room before after sends requests =
    has_wide_vertex room before
    || has_wide_vertex room after
    || are_beyond p.message room sends
    || are_beyond p.verdict room requests
    || has_many_vertices after

-- the next state, or none where the step is beyond
abbrev pub step : ProgramMeaning → ℕ → State → Option State
step p room s =
    let c = computed p (moment s) (rows p s) in
    let before = put_all s.graph c.changes in
    let after = settled p before c.requests in
    if is_beyond p room before after c.sends c.requests then None
    else Some (record { superstep = suc s.superstep; graph = after; sends = c.sends; aggregate = fold p.join p.unit c.contributions })
