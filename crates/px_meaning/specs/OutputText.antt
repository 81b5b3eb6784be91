-- The text that a run writes: a line for each vertex, ascending by vid, and a last line.
use Rattle.std.specs.Prelude.{ℕ, List, ◌++◌, length, codes, decimal}
use Rattle.std.specs.Prelude.{flat_map}
use Rattle.px_meaning.specs.Graph.{Vertex}
use Rattle.px_meaning.specs.Program.{ProgramMeaning}
use Rattle.px_meaning.specs.Step.{State}

-- a space, the target, `:` and the weight
abbrev pub edge_text : ℕ × ℕ → List ℕ
edge_text e = codes " " ++ decimal e.0 ++ codes ":" ++ decimal e.1

-- the vid, a space, the value, then the edges in their order, and LF
abbrev pub vertex_line : ProgramMeaning → ℕ × Vertex → List ℕ
vertex_line p e = decimal e.0 ++ codes " " ++ p.value_text e.1 ++ flat_map edge_text e.1.edges ++ codes "\n"

-- the last line: the superstep's number, the aggregate and the number of vertices, and LF
abbrev pub summary_line : ℕ → ℕ → ℕ → List ℕ
summary_line superstep aggregate count =
    codes "#superstep " ++ decimal superstep ++ codes " aggregate " ++ decimal aggregate ++ codes " vertices " ++ decimal count ++ codes "\n"

abbrev pub summary_of : State → List ℕ
summary_of s = summary_line s.superstep s.aggregate (length s.graph)

abbrev pub text_of : ProgramMeaning → State → List ℕ
text_of p s = flat_map (vertex_line p) s.graph ++ summary_of s
