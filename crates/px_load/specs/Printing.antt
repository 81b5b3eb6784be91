-- How far a text was printed.
use Rattle.std.specs.Prelude.{◌≡◌, ◌++◌, ℕ, Bool, true, false, List, [], ◌∷◌, flat_map}
use Rattle.px_global_state.specs.declared.gs.Gs.{Gs}
use Rattle.px_meaning.specs.Graph.{Graph, Vertex}
use Rattle.px_meaning.specs.OutputText.{vertex_line, summary_line}
use Rattle.px_meaning.specs.Program.{ProgramMeaning}

-- the text of these vertices, with a last line of these numbers
abbrev pub written_text : ProgramMeaning → Gs → Graph → List ℕ
written_text p gs g = flat_map (vertex_line p) g ++ summary_line gs.superstep gs.aggregate gs.count

-- the first vertex was printed, and this holds of the others; or there is none
abbrev pub NextPrinted : (ℕ × Vertex → List ℕ) → Bool → Graph → (Graph → Type 0) → (List ℕ → Type 0) → Type 0
NextPrinted line false g After Prints = (g ≡ []) × Prints []
NextPrinted line true g After Prints = (e : ℕ × Vertex) × (rest : Graph) × (g ≡ e ∷ rest) × After rest × Prints (line e)
