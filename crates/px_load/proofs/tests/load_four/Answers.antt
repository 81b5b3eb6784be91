use Rattle.std.proofs.Common.{◌≡◌, ◌∙◌, ℕ, List, [], ◌∷◌, length, ap, refl, subst}
use Rattle.std.specs.Prelude.{codes, false}
use Rattle.px_meaning.specs.Graph.{Graph, Vertex, room_of}
use Rattle.px_meaning.specs.GraphText.{graph_of}
use Rattle.px_load.specs.Loading.{IsLoaded}
use Rattle.px_load.proofs.LoadingSteps.{good_same}
use Rattle.px_load.proofs.tests.load_four.Goals as goal

abbrev to : List (ℕ × ℕ) → Vertex
to edges = record { halt = false; value = []; edges = edges }

abbrev text : List ℕ
text = codes "4 1\n1 2\n3\n2 3\n"

abbrev four : Graph
four = (1, to ((2, 1) ∷ [])) ∷ (2, to ((3, 1) ∷ [])) ∷ (3, to []) ∷ (4, to ((1, 1) ∷ [])) ∷ []

are_four : {X : Type 0} (holding : X → Graph → Type 0) (stores : List X) (n : ℕ) → IsLoaded (graph_of text (room_of 256) 1000) holding stores n → n ≡ 4
are_four holding stores n h = h.counted ∙ ap length (good_same (graph_of text (room_of 256) 1000) four h.graph refl h.good)

loaded_four : {X : Type 0} (holding : X → Graph → Type 0) (stores : List X) (n len : ℕ) → len ≡ 256 → IsLoaded (graph_of text (room_of len) 1000) holding stores n → n ≡ 4
loaded_four holding stores n len is h = are_four holding stores n (subst (λ (k : ℕ). IsLoaded (graph_of text (room_of k) 1000) holding stores n) is h)

pub returns : goal.returns
returns g c = loaded_four _ _ c.in_ok-count.count _ c.requires.len (c.in_ok-count.ensures.loaded text c.requires.text c.requires.tells)
