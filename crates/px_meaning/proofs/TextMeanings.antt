-- What a text means, by its offence and its vertices.
use Rattle.std.proofs.Common.{◌≡◌, ℕ, List, Option, Some, None, refl}
use Rattle.px_meaning.specs.Graph.{Vertex, Graph}
use Rattle.px_meaning.specs.GraphText.{TextMeaning, Bad, Twice, Good, Offence, offence, lines_of, vertices_given, graph_given, graph_of}

-- a graph, or the least vid that is repeated
abbrev pub sorted_as : Graph → Option ℕ → TextMeaning
sorted_as g None = Good g
sorted_as g (Some v) = Twice v

pub sorted_is : (g : Graph) (o : Option ℕ) → elim o as (λ _. TextMeaning) [ Some v ↦ Twice v | None ↦ Good g ] ≡ sorted_as g o
sorted_is g None = refl
sorted_is g (Some v) = refl

-- a text with this offence, or with none and these vertices
abbrev pub meant : Option Offence → List (ℕ × Vertex) → TextMeaning
meant (Some o) vs = Bad o.line o.kind
meant None vs = graph_given vs

meant_is : (o : Option Offence) (vs : List (ℕ × Vertex)) → elim o as (λ _. TextMeaning) [ Some o ↦ Bad o.line o.kind | None ↦ graph_given vs ] ≡ meant o vs
meant_is None vs = refl
meant_is (Some o) vs = refl

pub text_is_meant : (text : List ℕ) (room limit : ℕ) → graph_of text room limit ≡ meant (offence room limit text) (vertices_given room (lines_of text))
text_is_meant text room limit = meant_is (offence room limit text) (vertices_given room (lines_of text))
