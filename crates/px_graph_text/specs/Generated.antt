-- A graph text that is made from a seed, by the words of a generator.
use Rattle.std.specs.Prelude.{ℕ, zero, suc, ◌+◌, ◌%◌, List, [], ◌++◌, codes, decimal}
use Rattle.rand_pcg.specs.Lcg.{Lcg}
use Rattle.rand_pcg.specs.Pcg.{pcg32}
use Rattle.px_core.specs.Seeded.{seeded}
use Rattle.px_meaning.specs.OutputText.{edge_text}

-- the word that a generator gives, and the generator after it
unfoldable pub word : Lcg → ℕ
word g = (pcg32 g).0

unfoldable pub after : Lcg → Lcg
after g = (pcg32 g).1

-- an edge of a graph of n vertices takes two words: one for its target, and one for its weight, which is from 1 to 100
abbrev pub next_edge : ℕ → Lcg → ℕ × ℕ
next_edge n g = (word g % n, 1 + word (after g) % 100)

abbrev pub after_edge : Lcg → Lcg
after_edge g = after (after g)

-- so many edges
abbrev pub next_edges : ℕ → ℕ → Lcg → List ℕ
next_edges n zero g = []
next_edges n (suc k) g = edge_text (next_edge n g) ++ next_edges n k (after_edge g)

abbrev pub after_edges : ℕ → Lcg → Lcg
after_edges zero g = g
after_edges (suc k) g = after_edges k (after_edge g)

-- a vertex takes one word for the number of its edges, which is from 0 to 3, and then theirs
unfoldable pub next_line : ℕ → ℕ → Lcg → List ℕ
next_line n vid g = decimal vid ++ next_edges n (word g % 4) (after g) ++ codes "\n"

unfoldable pub after_line : Lcg → Lcg
after_line g = after_edges (word g % 4) (after g)

-- the lines of so many vertices with consecutive vids, the first of which is given
abbrev pub next_lines : ℕ → ℕ → ℕ → Lcg → List ℕ
next_lines n zero vid g = []
next_lines n (suc k) vid g = next_line n vid g ++ next_lines n k (suc vid) (after_line g)

-- the text of n vertices with the vids below n
abbrev pub generated : ℕ → ℕ → List ℕ
generated seed n = next_lines n n 0 (seeded seed)
