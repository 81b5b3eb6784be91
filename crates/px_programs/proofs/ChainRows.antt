-- Rows of chains that the definitions compute.
use Rattle.std.proofs.Common.{◌≡◌, ℕ, List, [], ◌∷◌, ◌++◌, true, false, refl}
use Rattle.px_meaning.specs.Graph.{Vertex}
use Rattle.px_meaning.specs.Meaning.{meaning, Halted}
use Rattle.px_program.specs.Numbers.{num, number}
use Rattle.px_programs.specs.ChainMessages.{note, said_in, chain_rule}
use Rattle.px_programs.specs.Chains.{chains}

row_note : note true 5 ≡ 1 ∷ 1 ∷ 0 ∷ 0 ∷ 0 ∷ 0 ∷ 0 ∷ 0 ∷ 0 ∷ 5 ∷ []
unfolding num
row_note = refl

row_many : chain_rule.merge (note true 5) (note false 6) ≡ 2 ∷ 0 ∷ 0 ∷ 0 ∷ 0 ∷ 0 ∷ 0 ∷ 0 ∷ 0 ∷ 0 ∷ []
row_many = refl

abbrev bare : List (ℕ × ℕ) → Vertex
bare edges = record { halt = false; value = []; edges = edges }

abbrev done : ℕ → List ℕ → List (ℕ × ℕ) → Vertex
done state vids edges = record { halt = true; value = state ∷ vids; edges = edges }

-- 1 leads to 2, and 2 to 3
row_path : meaning chains 240 ((1, bare ((2, 1) ∷ [])) ∷ (2, bare ((3, 1) ∷ [])) ∷ (3, bare []) ∷ []) 10
    ≡ Halted (record {
      superstep = 6;
      graph = (1, done 2 (num 1 ++ num 2 ++ num 3) []) ∷ [];
      sends = [];
      aggregate = 1;
    })
unfolding num number said_in
row_path = refl

-- 1 and 2 lead to one another
row_cycle : meaning chains 240 ((1, bare ((2, 1) ∷ [])) ∷ (2, bare ((1, 1) ∷ [])) ∷ []) 10
    ≡ Halted (record {
      superstep = 2;
      graph = (1, done 1 (num 1) ((2, 1) ∷ [])) ∷ (2, done 1 (num 2) ((1, 1) ∷ [])) ∷ [];
      sends = [];
      aggregate = 0;
    })
unfolding num number said_in
row_cycle = refl

-- 3 leads into their cycle
row_into_cycle : meaning chains 240 ((1, bare ((2, 1) ∷ [])) ∷ (2, bare ((1, 1) ∷ [])) ∷ (3, bare ((1, 1) ∷ [])) ∷ []) 10
    ≡ Halted (record {
      superstep = 5;
      graph = (1, done 2 (num 1 ++ num 2) ((1, 1) ∷ [])) ∷ (3, done 2 (num 3) ((1, 1) ∷ [])) ∷ [];
      sends = [];
      aggregate = 0;
    })
unfolding num number said_in
row_into_cycle = refl
