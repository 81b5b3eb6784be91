-- Rows that the definitions compute.
use Rattle.std.proofs.Common.{◌≡◌, ℕ, ◌-◌, ◌^◌, List, [], ◌∷◌, ◌++◌, true, false, refl}
use Rattle.px_meaning.specs.Graph.{Vertex, Graph}
use Rattle.px_meaning.specs.Meaning.{meaning, Halted}
use Rattle.px_program.specs.Numbers.{num, number, is_num, lesser_rule, sum_rule}
use Rattle.px_record.specs.Body.{is_vertex_body, vertex_of}
use Rattle.px_programs.specs.Close.{close}
use Rattle.px_programs.specs.Components.{components}
use Rattle.px_programs.specs.PageRank.{pagerank}
use Rattle.px_programs.specs.Prune.{prune}
use Rattle.px_record.specs.Body.{edge_bytes}
use Rattle.px_programs.specs.Entries.{is_entries, merged_entries}
use Rattle.px_programs.specs.Reverse.{reverse}
use Rattle.px_programs.specs.Sssp.{sssp, unreached}

row_lesser : lesser_rule.merge (num 5) (num 2) ≡ 0 ∷ 0 ∷ 0 ∷ 0 ∷ 0 ∷ 0 ∷ 0 ∷ 2 ∷ []
unfolding num number
row_lesser = refl

row_sum : sum_rule.merge (num (2 ^ 64 - 1)) (num 1) ≡ 255 ∷ 255 ∷ 255 ∷ 255 ∷ 255 ∷ 255 ∷ 255 ∷ 255 ∷ []
unfolding num number
row_sum = refl

-- without a value, and awake
abbrev unset : List (ℕ × ℕ) → Vertex
unset edges = record { halt = false; value = []; edges = edges }

abbrev set_to : ℕ → List (ℕ × ℕ) → Vertex
set_to n edges = record { halt = true; value = num n; edges = edges }

-- 1 leads to 2 by a weight of 9, and over 3 by weights of 2 and 4; 4 leads to 1
abbrev weighed : Graph
weighed = (1, unset ((2, 9) ∷ (3, 2) ∷ [])) ∷ (2, unset []) ∷ (3, unset ((2, 4) ∷ [])) ∷ (4, unset ((1, 1) ∷ [])) ∷ []

row_sssp : meaning (sssp 1) 240 weighed 10
    ≡ Halted (record {
      superstep = 3;
      graph = (1, set_to 0 ((2, 9) ∷ (3, 2) ∷ [])) ∷ (2, set_to 6 []) ∷ (3, set_to 2 ((2, 4) ∷ [])) ∷ (4, set_to unreached ((1, 1) ∷ [])) ∷ [];
      sends = [];
      aggregate = 1;
    })
unfolding num number is_num
row_sssp = refl

-- 2 and 5 lead to one another, and 3 to 3
abbrev pairs : Graph
pairs = (2, unset ((5, 1) ∷ [])) ∷ (3, unset ((3, 1) ∷ [])) ∷ (5, unset ((2, 1) ∷ [])) ∷ []

row_components : meaning components 240 pairs 10
    ≡ Halted (record {
      superstep = 3;
      graph = (2, set_to 2 ((5, 1) ∷ [])) ∷ (3, set_to 3 ((3, 1) ∷ [])) ∷ (5, set_to 2 ((2, 1) ∷ [])) ∷ [];
      sends = [];
      aggregate = 0;
    })
unfolding num number is_num
row_components = refl

-- 1 and 2 lead to 3, and 3 to both
abbrev hub : Graph
hub = (1, unset ((3, 1) ∷ [])) ∷ (2, unset ((3, 1) ∷ [])) ∷ (3, unset ((1, 1) ∷ (2, 1) ∷ [])) ∷ []

row_pagerank : meaning (pagerank 1) 240 hub 10
    ≡ Halted (record {
      superstep = 2;
      graph = (1, set_to 191666666666 ((3, 1) ∷ [])) ∷ (2, set_to 191666666666 ((3, 1) ∷ [])) ∷ (3, set_to 616666666666 ((1, 1) ∷ (2, 1) ∷ [])) ∷ [];
      sends = [];
      aggregate = 999999999998;
    })
unfolding num number is_num
row_pagerank = refl

-- with no rounds there is a rank, and nothing is sent
row_no_rounds : meaning (pagerank 0) 240 hub 10
    ≡ Halted (record {
      superstep = 1;
      graph = (1, set_to 333333333333 ((3, 1) ∷ [])) ∷ (2, set_to 333333333333 ((3, 1) ∷ [])) ∷ (3, set_to 333333333333 ((1, 1) ∷ (2, 1) ∷ [])) ∷ [];
      sends = [];
      aggregate = 999999999999;
    })
unfolding num number is_num
row_no_rounds = refl

-- without a value, and halted
abbrev done : List (ℕ × ℕ) → Vertex
done edges = record { halt = true; value = []; edges = edges }

-- 1 leads to 9 twice, and 2 to 1; there is no 9
abbrev open_ended : Graph
open_ended = (1, unset ((9, 1) ∷ (9, 1) ∷ [])) ∷ (2, unset ((1, 1) ∷ [])) ∷ []

row_close : meaning close 240 open_ended 10
    ≡ Halted (record {
      superstep = 2;
      graph = (1, done ((9, 1) ∷ (9, 1) ∷ [])) ∷ (2, done ((1, 1) ∷ [])) ∷ (9, done []) ∷ [];
      sends = [];
      aggregate = 1;
    })
unfolding is_vertex_body vertex_of
row_close = refl

-- 1 leads to 2, and 3 stands alone
abbrev with_lone : Graph
with_lone = (1, unset ((2, 1) ∷ [])) ∷ (2, unset []) ∷ (3, unset []) ∷ []

-- 2 is deleted, and made again by the message of 1
row_prune : meaning prune 240 with_lone 10
    ≡ Halted (record {
      superstep = 2;
      graph = (1, done ((2, 1) ∷ [])) ∷ (2, done []) ∷ [];
      sends = [];
      aggregate = 0;
    })
row_prune = refl

-- 1 leads to 2 by a weight of 5 and to 3, and so does 2
abbrev forward : Graph
forward = (1, unset ((2, 5) ∷ (3, 1) ∷ [])) ∷ (2, unset ((3, 1) ∷ [])) ∷ (3, unset []) ∷ []

row_reverse : meaning reverse 240 forward 10
    ≡ Halted (record {
      superstep = 2;
      graph = (1, done []) ∷ (2, done ((1, 5) ∷ [])) ∷ (3, done ((1, 1) ∷ (2, 1) ∷ [])) ∷ [];
      sends = [];
      aggregate = 3;
    })
unfolding is_entries merged_entries
row_reverse = refl

row_entries : merged_entries (edge_bytes (2, 1)) (edge_bytes (1, 1)) ≡ edge_bytes (1, 1) ++ edge_bytes (2, 1)
unfolding merged_entries
row_entries = refl
