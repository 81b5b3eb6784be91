-- Worked runs, which the definitions compute.
use Rattle.std.proofs.Common.{◌≡◌, ℕ, zero, suc, ◌++◌, ◌+◌, Bool, true, false, List, [], ◌∷◌, map, length, Option, Some, None, refl}
use Rattle.std.specs.Prelude.{◌==◌, if◌then◌else◌, codes}
use Rattle.std.specs.Fmt.{digits}
use Rattle.px_meaning.specs.Graph.{Vertex, vertex_or_fresh}
use Rattle.px_meaning.specs.Merge.{MergeRule}
use Rattle.px_meaning.specs.Program.{ProgramMeaning, Moment, Row, Out, Settlement, Keeps, Sets, Removes}
use Rattle.px_meaning.specs.Meaning.{meaning, Halted, Limit, Beyond}
use Rattle.px_meaning.specs.OutputText.{text_of}

abbrev is_empty : List ℕ → Bool
is_empty [] = true
is_empty (b ∷ bs) = false

-- the empty message
abbrev empty_rule : MergeRule
empty_rule = record { valid = is_empty; merge = λ a b. [] }

abbrev is_one : List ℕ → Bool
is_one [] = false
is_one (b ∷ bs) = b == 1

abbrev digit_text : Vertex → List ℕ
digit_text x = map (λ b. b + 48) x.value

abbrev halting : Vertex → Vertex
halting x = record x { halt = true }

-- the value is one byte, and the vertex halts
abbrev marked : ℕ → Vertex → Vertex
marked b x = record { halt = true; value = b ∷ []; edges = x.edges }

-- marks what is reached from a vid
abbrev reach_out : ℕ → Moment → Row → Out
reach_out from at row =
    let x = vertex_or_fresh row.vertex in
    let reached : Out = record { vertex = marked 1 x; sends = map (λ e. (e.0, [])) x.edges; requests = []; contributions = 1 ∷ [] } in
    if at.superstep == 0
    then (if row.vid == from then reached else record { vertex = marked 0 x; sends = []; requests = []; contributions = [] })
    else (if is_one x.value then record { vertex = halting x; sends = []; requests = []; contributions = [] } else reached)

abbrev reach : ℕ → ProgramMeaning
reach from = record {
  out_of = reach_out from;
  settle_of = λ v x verdict. Keeps;
  message = empty_rule;
  verdict = empty_rule;
  unit = 0;
  join = λ a b. a + b;
  value_text = digit_text;
}

-- each vertex sends one byte along each edge in superstep 0; the payloads to a vid are joined end to end
abbrev gather_out : Moment → Row → Out
gather_out at row =
    let x = vertex_or_fresh row.vertex in
    record { vertex = halting x; sends = if at.superstep == 0 then map (λ e. (e.0, 7 ∷ [])) x.edges else []; requests = []; contributions = [] }

abbrev gather : ProgramMeaning
gather = record {
  out_of = gather_out;
  settle_of = λ v x verdict. Keeps;
  message = record { valid = λ a. true; merge = λ a b. a ++ b };
  verdict = empty_rule;
  unit = 0;
  join = λ a b. a + b;
  value_text = digit_text;
}

-- a vertex without edges asks for its own removal; every other vertex sends along its edges
abbrev prune_out : Moment → Row → Out
prune_out at row =
    let x = vertex_or_fresh row.vertex in
    if at.superstep == 0
    then (if length x.edges == 0
    then record { vertex = halting x; sends = []; requests = (row.vid, []) ∷ []; contributions = 1 ∷ [] }
    else record { vertex = halting x; sends = map (λ e. (e.0, [])) x.edges; requests = []; contributions = [] })
    else record { vertex = halting x; sends = []; requests = []; contributions = [] }

abbrev prune : ProgramMeaning
prune = record {
  out_of = prune_out;
  settle_of = λ v x verdict. Removes;
  message = empty_rule;
  verdict = empty_rule;
  unit = 0;
  join = λ a b. a + b;
  value_text = digit_text;
}

-- each vertex asks for a live vertex at the end of each edge
abbrev close_out : Moment → Row → Out
close_out at row =
    let x = vertex_or_fresh row.vertex in
    if at.superstep == 0
    then record { vertex = halting x; sends = []; requests = map (λ e. (e.0, [])) x.edges; contributions = [] }
    else record { vertex = halting x; sends = []; requests = []; contributions = 1 ∷ [] }

abbrev add_missing : Option Vertex → Settlement
add_missing (Some x) = Keeps
add_missing None = Sets (record { halt = false; value = []; edges = [] })

abbrev close : ProgramMeaning
close = record {
  out_of = close_out;
  settle_of = λ v x verdict. add_missing x;
  message = empty_rule;
  verdict = empty_rule;
  unit = 0;
  join = λ a b. a + b;
  value_text = digit_text;
}

abbrev live : List (ℕ × ℕ) → Vertex
live edges = record { halt = false; value = []; edges = edges }

abbrev halted : List ℕ → List (ℕ × ℕ) → Vertex
halted value edges = record { halt = true; value = value; edges = edges }

-- 1 leads to 2, 2 to 3, and 4 to 1: 4 is not reached
four_vertices : meaning (reach 1) 112 ((1, live ((2, 1) ∷ [])) ∷ (2, live ((3, 1) ∷ [])) ∷ (3, live []) ∷ (4, live ((1, 1) ∷ [])) ∷ []) 10
    ≡ Halted (record { superstep = 3; graph = (1, halted (1 ∷ []) ((2, 1) ∷ [])) ∷ (2, halted (1 ∷ []) ((3, 1) ∷ [])) ∷ (3, halted (1 ∷ []) []) ∷ (4, halted (0 ∷ []) ((1, 1) ∷ [])) ∷ []; sends = []; aggregate = 1 })
four_vertices = refl

-- a message makes vertex 9
made_by_a_message : meaning (reach 1) 112 ((1, live ((9, 1) ∷ [])) ∷ []) 10
    ≡ Halted (record { superstep = 2; graph = (1, halted (1 ∷ []) ((9, 1) ∷ [])) ∷ (9, halted (1 ∷ []) []) ∷ []; sends = []; aggregate = 1 })
made_by_a_message = refl

-- the greatest vid is a vid as any other
greatest_vid : meaning (reach 0) 112 ((0, live ((18446744073709551615, 1) ∷ [])) ∷ (18446744073709551615, live ((0, 1) ∷ [])) ∷ []) 10
    ≡ Halted (record { superstep = 3; graph = (0, halted (1 ∷ []) ((18446744073709551615, 1) ∷ [])) ∷ (18446744073709551615, halted (1 ∷ []) ((0, 1) ∷ [])) ∷ []; sends = []; aggregate = 0 })
greatest_vid = refl

-- two steps are not enough for three, and three are
limit : meaning (reach 1) 112 ((1, live ((2, 1) ∷ [])) ∷ (2, live ((3, 1) ∷ [])) ∷ (3, live []) ∷ []) 2 ≡ Limit 2
limit = refl

no_steps : meaning (reach 1) 112 ((1, live []) ∷ []) 0 ≡ Limit 0
no_steps = refl

-- a million steps allowed cost nothing
many_steps : meaning (reach 1) 112 ((1, live []) ∷ []) 1000000 ≡ Halted (record { superstep = 1; graph = (1, halted (1 ∷ []) []) ∷ []; sends = []; aggregate = 1 })
many_steps = refl

empty_graph : meaning (reach 1) 112 [] 0 ≡ Halted (record { superstep = 0; graph = []; sends = []; aggregate = 0 })
empty_graph = refl

-- the vertex has 22 + 1 + 12 bytes
beyond_by_a_vertex : meaning (reach 1) 34 ((1, live ((2, 1) ∷ [])) ∷ []) 9 ≡ Beyond 1
beyond_by_a_vertex = refl

vertex_just_fits : meaning (reach 1) 35 ((1, live ((2, 1) ∷ [])) ∷ []) 1 ≡ Limit 1
vertex_just_fits = refl

-- vertices 0 to n - 1 with an edge to 99 each
abbrev senders_from : ℕ → ℕ → List (ℕ × Vertex)
senders_from zero v = []
senders_from (suc n) v = (v, live ((99, 1) ∷ [])) ∷ senders_from n (v + 1)

-- a vertex has 34 bytes, and the joined payloads to 99 have 13 + 22
beyond_by_a_fold : meaning gather 34 (senders_from 22 0) 9 ≡ Beyond 1
beyond_by_a_fold = refl

-- with 21 senders the sum just fits: no step is beyond, and vertex 99 is made
fold_just_fits : meaning gather 34 (senders_from 21 0) 1 ≡ Limit 1
fold_just_fits = refl

-- 2 is removed and messaged in the same superstep, and so is made anew; 3 is gone
removed_and_messaged : meaning prune 112 ((1, live ((2, 1) ∷ [])) ∷ (2, live []) ∷ (3, live []) ∷ []) 10
    ≡ Halted (record { superstep = 2; graph = (1, halted [] ((2, 1) ∷ [])) ∷ (2, halted [] []) ∷ []; sends = []; aggregate = 0 })
removed_and_messaged = refl

-- 9 is inserted live while all others halt and no message is sent: the run goes on
inserted_live : meaning close 112 ((1, live ((9, 1) ∷ (9, 1) ∷ [])) ∷ (2, live ((1, 1) ∷ [])) ∷ []) 10
    ≡ Halted (record { superstep = 2; graph = (1, halted [] ((9, 1) ∷ (9, 1) ∷ [])) ∷ (2, halted [] ((1, 1) ∷ [])) ∷ (9, halted [] []) ∷ []; sends = []; aggregate = 1 })
inserted_live = refl

-- the text of a halted state
text_of_two : text_of (reach 1) (record { superstep = 2; graph = (1, halted (1 ∷ []) ((9, 1) ∷ (10, 20) ∷ [])) ∷ (9, halted (1 ∷ []) []) ∷ []; sends = []; aggregate = 1 })
    ≡ codes "1 1 9:1 10:20\n9 1\n#superstep 2 aggregate 1 vertices 2\n"
unfolding digits
text_of_two = refl

text_of_none : text_of (reach 1) (record { superstep = 0; graph = []; sends = []; aggregate = 0 }) ≡ codes "#superstep 0 aggregate 0 vertices 0\n"
unfolding digits
text_of_none = refl
