-- reach: which vertices are reached from one. Its value is one byte, 1 where the vertex is reached and 0 where it is not.
use Rattle.std.specs.Prelude.{ℕ, Bool, true, false, not, ◌&&◌, if◌then◌else◌, ◌==◌, List, [], ◌∷◌, is_some, codes, refl}
use Rattle.px_meaning.specs.Graph.{Vertex, vertex_or_fresh}
use Rattle.px_meaning.specs.Program.{ProgramMeaning, ProgramLaws, Moment, Row, Out}
use Rattle.px_programs.specs.Along.{along}
use Rattle.px_programs.specs.Answers.{rests, posts, halted, sent_by_valid, rests_valid, posts_valid, if_has}
use Rattle.px_programs.specs.Empty.{empty_rule, empty_laws}
use Rattle.px_programs.specs.Table.{Table, plain, plain_laws, IsValidOut}

-- the value is the one byte 1
abbrev pub is_reached : List ℕ → Bool
is_reached [] = false
is_reached (b ∷ []) = b == 1
is_reached (b ∷ c ∷ bs) = false

-- the value is the one byte 0
abbrev pub is_unreached : List ℕ → Bool
is_unreached [] = false
is_unreached (b ∷ []) = b == 0
is_unreached (b ∷ c ∷ bs) = false

abbrev pub marked : ℕ → Vertex → Vertex
marked b x = record { halt = true; value = b ∷ []; edges = x.edges }

-- value 1, one contribution, and the empty message along each edge
abbrev pub reaches : Vertex → Out
reaches x = posts (marked 1 x) 1 (along [] x.edges)

-- in superstep 0 the vertex to start from is reached, later one with a message that was not; else it rests
abbrev pub reach_out : ℕ → Moment → Row → Out
reach_out from at row =
    let x = vertex_or_fresh row.vertex in
    if at.superstep == 0
    then (if row.vid == from then reaches x else rests (marked 0 x))
    else (if is_some row.message && not (is_reached x.value) then reaches x else rests (halted x))

-- 0 or 1, or a dash for any other value
abbrev pub reach_text : Vertex → List ℕ
reach_text x = if is_reached x.value then codes "1" else if is_unreached x.value then codes "0" else codes "-"

abbrev pub reach_table : ℕ → Table
reach_table from = record { out_of = reach_out from; message = empty_rule; value_text = reach_text }

abbrev pub reach : ℕ → ProgramMeaning
reach from = plain (reach_table from)

reaches_valid : (x : Vertex) → IsValidOut empty_rule (reaches x)
reaches_valid x = posts_valid empty_rule (marked 1 x) 1 _ (sent_by_valid empty_rule (λ e. []) (λ e. refl) x.edges)

out_valid : (from : ℕ) (at : Moment) (row : Row) → IsValidOut empty_rule (reach_out from at row)
out_valid from at row =
    let x = vertex_or_fresh row.vertex in
    let valid = IsValidOut empty_rule in
    if_has valid _ _ _
    (if_has valid (row.vid == from) _ _ (reaches_valid x) (rests_valid empty_rule (marked 0 x)))
    (if_has valid _ _ _ (reaches_valid x) (rests_valid empty_rule (halted x)))

pub reach_laws : (from : ℕ) → ProgramLaws (reach from)
reach_laws from = plain_laws (reach_table from) empty_laws (λ at row h. out_valid from at row)
