-- pagerank: how often a walk that follows random edges is at a vertex, after so many rounds. The value is a number, a part of 10^12. Divisions take the floor, and what a vertex without edges would send is lost.
use Rattle.std.specs.Prelude.{ℕ, ◌*◌, ◌/◌, true, false, if◌then◌else◌, nat_lt, ◌==◌, [], length, Option, Some, None, option_map, unwrap_or, max, refl}
use Rattle.px_meaning.specs.Graph.{Vertex, vertex_or_fresh}
use Rattle.px_meaning.specs.Program.{ProgramMeaning, ProgramLaws, Moment, Row, Out}
use Rattle.px_program.specs.Numbers.{num, number, sum_rule}
use Rattle.px_program.specs.Saturating.{saturating_sum}
use Rattle.px_program.proofs.NumberRules.{num_is_valid, sum_laws}
use Rattle.px_programs.specs.Along.{along}
use Rattle.px_programs.specs.Answers.{rests, posts, halted, valued, number_text, sent_by_valid, rests_valid, posts_valid, if_has}
use Rattle.px_programs.specs.Table.{Table, plain, plain_laws, IsValidOut}

-- the whole, which all vertices share, and 15 percent of it
abbrev pub scale : ℕ
scale = 1000000000000

abbrev pub restart : ℕ
restart = 150000000000

-- the rank of one of so many vertices, where so much was sent to it: its part of 15 percent of the whole, and 85 percent of that
abbrev pub rank_of : ℕ → ℕ → ℕ
rank_of count sum = saturating_sum (restart / max count 1) (85 * sum / 100)

-- the new rank in a superstep: in superstep 0 a part of the whole, and after the last round none
abbrev pub new_rank : ℕ → ℕ → ℕ → Option ℕ → Option ℕ
new_rank rounds superstep count heard =
    if superstep == 0 then Some (scale / max count 1) else if nat_lt rounds superstep then None else Some (rank_of count (unwrap_or heard 0))

-- an equal part of the rank along each edge
abbrev pub shares : ℕ → Vertex → Out
shares rank x = posts (valued false rank x) rank (along (num (rank / length x.edges)) x.edges)

-- in the last round nothing is sent
abbrev pub ends : ℕ → Vertex → Out
ends rank x = posts (valued true rank x) rank []

abbrev pub ranked : ℕ → ℕ → Option ℕ → Vertex → Out
ranked rounds superstep None x = rests (halted x)
ranked rounds superstep (Some rank) x = if nat_lt superstep rounds then shares rank x else ends rank x

abbrev pub pagerank_out : ℕ → Moment → Row → Out
pagerank_out rounds at row =
    ranked rounds at.superstep (new_rank rounds at.superstep at.count (option_map number row.message)) (vertex_or_fresh row.vertex)

abbrev pub pagerank_table : ℕ → Table
pagerank_table rounds = record { out_of = pagerank_out rounds; message = sum_rule; value_text = number_text }

abbrev pub pagerank : ℕ → ProgramMeaning
pagerank rounds = plain (pagerank_table rounds)

shares_valid : (rank : ℕ) (x : Vertex) → IsValidOut sum_rule (shares rank x)
shares_valid rank x =
    let share = rank / length x.edges in
    posts_valid sum_rule (valued false rank x) rank _ (sent_by_valid sum_rule (λ e. num share) (λ e. num_is_valid share) x.edges)

ranked_valid : (rounds superstep : ℕ) (rank : Option ℕ) (x : Vertex) → IsValidOut sum_rule (ranked rounds superstep rank x)
ranked_valid rounds superstep None x = rests_valid sum_rule (halted x)
ranked_valid rounds superstep (Some rank) x =
    if_has (IsValidOut sum_rule) (nat_lt superstep rounds) _ _ (shares_valid rank x) (posts_valid sum_rule (valued true rank x) rank [] refl)

out_valid : (rounds : ℕ) (at : Moment) (row : Row) → IsValidOut sum_rule (pagerank_out rounds at row)
out_valid rounds at row =
    ranked_valid rounds at.superstep (new_rank rounds at.superstep at.count (option_map number row.message)) (vertex_or_fresh row.vertex)

pub pagerank_laws : (rounds : ℕ) → ProgramLaws (pagerank rounds)
pagerank_laws rounds = plain_laws (pagerank_table rounds) sum_laws (λ at row h. out_valid rounds at row)
