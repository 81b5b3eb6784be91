-- close: a vertex for every edge's target. Values stay as they are.
use Rattle.std.specs.Prelude.{if◌then◌else◌, ◌==◌, [], refl}
use Rattle.px_meaning.specs.Graph.{Vertex, vertex_or_fresh}
use Rattle.px_meaning.specs.Program.{ProgramMeaning, ProgramLaws, Moment, Row, Out}
use Rattle.px_verdict.specs.Verdict.{verdict_rule, insert_fresh, insert_fresh_is}
use Rattle.px_programs.specs.Along.{along}
use Rattle.px_programs.specs.Answers.{posts, asks, halted, dash_text, sent_by_valid, posts_valid, asks_valid, if_has}
use Rattle.px_programs.specs.Empty.{empty_rule, empty_laws}
use Rattle.px_programs.specs.Table.{Table, plain, plain_laws, IsValidOut}

-- to each edge's target the request to insert a live vertex without value and edges
abbrev pub makes : Vertex → Out
makes x = asks (halted x) (along insert_fresh x.edges)

-- one contribution
abbrev pub counts : Vertex → Out
counts x = posts (halted x) 1 []

abbrev pub close_out : Moment → Row → Out
close_out at row = let x = vertex_or_fresh row.vertex in if at.superstep == 0 then makes x else counts x

abbrev pub close_table : Table
close_table = record { out_of = close_out; message = empty_rule; value_text = dash_text }

abbrev pub close : ProgramMeaning
close = plain close_table

makes_valid : (x : Vertex) → IsValidOut empty_rule (makes x)
makes_valid x = asks_valid empty_rule (halted x) _ (sent_by_valid verdict_rule (λ e. insert_fresh) (λ e. insert_fresh_is.valid) x.edges)

out_valid : (at : Moment) (row : Row) → IsValidOut empty_rule (close_out at row)
out_valid at row =
    let x = vertex_or_fresh row.vertex in
    if_has (IsValidOut empty_rule) _ _ _ (makes_valid x) (posts_valid empty_rule (halted x) 1 [] refl)

pub close_laws : ProgramLaws close
close_laws = plain_laws close_table empty_laws (λ at row h. out_valid at row)
