-- prune: without the vertices that have neither out-edges nor in-edges. Values stay as they are.
use Rattle.std.specs.Prelude.{ℕ, if◌then◌else◌, ◌==◌, [], ◌∷◌, length, refl}
use Rattle.px_meaning.specs.Graph.{Vertex, vertex_or_fresh}
use Rattle.px_meaning.specs.Program.{ProgramMeaning, ProgramLaws, Moment, Row, Out}
use Rattle.px_verdict.specs.Verdict.{delete}
use Rattle.px_programs.specs.Along.{along}
use Rattle.px_programs.specs.Answers.{rests, spreads, halted, dash_text, sent_by_valid, rests_valid, spreads_valid, if_has}
use Rattle.px_programs.specs.Empty.{empty_rule, empty_laws}
use Rattle.px_programs.specs.Table.{Table, plain, plain_laws, IsValidOut}

-- the request to delete the vertex itself, and one contribution
abbrev pub leaves : ℕ → Vertex → Out
leaves vid x = record { vertex = x; sends = []; requests = (vid, delete) ∷ []; contributions = 1 ∷ [] }

-- the empty message along each edge: where it comes to a vertex that was deleted, it makes it again
abbrev pub tells : Vertex → Out
tells x = spreads (halted x) (along [] x.edges)

abbrev pub prune_out : Moment → Row → Out
prune_out at row =
    let x = vertex_or_fresh row.vertex in
    if at.superstep == 0 then (if length x.edges == 0 then leaves row.vid (halted x) else tells x) else rests (halted x)

abbrev pub prune_table : Table
prune_table = record { out_of = prune_out; message = empty_rule; value_text = dash_text }

abbrev pub prune : ProgramMeaning
prune = plain prune_table

leaves_valid : (vid : ℕ) (x : Vertex) → IsValidOut empty_rule (leaves vid x)
leaves_valid vid x = record { sends = refl; requests = refl }

tells_valid : (x : Vertex) → IsValidOut empty_rule (tells x)
tells_valid x = spreads_valid empty_rule (halted x) _ (sent_by_valid empty_rule (λ e. []) (λ e. refl) x.edges)

out_valid : (at : Moment) (row : Row) → IsValidOut empty_rule (prune_out at row)
out_valid at row =
    let x = vertex_or_fresh row.vertex in
    let valid = IsValidOut empty_rule in
    if_has valid _ _ _ (if_has valid _ _ _ (leaves_valid row.vid (halted x)) (tells_valid x)) (rests_valid empty_rule (halted x))

pub prune_laws : ProgramLaws prune
prune_laws = plain_laws prune_table empty_laws (λ at row h. out_valid at row)
