-- reverse: all edges turned round. Values stay as they are.
use Rattle.std.specs.Prelude.{ℕ, true, if◌then◌else◌, ◌==◌, List, [], length, Option, Some, None, refl}
use Rattle.px_meaning.specs.Graph.{Vertex, vertex_or_fresh}
use Rattle.px_meaning.specs.Program.{ProgramMeaning, ProgramLaws, Moment, Row, Out}
use Rattle.px_record.specs.Body.{edges_in}
use Rattle.px_programs.specs.Along.{back, backs}
use Rattle.px_programs.specs.Answers.{rests, posts, spreads, halted, dash_text, sent_by_valid, rests_valid, posts_valid, spreads_valid, if_has}
use Rattle.px_programs.specs.Entries.{count, entries_rule, entries_laws, entry_valid}
use Rattle.px_programs.specs.Table.{Table, plain, plain_laws, IsValidOut}

-- the edges that entries are, in their order
abbrev pub edges_of : List ℕ → List (ℕ × ℕ)
edges_of bytes = edges_in (count bytes) bytes

abbrev pub with_edges : List (ℕ × ℕ) → Vertex → Vertex
with_edges edges x = record { halt = true; value = x.value; edges = edges }

-- the edge back to each edge's target, and no edges
abbrev pub turns : ℕ → Vertex → Out
turns vid x = spreads (with_edges [] x) (backs vid x.edges)

-- the edges become those that came, and their number is contributed
abbrev pub gathers : Option (List ℕ) → Vertex → Out
gathers None x = rests (halted x)
gathers (Some message) x = posts (with_edges (edges_of message) x) (length (edges_of message)) []

abbrev pub reverse_out : Moment → Row → Out
reverse_out at row = let x = vertex_or_fresh row.vertex in if at.superstep == 0 then turns row.vid x else gathers row.message x

abbrev pub reverse_table : Table
reverse_table = record { out_of = reverse_out; message = entries_rule; value_text = dash_text }

abbrev pub reverse : ProgramMeaning
reverse = plain reverse_table

turns_valid : (vid : ℕ) (x : Vertex) → IsValidOut entries_rule (turns vid x)
turns_valid vid x = spreads_valid entries_rule (with_edges [] x) _ (sent_by_valid entries_rule (back vid) (λ e. entry_valid (vid, e.1)) x.edges)

gathers_valid : (message : Option (List ℕ)) (x : Vertex) → IsValidOut entries_rule (gathers message x)
gathers_valid None x = rests_valid entries_rule (halted x)
gathers_valid (Some message) x = posts_valid entries_rule (with_edges (edges_of message) x) (length (edges_of message)) [] refl

out_valid : (at : Moment) (row : Row) → IsValidOut entries_rule (reverse_out at row)
out_valid at row =
    let x = vertex_or_fresh row.vertex in
    if_has (IsValidOut entries_rule) _ _ _ (turns_valid row.vid x) (gathers_valid row.message x)

pub reverse_laws : ProgramLaws reverse
reverse_laws = plain_laws reverse_table entries_laws (λ at row h. out_valid at row)
