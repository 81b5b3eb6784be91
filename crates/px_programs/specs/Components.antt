-- components: the least vid that leads to a vertex. On a graph whose edges go both ways, that names its connected component. The value is a number.
use Rattle.std.specs.Prelude.{ℕ, true, if◌then◌else◌, nat_lt, ◌==◌, List, length, Option, Some, None, option_map, min}
use Rattle.px_meaning.specs.Graph.{Vertex, vertex_or_fresh}
use Rattle.px_meaning.specs.Program.{ProgramMeaning, ProgramLaws, Moment, Row, Out}
use Rattle.px_program.specs.Numbers.{num, number, number_in, lesser_rule}
use Rattle.px_program.proofs.NumberRules.{num_is_valid, lesser_laws}
use Rattle.px_programs.specs.Along.{along}
use Rattle.px_programs.specs.Answers.{rests, posts, halted, valued, number_text, sent_by_valid, rests_valid, posts_valid}
use Rattle.px_programs.specs.Table.{Table, plain, plain_laws, IsValidOut}

-- the label, where it is below the known one
abbrev pub improved : ℕ → Option ℕ → Option ℕ
improved label None = None
improved label (Some known) = if nat_lt label known then Some label else None

-- the label that a vertex takes of what it hears: where its value is empty, its own vid counts too
abbrev pub heard_label : ℕ → List ℕ → Option ℕ → Option ℕ
heard_label vid value None = None
heard_label vid value (Some label) = if length value == 0 then Some (min vid label) else improved label (number_in value)

-- the label that a vertex takes, if it takes one: in superstep 0 its own vid
abbrev pub new_label : ℕ → ℕ → List ℕ → Option ℕ → Option ℕ
new_label superstep vid value heard = if superstep == 0 then Some vid else heard_label vid value heard

-- the value becomes the label, one contribution, and the label along each edge
abbrev pub labels : ℕ → Vertex → Out
labels label x = posts (valued true label x) 1 (along (num label) x.edges)

abbrev pub labelled : Option ℕ → Vertex → Out
labelled None x = rests (halted x)
labelled (Some label) x = labels label x

abbrev pub components_out : Moment → Row → Out
components_out at row =
    let x = vertex_or_fresh row.vertex in
    labelled (new_label at.superstep row.vid x.value (option_map number row.message)) x

abbrev pub components_table : Table
components_table = record { out_of = components_out; message = lesser_rule; value_text = number_text }

abbrev pub components : ProgramMeaning
components = plain components_table

labelled_valid : (label : Option ℕ) (x : Vertex) → IsValidOut lesser_rule (labelled label x)
labelled_valid None x = rests_valid lesser_rule (halted x)
labelled_valid (Some label) x = posts_valid lesser_rule (valued true label x) 1 _ (sent_by_valid lesser_rule (λ e. num label) (λ e. num_is_valid label) x.edges)

out_valid : (at : Moment) (row : Row) → IsValidOut lesser_rule (components_out at row)
out_valid at row =
    let x = vertex_or_fresh row.vertex in
    labelled_valid (new_label at.superstep row.vid x.value (option_map number row.message)) x

pub components_laws : ProgramLaws components
components_laws = plain_laws components_table lesser_laws (λ at row h. out_valid at row)
