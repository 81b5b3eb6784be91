-- sssp: the least sum of weights on a path from one vertex. The value is a number, of which the greatest stands for no path.
use Rattle.std.specs.Prelude.{ℕ, ◌-◌, ◌^◌, true, if◌then◌else◌, nat_lt, ◌==◌, List, length, Option, Some, None, option_map, codes, decimal}
use Rattle.px_meaning.specs.Graph.{Vertex, vertex_or_fresh}
use Rattle.px_meaning.specs.Program.{ProgramMeaning, ProgramLaws, Moment, Row, Out}
use Rattle.px_program.specs.Numbers.{number, number_in, lesser_rule}
use Rattle.px_program.specs.Saturating.{saturating_sum}
use Rattle.px_program.proofs.NumberRules.{num_is_valid, lesser_laws}
use Rattle.px_programs.specs.Along.{over, distances}
use Rattle.px_programs.specs.Answers.{rests, posts, halted, valued, sent_by_valid, rests_valid, posts_valid, if_has}
use Rattle.px_programs.specs.Table.{Table, plain, plain_laws, IsValidOut}

-- no path is known
abbrev pub unreached : ℕ
unreached = 2 ^ 64 - 1

-- what a value stands for in a comparison: an empty one is unreached, and one of another length than a number's stands for nothing
abbrev pub distance_of : List ℕ → Option ℕ
distance_of value = if length value == 0 then Some unreached else number_in value

-- the value becomes d, one contribution, and to each edge's target its distance over here
abbrev pub finds : ℕ → Vertex → Out
finds d x = posts (valued true d x) 1 (distances d x.edges)

-- the value becomes unreached
abbrev pub waits : Vertex → Out
waits x = rests (valued true unreached x)

-- a distance comes to a vertex whose value stands for this
abbrev pub compares : ℕ → Option ℕ → Vertex → Out
compares d None x = rests (halted x)
compares d (Some known) x = if nat_lt d known then finds d x else if length x.value == 0 then waits x else rests (halted x)

-- a distance comes to a vertex, or none
abbrev pub hears : Option ℕ → Vertex → Out
hears None x = rests (halted x)
hears (Some d) x = compares d (distance_of x.value) x

-- in superstep 0 the vertex to start from finds 0, and the others wait
abbrev pub sssp_out : ℕ → Moment → Row → Out
sssp_out from at row =
    let x = vertex_or_fresh row.vertex in
    if at.superstep == 0 then (if row.vid == from then finds 0 x else waits x) else hears (option_map number row.message) x

-- in decimal, and `inf` where it is unreached
abbrev pub distance_text : Option ℕ → List ℕ
distance_text None = codes "-"
distance_text (Some d) = if d == unreached then codes "inf" else decimal d

abbrev pub sssp_table : ℕ → Table
sssp_table from = record { out_of = sssp_out from; message = lesser_rule; value_text = λ x. distance_text (number_in x.value) }

abbrev pub sssp : ℕ → ProgramMeaning
sssp from = plain (sssp_table from)

finds_valid : (d : ℕ) (x : Vertex) → IsValidOut lesser_rule (finds d x)
finds_valid d x = posts_valid lesser_rule (valued true d x) 1 _ (sent_by_valid lesser_rule (over d) (λ e. num_is_valid (saturating_sum d e.1)) x.edges)

waits_valid : (x : Vertex) → IsValidOut lesser_rule (waits x)
waits_valid x = rests_valid lesser_rule (valued true unreached x)

compares_valid : (d : ℕ) (known : Option ℕ) (x : Vertex) → IsValidOut lesser_rule (compares d known x)
compares_valid d None x = rests_valid lesser_rule (halted x)
compares_valid d (Some known) x =
    let valid = IsValidOut lesser_rule in
    if_has valid (nat_lt d known) _ _ (finds_valid d x) (if_has valid _ _ _ (waits_valid x) (rests_valid lesser_rule (halted x)))

hears_valid : (heard : Option ℕ) (x : Vertex) → IsValidOut lesser_rule (hears heard x)
hears_valid None x = rests_valid lesser_rule (halted x)
hears_valid (Some d) x = compares_valid d (distance_of x.value) x

out_valid : (from : ℕ) (at : Moment) (row : Row) → IsValidOut lesser_rule (sssp_out from at row)
out_valid from at row =
    let x = vertex_or_fresh row.vertex in
    let valid = IsValidOut lesser_rule in
    if_has valid _ _ _ (if_has valid (row.vid == from) _ _ (finds_valid 0 x) (waits_valid x)) (hears_valid (option_map number row.message) x)

pub sssp_laws : (from : ℕ) → ProgramLaws (sssp from)
sssp_laws from = plain_laws (sssp_table from) lesser_laws (λ at row h. out_valid from at row)
