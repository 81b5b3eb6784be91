-- chains: each unbranched path is joined into its first vertex. A value is a byte for the state, 0 undecided, 1 inner and 2 head, and then vids in eight bytes each.
use Rattle.std.specs.Prelude.{◌≡◌, ℕ, zero, suc, ◌/◌, ◌^◌, Bool, true, false, ◌&&◌, ◌==◌, nat_lt, if◌then◌else◌, IsTrue, List, [], ◌∷◌, ◌++◌, length, drop, Option, Some, None, codes, decimal, flat_map}
use Rattle.std.proofs.Common.{refl, sym, ◌∙◌}
use Rattle.std.proofs.lemmas.Bool.{false≢true, and_parts, and_from, ltb-true}
use Rattle.px_meaning.specs.Graph.{Vertex, vertex_or_fresh}
use Rattle.px_meaning.specs.Merge.{Pairs, AllValid}
use Rattle.px_meaning.specs.Program.{ProgramMeaning, ProgramLaws, Moment, Row, Out}
use Rattle.px_program.specs.Numbers.{num, number}
use Rattle.px_verdict.specs.Verdict.{delete}
use Rattle.px_programs.specs.Along.{along}
use Rattle.px_programs.specs.Answers.{rests, spreads, posts, halted, sent_by_valid, rests_valid, spreads_valid, posts_valid, if_has}
use Rattle.px_programs.specs.ChainMessages.{Said, Note, Many, Answer, note, answer, are_vids, said_in, chain_rule, chain_message_laws, note_is, answer_is}
use Rattle.px_programs.specs.Table.{Table, plain, plain_laws, IsValidOut}

-- a state, and one or more vids, of no more bytes than four can count
abbrev pub is_chain : List ℕ → Bool
is_chain [] = false
is_chain (state ∷ vids) = nat_lt state 3 && (are_vids (length vids) && nat_lt (length vids) (2 ^ 32))

-- a value of another form is undecided
abbrev pub state_of : List ℕ → ℕ
state_of [] = 0
state_of (state ∷ vids) = if is_chain (state ∷ vids) then state else 0

-- with another state; a value of another form becomes the vertex's own vid
abbrev pub with_state : ℕ → ℕ → List ℕ → List ℕ
with_state state vid value = if is_chain value then state ∷ drop 1 value else state ∷ num vid

abbrev pub in_state : ℕ → ℕ → Vertex → Vertex
in_state state vid x = record { halt = true; value = with_state state vid x.value; edges = x.edges }

-- a flagged note to the target of the only edge
abbrev pub calls : ℕ → List (ℕ × ℕ) → Pairs
calls vid (e ∷ []) = (e.0, note true vid) ∷ []
calls vid _ = []

-- each target is told of its edge, with a flag where it is the only one
abbrev pub tells : ℕ → Vertex → Out
tells vid x = spreads (record { halt = false; value = 0 ∷ num vid; edges = x.edges }) (along (note (length x.edges == 1) vid) x.edges)

-- a vertex with one edge to it, which is the only one of its source, is inner. Each other is a head, and calls the next vertex
abbrev pub chooses : ℕ → Vertex → Option Said → Out
chooses vid x (Some (Note true from)) = rests (in_state 1 vid x)
chooses vid x _ = spreads (in_state 2 vid x) (calls vid x.edges)

-- an inner vertex gives its vids and edges to the head, and leaves
abbrev pub answers : ℕ → Vertex → ℕ → Out
answers vid x head = record { vertex = x; sends = (head, answer (drop 1 x.value) x.edges) ∷ []; requests = (vid, delete) ∷ []; contributions = [] }

-- a head takes them, and calls the next vertex
abbrev pub joins : ℕ → Vertex → List ℕ → List (ℕ × ℕ) → Out
joins vid x vids edges = posts (record { halt = true; value = x.value ++ vids; edges = edges }) 1 (calls vid edges)

abbrev pub goes_on : ℕ → Vertex → Option Said → Out
goes_on vid x (Some (Note flag from)) = if state_of x.value == 1 then answers vid (halted x) from else rests (halted x)
goes_on vid x (Some (Answer vids edges)) = if state_of x.value == 2 then joins vid x vids edges else rests (halted x)
goes_on vid x _ = rests (halted x)

-- what a message says, where there is one
abbrev pub heard_in : Option (List ℕ) → Option Said
heard_in None = None
heard_in (Some bytes) = said_in bytes

abbrev pub chains_out : Moment → Row → Out
chains_out at row =
    let x = vertex_or_fresh row.vertex in
    if at.superstep == 0 then tells row.vid x
    else if at.superstep == 1 then chooses row.vid x (heard_in row.message)
    else goes_on row.vid x (heard_in row.message)

-- so many vids at the front of the bytes
abbrev pub vids_in : ℕ → List ℕ → List ℕ
vids_in zero bytes = []
vids_in (suc n) bytes = number bytes ∷ vids_in n (drop 8 bytes)

abbrev pub plus_text : ℕ → List ℕ
plus_text vid = codes "+" ++ decimal vid

-- in decimal, with a plus sign between two
abbrev pub joined_text : List ℕ → List ℕ
joined_text [] = []
joined_text (vid ∷ vids) = decimal vid ++ flat_map plus_text vids

-- the vids, or a dash for a value of another form
abbrev pub chain_text : Vertex → List ℕ
chain_text x = if is_chain x.value then joined_text (vids_in (length (drop 1 x.value) / 8) (drop 1 x.value)) else codes "-"

abbrev pub chains_table : Table
chains_table = record { out_of = chains_out; message = chain_rule; value_text = chain_text }

abbrev pub chains : ProgramMeaning
chains = plain chains_table

tells_valid : (vid : ℕ) (x : Vertex) → IsValidOut chain_rule (tells vid x)
tells_valid vid x = spreads_valid chain_rule _ _ (sent_by_valid chain_rule (λ e. note (length x.edges == 1) vid) (λ e. note_is (length x.edges == 1) vid) x.edges)

calls_valid : (vid : ℕ) (es : List (ℕ × ℕ)) → AllValid chain_rule (calls vid es)
calls_valid vid [] = refl
calls_valid vid (e ∷ []) = and_from _ _ (note_is true vid) refl
calls_valid vid (e ∷ f ∷ es) = refl

calling_valid : (vid : ℕ) (x : Vertex) → IsValidOut chain_rule (spreads (in_state 2 vid x) (calls vid x.edges))
calling_valid vid x = spreads_valid chain_rule _ _ (calls_valid vid x.edges)

chooses_valid : (vid : ℕ) (x : Vertex) (m : Option Said) → IsValidOut chain_rule (chooses vid x m)
chooses_valid vid x (Some (Note true from)) = rests_valid chain_rule (in_state 1 vid x)
chooses_valid vid x (Some (Note false from)) = calling_valid vid x
chooses_valid vid x (Some Many) = calling_valid vid x
chooses_valid vid x (Some (Answer vids edges)) = calling_valid vid x
chooses_valid vid x None = calling_valid vid x

-- a value with a state of its own is a chain
chain_by : (c : Bool) (state want : ℕ) → (0 == want) ≡ false → ((if c then state else 0) == want) ≡ true → c ≡ true
chain_by true state want none h = refl
chain_by false state want none h = absurd (false≢true (sym none ∙ h))

pub chain_of_state : (value : List ℕ) (want : ℕ) → (0 == want) ≡ false → (state_of value == want) ≡ true → is_chain value ≡ true
chain_of_state [] want none h = absurd (false≢true (sym none ∙ h))
chain_of_state (state ∷ vids) want none h = chain_by (is_chain (state ∷ vids)) state want none h

-- its vids are such that an answer can have them
pub answer_of_chain : (value : List ℕ) (edges : List (ℕ × ℕ)) → is_chain value ≡ true → IsTrue (chain_rule.valid (answer (drop 1 value) edges))
answer_of_chain [] edges h = absurd (false≢true h)
answer_of_chain (state ∷ vids) edges h =
    let parts = and_parts _ _ (and_parts _ _ h).1 in
    answer_is vids edges parts.0 (ltb-true (length vids) (2 ^ 32) parts.1)

answers_valid : (vid : ℕ) (x : Vertex) (head : ℕ) → is_chain x.value ≡ true → IsValidOut chain_rule (answers vid x head)
answers_valid vid x head h = record { sends = and_from _ _ (answer_of_chain x.value x.edges h) refl; requests = refl }

where_so : {A : Type 0} (P : A → Type 0) (b : Bool) (x y : A) → (b ≡ true → P x) → P y → P (if b then x else y)
where_so P true x y p q = p refl
where_so P false x y p q = q

goes_on_valid : (vid : ℕ) (x : Vertex) (m : Option Said) → IsValidOut chain_rule (goes_on vid x m)
goes_on_valid vid x (Some (Note flag from)) =
    where_so (IsValidOut chain_rule) (state_of x.value == 1) _ _ (λ h. answers_valid vid (halted x) from (chain_of_state x.value 1 refl h)) (rests_valid chain_rule (halted x))
goes_on_valid vid x (Some Many) = rests_valid chain_rule (halted x)
goes_on_valid vid x (Some (Answer vids edges)) =
    if_has (IsValidOut chain_rule) (state_of x.value == 2) _ _ (posts_valid chain_rule _ 1 _ (calls_valid vid edges)) (rests_valid chain_rule (halted x))
goes_on_valid vid x None = rests_valid chain_rule (halted x)

out_valid : (at : Moment) (row : Row) → IsValidOut chain_rule (chains_out at row)
out_valid at row =
    let x = vertex_or_fresh row.vertex in
    let valid = IsValidOut chain_rule in
    if_has valid _ _ _ (tells_valid row.vid x) (if_has valid _ _ _ (chooses_valid row.vid x (heard_in row.message)) (goes_on_valid row.vid x (heard_in row.message)))

pub chains_laws : ProgramLaws chains
chains_laws = plain_laws chains_table chain_message_laws (λ at row h. out_valid at row)
