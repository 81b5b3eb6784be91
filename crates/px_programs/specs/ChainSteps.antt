-- What the code's steps of chains make of a vertex, and what they post.
use Rattle.std.specs.Prelude.{◌≡◌, ℕ, ◌/◌, ◌%◌, true, false, ◌==◌, ◌∷◌, ◌++◌, length, ⊤}
use Rattle.px_meaning.specs.Graph.{Vertex}
use Rattle.px_meaning.specs.Program.{Out}
use Rattle.px_program.specs.Numbers.{num}
use Rattle.px_record.specs.Body.{edges_in}
use Rattle.px_programs.specs.declared.chains.State.{State}
use Rattle.px_programs.specs.declared.chains.State.TheVariants.{Undecided, Inner, Head}
use Rattle.px_programs.specs.declared.chains.Step.{Step}
use Rattle.px_programs.specs.declared.chains.Step.TheVariants.{Tell, BeInner, BeHead, Answer, Join, Rest}
use Rattle.px_programs.specs.Along.{along}
use Rattle.px_programs.specs.Answers.{rests, spreads, posts, halted}
use Rattle.px_programs.specs.ChainMessages.{note}
use Rattle.px_programs.specs.Chains.{in_state, is_chain, calls, answers}

abbrev pub state_byte : State → ℕ
state_byte Undecided = 0
state_byte Inner = 1
state_byte Head = 2

-- the new vertex
abbrev pub changed : Step → ℕ → Vertex → Vertex
changed Tell vid x = record { halt = false; value = 0 ∷ num vid; edges = x.edges }
changed BeInner vid x = in_state 1 vid x
changed BeHead vid x = in_state 2 vid x
changed (Answer head) vid x = halted x
changed (Join vids edges) vid x = record { halt = true; value = x.value ++ vids.now; edges = edges_in (length edges.now / 12) edges.now }
changed Rest vid x = halted x

-- what is answered where this is the new vertex
abbrev pub posted : Step → ℕ → Vertex → Out
posted Tell vid x = spreads x (along (note (length x.edges == 1) vid) x.edges)
posted BeInner vid x = rests x
posted BeHead vid x = spreads x (calls vid x.edges)
posted (Answer head) vid x = answers vid x head
posted (Join vids edges) vid x = posts x 1 (calls vid x.edges)
posted Rest vid x = rests x

abbrev pub taken : Step → ℕ → Vertex → Out
taken step vid x = posted step vid (changed step vid x)

-- only a chain is answered with, and only whole edges are taken
abbrev pub IsReady : Step → Vertex → Type 0
IsReady Tell x = ⊤
IsReady BeInner x = ⊤
IsReady BeHead x = ⊤
IsReady (Answer head) x = is_chain x.value ≡ true
IsReady (Join vids edges) x = length edges.now % 12 ≡ 0
IsReady Rest x = ⊤
