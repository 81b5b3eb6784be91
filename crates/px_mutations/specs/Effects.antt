-- What the settling of one vid does.
use Rattle.std.specs.Prelude.{◌≡◌, ◌≢◌, ◌≤◌, ◌<◌, ℕ, ◌+◌, ◌-◌, ◌^◌, min, Bool, true, false, ◌||◌, if◌then◌else◌, IsTrue, IfSome, List, length, Option, Some, None, is_some}
use Rattle.std.specs.Option.{option_or}
use Rattle.px_core.specs.Counts.{Rose}
use Rattle.px_core.specs.Shown.{Shown, Touches}
use Rattle.px_core.specs.declared.stop.Stop.{Stop}
use Rattle.px_core.specs.declared.stop.Stop.TheVariants.{Graph as GraphStop, Scratch, Beyond}
use Rattle.px_cache.specs.View.{AnyFile}
use Rattle.px_meaning.specs.Graph.{Graph, Vertex, vertex_or_fresh, vertex_size, lookup, put, delete}
use Rattle.px_meaning.specs.Program.{ProgramMeaning, Settlement, Keeps}
use Rattle.px_meaning.specs.Step.{is_awake}
use Rattle.px_meaning.proofs.Settling.{settled_at}
use Rattle.px_record.specs.Held.{HeldVertex}
use Rattle.px_program.specs.declared.program.Settled.{Settled}
use Rattle.px_program.specs.declared.program.Settled.TheVariants.{Keep, Set, Remove}
use Rattle.px_mutations.specs.declared.turns.Turn.{Turn}
use Rattle.px_mutations.specs.declared.effects.Effect.{Effect}
use Rattle.px_mutations.specs.declared.effects.Counts.{Counts}
use Rattle.px_mutations.specs.Turns.{given_if}

-- the graph with this vertex at the vid, or with none there
abbrev pub placed : ℕ → Option Vertex → Graph → Graph
placed v (Some x) l = put v x l
placed v None l = delete v l

-- what a vid has once its new vertex is put and the fold of its verdicts is settled, as far as there are any
abbrev pub left_at : ProgramMeaning → ℕ → Option Vertex → Option (List ℕ) → Graph → Option Vertex
left_at p v change verdict l = settled_at p v (option_or change (lookup v l)) verdict

-- the graph after the turn of a vid, with this vertex as its update and these bytes as the fold of its verdicts
abbrev pub turned : ProgramMeaning → Turn → Vertex → List ℕ → Graph → Graph
turned p t x bytes l = placed t.vid (left_at p t.vid (given_if t.has_update x) (given_if t.has_verdict bytes) l) l

-- a vid was looked up that has this in the store: it was there, and the vertex to settle is the update or else the one found
pub record IsFound (there change : Option Vertex) (was : Bool) (x : Vertex) : Type 0 where
  pub is_there : was ≡ is_some there
  pub vertex : x ≡ vertex_or_fresh (option_or change there)

-- what is decided on a vid
abbrev pub settlement : ProgramMeaning → Turn → Bool → HeldVertex → List ℕ → Settlement
settlement p t existing v bytes = if t.has_verdict then p.settle_of v.vid (if existing then Some v.vertex else None) bytes else Keeps

-- what a vid has after what was decided, where this vertex is held
abbrev pub outcome : Bool → Settled → Vertex → Option Vertex
outcome existing Keep x = given_if existing x
outcome existing Set x = Some x
outcome existing Remove x = None

-- what is known of a vid in the store as the decision on it is carried out: whether it is there, and, where it is to stay as it is there, its vertex
pub record IsCarried (t : Turn) (was : Bool) (settled : Settled) (x : Vertex) (l : Graph) : Type 0 where
  pub is_there : was ≡ is_some (lookup t.vid l)
  pub same : settled ≡ Keep → t.has_update ≡ false → lookup t.vid l ≡ given_if was x

abbrev pub bit : Bool → ℕ
bit b = if b then 1 else 0

-- at this vid the first graph became the second
pub record IsEffect (e : Effect) (v room : ℕ) (l l' : Graph) : Type 0 where
  pub sizes : length l' + bit e.removed ≡ length l + bit e.added
  pub was : e.removed ≡ true → is_some (lookup v l) ≡ true
  pub live : e.live ≡ is_awake (lookup v l')
  pub fits : IfSome (lookup v l') (λ x. vertex_size x ≤ room)

-- a vid was settled up to a stop: Beyond where its vertex would be too wide, else Graph, where the disk failed
pub record StopsSettling (IsTooWide : Type 0) (old new : Shown) (e : Stop) : Type 0 where
  pub beyond : e ≡ Beyond → IsTooWide
  pub rose : e ≡ GraphStop → Rose old.faults new.faults
  pub no_fault : e ≢ GraphStop → new.faults ≡ old.faults
  pub no_scratch : e ≢ Scratch
  pub touches : Touches AnyFile old new

-- a vertex is there, and it is above room
abbrev pub IsTooWide : ℕ → Option Vertex → Type 0
IsTooWide room None = ⊥
IsTooWide room (Some x) = room < vertex_size x

-- a count that stands still at the last value of u64
abbrev pub standing : ℕ → ℕ
standing n = min n (2 ^ 64 - 1)

-- the counts with one effect more
pub record IsCounted (e : Effect) (old new : Counts) : Type 0 where
  pub added : new.added ≡ standing (old.added + bit e.added)
  pub removed : new.removed ≡ standing (old.removed + bit e.removed)
  pub live : new.live ≡ standing (old.live + bit e.live)
