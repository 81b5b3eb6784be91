-- The files of a settling are different ones, and what stops it.
use Rattle.std.proofs.Common.{◌≡◌, ℕ, sym, ◌∙◌, subst}
use Rattle.px_core.specs.Counts.{Rose}
use Rattle.px_core.specs.Same.{Apart}
use Rattle.px_core.specs.Shown.{Shown, Only, Clean, Broke}
use Rattle.px_core.specs.declared.stop.Stop.{Stop}
use Rattle.px_core.specs.declared.stop.Stop.TheVariants.{Graph as GraphStop, Scratch, Beyond}
use Rattle.px_core.proofs.Pages.{touches_then, touches_more}
use Rattle.px_cache.specs.View.{AnyFile}
use Rattle.px_program.specs.Groups.{GroupMade, IsOwn, StopsGrouping}
use Rattle.px_connectors.specs.Stops.{StopsPhase}
use Rattle.px_mutations.specs.Effects.{StopsSettling}

-- one file is none of a group's
pub only_own : (made : GroupMade) (file : ℕ) → (IsOwn made file → ⊥) → Apart (Only file) (IsOwn made)
only_own made file apart f is own = apart (subst (IsOwn made) is own)

pub own_only : (made : GroupMade) (file : ℕ) → (IsOwn made file → ⊥) → Apart (IsOwn made) (Only file)
own_only made file apart f own is = apart (subst (IsOwn made) is own)

pub only_other : (a b : ℕ) → (a ≡ b → ⊥) → Apart (Only a) (Only b)
only_other a b other f is at = other (sym is ∙ at)

module _ (mine : ℕ → Type 0) (TooMuch : Type 0) (g0 g g' s0 s s' : Shown) (e : Stop) (graph_so_far : Clean AnyFile g0 g) (scratch_so_far : Clean mine s0 s) where
  -- the scratch disk failed
  pub scratch_stops : Clean AnyFile g g' → Broke Scratch mine s s' e → StopsPhase mine TooMuch g0 g' s0 s' e
  scratch_stops clean b = record {
    beyond = λ is. absurd (cc (sym b.only ∙ is));
    graph = λ is. absurd (cc (sym b.only ∙ is));
    scratch = λ is. subst (λ (n : ℕ). Rose n s'.faults) scratch_so_far.no_fault b.rose;
    no_graph = λ no. clean.no_fault ∙ graph_so_far.no_fault;
    no_scratch = λ no. absurd (no b.only);
    touches = touches_then mine s0 s s' scratch_so_far.touches b.touches;
    graph_touches = touches_then AnyFile g0 g g' graph_so_far.touches clean.touches;
  }

  -- a vid was not settled
  pub settling_stops : (IsWide : Type 0) → (IsWide → TooMuch) → Clean mine s s' → StopsSettling IsWide g g' e → StopsPhase mine TooMuch g0 g' s0 s' e
  settling_stops IsWide wide clean b = record {
    beyond = λ is. wide (b.beyond is);
    graph = λ is. subst (λ (n : ℕ). Rose n g'.faults) graph_so_far.no_fault (b.rose is);
    scratch = λ is. absurd (b.no_scratch is);
    no_graph = λ no. b.no_fault no ∙ graph_so_far.no_fault;
    no_scratch = λ no. clean.no_fault ∙ scratch_so_far.no_fault;
    touches = touches_then mine s0 s s' scratch_so_far.touches clean.touches;
    graph_touches = touches_then AnyFile g0 g g' graph_so_far.touches b.touches;
  }

  -- the group stopped
  pub grouping_stops : (IsLong : Type 0) → (IsLong → TooMuch) → Clean AnyFile g g' → StopsGrouping mine IsLong s s' e → StopsPhase mine TooMuch g0 g' s0 s' e
  grouping_stops IsLong long clean b = record {
    beyond = λ is. long (b.beyond is);
    graph = λ is. absurd (b.cause.no_graph is);
    scratch = λ is. subst (λ (n : ℕ). Rose n s'.faults) scratch_so_far.no_fault (b.cause.scratch is);
    no_graph = λ no. clean.no_fault ∙ graph_so_far.no_fault;
    no_scratch = λ no. b.cause.no_fault no ∙ scratch_so_far.no_fault;
    touches = touches_then mine s0 s s' scratch_so_far.touches b.touches;
    graph_touches = touches_then AnyFile g0 g g' graph_so_far.touches clean.touches;
  }

-- the same where more files may change
pub grouping_more : (mine more : ℕ → Type 0) (IsLong : Type 0) (s s' : Shown) (e : Stop) → ((f : ℕ) → mine f → more f) → StopsGrouping mine IsLong s s' e → StopsGrouping more IsLong s s' e
grouping_more mine more IsLong s s' e on b = record { beyond = b.beyond; cause = b.cause; touches = touches_more mine more s s' on b.touches }

-- a phase stopped, after a part that did not
pub phase_stops : (mine more : ℕ → Type 0) (Much TooMuch : Type 0) (g0 g g' s0 s s' : Shown) (e : Stop) → ((f : ℕ) → mine f → more f) → (Much → TooMuch) → Clean AnyFile g0 g → Clean more s0 s → StopsPhase mine Much g g' s s' e → StopsPhase more TooMuch g0 g' s0 s' e
phase_stops mine more Much TooMuch g0 g g' s0 s s' e on much graph scratch b = record {
  beyond = λ is. much (b.beyond is);
  graph = λ is. subst (λ (n : ℕ). Rose n g'.faults) graph.no_fault (b.graph is);
  scratch = λ is. subst (λ (n : ℕ). Rose n s'.faults) scratch.no_fault (b.scratch is);
  no_graph = λ no. b.no_graph no ∙ graph.no_fault;
  no_scratch = λ no. b.no_scratch no ∙ scratch.no_fault;
  touches = touches_then more s0 s s' scratch.touches (touches_more mine more s s' on b.touches);
  graph_touches = touches_then AnyFile g0 g g' graph.touches b.graph_touches;
}

-- nothing failed, and there is too much
pub beyond_stops : (mine : ℕ → Type 0) (TooMuch : Type 0) (g g' s s' : Shown) (e : Stop) → e ≡ Beyond → TooMuch → Clean AnyFile g g' → Clean mine s s' → StopsPhase mine TooMuch g g' s s' e
beyond_stops mine TooMuch g g' s s' e is much graph scratch = record {
  beyond = λ _. much;
  graph = λ at. absurd (cc (sym is ∙ at));
  scratch = λ at. absurd (cc (sym is ∙ at));
  no_graph = λ no. graph.no_fault;
  no_scratch = λ no. scratch.no_fault;
  touches = scratch.touches;
  graph_touches = graph.touches;
}
