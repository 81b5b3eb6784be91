-- Why a superstep stopped, after calls that did not fail.
use Rattle.std.proofs.Common.{◌≡◌, ℕ, sym, ◌∙◌, subst}
use Rattle.px_core.specs.Counts.{Rose}
use Rattle.px_core.specs.Shown.{Shown, Clean, Broke}
use Rattle.px_core.specs.declared.stop.Stop.{Stop}
use Rattle.px_core.specs.declared.stop.Stop.TheVariants.{Graph as GraphStop, Scratch, Beyond}
use Rattle.px_core.proofs.Pages.{touches_then, touches_more}
use Rattle.px_cache.specs.View.{AnyFile}
use Rattle.px_program.specs.Groups.{StopsGrouping}
use Rattle.px_connectors.specs.Stops.{StopsPhase}

not_scratch : (e : Stop) → e ≡ Scratch → e ≡ Beyond → ⊥
not_scratch e is so = absurd (cc (sym is ∙ so))

not_graph : (e : Stop) → e ≡ Scratch → e ≡ GraphStop → ⊥
not_graph e is so = absurd (cc (sym is ∙ so))

-- a part of the work stopped
pub stops_after : (mine more : ℕ → Type 0) (TooMuch TooMuch' : Type 0) (g0 g1 g2 s0 s1 s2 : Shown) (e : Stop) → ((f : ℕ) → mine f → more f) → (TooMuch → TooMuch') → Clean AnyFile g0 g1 → Clean more s0 s1
    → StopsPhase mine TooMuch g1 g2 s1 s2 e → StopsPhase more TooMuch' g0 g2 s0 s2 e
stops_after mine more TooMuch TooMuch' g0 g1 g2 s0 s1 s2 e sub too gc sc h = record {
  beyond = λ is. too (h.beyond is);
  graph = λ is. subst (λ n. Rose n g2.faults) gc.no_fault (h.graph is);
  scratch = λ is. subst (λ n. Rose n s2.faults) sc.no_fault (h.scratch is);
  no_graph = λ is. h.no_graph is ∙ gc.no_fault;
  no_scratch = λ is. h.no_scratch is ∙ sc.no_fault;
  touches = touches_then more s0 s1 s2 sc.touches (touches_more mine more s1 s2 sub h.touches);
  graph_touches = touches_then AnyFile g0 g1 g2 gc.touches h.graph_touches;
}

-- one over the scratch disk alone did
pub grouping_after : (mine more : ℕ → Type 0) (TooMuch TooMuch' : Type 0) (g0 g1 s0 s1 s2 : Shown) (e : Stop) → ((f : ℕ) → mine f → more f) → (TooMuch → TooMuch') → Clean AnyFile g0 g1 → Clean more s0 s1
    → StopsGrouping mine TooMuch s1 s2 e → StopsPhase more TooMuch' g0 g1 s0 s2 e
grouping_after mine more TooMuch TooMuch' g0 g1 s0 s1 s2 e sub too gc sc h = record {
  beyond = λ is. too (h.beyond is);
  graph = λ is. absurd (h.cause.no_graph is);
  scratch = λ is. subst (λ n. Rose n s2.faults) sc.no_fault (h.cause.scratch is);
  no_graph = λ is. gc.no_fault;
  no_scratch = λ is. h.cause.no_fault is ∙ sc.no_fault;
  touches = touches_then more s0 s1 s2 sc.touches (touches_more mine more s1 s2 sub h.touches);
  graph_touches = gc.touches;
}

-- and after others of its kind
pub grouping_then : (mine more : ℕ → Type 0) (TooMuch TooMuch' : Type 0) (s0 s1 s2 : Shown) (e : Stop) → ((f : ℕ) → mine f → more f) → (TooMuch → TooMuch') → Clean more s0 s1
    → StopsGrouping mine TooMuch s1 s2 e → StopsGrouping more TooMuch' s0 s2 e
grouping_then mine more TooMuch TooMuch' s0 s1 s2 e sub too sc h = record {
  beyond = λ is. too (h.beyond is);
  cause = record {
    scratch = λ is. subst (λ n. Rose n s2.faults) sc.no_fault (h.cause.scratch is);
    no_fault = λ is. h.cause.no_fault is ∙ sc.no_fault;
    no_graph = h.cause.no_graph;
  };
  touches = touches_then more s0 s1 s2 sc.touches (touches_more mine more s1 s2 sub h.touches);
}

-- the scratch disk failed
pub broke_after : (mine more : ℕ → Type 0) (TooMuch : Type 0) (g0 g1 s0 s1 s2 : Shown) (e : Stop) → ((f : ℕ) → mine f → more f) → Clean AnyFile g0 g1 → Clean more s0 s1
    → Broke Scratch mine s1 s2 e → StopsPhase more TooMuch g0 g1 s0 s2 e
broke_after mine more TooMuch g0 g1 s0 s1 s2 e sub gc sc h = record {
  beyond = λ is. absurd (not_scratch e h.only is);
  graph = λ is. absurd (not_graph e h.only is);
  scratch = λ is. subst (λ n. Rose n s2.faults) sc.no_fault h.rose;
  no_graph = λ is. gc.no_fault;
  no_scratch = λ is. absurd (is h.only);
  touches = touches_then more s0 s1 s2 sc.touches (touches_more mine more s1 s2 sub h.touches);
  graph_touches = gc.touches;
}

-- nothing failed, and the data are too much
pub too_much : (more : ℕ → Type 0) (TooMuch : Type 0) (g0 g1 s0 s1 : Shown) (e : Stop) → e ≡ Beyond → TooMuch → Clean AnyFile g0 g1 → Clean more s0 s1 → StopsPhase more TooMuch g0 g1 s0 s1 e
too_much more TooMuch g0 g1 s0 s1 e is too gc sc = record {
  beyond = λ _. too;
  graph = λ so. absurd (cc (sym is ∙ so));
  scratch = λ so. absurd (not_scratch e so is);
  no_graph = λ _. gc.no_fault;
  no_scratch = λ _. sc.no_fault;
  touches = sc.touches;
  graph_touches = gc.touches;
}
