-- Why work over two disks stopped, after calls that did not fail.
use Rattle.std.proofs.Common.{◌≡◌, ◌≢◌, ◌⊎◌, ℕ, sym, ◌∙◌, subst, refl}
use Rattle.px_core.specs.Counts.{Rose}
use Rattle.px_core.specs.Shown.{Shown, Clean, Broke}
use Rattle.px_core.specs.declared.stop.Stop.{Stop}
use Rattle.px_core.specs.declared.stop.Stop.TheVariants.{Graph as GraphStop}
use Rattle.px_core.proofs.Pages.{touches_then, touches_more}
use Rattle.px_cache.specs.View.{AnyFile}
use Rattle.px_connectors.specs.Stops.{StopsPhase}

-- the graph disk failed
pub phase_graph : (mine : ℕ → Type 0) (Much : Type 0) (g g' s s' : Shown) (e : Stop) → Clean mine s s' → Broke GraphStop AnyFile g g' e → StopsPhase mine Much g g' s s' e
phase_graph mine Much g g' s s' e still h = subst (StopsPhase mine Much g g' s s') (sym h.only) (record {
  beyond = λ is. cc;
  graph = λ is. h.rose;
  scratch = λ is. cc;
  no_graph = λ not. absurd (not refl);
  no_scratch = λ not. still.no_fault;
  touches = still.touches;
  graph_touches = h.touches;
})

-- calls that did not fail came before
pub phase_after : (mine : ℕ → Type 0) (Much : Type 0) (a b c s t u : Shown) (e : Stop) → Clean AnyFile a b → Clean mine s t → StopsPhase mine Much b c t u e → StopsPhase mine Much a c s u e
phase_after mine Much a b c s t u e graph scratch h = record {
  beyond = h.beyond;
  graph = λ is. subst (λ (n : ℕ). Rose n c.faults) graph.no_fault (h.graph is);
  scratch = λ is. subst (λ (n : ℕ). Rose n u.faults) scratch.no_fault (h.scratch is);
  no_graph = λ not. h.no_graph not ∙ graph.no_fault;
  no_scratch = λ not. h.no_scratch not ∙ scratch.no_fault;
  touches = touches_then mine s t u scratch.touches h.touches;
  graph_touches = touches_then AnyFile a b c graph.touches h.graph_touches;
}

-- for a weaker reason, and among more files
pub phase_weaker : (mine more : ℕ → Type 0) (Much More : Type 0) (g g' s s' : Shown) (e : Stop) → ((f : ℕ) → mine f → more f) → (Much → More) → StopsPhase mine Much g g' s s' e → StopsPhase more More g g' s s' e
phase_weaker mine more Much More g g' s s' e sub why h = record {
  beyond = λ is. why (h.beyond is);
  graph = h.graph;
  scratch = h.scratch;
  no_graph = h.no_graph;
  no_scratch = h.no_scratch;
  touches = touches_more mine more s s' sub h.touches;
  graph_touches = h.graph_touches;
}
