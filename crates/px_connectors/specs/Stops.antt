-- Why work over the graph disk and the scratch disk stopped.
use Rattle.std.specs.Prelude.{◌≡◌, ◌≢◌, ℕ}
use Rattle.px_core.specs.Counts.{Rose}
use Rattle.px_core.specs.Shown.{Shown, Touches}
use Rattle.px_core.specs.declared.stop.Stop.{Stop}
use Rattle.px_core.specs.declared.stop.Stop.TheVariants.{Graph as GraphStop, Scratch, Beyond}
use Rattle.px_cache.specs.View.{AnyFile}

-- it ended with a stop: Beyond where its data are too much, else the disk that failed. The other did not
pub record StopsPhase (mine : ℕ → Type 0) (IsTooMuch : Type 0) (g g' s s' : Shown) (e : Stop) : Type 0 where
  pub beyond : e ≡ Beyond → IsTooMuch
  pub graph : e ≡ GraphStop → Rose g.faults g'.faults
  pub scratch : e ≡ Scratch → Rose s.faults s'.faults
  pub no_graph : e ≢ GraphStop → g'.faults ≡ g.faults
  pub no_scratch : e ≢ Scratch → s'.faults ≡ s.faults
  pub touches : Touches mine s s'
  pub graph_touches : Touches AnyFile g g'
