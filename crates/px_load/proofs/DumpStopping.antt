-- Why a dump stopped, after calls that did not fail.
use Rattle.std.proofs.Common.{◌≡◌, ℕ, Bool, refl, sym, subst, inl, inr}
use Rattle.std.specs.Prelude.{Result, Ok, Err, OnOk, IfErr}
use Rattle.px_core.specs.Counts.{Rose}
use Rattle.px_core.specs.Shown.{Shown, Clean, Broke, NoFile}
use Rattle.px_core.specs.declared.stop.Stop.{Stop}
use Rattle.px_core.specs.declared.stop.Stop.TheVariants as disks
use Rattle.px_core.proofs.Steps.{clean_refl, clean_more}
use Rattle.px_core.proofs.Pages.{touches_refl, touches_then, touches_more}
use Rattle.px_cache.specs.View.{AnyFile}
use Rattle.px_load.specs.Dumping.{DumpStops, IsDumpFile, of_stop, is_sink, is_graph, is_scratch}
use Rattle.px_load.specs.Framed.{EndsFramed}
use Rattle.px_load.specs.Stops.{Counts}
use Rattle.px_load.specs.declared.stops.DumpStop.{DumpStop}
use Rattle.px_load.specs.declared.stops.DumpStop.TheVariants as stops

-- the scratch disk failed
pub dump_scratch : (mine : ℕ → Type 0) (n : ℕ) (g s s' : Shown) (e : Stop) → ((f : ℕ) → mine f → IsDumpFile f) → Broke disks.Scratch mine s s' e → DumpStops n n g g s s' (of_stop e)
dump_scratch mine n g s s' e sub h = subst (λ (x : Stop). DumpStops n n g g s s' (of_stop x)) (sym h.only) (record {
  sink = refl;
  graph = refl;
  scratch = h.rose;
  graph_touches = touches_refl AnyFile g;
  scratch_touches = touches_more mine IsDumpFile s s' sub h.touches;
})

-- the graph disk failed
pub dump_graph : (n : ℕ) (g g' s : Shown) (e : Stop) → Broke disks.Graph AnyFile g g' e → DumpStops n n g g' s s (of_stop e)
dump_graph n g g' s e h = subst (λ (x : Stop). DumpStops n n g g' s s (of_stop x)) (sym h.only) (record {
  sink = refl;
  graph = h.rose;
  scratch = refl;
  graph_touches = h.touches;
  scratch_touches = touches_refl IsDumpFile s;
})

-- the sink failed
pub dump_sink : (n n' : ℕ) (g s : Shown) → Rose n n' → DumpStops n n' g g s s stops.Sink
dump_sink n n' g s rose = record {
  sink = rose;
  graph = refl;
  scratch = refl;
  graph_touches = touches_refl AnyFile g;
  scratch_touches = touches_refl IsDumpFile s;
}

counts_from : (b : Bool) (n m k : ℕ) → m ≡ n → Counts b m k → Counts b n k
counts_from b n m k is h = subst (λ (x : ℕ). Counts b x k) is h

-- calls that did not fail came before
pub dump_after : (n m k : ℕ) (a b c s t u : Shown) (e : DumpStop) → m ≡ n → Clean AnyFile a b → Clean IsDumpFile s t → DumpStops m k b c t u e → DumpStops n k a c s u e
dump_after n m k a b c s t u e sink graph scratch h = record {
  sink = counts_from (is_sink e) n m k sink h.sink;
  graph = counts_from (is_graph e) a.faults b.faults c.faults graph.no_fault h.graph;
  scratch = counts_from (is_scratch e) s.faults t.faults u.faults scratch.no_fault h.scratch;
  graph_touches = touches_then AnyFile a b c graph.touches h.graph_touches;
  scratch_touches = touches_then IsDumpFile s t u scratch.touches h.scratch_touches;
}

-- it ended since what came before did, or since the sink failed
pub ends_dump : (n m k : ℕ) (graph s t : Shown) (put : Result (Unit {0}) DumpStop) (e : DumpStop) → IfErr put (λ x. (g : Shown) → DumpStops n m g g s t x) → OnOk put (m ≡ n) → OnOk put (Clean NoFile s t) → EndsFramed put e m k → DumpStops n k graph graph s t e
ends_dump n m k graph s t (Err x) e err same clean (inl h) =
    let is : x ≡ e = cc in
    subst (λ (y : DumpStop). DumpStops n k graph graph s t y) is (subst (λ (j : ℕ). DumpStops n j graph graph s t x) (sym h.1) (err graph))
ends_dump n m k graph s t (Err x) e err same clean (inr h) = absurd (cc h.0)
ends_dump n m k graph s t (Ok u) e err same clean (inl h) = absurd (cc h.0)
ends_dump n m k graph s t (Ok u) e err same clean (inr h) =
    subst (λ (y : DumpStop). DumpStops n k graph graph s t y) (sym h.1) (dump_after n m k graph graph graph s t t stops.Sink same (clean_refl AnyFile graph) (clean_more NoFile IsDumpFile s t (λ f none. absurd none) clean) (dump_sink m k graph t h.2))
