-- Why a load stopped, after calls that did not fail.
use Rattle.std.proofs.Common.{◌≡◌, ℕ, Bool, refl, sym, subst}
use Rattle.std.specs.Prelude.{Option}
use Rattle.px_meaning.specs.Graph.{Graph}
use Rattle.px_meaning.specs.GraphText.{Offence, TextMeaning, Good}
use Rattle.px_core.specs.Counts.{Rose}
use Rattle.px_core.specs.Shown.{Shown, Clean, Broke}
use Rattle.px_core.specs.declared.stop.Stop.{Stop}
use Rattle.px_core.specs.declared.stop.Stop.TheVariants as disks
use Rattle.px_core.proofs.Pages.{touches_refl, touches_then, touches_more}
use Rattle.px_cache.specs.View.{AnyFile}
use Rattle.px_graph_text.specs.declared.refusal.TextStop.{TextStop}
use Rattle.px_graph_text.specs.declared.refusal.TextStop.TheVariants as texts
use Rattle.px_load.specs.Reading.{RefusesText, RefusesPairs}
use Rattle.px_load.specs.Stops.{Stops, IsAfterText, IsFault, HasGoodLines, IsLineRefusal, IsRefusal, Counts, IsLoadFile, of_text, of_disk, is_source, is_graph, is_scratch}
use Rattle.px_load.specs.declared.stops.LoadStop.{LoadStop}
use Rattle.px_load.specs.declared.stops.LoadStop.TheVariants as stops

-- the scratch disk failed
pub stops_scratch : (mine : ℕ → Type 0) (n : ℕ) (g s s' : Shown) (e : Stop) → ((f : ℕ) → mine f → IsLoadFile f) → Broke Stop.Scratch mine s s' e → Stops n n g g s s' (of_disk e)
stops_scratch mine n g s s' e sub h = subst (λ (x : Stop). Stops n n g g s s' (of_disk x)) (sym h.only) (record {
  source = refl;
  graph = refl;
  scratch = h.rose;
  graph_touches = touches_refl AnyFile g;
  scratch_touches = touches_more mine IsLoadFile s s' sub h.touches;
})

-- the graph disk failed
pub stops_graph : (n : ℕ) (g g' s : Shown) (e : Stop) → Broke Stop.Graph AnyFile g g' e → Stops n n g g' s s (of_disk e)
stops_graph n g g' s e h = subst (λ (x : Stop). Stops n n g g' s s (of_disk x)) (sym h.only) (record {
  source = refl;
  graph = h.rose;
  scratch = refl;
  graph_touches = h.touches;
  scratch_touches = touches_refl IsLoadFile s;
})

-- the source failed, or the text is refused
pub stops_text : (n n' : ℕ) (g s : Shown) (e : TextStop) → (e ≡ texts.Source → Rose n n') → ((e ≡ texts.Source → ⊥) → n' ≡ n) → Stops n n' g g s s (of_text e)
stops_text n n' g s texts.Source rose same = record {
  source = rose refl;
  graph = refl;
  scratch = refl;
  graph_touches = touches_refl AnyFile g;
  scratch_touches = touches_refl IsLoadFile s;
}
stops_text n n' g s (texts.Bad line kind) rose same = record {
  source = same (λ is. absurd (cc is));
  graph = refl;
  scratch = refl;
  graph_touches = touches_refl AnyFile g;
  scratch_touches = touches_refl IsLoadFile s;
}

counts_from : (b : Bool) (n m k : ℕ) → m ≡ n → Counts b m k → Counts b n k
counts_from b n m k is h = subst (λ (x : ℕ). Counts b x k) is h

-- calls that did not fail came before
pub stops_after : (n m k : ℕ) (a b c s t u : Shown) (e : LoadStop) → m ≡ n → Clean AnyFile a b → Clean IsLoadFile s t → Stops m k b c t u e → Stops n k a c s u e
stops_after n m k a b c s t u e source graph scratch h = record {
  source = counts_from (is_source e) n m k source h.source;
  graph = counts_from (is_graph e) a.faults b.faults c.faults graph.no_fault h.graph;
  scratch = counts_from (is_scratch e) s.faults t.faults u.faults scratch.no_fault h.scratch;
  graph_touches = touches_then AnyFile a b c graph.touches h.graph_touches;
  scratch_touches = touches_then IsLoadFile s t u scratch.touches h.scratch_touches;
}

-- a fault says nothing of the text
pub disk_refuses : (e : Stop) (o : Option Offence) → e ≡ disks.Scratch → RefusesText (of_disk e) o
disk_refuses disks.Graph o is = absurd (cc is)
disk_refuses disks.Scratch o is = tt
disk_refuses disks.Beyond o is = absurd (cc is)

pub disk_refuses_pairs : (IsTwice : ℕ → Type 0) (e : Stop) → e ≡ disks.Scratch → RefusesPairs IsTwice (of_disk e)
disk_refuses_pairs IsTwice disks.Graph is = absurd (cc is)
disk_refuses_pairs IsTwice disks.Scratch is = tt
disk_refuses_pairs IsTwice disks.Beyond is = absurd (cc is)

-- what is known of a vid that stands twice is said of other pairs
pub pairs_refuse_as : (P Q : ℕ → Type 0) (e : LoadStop) → ((v : ℕ) → P v → Q v) → RefusesPairs P e → RefusesPairs Q e
pairs_refuse_as P Q stops.Source more h = h
pairs_refuse_as P Q (stops.Bad line kind) more h = h
pairs_refuse_as P Q (stops.Twice v) more h = more v h
pairs_refuse_as P Q stops.Graph more h = h
pairs_refuse_as P Q stops.Scratch more h = h

-- nor is it answered after the text was read alone
pub text_first : (e : LoadStop) (o : Option Offence) → RefusesText e o → IsAfterText e → ⊥
text_first stops.Source o h after = after
text_first (stops.Bad line kind) o h after = after
text_first (stops.Twice v) o h after = h
text_first stops.Graph o h after = h
text_first stops.Scratch o h after = after

pub disk_fault : (e : Stop) → IsFault (of_disk e)
disk_fault disks.Graph = tt
disk_fault disks.Scratch = tt
disk_fault disks.Beyond = tt

pub fault_refuses : (m : TextMeaning) (e : LoadStop) (graph : Graph) → m ≡ Good graph → IsFault e → IsRefusal m e
fault_refuses m stops.Source graph good h = tt
fault_refuses m (stops.Bad line kind) graph good h = absurd h
fault_refuses m (stops.Twice v) graph good h = absurd h
fault_refuses m stops.Graph graph good h = (graph, good)
fault_refuses m stops.Scratch graph good h = tt

pub fault_refuses_line : (m : TextMeaning) (e : LoadStop) → HasGoodLines m → IsFault e → IsLineRefusal m e
fault_refuses_line m stops.Source good h = tt
fault_refuses_line m (stops.Bad line kind) good h = absurd h
fault_refuses_line m (stops.Twice v) good h = absurd h
fault_refuses_line m stops.Graph good h = good
fault_refuses_line m stops.Scratch good h = tt
