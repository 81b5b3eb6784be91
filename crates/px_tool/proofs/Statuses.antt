-- What a status says of the ending.
use Rattle.std.proofs.Common.{◌≡◌, ◌≢◌, ℕ, ◌==◌, ap, refl, subst}
use Rattle.std.proofs.lemmas.Bool.{eq-eqb, ne_eqb}
use Rattle.px_core.specs.Counts.{Rose}
use Rattle.px_load.specs.Stops.{Counts}
use Rattle.px_superstep.specs.declared.plan.End.TheVariants.{Done, Short, Memory, Bad, Twice, Beyond, Limit, Graph, Scratch, Source, Sink}
use Rattle.px_tool.specs.Due.{Due}
use Rattle.px_tool.specs.Endings.{ending_of, line_of, status_of}
use Rattle.px_tool.specs.Clauses.{HasFaults, IsDecided, IsStatus, line_owed}
use Rattle.px_tool.specs.declared.ending.Ending.{Ending}
use Rattle.px_tool.specs.declared.ending.Ending.TheVariants.{Usage, Ran}

pub is_status : (e : Ending) → IsStatus (status_of e)
is_status Usage = refl
is_status (Ran Done) = refl
is_status (Ran (Short need have)) = refl
is_status (Ran Memory) = refl
is_status (Ran (Bad line kind)) = refl
is_status (Ran (Twice v)) = refl
is_status (Ran (Beyond s)) = refl
is_status (Ran (Limit n)) = refl
is_status (Ran Graph) = refl
is_status (Ran Scratch) = refl
is_status (Ran Source) = refl
is_status (Ran Sink) = refl

pub is_usage : (e : Ending) → status_of e ≡ 1 → e ≡ Usage
is_usage Usage h = refl
is_usage (Ran Done) h = cc
is_usage (Ran (Short need have)) h = cc
is_usage (Ran Memory) h = cc
is_usage (Ran (Bad line kind)) h = cc
is_usage (Ran (Twice v)) h = cc
is_usage (Ran (Beyond s)) h = cc
is_usage (Ran (Limit n)) h = cc
is_usage (Ran Graph) h = cc
is_usage (Ran Scratch) h = cc
is_usage (Ran Source) h = cc
is_usage (Ran Sink) h = cc

pub is_done : (e : Ending) → status_of e ≡ 0 → e ≡ Ran Done
is_done Usage h = cc
is_done (Ran Done) h = refl
is_done (Ran (Short need have)) h = cc
is_done (Ran Memory) h = cc
is_done (Ran (Bad line kind)) h = cc
is_done (Ran (Twice v)) h = cc
is_done (Ran (Beyond s)) h = cc
is_done (Ran (Limit n)) h = cc
is_done (Ran Graph) h = cc
is_done (Ran Scratch) h = cc
is_done (Ran Source) h = cc
is_done (Ran Sink) h = cc

-- the line that is owed at the status of an ending is its line
pub line_is : (e : Ending) (d : Due) → (IsDecided (status_of e) → ending_of d ≡ e) → line_owed (status_of e) d ≡ line_of e
line_is Usage d h = ap line_of (h refl)
line_is (Ran Done) d h = ap line_of (h refl)
line_is (Ran (Short need have)) d h = ap line_of (h refl)
line_is (Ran Memory) d h = refl
line_is (Ran (Bad line kind)) d h = ap line_of (h refl)
line_is (Ran (Twice v)) d h = ap line_of (h refl)
line_is (Ran (Beyond s)) d h = ap line_of (h refl)
line_is (Ran (Limit n)) d h = ap line_of (h refl)
line_is (Ran Graph) d h = refl
line_is (Ran Scratch) d h = refl
line_is (Ran Source) d h = refl
line_is (Ran Sink) d h = refl

-- the status is decided, or is that of want of memory, or names the device that failed
data Cause (e : Ending) : Type 0 where
  Decided : IsDecided (status_of e) → Cause e
  NoMemory : status_of e ≡ 10 → Cause e
  OfGraph : status_of e ≡ 6 → Cause e
  OfScratch : status_of e ≡ 7 → Cause e
  OfSource : status_of e ≡ 8 → Cause e
  OfSink : status_of e ≡ 9 → Cause e

cause_of : (e : Ending) → Cause e
cause_of Usage = Decided refl
cause_of (Ran Done) = Decided refl
cause_of (Ran (Short need have)) = Decided refl
cause_of (Ran Memory) = NoMemory refl
cause_of (Ran (Bad line kind)) = Decided refl
cause_of (Ran (Twice v)) = Decided refl
cause_of (Ran (Beyond s)) = Decided refl
cause_of (Ran (Limit n)) = Decided refl
cause_of (Ran Graph) = OfGraph refl
cause_of (Ran Scratch) = OfScratch refl
cause_of (Ran Source) = OfSource refl
cause_of (Ran Sink) = OfSink refl

-- a count that rises at this status alone
pub rises : (status at before now : ℕ) → Counts (status == at) before now → status ≡ at → Rose before now
rises status at before now h is = subst (λ b. Counts b before now) (eq-eqb status at is) h

pub stays : (status at before now : ℕ) → Counts (status == at) before now → status ≢ at → now ≡ before
stays status at before now h not = subst (λ b. Counts b before now) (ne_eqb status at not) h

-- where no fault rose and memory was not wanting, the status is decided
pub decided_of : (e : Ending) (r r' w w' g g' s s' : ℕ) → HasFaults (status_of e) r r' w w' g g' s s' → (Rose r r' → ⊥) → (Rose w w' → ⊥) → (Rose g g' → ⊥) → (Rose s s' → ⊥) → status_of e ≢ 10 → IsDecided (status_of e)
decided_of e r r' w w' g g' s s' f no_source no_sink no_graph no_scratch memory =
    elim (cause_of e) [
      | Decided is ↦ is
      | NoMemory is ↦ absurd (memory is)
      | OfGraph is ↦ absurd (no_graph (rises (status_of e) 6 g g' f.graph is))
      | OfScratch is ↦ absurd (no_scratch (rises (status_of e) 7 s s' f.scratch is))
      | OfSource is ↦ absurd (no_source (rises (status_of e) 8 r r' f.source is))
      | OfSink is ↦ absurd (no_sink (rises (status_of e) 9 w w' f.sink is))
    ]
