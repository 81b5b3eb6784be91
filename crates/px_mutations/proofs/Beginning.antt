-- The requests are grouped before anything is settled.
use Rattle.std.proofs.Common.{◌≡◌, ℕ, List, [], ◌∷◌, ◌++◌, length, fold, ◌∙◌, ap, refl}
use Rattle.std.specs.Prelude.{Result, Ok, Err, OnOk, IfErr}
use Rattle.px_core.specs.Shown.{Shown, Clean}
use Rattle.px_core.specs.declared.stop.Stop.{Stop}
use Rattle.px_core.specs.declared.stop.Stop.TheVariants.{Beyond}
use Rattle.px_cache.specs.View.{AnyFile}
use Rattle.px_meaning.specs.Graph.{Graph, lookup, vids, ascending}
use Rattle.px_meaning.specs.Merge.{MergeLaws, Pairs, grouped}
use Rattle.px_meaning.specs.Program.{ProgramMeaning}
use Rattle.px_meaning.specs.Step.{settle, settled}
use Rattle.px_meaning.proofs.Ascending.{ascending-append_right}
use Rattle.px_meaning.proofs.Grouping.{IsMap-grouped, vids-grouped, grouped-grouped, AllValid-grouped}
use Rattle.px_pages.specs.Entry.{Entry}
use Rattle.px_connectors.specs.Asking.{requests}
use Rattle.px_connectors.specs.Messages.{pairs_of}
use Rattle.px_connectors.specs.Stops.{StopsPhase}
use Rattle.px_mutations.specs.declared.applying.Tally.{Tally}
use Rattle.px_mutations.specs.Applying.{touched, Begun, IsMerging}
use Rattle.px_mutations.proofs.Apart.{beyond_stops}

pub pairs_requests : (l : Pairs) → pairs_of (requests l) ≡ l
pairs_requests [] = refl
pairs_requests (e ∷ l) = ap (λ (k : Pairs). e ∷ k) (pairs_requests l)

pub settled_grouped : (p : ProgramMeaning) (g : Graph) (asked : Pairs) → settled p g (grouped p.verdict asked) ≡ settled p g asked
settled_grouped p g asked = ap (λ (es : Pairs). fold (λ k e. settle e.0 (p.settle_of e.0 (lookup e.0 k) e.1) k) g es) (grouped-grouped p.verdict asked)

pub touched_grouped : (p : ProgramMeaning) (changes : Graph) (asked : Pairs) → touched changes (grouped p.verdict asked) ≡ touched changes asked
touched_grouped p changes asked = ap (λ (vs : List ℕ). length (ascending (vids changes ++ vs))) (vids-grouped p.verdict asked) ∙ ap length (ascending-append_right (vids changes) (vids asked))

pub begins_merging : (p : ProgramMeaning) → MergeLaws p.verdict → (room : ℕ) (tally : Tally) (holding : Graph → Type 0) (updating asking writing updating' writing' : List Entry → Type 0) (grouping giving : Pairs → Type 0) (l changes : Graph) (asked : Pairs)
    → ((es : List Entry) → updating es → updating' es) → ((es : List Entry) → writing es → writing' es) → giving (grouped p.verdict asked)
    → Begun p room tally holding updating asking writing grouping l changes asked → IsMerging p room holding updating' giving writing' l changes (grouped p.verdict asked)
begins_merging p laws room tally holding updating asking writing updating' writing' grouping giving l changes asked keep stay gives b = record {
  map_changes = b.is_ready.is_map;
  map_folds = IsMap-grouped p.verdict asked;
  stored = b.is_ready.stored;
  valid = AllValid-grouped p.verdict laws asked b.is_ready.valid;
  fit = b.is_ready.fit;
  awake = b.is_ready.awake;
  held = b.held;
  updates = keep _ b.updates;
  gives = gives;
  vids_are = stay [] b.vids_are;
}

-- what is known anyway, at a result

pub on_ok : {A E : Type 0} (r : Result A E) (X : Type 0) → X → OnOk r X
on_ok (Ok a) X x = x
on_ok (Err e) X x = tt

pub on_ok_map : {A E : Type 0} (r : Result A E) (X Y : Type 0) → (X → Y) → OnOk r X → OnOk r Y
on_ok_map (Ok a) X Y f x = f x
on_ok_map (Err e) X Y f x = tt

-- there are too many vertices
pub tally_stops : {A : Type 0} (r : Result A Stop) (mine : ℕ → Type 0) (S X Y : Graph → Graph → Pairs → Type 0) (g g' s s' : Shown) → ((l changes : Graph) (asked : Pairs) → X l changes asked → Y l changes asked) → IfErr r (λ e. e ≡ Beyond)
    → ((l changes : Graph) (asked : Pairs) → S l changes asked → IfErr r (λ e. X l changes asked)) → Clean AnyFile g g' → Clean mine s s'
    → IfErr r (StopsPhase mine ((l changes : Graph) (asked : Pairs) → S l changes asked → Y l changes asked) g g' s s')
tally_stops (Ok a) mine S X Y g g' s s' on is h graph scratch = tt
tally_stops (Err e) mine S X Y g g' s s' on is h graph scratch = beyond_stops mine _ g g' s s' e is (λ l changes asked b. on l changes asked (h l changes asked b)) graph scratch
