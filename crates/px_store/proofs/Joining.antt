-- Calls of a join follow one another.
use Rattle.std.proofs.Common.{◌≡◌, ℕ, Bool, ◌||◌, ◌==◌, List, [], sym, ◌∙◌, ap}
use Rattle.std.specs.Prelude.{Option, Some, None}
use Rattle.std.specs.List.{list_any}
use Rattle.std.proofs.Math.Bool.{or_assoc, or-false}
use Rattle.px_cache.proofs.Lists.{some_is}
use Rattle.px_meaning.specs.Graph.{Graph}
use Rattle.px_meaning.specs.Program.{Row as MeantRow}
use Rattle.px_record.specs.Held.{HeldVertex}
use Rattle.px_store.specs.Joins.{GivesRow, HasRows}
use Rattle.px_store.specs.declared.join.Row.{Row}

-- rows to be given, by a relation that follows
pub rows_map : (p : Bool) (holds : Graph → Type 0) (scans : Graph → Graph → Type 0) (old new : Graph → Graph → List MeantRow → Type 0) (l : Graph) (rows : List MeantRow)
    → ((a b : Graph) (r : List MeantRow) → old a b r → new a b r) → HasRows p holds scans old l rows → HasRows p holds scans new l rows
rows_map p holds scans old new l rows on h = record { given = h.given; coming = h.coming; whole = h.whole; held = h.held; scanned = h.scanned; to_give = on h.given h.coming rows h.to_give }

abbrev pub is_of : ℕ → MeantRow → Bool
is_of vid r = r.vid == vid

-- one row more was looked at
pub any_next : (vid : ℕ) (all found : Bool) (o : Option Row) (r : Row) (v : HeldVertex) (payload : List ℕ) (rows : List MeantRow) (After : List MeantRow → Type 0) → o ≡ Some r
    → all ≡ (found || list_any (is_of vid) rows) → GivesRow o v payload rows After → (rest : List MeantRow) × After rest × (all ≡ ((found || (r.vid == vid)) || list_any (is_of vid) rest))
any_next vid all found None r v payload rows After is so g = absurd (cc is)
any_next vid all found (Some s) r v payload rows After is so g =
    let same : s ≡ r = some_is is in
    let of : is_of vid g.first ≡ (r.vid == vid) = ap (λ (n : ℕ). n == vid) (g.row.vid ∙ ap (λ (x : Row). x.vid) same) in
    let one : list_any (is_of vid) rows ≡ ((r.vid == vid) || list_any (is_of vid) g.rest) = ap (list_any (is_of vid)) g.is ∙ ap (λ (b : Bool). b || list_any (is_of vid) g.rest) of in
    (g.rest, g.after, so ∙ ap (λ (b : Bool). found || b) one ∙ sym (or_assoc found (r.vid == vid) (list_any (is_of vid) g.rest)))

-- no row is left
pub any_ends : (vid : ℕ) (all found : Bool) (o : Option Row) (v : HeldVertex) (payload : List ℕ) (rows : List MeantRow) (After : List MeantRow → Type 0) → o ≡ None
    → all ≡ (found || list_any (is_of vid) rows) → GivesRow o v payload rows After → (all ≡ found) × After []
any_ends vid all found None v payload rows After is so g = (so ∙ ap (λ (r : List MeantRow). found || list_any (is_of vid) r) g.0 ∙ or-false found, g.1)
any_ends vid all found (Some r) v payload rows After is so g = absurd (cc is)
