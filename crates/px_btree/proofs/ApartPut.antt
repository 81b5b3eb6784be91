-- A tuple is put among those that are kept apart.
use Rattle.std.proofs.Common.{◌≡◌, ◌<◌, ◌≤◌, ◌+◌, ℕ, suc, List, [], ◌∷◌, ◌++◌, length, take, drop, refl, sym, ◌∙◌, ap, subst, arith, inl, inr, ◌==◌}
use Rattle.std.specs.Int.{from_bool}
use Rattle.std.proofs.lemmas.Bool.{cases_lt, cases_eq}
use Rattle.std.proofs.lemmas.List.{length-append, length-drop, length-take-le, take-append-drop}
use Rattle.std.proofs.lemmas.Option.{slice_get_past}
use Rattle.std.specs.Prelude.{Some, None, slice_get}
use Rattle.std.specs.List.{prefix_len}
use Rattle.px_cache.proofs.Lists.{some_is}
use Rattle.px_pages.specs.Entry.{Entry, entry_bytes, bytes_of, size_of}
use Rattle.px_pages.specs.Page.{used_of, writer_of}
use Rattle.px_pages.specs.Place.{is_below}
use Rattle.px_pages.proofs.Writing.{made_tuples, length-entry_bytes, length-bytes_of}
use Rattle.px_pages.proofs.Editing.{bytes_join}
use Rattle.px_pages.proofs.Places.{head_is, set-take-drop}
use Rattle.px_btree.specs.Put.{placed, IsFullFor}
use Rattle.px_btree.specs.Apart.{KeepsApart, closed, same_len}
use Rattle.px_btree.specs.declared.apart.Apart.{Apart}
use Rattle.px_btree.proofs.Orders.{not_below, below, not_equal, equal}
use Rattle.px_btree.proofs.Places.{placed_insert, placed_set, past, stops}

-- what gives way to a tuple that is put behind the first i, at most one with its key, and what stays behind it
pub record GivesWay (e : Entry) (es : List Entry) (i : ℕ) : Type 0 where
  pub old : List Entry
  pub rest : List Entry
  pub split : drop i es ≡ old ++ rest
  pub len : same_len e.key (drop i es) ≡ length (bytes_of old)
  pub placed_is : placed e es ≡ take i es ++ e ∷ rest
  pub few : length old ≤ 1

none_some : (d : Entry) → None ≡ Some d → ⊥
none_some d is = cc is

pub gives_way : (e : Entry) (es : List Entry) (i : ℕ) → i ≡ prefix_len (is_below e.key) es → GivesWay e es i
gives_way e es i i_is = go (drop i es) refl
  where
    go : (ys : List Entry) → drop i es ≡ ys → GivesWay e es i
    go [] is =
        let past_end : slice_get es i ≡ None = slice_get_past es i (omega (arith, ap (λ (l : List Entry). length l) is, length-drop i es)) in
        record {
          old = [];
          rest = [];
          split = is;
          len = ap (same_len e.key) is;
          placed_is = placed_insert e es i i_is (λ d at key. none_some d (sym past_end ∙ at)) ∙ ap (λ (l : List Entry). take i es ++ e ∷ l) is;
          few = omega arith;
        }
    go (d ∷ ds) is =
        let head = head_is i es d ds is in
        elim (cases_eq e.key d.key) [
          | inl same ↦
              let one : same_len e.key (d ∷ ds) ≡ size_of d = rw (equal e.key d.key same) refl in
              let next : i + 1 ≡ suc i = omega arith in
              record {
                old = d ∷ [];
                rest = ds;
                split = is;
                len = omega (arith, ap (same_len e.key) is, one, length-append (entry_bytes d) [], length-entry_bytes d);
                placed_is =
                    placed_set e es i d i_is head.get (sym same) ∙ set-take-drop i es e (omega (arith, head.within))
                    ∙ ap (λ (l : List Entry). take i es ++ e ∷ l) (ap (λ (k : ℕ). drop k es) (sym next) ∙ head.rest_is);
                few = omega arith;
              }
          | inr other ↦
              let none : same_len e.key (d ∷ ds) ≡ 0 = rw (not_equal e.key d.key other) refl in
              record {
                old = [];
                rest = d ∷ ds;
                split = is;
                len = ap (same_len e.key) is ∙ none;
                placed_is =
                    placed_insert e es i i_is (λ f at key. let same : d ≡ f = some_is (sym head.get ∙ at) in other (sym (ap (λ (x : Entry). x.key) same ∙ key)))
                    ∙ ap (λ (l : List Entry). take i es ++ e ∷ l) is;
                few = omega arith;
              }
        ]

-- how many tuples there are then
pub way_count : (e : Entry) (es : List Entry) (i : ℕ) (way : GivesWay e es i) → length (take i es ++ e ∷ way.rest) + length way.old ≡ length es + 1
way_count e es i way =
    omega (
      arith,
      length-append (take i es) (e ∷ way.rest),
      ap (λ (l : List Entry). length l) (take-append-drop i es),
      length-append (take i es) (drop i es),
      ap (λ (l : List Entry). length l) way.split,
      length-append way.old way.rest,
    )

-- their bytes
pub way_used : (e : Entry) (es : List Entry) (i : ℕ) (way : GivesWay e es i) → used_of (placed e es) ≡ used_of (take i es) + size_of e + length (bytes_of way.rest)
way_used e es i way =
    omega (
      arith,
      ap (λ (l : List Entry). length (bytes_of l)) way.placed_is,
      ap length (bytes_join (take i es) (e ∷ way.rest)),
      length-append (bytes_of (take i es)) (bytes_of (e ∷ way.rest)),
      length-append (entry_bytes e) (bytes_of way.rest),
      length-entry_bytes e,
    )

pub way_left : (e : Entry) (es : List Entry) (i : ℕ) (way : GivesWay e es i) → length (bytes_of (drop i es)) ≡ length (bytes_of way.old) + length (bytes_of way.rest)
way_left e es i way = ap (λ (l : List Entry). length (bytes_of l)) way.split ∙ ap length (bytes_join way.old way.rest) ∙ length-append (bytes_of way.old) (bytes_of way.rest)

-- a page that was made is too long with a tuple for whatever tuples are found in it
pub full_for : (n k l i : ℕ) (es : List Entry) (a : Apart) (page : List ℕ) (e : Entry) → KeepsApart n k l i es a page → n < used_of (placed e es) → IsFullFor e (closed a page)
full_for n k l i es a page e keeps over len kind link fs made =
    let same : fs ≡ es = sym (made_tuples (writer_of len fs) kind link fs (closed a page) made) ∙ made_tuples (writer_of n es) k l es (closed a page) keeps.made in
    omega (arith, over, ap (λ (l : List Entry). used_of (placed e l)) same, made.page_len, keeps.made.page_len)

-- the next key is not below those in front
pub placed_ahead : (e : Entry) (v : ℕ) (es : List Entry) → e.key < v → prefix_len (is_below e.key) es + 1 ≤ prefix_len (is_below v) (placed e es)
placed_ahead e v [] lt = omega (arith, past v e [] lt)
placed_ahead e v (d ∷ ds) lt = elim (cases_lt e.key d.key) [
  | inl less ↦
      let here : placed e (d ∷ ds) ≡ e ∷ d ∷ ds = rw (below e.key d.key less) refl in
      omega (arith, ap (prefix_len (is_below v)) here, past v e (d ∷ ds) lt, stops e.key d ds (omega (arith, less)))
  | inr ge ↦ elim (cases_eq e.key d.key) [
    | inl same ↦
        let here : placed e (d ∷ ds) ≡ e ∷ ds = rw (not_below e.key d.key ge, equal e.key d.key same) refl in
        omega (arith, ap (prefix_len (is_below v)) here, past v e ds lt, stops e.key d ds (omega (arith, same)))
    | inr other ↦
        let here : placed e (d ∷ ds) ≡ d ∷ placed e ds = rw (not_below e.key d.key ge, not_equal e.key d.key other) refl in
        omega (
          arith,
          ap (prefix_len (is_below v)) here,
          past v d (placed e ds) (omega (arith, ge, lt)),
          past e.key d ds (omega (arith, ge, other)),
          placed_ahead e v ds lt,
        )
  ]
]

-- the page, told of by what gives way in it
pub way_keeps : (n k l i : ℕ) (e : Entry) (es : List Entry) (a : Apart) (page : List ℕ) (way : GivesWay e es i) → KeepsApart n k l i es a page
    → KeepsApart n k l (length (take i es)) (take i es ++ (way.old ++ way.rest)) a page
way_keeps n k l i e es a page way keeps =
    subst (λ (x : ℕ). KeepsApart n k l x (take i es ++ (way.old ++ way.rest)) a page) (sym (length-take-le i es keeps.parts.index))
    (subst (λ (x : List Entry). KeepsApart n k l i x a page) (sym (take-append-drop i es) ∙ ap (λ (x : List Entry). take i es ++ x) way.split) keeps)

pub way_placed : (n k l i : ℕ) (e : Entry) (es : List Entry) (a : Apart) (page : List ℕ) (way : GivesWay e es i) → i ≤ length es
    → KeepsApart n k l (length (take i es) + 1) (take i es ++ e ∷ way.rest) a page → KeepsApart n k l (i + 1) (placed e es) a page
way_placed n k l i e es a page way le keeps =
    subst (λ (x : ℕ). KeepsApart n k l (x + 1) (placed e es) a page) (length-take-le i es le)
    (subst (λ (x : List Entry). KeepsApart n k l (length (take i es) + 1) x a page) (sym way.placed_is) keeps)

-- with no room before what stays, the tuples are too long
pub way_full : (n k l i to : ℕ) (e : Entry) (es : List Entry) (a : Apart) (page : List ℕ) (way : GivesWay e es i) → KeepsApart n k l i es a page
    → to ≡ a.back + same_len e.key (drop i es) → to < a.at + size_of e → n < used_of (placed e es)
way_full n k l i to e es a page way keeps to_is short =
    omega (arith, to_is, way.len, keeps.parts.at, keeps.parts.back, way_left e es i way, way_used e es i way, short)

-- a tuple more, if none gave way
pub way_more : (i to back : ℕ) (e : Entry) (es : List Entry) (way : GivesWay e es i) → to ≡ back + same_len e.key (drop i es)
    → length (take i es ++ e ∷ way.rest) ≡ length es + from_bool (to == back)
way_more i to back e es way to_is = elim (cases_eq to back) [
  | inl same ↦
      let one : from_bool (to == back) ≡ 1 = rw (equal to back same) refl in
      omega (arith, one, way_count e es i way, to_is, same, way.len, length-bytes_of way.old)
  | inr other ↦
      let none : from_bool (to == back) ≡ 0 = rw (not_equal to back other) refl in
      omega (arith, none, way_count e es i way, one_old way.old way.few (λ len. other (omega (arith, to_is, way.len, len))))
]
  where
    one_old : (old : List Entry) → length old ≤ 1 → (length (bytes_of old) ≡ 0 → ⊥) → length old ≡ 1
    one_old [] few some = absurd (some refl)
    one_old (d ∷ ds) few some = omega (arith, few)
