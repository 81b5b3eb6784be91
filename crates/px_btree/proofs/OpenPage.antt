-- A page is open for the vids from one on.
use Rattle.std.proofs.Common.{◌≡◌, ◌<◌, ◌≤◌, ◌+◌, ◌⊎◌, ℕ, Bool, List, [], length, drop, sym, ◌∙◌, ap, subst, arith, inl, inr}
use Rattle.std.proofs.lemmas.Bool.{cases_lt}
use Rattle.std.proofs.lemmas.List.{drop_all}
use Rattle.std.specs.Prelude.{is_some}
use Rattle.std.specs.List.{prefix_len}
use Rattle.px_meaning.specs.Graph.{Vertex, lookup, vertex_or_fresh}
use Rattle.px_pages.specs.Entry.{Entry, bytes_of}
use Rattle.px_pages.specs.Page.{IsMade, writer_of, tuples_of, link_of}
use Rattle.px_pages.specs.Place.{is_below}
use Rattle.px_pages.proofs.Writing.{made_tuples, made_link}
use Rattle.px_btree.specs.Put.{placed}
use Rattle.px_btree.specs.Tree.{Piece, AreKeys, AreItems, items}
use Rattle.px_btree.specs.Apart.{KeepsApart, Parts, closed}
use Rattle.px_btree.specs.Open.{IsOpenFrom, PartsAt, EndsHere, PutsApart, GivesApart}
use Rattle.px_btree.specs.declared.apart.Apart.{Apart}
use Rattle.px_btree.proofs.ApartWalk.{prefix_from}
use Rattle.px_btree.proofs.ApartPage.{keeps_within, length-closed, link_is}
use Rattle.px_btree.proofs.ApartPut.{placed_ahead}
use Rattle.px_btree.proofs.Marking.{below_more}

-- the tuples below a vid were passed
pub reached : (v from : ℕ) (a a' : Apart) (page page' : List ℕ) → from ≤ v → (is : IsOpenFrom from a page)
    → KeepsApart is.len is.page_kind is.page_link (is.index + prefix_len (is_below v) (drop is.index is.es)) is.es a' page'
    → KeepsApart is.len is.page_kind is.page_link (prefix_len (is_below v) is.es) is.es a' page'
reached v from a a' page page' le is keeps = subst (λ x. KeepsApart is.len is.page_kind is.page_link x is.es a' page') (prefix_from v is.index is.es (is.ahead v le)) keeps

pub open_at : (v n k l : ℕ) (es : List Entry) (a : Apart) (page : List ℕ) → KeepsApart n k l (prefix_len (is_below v) es) es a page → IsOpenFrom v a page
open_at v n k l es a page keeps = record {
  len = n;
  page_kind = k;
  page_link = l;
  index = prefix_len (is_below v) es;
  es = es;
  keeps = keeps;
  ahead = λ w le. below_more v w es le;
}

-- with tuples behind, or as the last one, the page is that of the vid
pub ends_at : (v n k l : ℕ) (es : List Entry) (a : Apart) (page : List ℕ) → KeepsApart n k l (prefix_len (is_below v) es) es a page → (a.back < length page) ⊎ (link_of page ≡ 0) → EndsHere v (closed a page)
ends_at v n k l es a page keeps ends =
    let i = prefix_len (is_below v) es in
    let ts : tuples_of (closed a page) ≡ es = made_tuples (writer_of n es) k l es (closed a page) keeps.made in
    elim ends [
      | inl more ↦ elim (cases_lt i (length es)) [
        | inl lt ↦ inl (omega (arith, lt, ap (prefix_len (is_below v)) ts, ap (λ (x : List Entry). length x) ts))
        | inr ge ↦
            let none : bytes_of (drop i es) ≡ [] = ap bytes_of (drop_all i es ge) in
            absurd (omega (arith, more, keeps.parts.back, keeps.page_len, ap (λ (x : List ℕ). length x) none))
      ]
      | inr last ↦ inr (made_link (writer_of n es) k l es (closed a page) keeps.made ∙ sym (link_is n k l i es a page keeps) ∙ last)
    ]

-- whatever tuples the closed page is made of
pub keeps_too : (n k l i n' k' l' : ℕ) (es fs : List Entry) (a : Apart) (page : List ℕ) → KeepsApart n k l i es a page → IsMade (writer_of n' fs) k' l' fs (closed a page) → KeepsApart n' k' l' i fs a page
keeps_too n k l i n' k' l' es fs a page keeps made =
    let same : es ≡ fs = sym (made_tuples (writer_of n es) k l es (closed a page) keeps.made) ∙ made_tuples (writer_of n' fs) k' l' fs (closed a page) made in
    let len : n ≡ n' = sym keeps.page_len ∙ sym (length-closed a page (keeps_within n k l i es a page keeps)) ∙ made.page_len in
    record {
      made = made;
      parts = subst (λ (x : ℕ). Parts x i fs a) len (subst (λ (x : List Entry). Parts n i x a) same keeps.parts);
      page_len = keeps.page_len ∙ len;
    }

-- a tuple was put
pub puts_apart : (e : Entry) (a0 a a' : Apart) (old0 old new : List ℕ) → closed a old ≡ closed a0 old0 → IsOpenFrom e.key a old → EndsHere e.key (closed a0 old0)
    → ((n k l i : ℕ) (es : List Entry) → KeepsApart n k l i es a old → i ≤ prefix_len (is_below e.key) es → KeepsApart n k l (prefix_len (is_below e.key) es + 1) (placed e es) a' new)
    → PutsApart e a0 a' old0 new
puts_apart e a0 a a' old0 old new shut is ends puts =
    let ahead = is.ahead e.key (omega arith) in
    let now = puts is.len is.page_kind is.page_link is.index is.es is.keeps ahead in
    record {
      next = record {
        len = is.len;
        page_kind = is.page_kind;
        page_link = is.page_link;
        index = prefix_len (is_below e.key) is.es + 1;
        es = placed e is.es;
        keeps = now;
        ahead = λ w le. placed_ahead e w is.es (omega (arith, le));
      };
      turned = λ n k l es made.
          let made' = subst (λ (x : List ℕ). IsMade (writer_of n es) k l es x) (sym shut) made in
          let same : is.es ≡ es = sym (made_tuples (writer_of is.len is.es) is.page_kind is.page_link is.es (closed a old) is.keeps.made) ∙ made_tuples (writer_of n es) k l es (closed a old) made' in
          (puts n k l is.index es (keeps_too is.len is.page_kind is.page_link is.index n k l is.es es a old is.keeps made') (omega (arith, ahead, ap (prefix_len (is_below e.key)) same))).made;
      ends = ends;
    }

-- the vertex of a vid was taken from the tuples that are kept apart
pub gives_apart : (v : ℕ) (there : Bool) (x : Vertex) (a : Apart) (page shut : List ℕ) → closed a page ≡ shut → PartsAt v a page → EndsHere v shut
    → ((n k l : ℕ) (es : List Entry) (low : ℕ) (xs : List Piece) → KeepsApart n k l (prefix_len (is_below v) es) es a page → AreKeys low es xs → AreItems (length page) es
    → (there ≡ is_some (lookup v (items es))) × (x ≡ vertex_or_fresh (lookup v (items es))))
    → GivesApart v there x shut
gives_apart v there x a page shut same parts ends found =
    let n = parts.len in
    let k = parts.page_kind in
    let l = parts.page_link in
    let ts : tuples_of shut ≡ parts.es = ap tuples_of (sym same) ∙ made_tuples (writer_of n parts.es) k l parts.es (closed a page) parts.keeps.made in
    let len : length shut ≡ length page = ap (λ (b : List ℕ). length b) (sym same) ∙ length-closed a page (keeps_within n k l (prefix_len (is_below v) parts.es) parts.es a page parts.keeps) in
    record {
      ends = ends;
      found = λ low xs keys all.
          let keys' : AreKeys low parts.es xs = subst (λ (es : List Entry). AreKeys low es xs) ts keys in
          let all' : AreItems (length page) parts.es = subst (λ (m : ℕ). AreItems m parts.es) len (subst (λ (es : List Entry). AreItems (length shut) es) ts all) in
          subst (λ (es : List Entry). (there ≡ is_some (lookup v (items es))) × (x ≡ vertex_or_fresh (lookup v (items es)))) (sym ts) (found n k l parts.es low xs parts.keeps keys' all');
    }
