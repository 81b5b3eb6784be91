-- Search among the tuples of one page.
use Rattle.std.specs.Prelude.{◌≡◌, ◌==◌, ℕ, if◌then◌else◌, nat_lt, List, [], ◌∷◌, Option, Some, None}
use Rattle.std.specs.List.{prefix_len}
use Rattle.std.specs.List.Sorted.{IsNonDecreasingBy}
use Rattle.byteorder.specs.Endian.{big_number, big_bytes}
use Rattle.px_pages.specs.Entry.{Entry, entry}
use Rattle.px_pages.specs.Children.{AreChildren}
use Rattle.px_pages.specs.Page.{tuples_of}
use Rattle.px_pages.specs.Place.{IsPlace, is_below}
use Rattle.px_pages.specs.declared.place.Place.{Place}
use Rattle.px_pages.specs.declared.reader.Tuple.{Tuple}

-- the page that a tuple of an inner page leads to
abbrev pub leads_to : Entry → ℕ
leads_to e = big_number 8 e.body

-- the page that the last tuple leads to before the first whose key is above v, or this page where there is none
abbrev pub chosen : ℕ → ℕ → List Entry → ℕ
chosen v page [] = page
chosen v page (e ∷ es) = if nat_lt v e.key then page else chosen v (leads_to e) es

-- the tuples lead to pages, and their keys ascend
pub record IsChildPage (es : List Entry) : Type 0 where
  pub children : AreChildren es
  pub ascending : IsNonDecreasingBy (λ (e : Entry). e.key) es

-- the first tuple with this key
abbrev pub found : ℕ → List Entry → Option Entry
found v [] = None
found v (e ∷ es) = if v == e.key then Some e else found v es

-- a tuple is there, and has this key
abbrev pub KeyIs : Option Tuple → ℕ → Type 0
KeyIs None v = ⊥
KeyIs (Some t) v = t.key ≡ v

-- the place is that of a key: behind the tuples below it
pub record IsPlaceOf (v : ℕ) (p : Place) (page : List ℕ) : Type 0 where
  pub place : IsPlace p page
  pub first : p.index ≡ prefix_len (is_below v) (tuples_of page)

-- the tuple that leads to a page whose keys are from low on
abbrev pub child : ℕ → ℕ → Entry
child low page = entry low 5 (big_bytes 8 page)
