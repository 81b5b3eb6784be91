-- A tree one of whose leaves may be open.
use Rattle.std.specs.Prelude.{◌≡◌, ◌≤◌, ◌<◌, ◌+◌, ◌*◌, ◌⊎◌, ℕ, Bool, List, [], length, slice_index_or, Option, Some, None, is_some}
use Rattle.std.specs.List.{prefix_len}
use Rattle.px_core.specs.Shown.{Shown}
use Rattle.px_meaning.specs.Graph.{Vertex, Graph, lookup, vertex_or_fresh}
use Rattle.px_pages.specs.Entry.{Entry}
use Rattle.px_pages.specs.Page.{IsMade, writer_of, tuples_of, link_of}
use Rattle.px_pages.specs.Place.{Turned, IsFront, is_below}
use Rattle.px_cache.specs.View.{CacheView, Holds, written_frame}
use Rattle.px_store.specs.declared.shared.Desk.{Desk}
use Rattle.px_btree.specs.Apart.{KeepsApart, closed}
use Rattle.px_btree.specs.Put.{placed}
use Rattle.px_btree.specs.Tree.{Piece, AreKeys, AreItems, items, TreeView, IsHeld}
use Rattle.px_btree.specs.Scan.{IsScan}
use Rattle.px_btree.specs.declared.tree.Mark.{Mark}
use Rattle.px_btree.specs.declared.apart.Apart.{Apart}
use Rattle.px_btree.specs.declared.open_leaf.OpenLeaf.{OpenLeaf}

-- this page keeps its tuples apart, and those in front are below every vid from this one on
pub record IsOpenFrom (from : ℕ) (a : Apart) (page : List ℕ) : Type 0 where
  pub len : ℕ
  pub page_kind : ℕ
  pub page_link : ℕ
  pub index : ℕ
  pub es : List Entry
  pub keeps : KeepsApart len page_kind page_link index es a page
  pub ahead : (v : ℕ) → from ≤ v → index ≤ prefix_len (is_below v) es

-- this page keeps the tuples apart that are not below this vid
pub record PartsAt (v : ℕ) (a : Apart) (page : List ℕ) : Type 0 where
  pub len : ℕ
  pub page_kind : ℕ
  pub page_link : ℕ
  pub es : List Entry
  pub keeps : KeepsApart len page_kind page_link (prefix_len (is_below v) es) es a page

-- closed, the page has a tuple that is not below this vid, or none comes after it
abbrev pub EndsHere : ℕ → List ℕ → Type 0
EndsHere v page = (prefix_len (is_below v) (tuples_of page) < length (tuples_of page)) ⊎ (link_of page ≡ 0)

-- a tuple was put into an open page, in which its key lies for certain
pub record PutsApart (e : Entry) (a a' : Apart) (old new : List ℕ) : Type 0 where
  pub next : IsOpenFrom (e.key + 1) a' new
  pub turned : Turned (placed e) (closed a old) (closed a' new)
  pub ends : EndsHere e.key (closed a old)

-- the vertex of a vid was given out of a page that closed is this one, and the vid lies there for certain
pub record GivesApart (v : ℕ) (there : Bool) (x : Vertex) (page : List ℕ) : Type 0 where
  pub ends : EndsHere v page
  pub found : (low : ℕ) (xs : List Piece) → AreKeys low (tuples_of page) xs → AreItems (length page) (tuples_of page)
      → (there ≡ is_some (lookup v (items (tuples_of page)))) × (x ≡ vertex_or_fresh (lookup v (items (tuples_of page))))

-- the closed page of an open leaf
abbrev pub closed_in : OpenLeaf → CacheView → List ℕ
closed_in o c = closed o.apart (slice_index_or c.frames o.frame [])

-- the cache, as if the frame of the open leaf held the closed page
abbrev pub shut : OpenLeaf → CacheView → CacheView
shut o c = written_frame c o.frame (closed_in o c)

abbrev pub shut_in : Option OpenLeaf → Desk → Desk
shut_in None d = d
shut_in (Some o) d = record d { cache = shut o d.cache }

-- the frame holds the leaf of the place at which it was opened
abbrev pub IsLeafIn : ℕ → OpenLeaf → CacheView → Type 0
IsLeafIn file o c = Holds c.notes o.frame file o.mark.page × (o.mark.key ≤ o.from) × IsOpenFrom o.from o.apart (slice_index_or c.frames o.frame [])

-- no other frame holds it
abbrev pub IsAlone : ℕ → OpenLeaf → CacheView → Type 0
IsAlone file o c = (i : ℕ) → Holds c.notes i file o.mark.page → i ≡ o.frame

-- a tuple was put into an open leaf, in which its key lies for certain
pub record PutsOpen (e : Entry) (file : ℕ) (o o' : OpenLeaf) (c c' : CacheView) : Type 0 where
  pub whole : length c.notes ≡ length c.frames
  pub page : List ℕ
  pub leaf : IsLeafIn file o' c'
  pub shut : shut o' c' ≡ written_frame c o.frame page
  pub turned : Turned (placed e) (closed_in o c) page
  pub ends : EndsHere e.key (closed_in o c)

-- the vertex of a vid was given out of an open leaf, in which the vid lies for certain
pub record GivesOpen (v : ℕ) (there : Bool) (x : Vertex) (o : OpenLeaf) (c : CacheView) : Type 0 where
  pub whole : length c.notes ≡ length c.frames
  pub given : GivesApart v there x (closed_in o c)

-- the page that a frame holds was opened at a place: where a writer made it, it is open there, and closed it is what it was
pub record OpensAt (file : ℕ) (m : Mark) (o : OpenLeaf) (c c' : CacheView) : Type 0 where
  pub whole : length c.notes ≡ length c.frames
  pub mark : o.mark ≡ m
  pub holds : Holds c.notes o.frame file m.page
  pub leaf : (len page_kind page_link : ℕ) (es : List Entry) → IsMade (writer_of len es) page_kind page_link es (slice_index_or c.frames o.frame []) → IsFront m.place.index m.place.at (slice_index_or c.frames o.frame []) → m.place.index ≡ prefix_len (is_below m.key) es
      → IsLeafIn file o c' × (shut o c' ≡ written_frame c o.frame (slice_index_or c.frames o.frame []))

-- an open leaf is one of the owner of the desk
abbrev pub OpenFits : Option OpenLeaf → TreeView → Desk → Type 0
OpenFits None t d = Unit {0}
OpenFits (Some o) t d = (d.owner ≡ Some t.part) × (t.mark ≡ Some o.mark) × IsLeafIn (8 * t.part) o d.cache

-- a tree and its open leaf
pub record OpenTreeView : Type 0 where
  pub tree : TreeView
  pub leaf : Option OpenLeaf

-- with its leaf closed, it holds these vertices
pub record IsStored (t : OpenTreeView) (d : Desk) (s : Shown) (l : Graph) : Type 0 where
  pub held : IsHeld t.tree (shut_in t.leaf d) s l
  pub fits : OpenFits t.leaf t.tree d

-- so it gave the first vertices, and will give the second
pub record IsStoredScan (t : OpenTreeView) (d : Desk) (s : Shown) (a b : Graph) : Type 0 where
  pub scan : IsScan t.tree (shut_in t.leaf d) s a b
  pub fits : OpenFits t.leaf t.tree d
