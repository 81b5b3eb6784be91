-- Stores are scanned into files, and keep what they hold.
use Rattle.std.proofs.Common.{◌≡◌, ℕ, zero, suc, ◌+◌, ◌<◌, ◌≤◌, List, [], ◌∷◌, ◌++◌, length, map, set, take, Some, true, false, sym, ◌∙◌, ap, refl, subst, arith, inl, inr, append_assoc}
use Rattle.std.specs.Prelude.{slice_get, slice_index_or}
use Rattle.std.proofs.lemmas.Bool.{cases_eq}
use Rattle.std.proofs.lemmas.List.{append-nil}
use Rattle.px_cache.proofs.Lists.{slice_get-set_same, slice_get-set_other, some_is}
use Rattle.px_core.specs.Parts.{to_part}
use Rattle.px_core.specs.Shown.{Shown, Only, Touches}
use Rattle.px_core.proofs.Keeping.{same_by_other}
use Rattle.px_meaning.specs.Graph.{Graph, Vertex}
use Rattle.px_pages.specs.Entry.{Entry, entry}
use Rattle.px_record.specs.Body.{vertex_of}
use Rattle.px_record.specs.Held.{IsBody}
use Rattle.px_store.specs.Desks.{GivesNext, OthersKept}
use Rattle.px_store.specs.declared.shared.Desk.{Desk}
use Rattle.px_store.proofs.Hold.{within}
use Rattle.px_stream.specs.Stream.{Holds}
use Rattle.px_stream.proofs.Kept.{has_same}
use Rattle.px_load.specs.Dumping.{KeepAll, FarKept, IsDumpFile, total}
use Rattle.px_load.specs.Held.{tuples}
use Rattle.px_load.specs.Loading.{HoldGraph}
use Rattle.px_load.specs.Scanning.{Spelled, Scans, HoldFiles, HoldsVertices}
use Rattle.px_load.proofs.ReadingSteps.{tuples_more, vertices_more, bodies_more}

pub spelled_more : (room : ℕ) (P Q : List Entry → Type 0) (l : Graph) → ((es : List Entry) → P es → Q es) → Spelled room P l → Spelled room Q l
spelled_more room P Q l f s = record { pairs = s.pairs; bodies = s.bodies; is = s.is; of = f (tuples s.pairs) s.of }

spelled_next : (room vid : ℕ) (body : List ℕ) (x : Vertex) (Had Has : List Entry → Type 0) (l : Graph) → IsBody room body → vertex_of body ≡ x → ((es : List Entry) → Had es → Has (es ++ entry vid 1 body ∷ []))
    → Spelled room Had l → Spelled room Has (l ++ (vid, x) ∷ [])
spelled_next room vid body x Had Has l own spells put s = record {
  pairs = s.pairs ++ (vid, body) ∷ [];
  bodies = bodies_more room s.pairs (vid, body) s.bodies own;
  is = vertices_more s.pairs (vid, body) ∙ ap (λ (g : Graph). g ++ (vid, vertex_of body) ∷ []) s.is ∙ ap (λ (y : Vertex). l ++ (vid, y) ∷ []) spells;
  of = subst Has (tuples_more s.pairs (vid, body)) (put (tuples s.pairs) s.of);
}

-- none was given yet
pub scans_first : (Gives : Graph → Graph → Type 0) (Puts : List Entry → Type 0) (room : ℕ) (l : Graph) → Gives [] l → Puts [] → Scans Gives Puts room l
scans_first Gives Puts room l gives puts = record {
  done = [];
  rest = l;
  is = refl;
  gives = gives;
  puts = record { pairs = []; bodies = tt; is = refl; of = puts };
}

-- one more was given, and put
pub scans_next : (Gave Gives : Graph → Graph → Type 0) (Had Puts : List Entry → Type 0) (room vid : ℕ) (body : List ℕ) (x : Vertex) (l : Graph) → ((a b : Graph) → Gave a b → GivesNext true vid x a b Gives)
    → IsBody room body → vertex_of body ≡ x → ((es : List Entry) → Had es → Puts (es ++ entry vid 1 body ∷ [])) → Scans Gave Had room l → Scans Gives Puts room l
scans_next Gave Gives Had Puts room vid body x l give own spells put s =
    let n = give s.done s.rest s.gives in
    record {
      done = s.done ++ (vid, x) ∷ [];
      rest = n.0;
      is = s.is ∙ ap (λ (g : Graph). s.done ++ g) n.1 ∙ sym (append_assoc s.done ((vid, x) ∷ []) n.0);
      gives = n.2;
      puts = spelled_next room vid body x Had Puts s.done own spells put s.puts;
    }

-- all were
all_done : (Gave Gives : Graph → Graph → Type 0) (Had : List Entry → Type 0) (room vid : ℕ) (x : Vertex) (l : Graph) → ((a b : Graph) → Gave a b → GivesNext false vid x a b Gives) → (s : Scans Gave Had room l) → s.done ≡ l
all_done Gave Gives Had room vid x l give s = sym (s.is ∙ ap (λ (g : Graph). s.done ++ g) (give s.done s.rest s.gives).0 ∙ append-nil s.done)

pub scans_over : (Gave Gives : Graph → Graph → Type 0) (Had : List Entry → Type 0) (room vid : ℕ) (x : Vertex) (l : Graph) → ((a b : Graph) → Gave a b → GivesNext false vid x a b Gives) → Scans Gave Had room l → Gives l []
scans_over Gave Gives Had room vid x l give s = subst (λ (g : Graph). Gives g []) (all_done Gave Gives Had room vid x l give s) (give s.done s.rest s.gives).1

pub scans_put : (Gave Gives : Graph → Graph → Type 0) (Had : List Entry → Type 0) (room vid : ℕ) (x : Vertex) (l : Graph) → ((a b : Graph) → Gave a b → GivesNext false vid x a b Gives) → Scans Gave Had room l → Spelled room Had l
scans_put Gave Gives Had room vid x l give s = subst (Spelled room Had) (all_done Gave Gives Had room vid x l give s) s.puts

module _ {X : Type 0} where
  -- one store changed, and holds what it held. So do the others
  pub keep_one : (old new : X → Graph → Type 0) (xs : List X) (q : ℕ) (x y : X) → q < length xs → slice_get xs q ≡ Some x → ((l : Graph) → old x l → new y l)
      → ((i : ℕ) (z : X) (l : Graph) → (i ≡ q → ⊥) → slice_get xs i ≡ Some z → old z l → new z l) → KeepAll old new xs (set xs q y)
  keep_one old new xs q x y lt here own others i z l at held = elim (cases_eq i q) [
    | inl e ↦
        let same : x ≡ z = some_is (sym here ∙ ap (slice_get xs) (sym e) ∙ at) in
        (y, ap (slice_get (set xs q y)) e ∙ slice_get-set_same xs q y lt, own l (subst (λ (w : X). old w l) (sym same) held))
    | inr other ↦ (z, slice_get-set_other xs q i y other ∙ at, others i z l other at held)
  ]

  pub keep_refl : (old : X → Graph → Type 0) (xs : List X) → KeepAll old old xs xs
  keep_refl old xs q st l at held = (st, at, held)

  pub keep_then : (a b c : X → Graph → Type 0) (xs ys zs : List X) → KeepAll a b xs ys → KeepAll b c ys zs → KeepAll a c xs zs
  keep_then a b c xs ys zs f g q st l at held =
      let m = f q st l at held in
      g q m.0 l m.1 m.2

  pub below : (xs : List X) (i : ℕ) (x : X) → slice_get xs i ≡ Some x → i < length xs
  below [] i x at = absurd (cc at)
  below (y ∷ xs) zero x at = omega arith
  below (y ∷ xs) (suc i) x at = omega (arith, below xs i x at)

  -- so the stores hold the same graph
  pub hold_kept : (old new : X → Graph → Type 0) (xs ys : List X) (g : Graph) → length ys ≡ length xs → KeepAll old new xs ys → HoldGraph old xs g → HoldGraph new ys g
  hold_kept old new xs ys g count keep hold q st at =
      let x = within xs q (omega (arith, below ys q st at, count)) in
      let now = keep q x.0 (to_part (length xs) q g) x.1 (hold q x.0 x.1) in
      let same : now.0 ≡ st = some_is (sym now.1 ∙ at) in
      subst (λ (n : ℕ). new st (to_part n q g)) (sym count) (subst (λ (w : X). new w (to_part (length xs) q g)) same now.2)

  -- numbers of a list of which one changes and has the same
  pub map_set : (f : X → ℕ) (xs : List X) (q : ℕ) (x y : X) → slice_get xs q ≡ Some x → f y ≡ f x → map f (set xs q y) ≡ map f xs
  map_set f [] q x y at is = absurd (cc at)
  map_set f (z ∷ xs) zero x y at is = let same : z ≡ x = cc in ap (λ (n : ℕ). n ∷ map f xs) (is ∙ ap f (sym same))
  map_set f (z ∷ xs) (suc q) x y at is = ap (λ (l : List ℕ). f z ∷ l) (map_set f xs q x y at is)

  pub map_at : (f : X → ℕ) (xs : List X) (q : ℕ) (x : X) → slice_get xs q ≡ Some x → slice_index_or (map f xs) q 0 ≡ f x
  map_at f [] q x at = absurd (cc at)
  map_at f (z ∷ xs) zero x at = let same : z ≡ x = cc in ap f same
  map_at f (z ∷ xs) (suc q) x at = map_at f xs q x at

  pub map_length : (f : X → ℕ) (xs : List X) → length (map f xs) ≡ length xs
  map_length f [] = refl
  map_length f (x ∷ xs) = ap suc (map_length f xs)

next : (q : ℕ) → suc q + 1 ≡ suc (q + 1)
next q = omega arith

-- one more number
pub total_next : (ns : List ℕ) (q : ℕ) → q < length ns → total (take (q + 1) ns) ≡ total (take q ns) + slice_index_or ns q 0
total_next [] q low = absurd (omega (arith, low))
total_next (n ∷ ns) zero low = omega arith
total_next (n ∷ ns) (suc q) low =
    let one : total (take (suc q + 1) (n ∷ ns)) ≡ n + total (take (q + 1) ns) = ap (λ (k : ℕ). total (take k (n ∷ ns))) (next q) in
    omega (arith, one, total_next ns q (omega (arith, low)))

-- some of the numbers are no more than all
pub total_all : (ns : List ℕ) (q : ℕ) → total (take q ns) ≤ total ns
total_all [] zero = omega arith
total_all [] (suc q) = omega arith
total_all (n ∷ ns) zero = omega arith
total_all (n ∷ ns) (suc q) = omega (arith, total_all ns q)

-- a store's call keeps the files of no store
pub far_kept : (q stores : ℕ) (d d' : Desk) (s s' : Shown) → q < stores → OthersKept q d s d' s' → FarKept stores d s d' s'
far_kept q stores d d' s s' low others f ps far shows = others f ps (λ own. omega (arith, low, far, own.high)) shows

-- one more file holds its part
pub files_next : (s t : Shown) (room parts q count : ℕ) (pages pages' : List ℕ) (g : Graph) → Touches (Only (192 + q)) s t → slice_index_or pages' q 0 ≡ count
    → ((i : ℕ) → (i ≡ q → ⊥) → slice_index_or pages' i 0 ≡ slice_index_or pages i 0) → HoldsVertices t room (192 + q) count (to_part parts q g) → HoldFiles s room parts q pages g → HoldFiles t room parts (q + 1) pages' g
files_next s t room parts q count pages pages' g touches here others new h = record {
  each = λ i low. elim (cases_eq i q) [
    | inl e ↦ subst (λ (j : ℕ). HoldsVertices t room (192 + j) (slice_index_or pages' j 0) (to_part parts j g)) (sym e) (subst (λ (n : ℕ). HoldsVertices t room (192 + q) n (to_part parts q g)) (sym here) new)
    | inr other ↦
        subst (λ (n : ℕ). HoldsVertices t room (192 + i) n (to_part parts i g)) (sym (others i other))
        (spelled_more room (Holds s (192 + i) (slice_index_or pages i 0)) (Holds t (192 + i) (slice_index_or pages i 0)) (to_part parts i g)
        (λ es. has_same s t (192 + i) 0 (slice_index_or pages i 0) es (same_by_other (192 + i) (192 + q) s t (λ e. other (omega (arith, e))) touches))
        (h.each i (omega (arith, low, other))))
  ];
}

-- a partition's file is one of a dump's
pub own_file : (q : ℕ) → q < 16 → (f : ℕ) → Only (192 + q) f → IsDumpFile f
own_file q low f is = record { low = omega (arith, is); high = omega (arith, is, low) }
