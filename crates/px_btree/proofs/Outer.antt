-- What follows of the answers of a closed tree.
use Rattle.std.proofs.Common.{◌≡◌, ℕ, Bool, true, false, [], ◌∷◌, ◌++◌, Result, Ok, Err, OnOk, IfOk, sym, subst, refl}
use Rattle.std.specs.Prelude.{None}
use Rattle.px_core.specs.Shown.{Shown}
use Rattle.px_meaning.specs.Graph.{Vertex, Graph}
use Rattle.px_store.specs.declared.shared.Desk.{Desk}
use Rattle.px_store.specs.Desks.{GivesNext, IsReady, IsDone}
use Rattle.px_store.proofs.Apart.{done_then}
use Rattle.px_btree.specs.Tree.{IsHeld}
use Rattle.px_btree.specs.Scan.{IsScan}
use Rattle.px_btree.specs.Open.{OpenTreeView, OpenFits, IsStored, IsStoredScan, shut_in}
use Rattle.px_btree.proofs.Items.{tree_kept}

ok_then : {X E : Type 0} {P Q : Type 0} (r : Result X E) → (P → Q) → OnOk r P → OnOk r Q
ok_then (Ok x) f h = f h
ok_then (Err e) f h = tt

pub if_ok_then : {X E : Type 0} {P Q : X → Type 0} (r : Result X E) → ((x : X) → P x → Q x) → IfOk r P → IfOk r Q
if_ok_then (Ok x) f h = f x h
if_ok_then (Err e) f h = tt

pub gives_then : (given : Bool) (v : ℕ) (x : Vertex) (a b : Graph) (now after : Graph → Graph → Type 0) → ((a b : Graph) → now a b → after a b) → GivesNext given v x a b now → GivesNext given v x a b after
gives_then false v x a b now after f h = (h.0, f a [] h.1)
gives_then true v x a b now after f h = (h.0, h.1, f (a ++ (v, x) ∷ []) h.0 h.2)

-- a call after one that made no call of the disk
pub done_after : {X E : Type 0} (r : Result X E) (q p : ℕ) (a b c : Desk) (s t : Shown) → p ≡ q → IsDone true q a s b s → OnOk r (IsDone true p b s c t) → OnOk r (IsDone true q a s c t)
done_after r q p a b c s t same first then = ok_then r (λ done. done_then true q a b c s s t first (subst (λ (n : ℕ). IsDone true n b s c t) same done)) then

-- a tree none of whose leaves is open
pub scan_none : (t : OpenTreeView) (d : Desk) (s : Shown) (a b : Graph) → t.leaf ≡ None → IsScan t.tree d s a b → IsStoredScan t d s a b
scan_none t d s a b none scan = record {
  scan = subst (λ x. IsScan t.tree (shut_in x d) s a b) (sym none) scan;
  fits = subst (λ x. OpenFits x t.tree d) (sym none) tt;
}

pub held_left : (t t' : OpenTreeView) (d : Desk) (s : Shown) (l : Graph) → t' ≡ record t { leaf = None } → IsHeld t.tree d s l → IsStored t' (record d { owner = None }) s l
held_left t t' d s l same held =
    let d' : Desk = record d { owner = None } in
    let now : IsStored (record t { leaf = None }) d' s l = record {
      held = record { levels = held.levels; tree = tree_kept t.tree d d' s s held.levels held.tree refl held.tree.shows; is = held.is };
      fits = tt;
    } in
    subst (λ (u : OpenTreeView). IsStored u d' s l) (sym same) now

pub scan_left : (t t' : OpenTreeView) (d : Desk) (s : Shown) (a b : Graph) → t' ≡ record t { leaf = None } → IsScan t.tree d s a b → IsStoredScan t' (record d { owner = None }) s a b
scan_left t t' d s a b same scan =
    let d' : Desk = record d { owner = None } in
    let now : IsStoredScan (record t { leaf = None }) d' s a b = record {
      scan = record {
        levels = scan.levels;
        tree = tree_kept t.tree d d' s s scan.levels scan.tree refl scan.tree.shows;
        front = scan.front;
        back = scan.back;
        split = scan.split;
        togo = scan.togo;
        whole = scan.whole;
        rest = scan.rest;
      };
      fits = tt;
    } in
    subst (λ (u : OpenTreeView). IsStoredScan u d' s a b) (sym same) now

-- a put: the open leaf, its closing, the closed tree, and a leaf that is opened
pub put_done : (q p1 p2 p3 : ℕ) (a b c d e : Desk) (s t : Shown) → p1 ≡ q → p2 ≡ q → p3 ≡ q → IsDone true q a s b s → (IsReady true p1 b s → IsDone true p1 b s c s) → IsDone true p2 c s d t
    → (IsReady true p3 d t → IsDone true p3 d t e t) → IsDone true q a s e t
put_done q p1 p2 p3 a b c d e s t is1 is2 is3 first second third fourth =
    let two = subst (λ (n : ℕ). IsDone true n b s c s) is1 (second (subst (λ (n : ℕ). IsReady true n b s) (sym is1) first.ready)) in
    let three = subst (λ (n : ℕ). IsDone true n c s d t) is2 third in
    let four = subst (λ (n : ℕ). IsDone true n d t e t) is3 (fourth (subst (λ (n : ℕ). IsReady true n d t) (sym is3) three.ready)) in
    done_then true q a b e s s t first (done_then true q b c e s s t two (done_then true q c d e s t t three four))

-- a get: the open leaf, its closing, and the closed tree
pub get_done : {X E : Type 0} (r : Result X E) (q p1 p2 : ℕ) (a b c d : Desk) (s t : Shown) → p1 ≡ q → p2 ≡ q → IsDone true q a s b s → (IsReady true p1 b s → IsDone true p1 b s c s) → OnOk r (IsDone true p2 c s d t)
    → OnOk r (IsDone true q a s d t)
get_done r q p1 p2 a b c d s t is1 is2 first second third =
    let two = subst (λ (n : ℕ). IsDone true n b s c s) is1 (second (subst (λ (n : ℕ). IsReady true n b s) (sym is1) first.ready)) in
    done_after r q p2 a c d s t is2 (done_then true q a b c s s s first two) third
