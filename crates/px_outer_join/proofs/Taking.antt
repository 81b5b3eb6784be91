-- The calls of a row, one after the other.
use Rattle.std.proofs.Common.{◌≡◌, ℕ, Bool, true, false, List, [], ◌∷◌, ◌++◌, drop, filter, sym, ◌∙◌, ap, refl, subst, inl, inr}
use Rattle.std.proofs.lemmas.Bool.{true≢false, false≢true}
use Rattle.std.proofs.lemmas.List.{append_assoc}
use Rattle.std.specs.Prelude.{Option, Some, None, IfSome, IfNone, ⊤, IsSomeAnd, if◌then◌else◌}
use Rattle.px_core.specs.Shown.{Shown, NoFile, Only, Clean, Broke}
use Rattle.px_core.specs.declared.stop.Stop.{Stop}
use Rattle.px_core.specs.declared.stop.Stop.TheVariants.{Scratch}
use Rattle.px_core.proofs.Steps.{clean_more, broke_more, broke_after}
use Rattle.px_cache.specs.View.{AnyFile}
use Rattle.px_meaning.specs.Graph.{Graph, Vertex, IsMap, fresh, vertex_or_fresh}
use Rattle.px_meaning.specs.Merge.{Pairs}
use Rattle.px_meaning.specs.Program.{Row as MeantRow}
use Rattle.px_meaning.specs.Step.{is_active}
use Rattle.px_meaning.proofs.Attaching.{attached_is_joined}
use Rattle.px_pages.specs.Entry.{Entry}
use Rattle.px_record.specs.Held.{HeldVertex}
use Rattle.px_stream.specs.Stream.{ToGive, Leads, tuple}
use Rattle.px_stream.specs.declared.reader.Head.{Head}
use Rattle.px_store.specs.Desks.{GivesNext}
use Rattle.px_store.specs.Joins.{message_tuples, rows_in, IsInput, OneBroke, LeadsRow}
use Rattle.px_store.specs.declared.join.Inputs.{Inputs}
use Rattle.px_store.specs.declared.join.Row.{Row}
use Rattle.px_outer_join.specs.Due.{first_vid, first_payload, key_in}
use Rattle.px_outer_join.specs.Outer.{OuterView, rows_of, is_due, GivesRows, Beside, AtHand, AreDue, IsFirst, LeadsMessage}
use Rattle.px_outer_join.proofs.Dueing.{passed}

abbrev key_or : List Entry → ℕ
key_or [] = 0
key_or (e ∷ l) = e.key

abbrev body_or : List Entry → List ℕ
body_or [] = []
body_or (e ∷ l) = e.body

-- the head of the next tuple is that of the next message
pub vid_is : (o : Option Head) (body : List ℕ) (G : List Entry → Type 0) (m : Pairs) → IfNone o ((l : List Entry) → G l → l ≡ []) → IfSome o (λ h. (l : List Entry) → G l → Leads (tuple h body) l (λ _. ⊤))
    → G (message_tuples m) → first_vid m ≡ key_in o
vid_is None body G [] none some g = refl
vid_is None body G (e ∷ m) none some g = absurd (cc (none _ g))
vid_is (Some h) body G [] none some g = (let lead = some _ g in absurd (cc lead.is))
vid_is (Some h) body G (e ∷ m) none some g = (let lead = some _ g in ap (λ (k : ℕ). Some k) (ap key_or lead.is))

-- the next tuple is the next message
pub leads_message : (o : Option Head) (payload : List ℕ) (Q : Head → Type 0) (G After : List Entry → Type 0) (m : Pairs) → IsSomeAnd o Q → IfSome o (λ h. (l : List Entry) → G l → Leads (tuple h payload) l After)
    → G (message_tuples m) → LeadsMessage payload m (λ rest. After (message_tuples rest))
leads_message None payload Q G After m is some g = absurd is
leads_message (Some h) payload Q G After [] is some g = (let lead = some _ g in absurd (cc lead.is))
leads_message (Some h) payload Q G After (e ∷ m) is some g =
    let lead = some _ g in
    record { vid = e.0; rest = m; is = ap (λ (b : List ℕ). (e.0, b) ∷ m) (ap body_or lead.is); after = subst After (sym (ap (drop 1) lead.is)) lead.after }

-- at the start no vertex is held
pub start_rows : (held : Bool) (v : HeldVertex) (l : Graph) (m : Pairs) → held ≡ false → IsMap l → IsMap m → rows_in l m ≡ rows_of held v l m
start_rows true v l m off a b = absurd (true≢false off)
start_rows false v l m off a b = ap (filter is_active) (sym (attached_is_joined l m a b))

-- the store gave one vertex more, or none
pub beside_next : (old new : Graph → Graph → Type 0) (was held : Bool) (v w : HeldVertex) (l : Graph) (m : Pairs) (rows : List MeantRow) → held ≡ true → is_due was v (first_vid m) ≡ false
    → ((a b : Graph) → old a b → GivesNext held w.vid w.vertex a b new) → Beside old was v l m rows → Beside new held w l m rows
beside_next old new was false v w l m rows is off next b = absurd (false≢true is)
beside_next old new was true v w l m rows is off next b =
    let g = next b.given b.coming b.scanned in
    record {
      given = b.given ++ (w.vid, w.vertex) ∷ [];
      coming = g.0;
      whole = b.whole ∙ ap (λ (c : Graph). b.given ++ c) g.1 ∙ sym (append_assoc b.given ((w.vid, w.vertex) ∷ []) g.0);
      scanned = g.2;
      is = b.is ∙ passed was v w b.coming m off ∙ ap (λ (c : Graph). rows_of false w c m) g.1;
    }

pub at_end : (old new : Graph → Graph → Type 0) (was held : Bool) (v w : HeldVertex) (l : Graph) (m : Pairs) (rows : List MeantRow) → held ≡ false → is_due was v (first_vid m) ≡ false
    → ((a b : Graph) → old a b → GivesNext held w.vid w.vertex a b new) → Beside old was v l m rows → AtHand new held w l m rows
at_end old new was true v w l m rows is off next b = absurd (true≢false is)
at_end old new was false v w l m rows is off next b =
    let g = next b.given b.coming b.scanned in
    record {
      given = b.given;
      coming = [];
      whole = b.whole ∙ ap (λ (c : Graph). b.given ++ c) g.0;
      scanned = g.1;
      is = b.is ∙ passed was v w b.coming m off ∙ ap (λ (c : Graph). rows_of false w c m) g.0;
      last = λ _. refl;
      due = λ on. absurd (false≢true on);
    }

-- a vertex that has a row is held
pub at_hand : (scans : Graph → Graph → Type 0) (held : Bool) (v : HeldVertex) (l : Graph) (m : Pairs) (rows : List MeantRow) → is_due held v (first_vid m) ≡ true → Beside scans held v l m rows → AtHand scans held v l m rows
at_hand scans true v l m rows on b = record { given = b.given; coming = b.coming; whole = b.whole; scanned = b.scanned; is = b.is; last = λ off. absurd (true≢false off); due = λ _. on }
at_hand scans false v l m rows on b = absurd (false≢true on)

-- what is taken of a row

rows_kept : (hv h h' : Bool) (v v' : HeldVertex) (coming : Graph) (m : Pairs) → h' ≡ (if hv then false else h) → (hv ≡ false → v' ≡ v) → rows_of (if hv then false else h) v coming m ≡ rows_of h' v' coming m
rows_kept true h h' v v' coming m is same = ap (λ (b : Bool). rows_of b v' coming m) (sym is)
rows_kept false h h' v v' coming m is same = ap (λ (b : Bool). rows_of b v coming m) (sym is) ∙ ap (λ (x : HeldVertex). rows_of h' x coming m) (sym (same refl))

vertex_taken : (hv : Bool) (v w : HeldVertex) (o : Option Vertex) → (hv ≡ true → w ≡ v) → o ≡ (if hv then Some v.vertex else None) → o ≡ (if hv then Some w.vertex else None)
vertex_taken true v w o is so = so ∙ ap (λ (x : HeldVertex). Some x.vertex) (sym (is refl))
vertex_taken false v w o is so = so

vertex_held : (hv : Bool) (v w : HeldVertex) (o : Option Vertex) → (hv ≡ true → w ≡ v) → (hv ≡ false → w.vertex ≡ fresh) → o ≡ (if hv then Some v.vertex else None) → w.vertex ≡ vertex_or_fresh o
vertex_held true v w o is none so = ap (λ (x : HeldVertex). x.vertex) (is refl) ∙ ap vertex_or_fresh (sym so)
vertex_held false v w o is none so = none refl ∙ ap vertex_or_fresh (sym so)

message_taken : (hm : Bool) (a b : List ℕ) (o : Option (List ℕ)) → (hm ≡ true → a ≡ b) → o ≡ (if hm then Some a else None) → o ≡ (if hm then Some b else None)
message_taken true a b o is so = so ∙ ap (λ (x : List ℕ). Some x) (is refl)
message_taken false a b o is so = so

-- a row was taken
pub taken : (r : Row) (old new : OuterView) (t : Shown) (w : HeldVertex) (payload : List ℕ) (given coming : Graph) (m : Pairs) (rows : List MeantRow)
    → (r.has_vertex ≡ true → w ≡ old.ahead) → (r.has_vertex ≡ false → w.vertex ≡ fresh) → new.held ≡ (if r.has_vertex then false else old.held) → (r.has_vertex ≡ false → new.ahead ≡ old.ahead)
    → new.messages.file ≡ new.inputs.msg_file → (r.has_message ≡ true → first_payload m ≡ payload) → ToGive t new.messages (message_tuples (if r.has_message then drop 1 m else m))
    → IsFirst r old.held old.ahead coming m rows → LeadsRow r w payload rows (GivesRows new t given coming)
taken r old new t w payload given coming m rows is_ahead is_fresh held ahead file message to_give f = record {
  first = f.first;
  rest = f.rest;
  is = f.is;
  row = record {
    vid = f.vid;
    vertex = vertex_taken r.has_vertex old.ahead w f.first.vertex is_ahead f.vertex;
    held = vertex_held r.has_vertex old.ahead w f.first.vertex is_ahead is_fresh f.vertex;
    message = message_taken r.has_message (first_payload m) payload f.first.message message f.message;
  };
  after = record {
    file = file;
    messages = if r.has_message then drop 1 m else m;
    to_give = to_give;
    is = f.after ∙ rows_kept r.has_vertex old.held new.held old.ahead new.ahead coming (if r.has_message then drop 1 m else m) held ahead;
  };
}

-- the rest of the rows may be stated anew
pub leads_map : (r : Row) (w : HeldVertex) (payload : List ℕ) (rows : List MeantRow) (A B : List MeantRow → Type 0) → ((rest : List MeantRow) → A rest → B rest) → LeadsRow r w payload rows A → LeadsRow r w payload rows B
leads_map r w payload rows A B on h = record { first = h.first; rest = h.rest; is = h.is; row = h.row; after = on h.rest h.after }

-- the row that is due is the first of these
pub first_of : (r : Row) (due : Option Row) (held : Bool) (v : HeldVertex) (coming : Graph) (m : Pairs) (rows : List MeantRow) → due ≡ Some r → rows ≡ rows_of held v coming m → AreDue due held v coming m (rows_of held v coming m) → IsFirst r held v coming m rows
first_of r due held v coming m rows is all are = subst (λ (x : List MeantRow). IsFirst r held v coming m x) (sym all) (subst (λ (o : Option Row). AreDue o held v coming m (rows_of held v coming m)) is are)

pub none_of : (due : Option Row) (held : Bool) (v : HeldVertex) (coming : Graph) (m : Pairs) → due ≡ None → AreDue due held v coming m (rows_of held v coming m) → rows_of held v coming m ≡ []
none_of due held v coming m is are = (subst (λ (o : Option Row). AreDue o held v coming m (rows_of held v coming m)) is are).1

-- the message of a row that has one
pub message_next : (hm : Bool) (payload : List ℕ) (m : Pairs) (G : Pairs → Type 0) → hm ≡ true → LeadsMessage payload m G → (first_payload m ≡ payload) × G (if hm then drop 1 m else m)
message_next true payload m G on lead = (ap first_payload lead.is, subst G (sym (ap (drop 1) lead.is)) lead.after)
message_next false payload m G on lead = absurd (false≢true on)

pub message_none : (hm : Bool) (m : Pairs) (G : Pairs → Type 0) → hm ≡ false → G m → G (if hm then drop 1 m else m)
message_none true m G off h = absurd (true≢false off)
message_none false m G off h = h

-- the scratch disk failed at the file of messages
pub scratch_broke : (ins : Inputs) (f : ℕ) (g h s t u : Shown) (e : Stop) → f ≡ ins.msg_file → Clean AnyFile g h → Clean NoFile s t → Broke Scratch (Only f) t u e → OneBroke (IsInput ins) g h s u e
scratch_broke ins f g h s t u e file clean none b = inr (
  broke_after Scratch (IsInput ins) s t u e (clean_more NoFile (IsInput ins) s t (λ x no. absurd no) none) (broke_more Scratch (Only f) (IsInput ins) t u e (λ x is. inl (is ∙ file)) b),
  clean,
)
