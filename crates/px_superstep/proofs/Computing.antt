-- The files of one partition's compute phase, and the rows that it begins with.
use Rattle.std.proofs.Common.{◌≡◌, ◌≢◌, ◌<◌, ◌≤◌, ◌⊎◌, ℕ, ◌+◌, Bool, true, false, List, [], ◌∷◌, ◌++◌, map, filter, Some, ◌∙◌, subst, arith, inl, inr}
use Rattle.std.specs.Prelude.{◌==◌, if◌then◌else◌}
use Rattle.std.proofs.lemmas.Bool.{and_parts}
use Rattle.px_core.specs.Same.{Same, Apart}
use Rattle.px_core.specs.Shown.{Shown, Only, NoFile, Clean, Worked, Touches}
use Rattle.px_core.proofs.Keeping.{same_by_touches, same_by_none, same_fewer}
use Rattle.px_core.proofs.Steps.{clean_of, clean_more, clean_then}
use Rattle.px_meaning.specs.Graph.{Graph, lookup, ascending, vids}
use Rattle.px_meaning.specs.Merge.{MergeRule, Pairs, AllValid, IsValidMessage}
use Rattle.px_meaning.specs.Program.{Row}
use Rattle.px_meaning.specs.Step.{is_active}
use Rattle.px_program.specs.Groups.{GroupMade, IsOwn}
use Rattle.px_connectors.specs.Asking.{IsRequestFile, RequestsView, Asked}
use Rattle.px_connectors.specs.Frames.{asked_same}
use Rattle.px_connectors.specs.Views.{IsSenderFile}
use Rattle.px_stream.specs.Stream.{Took}
use Rattle.px_stream.specs.Views.{WriterView}
use Rattle.px_stream.proofs.Kept.{took_same, has_same}
use Rattle.px_pages.specs.Entry.{Entry}
use Rattle.px_store.specs.Joins.{IsInput, AreInputs, rows_in, message_tuples, vid_tuples}
use Rattle.px_store.specs.declared.join.Inputs.{Inputs}
use Rattle.px_compute_op.specs.Phase.{IsPhaseFile, OrInput, HaveValidMessages}
use Rattle.px_superstep.specs.Files.{IsSpareFile, IsComputeFile, AreInputFiles, update_file}

input_low : (ins : Inputs) → AreInputFiles ins → (f : ℕ) → IsInput ins f → f < 128
input_low ins are f (inl is) = let high = are.msg.high in omega (arith, high, is)
input_low ins are f (inr is) = let high = are.vid.high in omega (arith, high, is)

pub input_update : (q u : ℕ) → u ≡ update_file q → (ins : Inputs) → AreInputFiles ins → Apart (IsInput ins) (Only u)
input_update q u update ins are f i is = absurd (let high = input_low ins are f i in omega (arith, high, update, is))

module _ (made : GroupMade) (q u : ℕ) (first : made.first ≡ 2) (second : made.second ≡ 3) (update : u ≡ update_file q) where
  own_spare : (f : ℕ) → IsOwn made f → IsSpareFile f
  own_spare f (inl is) = record { low = omega (arith, first, is) }
  own_spare f (inr is) = record { low = omega (arith, second, is) }

  -- what a phase changes
  pub phase_file : (sender : ℕ) → sender ≡ q → (f : ℕ) → IsPhaseFile made u sender f → IsComputeFile q f
  phase_file sender is f (inl (inl (inl own))) = inl (own_spare f own)
  phase_file sender is f (inl (inl (inr r))) = inr (inl r)
  phase_file sender is f (inl (inr at)) = inr (inr (inl (at ∙ update)))
  phase_file sender is f (inr s) = inr (inr (inr (subst (λ (p : ℕ). IsSenderFile p f) is s)))

pub input_sender : (ins : Inputs) → AreInputFiles ins → (q : ℕ) → Apart (IsInput ins) (IsSenderFile q)
input_sender ins are q f (inl is) s = absurd (let high = are.msg.high in let low = s.low in omega (arith, high, low, is))
input_sender ins are q f (inr is) s = absurd (let high = are.vid.high in let low = s.low in omega (arith, high, low, is))

-- each message that is looked up is valid where all are
lookup_valid : (rule : MergeRule) (m : Pairs) (v : ℕ) → AllValid rule m → IsValidMessage rule (lookup v m)
lookup_valid rule [] v h = tt
lookup_valid rule (e ∷ es) v h =
    let parts = and_parts (rule.valid e.1) _ h in
    (elim (v == e.0) as (λ b. IsValidMessage rule (if b then Some e.1 else lookup v es)) [
      | true ↦ parts.0
      | false ↦ lookup_valid rule es v parts.1
    ])

valid_active : (rule : MergeRule) (l : Graph) (m : Pairs) → AllValid rule m → (vs : List ℕ)
    → HaveValidMessages rule (filter is_active (map (λ v. record { vid = v; vertex = lookup v l; message = lookup v m }) vs))
valid_active rule l m h [] = tt
valid_active rule l m h (v ∷ vs) =
    let r : Row = record { vid = v; vertex = lookup v l; message = lookup v m } in
    let rest : List Row = filter is_active (map (λ v. record { vid = v; vertex = lookup v l; message = lookup v m }) vs) in
    (elim (is_active r) as (λ b. HaveValidMessages rule (if b then r ∷ rest else rest)) [
      | true ↦ (lookup_valid rule m v h, valid_active rule l m h vs)
      | false ↦ valid_active rule l m h vs
    ])

-- so are the messages of the rows
pub valid_rows : (rule : MergeRule) (l : Graph) (m : Pairs) → AllValid rule m → HaveValidMessages rule (rows_in l m)
valid_rows rule l m h = valid_active rule l m h (ascending (vids l ++ vids m))

-- the inputs of a join are as before where its files are
pub inputs_same : (probing : Bool) (a b : Shown) (ins : Inputs) (l : Graph) (m : Pairs) → Same (IsInput ins) a b → AreInputs probing a ins l m → AreInputs probing b ins l m
inputs_same probing a b ins l m same h = record {
  messages = has_same a b ins.msg_file 0 ins.msg_pages (message_tuples m) (same_fewer (Only ins.msg_file) (IsInput ins) a b (λ f is. inl is) same) h.messages;
  ascend = h.ascend;
  awake = λ on. has_same a b ins.vid_file 0 ins.vid_pages (vid_tuples l) (same_fewer (Only ins.vid_file) (IsInput ins) a b (λ f is. inr is) same) (h.awake on);
}

-- the file of updates is none of requests, nor of a sender
module _ (q u : ℕ) (few : q < 16) (update : u ≡ update_file q) where
  pub request_update : Apart IsRequestFile (Only u)
  request_update f r is = absurd (let low = r.low in omega (arith, low, is, update, few))

  pub sender_update : (p : ℕ) → Apart (IsSenderFile p) (Only u)
  sender_update p f s is = absurd (let low = s.low in omega (arith, low, is, update, few))

  pub update_sender : (p : ℕ) → Apart (Only u) (IsSenderFile p)
  update_sender p f is s = sender_update p f s is

pub request_sender : (p : ℕ) → Apart IsRequestFile (IsSenderFile p)
request_sender p f r s = absurd (let high = r.high in let low = s.low in omega (arith, high, low))

-- a phase is begun, and what it began with follows: the updates were started, then the sender, then the join
pub clean_begun : (q u : ℕ) (ins : Inputs) (s0 s1 s2 s3 : Shown) → u ≡ update_file q → Worked (Only u) 0 0 s0 s1 → Clean (IsSenderFile q) s1 s2 → Clean NoFile s2 s3 → Clean (OrInput ins (IsComputeFile q)) s0 s3
clean_begun q u ins s0 s1 s2 s3 update one two three =
    let mine : ℕ → Type 0 = OrInput ins (IsComputeFile q) in
    clean_then mine s0 s1 s3 (clean_more (Only u) mine s0 s1 (λ f is. inl (inr (inr (inl (is ∙ update))))) (clean_of (Only u) 0 0 s0 s1 one))
    (clean_then mine s1 s2 s3 (clean_more (IsSenderFile q) mine s1 s2 (λ f s. inl (inr (inr (inr s)))) two)
    (clean_more NoFile mine s2 s3 (λ f no. absurd no) three))

-- what is known of the files before is known then
module _ (q u : ℕ) (few : q < 16) (update : u ≡ update_file q) (s0 s1 s2 s3 : Shown) (one : Touches (Only u) s0 s1) (two : Touches (IsSenderFile q) s1 s2) (three : Touches NoFile s2 s3) where
  pub inputs_begun : (probing : Bool) (ins : Inputs) (l : Graph) (m : Pairs) → AreInputFiles ins → AreInputs probing s0 ins l m → AreInputs probing s2 ins l m
  inputs_begun probing ins l m are h =
      inputs_same probing s1 s2 ins l m (same_by_touches (IsInput ins) (IsSenderFile q) s1 s2 (input_sender ins are q) two)
      (inputs_same probing s0 s1 ins l m (same_by_touches (IsInput ins) (Only u) s0 s1 (input_update q u update ins are) one) h)

  pub asked_begun : (r : RequestsView) (before : Pairs) → Asked s0 r before → Asked s3 r before
  asked_begun r before h =
      asked_same s2 s3 r before (same_by_none IsRequestFile s2 s3 three)
      (asked_same s1 s2 r before (same_by_touches IsRequestFile (IsSenderFile q) s1 s2 (request_sender q) two)
      (asked_same s0 s1 r before (same_by_touches IsRequestFile (Only u) s0 s1 (request_update q u few update) one) h))

  pub took_begun : (w : WriterView) (l : List Entry) → w.file ≡ u → Took s1 w l → Took s3 w l
  took_begun w l is h =
      took_same s2 s3 w l (same_by_none (Only w.file) s2 s3 three)
      (took_same s1 s2 w l (same_by_touches (Only w.file) (IsSenderFile q) s1 s2 (update_sender q w.file few (is ∙ update) q) two) h)

  pub tells_begun : s0.tells ≡ true → s3.tells ≡ true
  tells_begun on = three.tells ∙ two.tells ∙ one.tells ∙ on

  pub len_begun : s3.page_len ≡ s0.page_len
  len_begun = three.page_len ∙ two.page_len ∙ one.page_len
