-- The tools of a settling give back what they were made of, and their files are different ones.
use Rattle.std.proofs.Common.{◌≡◌, ◌≤◌, ◌<◌, ℕ, ◌+◌, true, List, [], sym, ◌∙◌, ap, arith, subst, inl, inr}
use Rattle.px_frames.specs.Banks.{BankView}
use Rattle.px_frames.specs.Shares.{ShareView}
use Rattle.px_program.specs.Groups.{GroupMade, IsOwn, made_of}
use Rattle.px_core.specs.Shown.{Shown, Only, Touches}
use Rattle.px_core.proofs.Keeping.{same_by_other}
use Rattle.px_meaning.specs.Graph.{Graph, room_of}
use Rattle.px_meaning.specs.Merge.{Pairs}
use Rattle.px_meaning.specs.Program.{ProgramMeaning}
use Rattle.px_pages.specs.Entry.{Entry}
use Rattle.px_stream.specs.Stream.{Holds, ToGive, Took}
use Rattle.px_stream.specs.Views.{ReaderView, WriterView}
use Rattle.px_stream.proofs.Kept.{to_give_same}
use Rattle.px_mutations.specs.Applying.{AreApart, OrRead, IsSettled, IsReadyToSettle, Begun}
use Rattle.px_mutations.specs.declared.applying.Tally.{Tally}
use Rattle.px_superstep.specs.Steps.{CanSettle}
use Rattle.px_superstep.specs.Files.{IsVidFile, IsResultFile, IsStepFile, update_file}
use Rattle.px_superstep.specs.Lending.{IsLent}
use Rattle.px_superstep.specs.SettleTooling.{AreSettleTools, SameSettleTools}
use Rattle.px_superstep.specs.declared.benches.Lent.{Lent}
use Rattle.px_superstep.specs.declared.applying.SettleTools.{SettleTools}

module _ {G : Type 0} (made : G → GroupMade) (q to : ℕ) (b : BankView) (lent : Lent) (t t' : SettleTools G)
    (of : IsLent b lent) (are : AreSettleTools made q to lent t) (same : SameSettleTools made t t') where
  made_is : made t'.group ≡ made_of lent.group lent.table 2 3
  made_is = same.group ∙ are.group

  work_len : lent.work.frame_len ≡ t'.work.frame_len
  work_len = sym (ap (λ (s : ShareView). s.frame_len) same.work ∙ are.work.frame_len)

-- the files of a settling
module _ (made : GroupMade) (q u r v to : ℕ) (few : q < 16) (first : made.first ≡ 2) (second : made.second ≡ 3) (updates : u ≡ update_file q) (requests : r ≡ 160 + q) (vids : v ≡ to) (is_vid : IsVidFile to) where
  own_low : (f : ℕ) → IsOwn made f → f < 16
  own_low f (inl is) = omega (arith, first, is)
  own_low f (inr is) = omega (arith, second, is)

  pub settle_apart : AreApart made u r v
  settle_apart = record {
    group_updates = λ own. absurd (let low = own_low u own in omega (arith, low, updates));
    group_requests = λ own. absurd (let low = own_low r own in omega (arith, low, requests));
    group_live = λ own. absurd (let low = own_low v own in let high = is_vid.low in omega (arith, low, vids, high));
    updates_requests = λ e. absurd (omega (arith, e, updates, requests, few));
    updates_live = λ e. absurd (let high = is_vid.high in omega (arith, e, updates, vids, high));
    requests_live = λ e. absurd (let high = is_vid.high in omega (arith, e, requests, vids, high));
  }

  pub settle_result : (f : ℕ) → IsSettled made v f → IsResultFile to f
  settle_result f (inl own) = inl (record { low = own_low f own })
  settle_result f (inr is) = inr (is ∙ vids)

  pub settle_step : (f : ℕ) → OrRead u r (IsSettled made v) f → IsStepFile f
  settle_step f (inl (inl own)) = record { high = (let low = own_low f own in omega (arith, low)) }
  settle_step f (inl (inr is)) = record { high = (let high = is_vid.high in omega (arith, is, vids, high)) }
  settle_step f (inr (inl is)) = record { high = omega (arith, is, updates, few) }
  settle_step f (inr (inr is)) = record { high = omega (arith, is, requests, few) }

-- what a settling changes is of the superstep
pub result_step : (to : ℕ) → IsVidFile to → (f : ℕ) → IsResultFile to f → IsStepFile f
result_step to is_vid f (inl spare) = record { high = (let low = spare.low in omega (arith, low)) }
result_step to is_vid f (inr is) = record { high = (let high = is_vid.high in omega (arith, is, high)) }

-- a file that is not the one of vids can be read once that was started
reads_begun : (to f n : ℕ) (s0 s1 : Shown) (r r' : ReaderView) (w : WriterView) (l : List Entry) → r.file ≡ f → (f ≡ to → ⊥) → r'.file ≡ r.file → w.file ≡ to
    → ((s : Shown) (x : List Entry) → Holds s r.file n x → ToGive s r' x) → Touches (Only w.file) s0 s1 → Holds s0 f n l → ToGive s1 r' l
reads_begun to f n s0 s1 r r' w l is other stays vids gives touched h =
    to_give_same s0 s1 r' l (same_by_other r'.file w.file s0 s1 (λ e. other (sym is ∙ sym stays ∙ e ∙ vids)) touched)
    (gives s0 l (subst (λ (x : ℕ). Holds s0 x n l) (sym is) h))

-- a settling begins: the readers were started, and then the writer of vids
pub settle_begun : (p : ProgramMeaning) (tally : Tally) (holding : Graph → Type 0) (taking : Pairs → Type 0) (q to n k : ℕ) (s0 s1 : Shown) (u u' r r' : ReaderView) (w w' : WriterView) (l changes : Graph) (asked : Pairs)
    → q < 16 → IsVidFile to → u.file ≡ update_file q → r.file ≡ 160 + q → w.file ≡ to → u'.file ≡ u.file → r'.file ≡ r.file
    → ((s : Shown) (x : List Entry) → Holds s u.file n x → ToGive s u' x)
    → ((s : Shown) (x : List Entry) → Holds s r.file k x → ToGive s r' x)
    → Touches (Only w.file) s0 s1
    → (s0.tells ≡ true → Took s1 w' [])
    → (s1.tells ≡ true → s1.page_len ≡ s0.page_len → taking [])
    → IsReadyToSettle p (room_of s0.page_len) tally l changes asked
    → CanSettle holding s0 q n k l changes asked
    → Begun p (room_of s1.page_len) tally holding (ToGive s1 u') (ToGive s1 r') (Took s1 w') taking l changes asked
settle_begun p tally holding taking q to n k s0 s1 u u' r r' w w' l changes asked few is_vid updates requests vids same_u same_r give_u give_r touched took taken ready can = record {
  is_ready = subst (λ (m : ℕ). IsReadyToSettle p (room_of m) tally l changes asked) (sym touched.page_len) ready;
  held = can.held;
  updates = reads_begun to (update_file q) n s0 s1 u u' w _ updates (λ e. absurd (let high = is_vid.high in omega (arith, e, high))) same_u vids give_u touched can.updates;
  requests_are = reads_begun to (160 + q) k s0 s1 r r' w _ requests (λ e. absurd (let high = is_vid.high in omega (arith, e, high))) same_r vids give_r touched can.requested;
  vids_are = took can.updates.tells.on;
  group = taken (touched.tells ∙ can.updates.tells.on) touched.page_len;
}
